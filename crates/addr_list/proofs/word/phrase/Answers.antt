use Rattle.std.proofs.Common.{◌∙◌, ◌+◌, map, drop, get_or, ap, sym}
use Rattle.std.proofs.lemmas.List.{drop_more}
use Rattle.addr_list.specs.Scanning.{token_of}
use Rattle.addr_list.specs.Addresses.{behind, more_words, word_of}
use Rattle.addr_list.proofs.Words.{next-word}
use Rattle.addr_list.proofs.word.phrase.Goals as goal

pub loop-token-preserved : goal.loop-token-preserved
loop-token-preserved c =
    let more = c.in-Some.more.now in
    let at = c.loop-token.token-index in
    let old = c.loop-token.phrase.items in
    let new = c.push_word-in-loop-token.new.out.items in
    let word = word_of (token_of (get_or more at _)) in
    let pushed = c.in_ok-push_word-2.ensures.yes c.if-not-branch-2.false ∙ ap (λ t. behind t word) c.in_ok-push.ensures.items in
    sym (next-word old new word (more_words (map token_of (drop (at + 1) more))) pushed)
    ∙ ap (λ t. behind old (more_words (map token_of t))) (sym (drop_more more at _ c.loop-token-test.true))
    ∙ c.loop-token.invariant
