use Rattle.std.proofs.Common.{◌≡◌, ◌∙◌, ℕ, ◌<◌, not, get_or, true, List, Option, Some, None, length, arith, ap, sym, nat_lt}
use Rattle.std.specs.List.{prefix_len}
use Rattle.std.proofs.lemmas.Bool.{cond-true, cond-false, lt-ltb, le-ltb, false_from_ne_true}
use Rattle.std.proofs.lemmas.List.Sums.{prefix_len_is}
use Rattle.memchr.specs.Find.{IsFirstByte, is_byte}
use Rattle.addr_list.specs.Tokens.{is_literal_byte}
use Rattle.addr_list.specs.Scanning.{literal_len}
use Rattle.addr_list.proofs.span.literal_length.Goals as goal

first-bracket : (text : List ℕ) (o : Option ℕ) → IsFirstByte (is_byte 93) text o → o ≡ literal_len text
unfolding literal_len
first-bracket text None first =
    let none : (k : ℕ) → k < length text → is_literal_byte (get_or text k 0) ≡ true = λ k inside. ap not (false_from_ne_true _ (first k (omega arith) inside)) in
    let all = prefix_len_is is_literal_byte text (length text) 0 (omega arith) none (λ inside. absurd (omega arith)) in
    sym (cond-false (nat_lt (prefix_len is_literal_byte text) (length text)) _ None (le-ltb _ _ (omega (arith, all))))
first-bracket text (Some at) first =
    let before = first.0.before in
    let high = first.0.high in
    let place = prefix_len_is is_literal_byte text at 0 (omega arith) (λ k below. ap not (false_from_ne_true _ (before k (omega arith) below))) (λ _. ap not first.1) in
    sym (cond-true (nat_lt (prefix_len is_literal_byte text) (length text)) _ None (lt-ltb _ _ (omega (arith, place))) ∙ ap Some place)

pub returns-clause-value : goal.returns-clause-value
returns-clause-value c = first-bracket c.args.text.now c.memchr.result c.memchr.ensures
