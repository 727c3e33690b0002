use Rattle.std.proofs.Common.{◌∙◌, ◌++◌, ◌∷◌, [], ℕ, List, sym, subst, ap}
use Rattle.mime_parts.specs.Values.{AreLanguages}
use Rattle.mime_parts.proofs.Readings.{Continues, languages-next, languages-end, languages-broken, languages-untold}
use Rattle.mime_parts.proofs.value.languages.Goals as goal

pub loop-word-preserved : goal.loop-word-preserved
loop-word-preserved c =
    let text = c.args.value.now in
    let left = c.loop-word.left.now in
    let word = c.in-Some.word in
    let done = c.loop-word.tokens.items in
    let pushed = c.in_ok-push.ensures.items ∙ ap (λ t. done ++ t ∷ []) c.in_ok-of.ensures in
    subst (λ ts. Continues text ts c.in-Some-behind.later.now) (sym {A = List (List ℕ)} pushed)
    (languages-next text left done c.loop-word.invariant word.token.now word.rest.now c.in-Some.ensures c.in-Some-behind.later.now c.in-Some-behind.ensures)

pub returns-in-None-clause-some : goal.returns-in-None-clause-some
returns-in-None-clause-some c =
    let text = c.args.value.now in
    let left = c.loop-word.left.now in
    let word = c.in-Some.word in
    let done = c.loop-word.tokens.items in
    let pushed = c.in_ok-push.ensures.items ∙ ap (λ t. done ++ t ∷ []) c.in_ok-of.ensures in
    subst (λ ts. AreLanguages text ts) (sym {A = List (List ℕ)} (c.of-in-None.ensures ∙ pushed))
    (languages-end text left done c.loop-word.invariant word.token.now word.rest.now c.in-Some.ensures (c.is_skipped.ensures.yes c.if-is_skipped.true))

pub returns-in-None-2-clause-none : goal.returns-in-None-2-clause-none
returns-in-None-2-clause-none c =
    let word = c.in-Some.word in
    languages-broken c.args.value.now c.loop-word.left.now c.loop-word.tokens.items c.loop-word.invariant word.token.now word.rest.now c.in-Some.ensures c.in-None-2.ensures
    (c.is_skipped.ensures.no c.if-is_skipped.false)

pub returns-clause-none : goal.returns-clause-none
returns-clause-none c = languages-untold c.args.value.now c.loop-word.left.now c.loop-word.tokens.items c.loop-word.invariant c.in_default.ensures
