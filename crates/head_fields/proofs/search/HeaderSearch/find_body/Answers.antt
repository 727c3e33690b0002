use Rattle.std.proofs.Common.{◌∙◌, ◌≡◌, ◌≢◌, ◌<◌, ℕ, length, get_or, sym, subst}
use Rattle.std.proofs.lemmas.List.{take_rest}
use Rattle.head_fields.proofs.Searches.{found-body, found-line, found-open}
use Rattle.head_fields.proofs.search.HeaderSearch.find_body.Goals as goal

pub returns-then-is_empty_line : goal.returns-then-is_empty_line
returns-then-is_empty_line c =
    let at = c.in-Some.at in
    let rest = take_rest c.args.front.now c.loop-at.seen in
    found-body c.args.front.now c.loop-at.line c.loop-at.seen c.loop-at.invariant at
    (subst (λ t. at < length t) rest c.in-Some.ensures.within) (subst (λ t. get_or t at 0 ≡ 10) rest c.in-Some.ensures.feed)
    (subst (λ t. (k : ℕ) → k < at → get_or t k 0 ≢ 10) rest c.in-Some.ensures.before)
    (sym c.is_empty_line.ensures ∙ c.if-is_empty_line.true)

pub loop-at-preserved : goal.loop-at-preserved
loop-at-preserved c =
    let at = c.in-Some.at in
    let rest = take_rest c.args.front.now c.loop-at.seen in
    found-line c.args.front.now c.loop-at.line c.loop-at.seen c.loop-at.invariant at
    (subst (λ t. at < length t) rest c.in-Some.ensures.within) (subst (λ t. get_or t at 0 ≡ 10) rest c.in-Some.ensures.feed)
    (subst (λ t. (k : ℕ) → k < at → get_or t k 0 ≢ 10) rest c.in-Some.ensures.before)
    (sym c.is_empty_line.ensures ∙ c.if-is_empty_line.false)

pub returns : goal.returns
returns c =
    let rest = take_rest c.args.front.now c.loop-at.seen in
    found-open c.args.front.now c.loop-at.line c.loop-at.seen c.loop-at.invariant (subst (λ t. (k : ℕ) → k < length t → get_or t k 0 ≢ 10) rest c.in_default.ensures.none)
