use Rattle.std.proofs.Common.{◌≡◌, ◌+◌, ◌-◌, ⊎_elim, ℕ, List, length, take, drop, ap, ◌∙◌, sym, subst, arith}
use Rattle.std.proofs.lemmas.Bool.{cases_lt}
use Rattle.std.proofs.lemmas.List.{length-drop, length-take-le, drop-drop, take_rest}
use Rattle.head_fields.specs.Header.{body_start_of, BeginsHeader}
use Rattle.head_fields.proofs.HeaderLines.{body-behind_line, body-behind_none, body-of_nothing}
use Rattle.head_fields.proofs.header.body_start.Goals as goal

pub loop-line-preserved : goal.loop-line-preserved
loop-line-preserved c =
    let text = c.args.text.now in
    let at = c.loop-line.at in
    let line = c.in-Some.line.now in
    let begins : BeginsHeader (drop at text) line = subst (λ (t : List ℕ). BeginsHeader t line) (take_rest text at) c.in-Some.ensures.some in
    let left = length-drop at text in
    let behind = ap body_start_of (drop-drop (length line) at text) in
    let body = body-behind_line (drop at text) line begins in
    record { within = omega (arith, begins.within); body = omega (arith, c.loop-line.invariant.body) }

pub returns-clause-value : goal.returns-clause-value
returns-clause-value c =
    let at = c.loop-line.at in
    let text = c.args.text.now in
    let rest = take (length text - at) (drop at text) in
    let width = c.line_length.result in
    let within = c.line_length.ensures.within in
    let ends : width ≡ body_start_of rest =
    ⊎_elim
    (λ some. sym (length-take-le width rest within) ∙ body-behind_none rest (take width rest) (drop width rest) (c.line_length.ensures.lines some) c.in_default.ensures.none)
    (λ none. let zero : width ≡ 0 = omega arith in zero ∙ body-of_nothing rest (omega arith))
    (cases_lt 0 (length rest)) in
    ap (λ n. at + n) (ends ∙ ap body_start_of (take_rest text at)) ∙ c.loop-line.invariant.body
