use Rattle.std.proofs.Common.{◌≡◌, ◌≢◌, ◌-◌, ◌<◌, ◌≤◌, suc, ℕ, ◌∷◌, [], ◌++◌, Some, None, sym, ◌∙◌, ap, length, take, drop, get_or, List, arith}
use Rattle.std.proofs.lemmas.Bool.Decides.{Decides-eqb}
use Rattle.std.proofs.lemmas.Slice.Eq.{strip_suffix_is}
use Rattle.std.proofs.lemmas.List.{take-append-le, get_or_append_left}
use Rattle.std.proofs.Common.{true}
use Rattle.text_lines.specs.Lines.{is_line_end, line_text}
use Rattle.text_lines.proofs.LineEnds.{text-whole, text-to}
use Rattle.text_lines.proofs.line.line_text.Goals as goal
use Rattle.text_lines.proofs.line.line_text.Goals.{then-loop-end-test+else-before-end-eq13, else-loop-end-test}

-- the text up to a place that no CR stands before, in the line without its LF
text-before : (line before : List ℕ) (end : ℕ) → line ≡ before ++ 10 ∷ [] → end ≤ length before → is_line_end (drop end line) ≡ true → (0 < end → get_or before (end - 1) 0 ≢ 13) → take end before ≡ line_text line
text-before line before end whole within behind other =
    let at : (k : ℕ) → end ≡ suc k → get_or line k 0 ≢ 13 = λ k same is.
    let place : end - 1 ≡ k = omega arith in
    let inside : k < length before = omega arith in
    other (omega arith) (ap (λ i. get_or before i 0) place ∙ sym (get_or_append_left before (10 ∷ []) 0 k inside) ∙ ap (λ l. get_or l k 0) (sym whole) ∙ is) in
    sym (take-append-le end before (10 ∷ []) within) ∙ ap (take end) (sym whole) ∙ sym (text-to line end behind at)

pub returns-in_default : goal.returns-in_default
returns-in_default c =
    let line = c.args.line.now in
    sym (text-whole line (strip_suffix_is Decides-eqb line (10 ∷ []) None c.in_default.ensures.cases))

pub returns : goal.returns
returns c =
    let line = c.args.line.now in
    let before = c.in-Some.before in
    let whole = strip_suffix_is Decides-eqb line (10 ∷ []) (Some before) c.in-Some.ensures.cases in
    text-before line before.now c.loop-end.end whole c.loop-end.invariant.within c.loop-end.invariant.behind
    (elim c.loop-end-test.branch [
      | then-loop-end-test+else-before-end-eq13 w ↦ λ some. w.if-before-end-eq13.false
      | else-loop-end-test w ↦ λ some. absurd (omega arith)
    ])
