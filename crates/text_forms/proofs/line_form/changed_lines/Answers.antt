use Rattle.std.proofs.Common.{◌≡◌, ◌≤◌, ◌+◌, ◌-◌, ◌∷◌, ◌++◌, [], ℕ, List, length, take, drop, slice_range, ap, sym, subst, ◌∙◌, arith}
use Rattle.std.proofs.lemmas.Bool.{false≢true}
use Rattle.std.proofs.lemmas.List.{take_rest, length-drop}
use Rattle.text_lines.specs.Lines.{lines_of}
use Rattle.text_forms.proofs.Changing.{formed, line-stays, line-changes, none-behind}
use Rattle.text_forms.proofs.line_form.changed_lines.Goals as goal
use Rattle.text_forms.proofs.line_form.changed_lines.Goals.{in-Some+in_ok-put_before_mark, in_default}

pub loop-at-preserved : goal.loop-at-preserved
loop-at-preserved g c =
    let form = g.F.LineForm.form in
    let text = c.args.text.now in
    let at = c.loop-at.at in
    let line = c.first_line-line.result.now in
    let rest = take_rest text at in
    let known = c.loop-at.invariant in
    let front = subst (λ (t : List ℕ). take (length line) t ≡ line) rest c.first_line-line.ensures.front in
    let lines = subst (λ (t : List ℕ). lines_of t ≡ line ∷ lines_of (drop (length line) t)) rest c.first_line-line.ensures.lines in
    let within = subst (λ (t : List ℕ). length line ≤ length t) rest c.first_line-line.ensures.within in
    let size = length-drop at text in
    elim c.match-change.branch [
      | in-Some+in_ok-put_before_mark w ↦
          let from = w.in-Some.from in
          let to = w.in-Some.to in
          let few = w.in-Some.ensures.from in
          let most = w.in-Some.ensures.to in
          let step = line-changes form text line c.loop-at.copied at known.low known.within front lines from to few most g.F.LineForm.mark c.loop-at.out.items w.in-Some.ensures.changed in
          rw (w.out-is, w.is_changed-is, w.copied-is) (record {
            low = omega (arith, most);
            within = omega (arith, within, size, known.within);
            whole = ap (λ items. items ++ (slice_range text (at + to) (at + length line) ++ formed form (drop (at + length line) text))) w.in_ok-put_before_mark.ensures
                ∙ step ∙ known.whole;
            none = λ is. absurd (false≢true (sym is));
          })
      | in_default w ↦
          let step = line-stays form text line c.loop-at.copied at known.low known.within front lines w.in_default.ensures.stays in
          rw (w.out-is, w.is_changed-is, w.copied-is) (record {
            low = omega (arith, known.low);
            within = omega (arith, within, size, known.within);
            whole = ap (λ tail. c.loop-at.out.items ++ tail) step ∙ known.whole;
            none = known.none;
          })
    ]

-- at the end all that isn't copied is kept
module _ (form : List ℕ → List ℕ) (text out : List ℕ) (copied at : ℕ) (past : length text ≤ at)
    (whole : out ++ (slice_range text copied at ++ formed form (drop at text)) ≡ formed form text) where
  all-there : out ++ drop copied text ≡ formed form text
  all-there = ap (λ tail. out ++ tail) (sym (none-behind form text copied at past)) ∙ whole

  all-copied : (made : List ℕ) → made ≡ out ++ take (length text - copied) (drop copied text) → made ≡ formed form text
  all-copied made is = is ∙ ap (λ tail. out ++ tail) (take_rest text copied) ∙ all-there

  unchanged : (out ≡ []) × (copied ≡ 0) → formed form text ≡ text
  unchanged none = sym all-there ∙ ap (λ o. o ++ drop copied text) none.0 ∙ ap (λ n. drop n text) none.1

pub returns-then-not-is_changed-clause-same : goal.returns-then-not-is_changed-clause-same
returns-then-not-is_changed-clause-same g c =
    unchanged g.F.LineForm.form c.args.text.now c.loop-at.out.items c.loop-at.copied c.loop-at.at (omega (arith, c.loop-at-test.false)) c.loop-at.invariant.whole
    (c.loop-at.invariant.none c.if-not-is_changed.true)

pub returns-clause-changed : goal.returns-clause-changed
returns-clause-changed g c =
    all-copied g.F.LineForm.form c.args.text.now c.loop-at.out.items c.loop-at.copied c.loop-at.at (omega (arith, c.loop-at-test.false)) c.loop-at.invariant.whole
    c.extend_from_slice.new.self.items c.in_ok-extend_from_slice.ensures.items
