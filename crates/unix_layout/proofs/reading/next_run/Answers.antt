use Rattle.std.proofs.Common.{◌≡◌, ◌<◌, ◌≤◌, ◌+◌, ◌-◌, ℕ, Bool, true, false, cond, List, ◌∷◌, length, take, take_all, drop, sym, ap, ◌∙◌, arith}
use Rattle.std.proofs.lemmas.List.{length-drop}
use Rattle.text_lines.specs.Lines.{lines_of, is_empty_line}
use Rattle.mail_fields.specs.DelimiterLine.{is_delimiter_line}
use Rattle.unix_layout.proofs.Runs.{IsEnded, one_passed, ended_none, ended_line, run_text, run_rest}
use Rattle.unix_layout.proofs.reading.next_run.Goals as goal

-- what stands from a place on
all_of : (k : ℕ) (all : List ℕ) → take (length all - k) (drop k all) ≡ drop k all
all_of k all = let left = length-drop k all in take_all (length all - k) (drop k all) (omega (arith, left))

some : (k : ℕ) (all : List ℕ) → k < length all → 0 < length (take (length all - k) (drop k all))
some k all inside = let left = length-drop k all in let same = ap length (all_of k all) in omega (arith, left, inside, same)

end : (k : ℕ) (all : List ℕ) → length all ≤ k → IsEnded (drop k all)
end k all past = let left = length-drop k all in ended_none (drop k all) (omega (arith, left, past))

-- the facts of the first line of what stands there, and of it as a delimiter line
lines_at : (k width : ℕ) (all : List ℕ) → lines_of (take (length all - k) (drop k all)) ≡ take width (take (length all - k) (drop k all)) ∷ lines_of (drop width (take (length all - k) (drop k all)))
    → lines_of (drop k all) ≡ take width (drop k all) ∷ lines_of (drop width (drop k all))
lines_at k width all is = let same = all_of k all in sym (ap lines_of same) ∙ is ∙ (λ i. take width (same i) ∷ lines_of (drop width (same i)))

line_at : (k width : ℕ) (all : List ℕ) (test : Bool) → test ≡ is_delimiter_line (take width (take (length all - k) (drop k all))) → is_delimiter_line (take width (drop k all)) ≡ test
line_at k width all test is = sym (is ∙ ap (λ r. is_delimiter_line (take width r)) (all_of k all))

pub loop-whole-preserved : goal.loop-whole-preserved
loop-whole-preserved c =
    let text = c.args.text.now in
    let whole = c.loop-whole.whole in
    let width = c.line_length-width.result in
    let inside : whole < length text = omega (arith, c.loop-whole-test.true) in
    let same = all_of whole text in
    one_passed text whole c.loop-whole.kept width c.kept_to-kept.result c.loop-whole.invariant (omega (arith, c.line_length-width.ensures.within, ap length same))
    (lines_at whole width text (c.line_length-width.ensures.lines (some whole text inside))) inside (line_at whole width text false c.if-is_delimiter_line.ensures)
    (c.kept_to-kept.ensures ∙ ap (λ r. cond (is_empty_line (take width r)) whole (whole + width)) same)

pub returns-after-loop-whole-clause-text : goal.returns-after-loop-whole-clause-text
returns-after-loop-whole-clause-text c =
    run_text c.args.text.now c.loop-whole.whole c.loop-whole.kept c.loop-whole.invariant (end c.loop-whole.whole c.args.text.now (omega (arith, c.loop-whole-test.false)))

pub returns-after-loop-whole-clause-loose : goal.returns-after-loop-whole-clause-loose
returns-after-loop-whole-clause-loose c = (end c.loop-whole.whole c.args.text.now (omega (arith, c.loop-whole-test.false))).loose

pub returns-after-loop-whole-clause-rest : goal.returns-after-loop-whole-clause-rest
returns-after-loop-whole-clause-rest c =
    run_rest c.args.text.now c.loop-whole.whole c.loop-whole.kept c.loop-whole.invariant (end c.loop-whole.whole c.args.text.now (omega (arith, c.loop-whole-test.false)))

pub returns-then-is_delimiter_line-clause-text : goal.returns-then-is_delimiter_line-clause-text
returns-then-is_delimiter_line-clause-text c =
    let text = c.args.text.now in
    let whole = c.loop-whole.whole in
    let rest = drop whole text in
    let width = c.line_length-width.result in
    run_text text whole c.loop-whole.kept c.loop-whole.invariant
    (ended_line rest (take width rest) (lines_of (drop width rest)) (lines_at whole width text (c.line_length-width.ensures.lines (some whole text (omega (arith, c.loop-whole-test.true))))) (line_at whole width text true c.if-is_delimiter_line.ensures))

pub returns-then-is_delimiter_line-clause-rest : goal.returns-then-is_delimiter_line-clause-rest
returns-then-is_delimiter_line-clause-rest c =
    let text = c.args.text.now in
    let whole = c.loop-whole.whole in
    let rest = drop whole text in
    let width = c.line_length-width.result in
    run_rest text whole c.loop-whole.kept c.loop-whole.invariant
    (ended_line rest (take width rest) (lines_of (drop width rest)) (lines_at whole width text (c.line_length-width.ensures.lines (some whole text (omega (arith, c.loop-whole-test.true))))) (line_at whole width text true c.if-is_delimiter_line.ensures))
