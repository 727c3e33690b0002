use Rattle.std.proofs.Common.{◌≡◌, ◌∙◌, ◌+◌, ◌-◌, ◌<◌, ◌∷◌, ◌++◌, [], ℕ, List, true, length, take, drop, get_or, ap, sym, subst, arith}
use Rattle.std.specs.List.{concat}
use Rattle.std.proofs.Math.Seq.{take-add}
use Rattle.std.proofs.lemmas.Bool.{cond-true}
use Rattle.std.proofs.lemmas.List.{append-nil, append_assoc, length-drop, length-take-le, take_rest}
use Rattle.std.proofs.lemmas.List.Sums.{take_while-cons}
use Rattle.text_lines.specs.Lines.{header_of}
use Rattle.text_lines.proofs.Lines.{IsFirstLine}
use Rattle.text_lines.specs.Blanks.{is_blank, is_continuation}
use Rattle.head_fields.specs.Fields.{continuations, fields_from}
use Rattle.head_fields.proofs.FieldLines.{continuation-begins_none, fields-of_other}
use Rattle.head_fields.proofs.HeaderLines.{next-continuation, no-continuation, continuations-nothing}
use Rattle.head_fields.proofs.header.continuations_length.Goals as goal

-- the lines in front as far as a place
taken-to : (text : List ℕ) (at : ℕ) (all : List ℕ) → continuations (header_of (drop at text)) ≡ [] → take at text ++ concat (continuations (header_of (drop at text))) ≡ all → take at text ≡ all
taken-to text at all none lines = sym (append-nil (take at text)) ∙ ap (λ more. take at text ++ concat more) (sym none) ∙ lines

module _ (text : List ℕ) (at width : ℕ) (inside : at < length text) (blank : is_blank (get_or text at 0) ≡ true) (first : IsFirstLine (drop at text) width) where
  step-lines : take (at + width) text ++ concat (continuations (header_of (drop (at + width) text))) ≡ take at text ++ concat (continuations (header_of (drop at text)))
  step-lines =
      let next = next-continuation text at width inside blank first in
      let line = take width (drop at text) in
      let later = header_of (drop (at + width) text) in
      let more = ap continuations next.1 ∙ take_while-cons is_continuation line later ∙ cond-true (is_continuation line) (line ∷ continuations later) [] next.0 in
      ap (λ front. front ++ concat (continuations later)) (take-add at width text)
      ∙ append_assoc (take at text) line (concat (continuations later))
      ∙ ap (λ lines. take at text ++ concat lines) (sym more)

  step-later : (from : ℕ) → fields_from (from + at) (header_of (drop at text)) ≡ fields_from (from + (at + width)) (header_of (drop (at + width) text))
  step-later from =
      let next = next-continuation text at width inside blank first in
      let line = take width (drop at text) in
      let later = header_of (drop (at + width) text) in
      let taken : length line ≡ width = length-take-le width (drop at text) first.within in
      ap (fields_from (from + at)) next.1
      ∙ fields-of_other (from + at) line later (continuation-begins_none line next.0)
      ∙ ap (λ offset. fields_from offset later) (omega arith)

pub loop-at-preserved : goal.loop-at-preserved
loop-at-preserved c =
    let text = c.args.text.now in
    let at = c.loop-at.at in
    let width = c.line_length-at.result in
    let inside : at < length text = omega arith in
    let found : IsFirstLine (take (length text - at) (drop at text)) width =
    record { within = c.line_length-at.ensures.within; some = c.line_length-at.ensures.some; lines = c.line_length-at.ensures.lines } in
    let first = subst (λ (t : List ℕ). IsFirstLine t width) (take_rest text at) found in
    let left = length-drop at text in
    let within = first.within in
    let blank : is_blank (get_or text at 0) ≡ true = sym c.is_blank.ensures ∙ c.if-is_blank.true in
    record {
      within = omega arith;
      lines = step-lines text at width inside blank first ∙ c.loop-at.invariant.lines;
      later = λ from. c.loop-at.invariant.later from ∙ step-later text at width inside blank first from;
    }

pub returns-else-is_blank-clause-lines : goal.returns-else-is_blank-clause-lines
returns-else-is_blank-clause-lines c =
    let text = c.args.text.now in
    let at = c.loop-at.at in
    let other = sym c.is_blank.ensures ∙ c.if-is_blank.false in
    taken-to text at _ (no-continuation text at (omega arith) other) c.loop-at.invariant.lines

pub returns-after-loop-at-clause-lines : goal.returns-after-loop-at-clause-lines
returns-after-loop-at-clause-lines c =
    let text = c.args.text.now in
    let at = c.loop-at.at in
    let left = length-drop at text in
    taken-to text at _ (continuations-nothing (drop at text) (omega arith)) c.loop-at.invariant.lines
