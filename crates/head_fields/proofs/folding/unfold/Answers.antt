use Rattle.std.proofs.Common.{◌≡◌, ◌∙◌, ◌+◌, ◌-◌, ◌<◌, ◌++◌, [], ℕ, List, length, take, drop, ap, sym, subst, arith}
use Rattle.std.specs.List.{flat_map}
use Rattle.std.proofs.lemmas.List.{append-nil, append_assoc, length-drop, take_rest, drop-drop}
use Rattle.text_lines.specs.Lines.{lines_of, line_text}
use Rattle.text_lines.proofs.Lines.{IsFirstLine, no_lines}
use Rattle.head_fields.specs.Blanks.{trim_start, trim_end}
use Rattle.head_fields.proofs.Blanks.{trim_start-append, trim_start-twice, length-trim_end}
use Rattle.head_fields.proofs.folding.unfold.Goals as goal

-- the texts of the lines of some bytes in a row
abbrev texts_of : List ℕ → List ℕ
texts_of bytes = flat_map line_text (lines_of bytes)

-- a line more
step-texts : (bytes unfolded : List ℕ) (at width : ℕ) → 0 < length (drop at bytes) → IsFirstLine (drop at bytes) width
    → trim_start (trim_start (unfolded ++ line_text (take width (drop at bytes))) ++ texts_of (drop (at + width) bytes)) ≡ trim_start (unfolded ++ texts_of (drop at bytes))
step-texts bytes unfolded at width some first =
    let text = line_text (take width (drop at bytes)) in
    let later = texts_of (drop (at + width) bytes) in
    let lines : texts_of (drop at bytes) ≡ text ++ later =
    ap (flat_map line_text) (first.lines some) ∙ ap (λ rest. text ++ texts_of rest) (drop-drop width at bytes) in
    trim_start-append (unfolded ++ text) later
    ∙ ap trim_start (append_assoc unfolded text later ∙ ap (λ more. unfolded ++ more) (sym lines))

behind : (at width : ℕ) → at + width - at ≡ width
behind at width = omega arith

pub loop-at-preserved : goal.loop-at-preserved
loop-at-preserved c =
    let bytes = c.args.bytes.now in
    let old = c.loop-at.unfolded.items in
    let at = c.loop-at.at in
    let width = c.line_length.result in
    let found : IsFirstLine (take (length bytes - at) (drop at bytes)) width =
    record { within = c.line_length.ensures.within; some = c.line_length.ensures.some; lines = c.line_length.ensures.lines } in
    let first = subst (λ (t : List ℕ). IsFirstLine t width) (take_rest bytes at) found in
    let left = length-drop at bytes in
    let within = first.within in
    let inside : at < length bytes = omega arith in
    let items : c.push_text.new.unfolded.items ≡ trim_start (old ++ line_text (take width (drop at bytes))) =
    c.in_ok-push_text.ensures
    ∙ ap (λ text. trim_start (old ++ text)) (c.line_text.ensures ∙ ap (λ n. line_text (take n (drop at bytes))) (behind at width)) in
    record {
      within = omega arith;
      trimmed = ap trim_start items ∙ trim_start-twice (old ++ line_text (take width (drop at bytes))) ∙ sym items;
      texts = ap (λ front. trim_start (front ++ texts_of (drop (at + width) bytes))) items ∙ step-texts bytes old at width (omega arith) first ∙ c.loop-at.invariant.texts;
    }

pub returns : goal.returns
returns c =
    let bytes = c.args.bytes.now in
    let items = c.loop-at.unfolded.items in
    let left = length-drop c.loop-at.at bytes in
    let none : texts_of (drop c.loop-at.at bytes) ≡ [] = ap (flat_map line_text) (no_lines (drop c.loop-at.at bytes) (omega arith)) in
    let all : items ≡ trim_start (texts_of bytes) =
    sym c.loop-at.invariant.trimmed ∙ ap trim_start (sym (append-nil items) ∙ ap (λ more. items ++ more) (sym none)) ∙ c.loop-at.invariant.texts in
    let kept : c.trim_end-length.result.now ≡ trim_end items = c.trim_end-length.ensures ∙ ap trim_end c.as_slice.ensures.value in
    c.truncate.ensures.items ∙ ap (λ kept. take (length kept) items) kept ∙ length-trim_end items ∙ ap trim_end all
