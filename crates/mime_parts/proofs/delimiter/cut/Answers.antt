use Rattle.std.proofs.Common.{◌≡◌, ◌∙◌, ◌+◌, ◌-◌, ◌&&◌, ap, arith, refl, length, length-take, length-drop, drop, nat_lt}
use Rattle.text_lines.specs.Lines.{line_text}
use Rattle.mime_parts.specs.Marks.{ends_line}
use Rattle.mime_parts.specs.declared.delimiter.Section.{Section}
use Rattle.mime_parts.proofs.Tails.{ends-within, cut-text, cut-is}
use Rattle.mime_parts.proofs.delimiter.cut.Goals as goal

pub between-whole-requires-clause-within : goal.between-whole-requires-clause-within
between-whole-requires-clause-within c = (ends-within c.args.text.now c.args.tail.now c.requires.tail c.args.mark c.args.passed c.requires.ends).1

pub returns-clause-part : goal.returns-clause-part
returns-clause-part c =
    let part = c.line_text-part.ensures ∙ ap line_text c.between-whole.ensures in
    let section : Section = record {
      to = c.args.tail.now.from + length c.line_text-part.result.now;
      tail = record { from = c.args.tail.now.from; before = c.args.tail.now.before; until = c.one_less.result; marks = c.first_marks.result };
    } in
    cut-text c.args.text.now c.args.tail.now c.requires.tail c.args.mark c.args.passed c.requires.ends section refl refl c.first_marks.ensures (ap (λ t. c.args.tail.now.from + length t) part)

pub returns-clause-is : goal.returns-clause-is
returns-clause-is c =
    let text = c.args.text.now in
    let from = c.args.tail.now.from in
    let at = c.args.mark.at in
    let part = c.line_text-part.ensures ∙ ap line_text c.between-whole.ensures in
    let size = ap length c.between-whole.ensures in
    let cut = length-take (at - from) (drop from text) in
    let left = length-drop from text in
    let place = ends-within text c.args.tail.now c.requires.tail c.args.mark c.args.passed c.requires.ends in
    let width : length c.between-whole.result.now ≡ at - from = omega (arith, place.0, place.1) in
    let short = c.loses_line-short.ensures ∙ (λ i. nat_lt 0 (width i) && ends_line (part i)) in
    cut-is text c.args.tail.now c.requires.tail c.args.mark c.args.passed c.requires.ends _ refl refl c.first_marks.ensures (ap (λ t. from + length t) part) c.loses_line-short.result short c.one_less.ensures
