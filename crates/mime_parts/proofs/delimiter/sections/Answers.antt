use Rattle.std.proofs.Common.{◌∙◌, ◌++◌, ap, sym, map, drop}
use Rattle.std.proofs.lemmas.List.{append_assoc, append-nil}
use Rattle.text_lines.specs.Lines.{lines_of}
use Rattle.mime_parts.specs.Delimiters.{parts_from}
use Rattle.mime_parts.specs.Marks.{section_in, opened_part}
use Rattle.mime_parts.proofs.Marks.{parts-none}
use Rattle.mime_parts.proofs.Tails.{parts-closed, parts-more}
use Rattle.mime_parts.proofs.delimiter.sections.Goals as goal

pub returns-then-closes_parts-clause-parts : goal.returns-then-closes_parts-clause-parts
returns-then-closes_parts-clause-parts c =
    let done = map (section_in c.args.text.now) c.loop-next.sections.items in
    let over = parts-closed c.args.boundary.now c.args.text.now c.loop-next.left c.in-Some.next c.in-Some.ensures (sym c.closes_parts.ensures ∙ c.if-closes_parts.true) in
    sym (append-nil done) ∙ ap (λ ps. done ++ ps) (sym over) ∙ c.loop-next.invariant.parts

pub loop-next-preserved : goal.loop-next-preserved
loop-next-preserved c =
    let boundary = c.args.boundary.now in
    let text = c.args.text.now in
    let done = map (section_in text) c.loop-next.sections.items in
    let next = c.in-Some.next in
    let rest = lines_of (drop next.behind.from text) in
    let more = parts-more boundary text c.loop-next.left next c.in-Some.ensures (sym c.closes_parts.ensures ∙ c.if-closes_parts.false) in
    let opened = opened_part boundary next.line.now next.behind.from rest in
    record {
      left = c.in-Some.ensures.behind;
      sections = c.in_ok-add_section.ensures.is c.loop-next.invariant.sections;
      parts = ap (λ ps. ps ++ parts_from boundary next.behind.from rest) c.in_ok-add_section.ensures.parts ∙ append_assoc done opened (parts_from boundary next.behind.from rest) ∙ ap (λ ps. done ++ ps) (sym more)
          ∙ c.loop-next.invariant.parts;
    }

pub returns-clause-parts : goal.returns-clause-parts
returns-clause-parts c =
    let done = map (section_in c.args.text.now) c.loop-next.sections.items in
    let over = parts-none c.args.boundary.now c.loop-next.left.from (lines_of (drop c.loop-next.left.from c.args.text.now)) c.in_default.ensures in
    sym (append-nil done) ∙ ap (λ ps. done ++ ps) (sym over) ∙ c.loop-next.invariant.parts
