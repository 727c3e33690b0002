use Rattle.std.proofs.Common.{◌≡◌, ◌++◌, length, drop, map, All}
use Rattle.text_lines.specs.Lines.{lines_of}
use Rattle.mime_parts.specs.Delimiters.{parts_from, parts_of_body}
use Rattle.mime_parts.specs.Marks.{IsTail, IsSection, section_in}
use Rattle.mime_parts.proofs.delimiter.sections.Given as goal

abbrev pub invariant-loop-next : goal.invariant-loop-next
invariant-loop-next l = record {
  left : IsTail l.text l.left;
  sections : All (IsSection l.text) l.sections.items;
  parts : map (section_in l.text) l.sections.items ++ parts_from l.boundary l.left.from (lines_of (drop l.left.from l.text)) ≡ parts_of_body l.boundary l.body.from (drop l.body.from l.text);
}

abbrev pub decreases-loop-next : goal.decreases-loop-next
decreases-loop-next l = length l.left.marks.now
