use Rattle.std.proofs.Common.{◌≡◌, ◌++◌, drop, length, All}
use Rattle.head_fields.specs.Fields.{StandsWithin}
use Rattle.body_sections.specs.FieldLines.{chosen_lines}
use Rattle.body_sections.specs.Sections.{has_field}
use Rattle.body_sections.proofs.section.chosen_spans.Given as goal

abbrev pub invariant-loop-field : goal.invariant-loop-field
invariant-loop-field l =
    (l.spans.items ++ chosen_lines (has_field l.kind) l.head.from l.header (drop l.field-index l.field-items) ≡ chosen_lines (has_field l.kind) l.head.from l.header l.field-items)
    × All (StandsWithin (length l.header)) l.field-items
