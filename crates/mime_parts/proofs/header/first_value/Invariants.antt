use Rattle.std.proofs.Common.{◌≡◌, drop, map}
use Rattle.head_fields.specs.Fields.{reading_in}
use Rattle.mime_parts.specs.Contents.{first_value}
use Rattle.mime_parts.proofs.header.first_value.Given as goal

abbrev pub invariant-loop-field : goal.invariant-loop-field
invariant-loop-field l = first_value l.name (map (reading_in l.text) (drop l.field-index l.fields)) ≡ first_value l.name (map (reading_in l.text) l.fields)
