use Rattle.std.proofs.Common.{◌≡◌, drop, map}
use Rattle.head_fields.specs.Fields.{reading_in}
use Rattle.status_heads.specs.Fields.{value_named}
use Rattle.status_heads.proofs.value.value_named.Given as goal

abbrev pub invariant-loop-field : goal.invariant-loop-field
invariant-loop-field l = value_named l.name (map (reading_in l.text) (drop l.field-index l.fields)) ≡ value_named l.name (map (reading_in l.text) l.fields)
