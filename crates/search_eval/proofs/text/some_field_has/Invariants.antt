use Rattle.std.proofs.Common.{◌≡◌, map, drop}
use Rattle.std.specs.List.{list_any}
use Rattle.head_fields.specs.Fields.{reading_in}
use Rattle.search_eval.specs.Keys.{field_has}
use Rattle.search_eval.proofs.text.some_field_has.Given as goal

abbrev pub invariant-loop-field : goal.invariant-loop-field
invariant-loop-field l =
    list_any (field_has l.name l.string) (map (reading_in l.text) (drop l.field-index l.fields))
    ≡ list_any (field_has l.name l.string) (map (reading_in l.text) l.fields)
