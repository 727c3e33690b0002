use Rattle.std.proofs.Common.{◌≡◌, ◌++◌, drop, map, decimal}
use Rattle.body_sections.specs.Labels.{behind_dots}
use Rattle.body_sections.proofs.label.put_section_name.Given as goal

abbrev pub invariant-loop-number : goal.invariant-loop-number
invariant-loop-number l = l.out.items ++ behind_dots (map decimal (drop l.number-index l.more)) ≡ l.initial.out.items ++ behind_dots (map decimal l.more)
