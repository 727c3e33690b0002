use Rattle.std.proofs.Common.{◌≡◌, ◌≤◌, true, length}
use Rattle.mail_fields.specs.Names.{are_distinct}
use Rattle.field_tests.proofs.status_fields.numbered.Given as goal

abbrev pub invariant-loop-header : goal.invariant-loop-header
invariant-loop-header l =
    (goal.iterator-loop-header).can_next l.header-iterator × (goal.iterator-loop-header).is_finite l.header-iterator
    × (length l.names ≤ 30) × (are_distinct l.names ≡ true)
