use Rattle.std.proofs.Common.{◌≤◌, ◌-◌, length, take}
use Rattle.head_fields.specs.Searches.{IsSearched}
use Rattle.field_tests.proofs.header_fields.body_by_pieces.Given as goal

abbrev pub invariant-loop-end : goal.invariant-loop-end
invariant-loop-end l = record { within : l.end ≤ length l.text; searched : IsSearched (take l.end l.text) l.search }

abbrev pub decreases-loop-end : goal.decreases-loop-end
decreases-loop-end l = length l.text - l.end
