use Rattle.std.proofs.Common.{◌-◌, length}
use Rattle.head_fields.specs.Searches.{IsSearched}
use Rattle.head_fields.proofs.search.HeaderSearch.find_body.Given as goal

abbrev pub invariant-loop-at : goal.invariant-loop-at
invariant-loop-at l = IsSearched l.front (record { line = l.line; seen = l.seen })

abbrev pub decreases-loop-at : goal.decreases-loop-at
decreases-loop-at l = length l.front - l.seen
