use Rattle.std.proofs.Common.{◌≡◌, ◌++◌, length}
use Rattle.status_heads.specs.Insertions.{with_fields}
use Rattle.unix_layout.proofs.writing.put_with_fields.Given as goal

abbrev pub invariant-loop-line : goal.invariant-loop-line
invariant-loop-line l = l.out.items ++ with_fields l.fields l.rest ≡ l.fn.out.items ++ with_fields l.fields l.text

abbrev pub decreases-loop-line : goal.decreases-loop-line
decreases-loop-line l = length l.rest
