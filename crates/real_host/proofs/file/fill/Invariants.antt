use Rattle.std.proofs.Common.{◌≤◌, length}
use Rattle.real_host.proofs.file.fill.Given as goal

abbrev pub invariant-loop : goal.invariant-loop
invariant-loop g l = l.done ≤ length l.buf
