use Rattle.std.proofs.Common.{◌≡◌, ◌++◌, drop}
use Rattle.mbx_store.specs.Bytes.{added_bytes}
use Rattle.mbx_store.proofs.writing.put_messages.Given as goal

abbrev pub invariant-loop-place : goal.invariant-loop-place
invariant-loop-place l = l.out.items ++ added_bytes (drop l.place l.pieces) (drop l.place l.new) ≡ l.fn.out.items ++ added_bytes l.pieces l.new
