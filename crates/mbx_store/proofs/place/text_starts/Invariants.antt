use Rattle.std.proofs.Common.{◌≡◌, ◌++◌, drop}
use Rattle.mbx_store.specs.Places.{starts_of}
use Rattle.mbx_store.proofs.place.text_starts.Given as goal

abbrev pub invariant-loop-place : goal.invariant-loop-place
invariant-loop-place l = l.starts.items ++ starts_of (drop l.place-index l.places) ≡ starts_of l.places
