use Rattle.std.proofs.Common.{drop}
use Rattle.mail_types.specs.Lists.{RiseBelow}
use Rattle.unix_layout.proofs.texts.rise_below.Given as goal

abbrev pub invariant-loop-place : goal.invariant-loop-place
invariant-loop-place l = RiseBelow l.least l.count (drop l.place-index l.places) → RiseBelow 0 l.count l.places
