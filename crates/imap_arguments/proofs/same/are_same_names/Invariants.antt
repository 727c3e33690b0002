use Rattle.std.proofs.Common.{◌≡◌, length, take}
use Rattle.imap_arguments.proofs.same.are_same_names.Given as goal

-- so far the names are the same
abbrev pub invariant-loop-place : goal.invariant-loop-place
invariant-loop-place l = (length l.one-2 ≡ length l.other-2) × (take l.place l.one-2 ≡ take l.place l.other-2)
