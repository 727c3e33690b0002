use Rattle.std.proofs.Common.{◌≡◌, ◌-◌, drop, length}
use Rattle.mail_types.specs.Lists.{undropped}
use Rattle.unix_layout.proofs.texts.drop_texts.Given as goal

abbrev pub invariant-loop-done : goal.invariant-loop-done
invariant-loop-done l = l.texts.items ≡ undropped 0 (drop (length l.places - l.done) l.places) l.fn.texts.items
