use Rattle.std.proofs.Common.{◌≡◌, ◌++◌, drop}
use Rattle.unix_layout.specs.Writing.{messages_text}
use Rattle.unix_layout.proofs.writing.put_messages.Given as goal

abbrev pub invariant-loop-place : goal.invariant-loop-place
invariant-loop-place l = l.out.items ++ messages_text l.names (drop l.place l.infos) (drop l.place l.texts) ≡ l.fn.out.items ++ messages_text l.names l.infos l.texts
