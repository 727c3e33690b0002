use Rattle.std.proofs.Common.{◌++◌, ◌∙◌, ap, sym, Ok, Err}
use Rattle.file_model.proofs.Passes.{passed_none}
use Rattle.imap_reply.specs.BufferLaws.{longer_stopped, puts_behind, puts_waiting}
use Rattle.imap_reply.proofs.Putting.{added_so}
use Rattle.imap_reply.proofs.buffer.ReplyBuffer.put_bytes.Goals as goal

pub returns-in_err-make_room-clause-puts : goal.returns-in_err-make_room-clause-puts
returns-in_err-make_room-clause-puts g c = longer_stopped c.args.self.now c.args.bytes.now _ _ _ _ c.from_residual.ensures.0 c.make_room.ensures.puts.instants

pub returns-then-bytes-gt-ROOM-clause-puts : goal.returns-then-bytes-gt-ROOM-clause-puts
returns-then-bytes-gt-ROOM-clause-puts g c = puts_behind c.args.self.now _ _ c.args.bytes.now c.say_through.result _ _ _ c.in_ok-make_room.ensures.puts c.say_through.ensures.puts

pub returns-then-is_err-clause-puts : goal.returns-then-is_err-clause-puts
returns-then-is_err-clause-puts g c = puts_behind c.args.self.now c.make_room.new.self _ c.args.bytes.now (Err _) _ _ _ c.in_ok-make_room.ensures.puts (record { instants = passed_none _ _; done = tt })

pub returns-clause-puts : goal.returns-clause-puts
returns-clause-puts g c = puts_behind c.args.self.now c.make_room.new.self _ c.args.bytes.now (Ok tt) _ _ _ c.in_ok-make_room.ensures.puts (puts_waiting _ _ _ (added_so c.extend_from_slice.result c.self.inside.room.items c.args.bytes.now _ c.extend_from_slice.ensures.items (sym c.if-is_err.ensures.value) ∙ ap (λ l. l ++ c.args.bytes.now) c.self.view_is))
