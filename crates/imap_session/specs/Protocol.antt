-- The session as a machine over the units of the client.
use Rattle.std.specs.Prelude.{Result, Ok, Err}
use Rattle.any_store.specs.Choice.{Formats}
use Rattle.imap_grammar.specs.Units.{units_of}
use Rattle.raw_commands.specs.Streams.{unfinished}
use Rattle.imap_grammar.specs.declared.unit.Unit as client
use Rattle.imap_reply.specs.declared.reply.Reply.TheVariants as reply
use Rattle.mail_tree.specs.Agreement.{HasMixMailboxes, IsTreeAlike}
use Rattle.session_loop.specs.Machine.{Protocol}
use Rattle.session_loop.specs.declared.answers.Stop.{Stop}
use Rattle.imap_session.specs.declared.refusal.Refusal.{Refusal}
use Rattle.imap_session.specs.declared.refusal.Refusal.TheVariants.{Line as Refused, Ends}
use Rattle.imap_session.specs.Lines.{Line, reply_line, SaysLine}
use Rattle.imap_session.specs.State.{State}
use Rattle.imap_session.specs.Step.{step, is_last}

-- What has to survive a crash are the mix mailboxes of the tree.
abbrev pub protocol : Formats → Protocol State client.Unit
protocol formats = record {
  units_of = units_of;
  unfinished = unfinished;
  Line = Line;
  says = SaysLine;
  greeting = λ state. reply_line reply.Greeting;
  step = step formats;
  is_last = is_last;
  alike = λ state disk. IsTreeAlike formats state.root state.tree disk;
  agrees = λ state image. HasMixMailboxes formats state.root state.tree image;
}

-- a refused command goes on, as the loop sees it
abbrev pub stop_in : {T : Type 0} → Result T Refusal → Result (Unit {0}) Stop
stop_in (Ok value) = Ok tt
stop_in (Err (Refused refusal)) = Ok tt
stop_in (Err (Ends stop)) = Err stop
