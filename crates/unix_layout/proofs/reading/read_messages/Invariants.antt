use Rattle.std.proofs.Common.{◌≡◌, ◌≤◌, true, length}
use Rattle.mail_fields.specs.Names.{are_distinct}
use Rattle.unix_layout.proofs.FoundMessages.{IsReading, messages_of}
use Rattle.unix_layout.proofs.reading.read_messages.Given as goal

abbrev pub invariant-loop-rest : goal.invariant-loop-rest
invariant-loop-rest l = record {
  reading : IsReading l.fn.names (messages_of l.text) l.known l.infos.items l.texts.items l.rest;
  few : length l.known ≤ 30;
  distinct : are_distinct l.known ≡ true;
}

abbrev pub decreases-loop-rest : goal.decreases-loop-rest
decreases-loop-rest l = length l.rest
