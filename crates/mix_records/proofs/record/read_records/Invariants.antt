use Rattle.std.proofs.Common.{◌≡◌, ◌≤◌, ◌+◌, ◌-◌, length, map, true}
use Rattle.std.specs.List.{All}
use Rattle.mix_records.specs.Records.{records_front}
use Rattle.mix_records.proofs.RecordTexts.{behind}
use Rattle.mix_records.proofs.record.read_records.Given as goal

abbrev pub invariant-loop-found : goal.invariant-loop-found
invariant-loop-found g l = record {
  few : length l.records.items + length l.rest ≤ length l.bytes;
  may_stand : All (λ each. g.R.Record.form.may_stand (g.R.Record.parts each) ≡ true) l.records.items;
  found : behind (map g.R.Record.parts l.records.items) (records_front g.R.Record.form (length l.bytes - length l.records.items) l.last l.rest)
      ≡ records_front g.R.Record.form (length l.bytes) 0 l.bytes;
}

abbrev pub decreases-loop-found : goal.decreases-loop-found
decreases-loop-found g l = length l.rest
