use Rattle.std.proofs.Common.{◌≡◌, ◌++◌, take, drop, map}
use Rattle.std.specs.List.{All}
use Rattle.mix_records.specs.Records.{IsReadAgain, records_text}
use Rattle.mix_records.proofs.record.put_records.Given as goal

abbrev pub invariant-loop-record : goal.invariant-loop-record
invariant-loop-record g l = record {
  text : l.text.items ++ records_text g.R.Record.form (map g.R.Record.parts (drop l.record-index l.records)) ≡ records_text g.R.Record.form (map g.R.Record.parts l.records);
  read : All (λ item. IsReadAgain g.R.Record.form (g.R.Record.parts item)) (take l.record-index l.records);
}
