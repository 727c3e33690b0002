use Rattle.std.proofs.Common.{arith}
use Rattle.std.proofs.lemmas.Bool.{eqb-true}
use Rattle.mix_records.proofs.FieldTexts.{on_ok}
use Rattle.mix_index.specs.Entries.{entry_parts}
use Rattle.mix_index.proofs.EntryTexts.{CanStand, entry-again}
use Rattle.mix_index.proofs.entry.put.Goals as goal

pub returns-clause-read : goal.returns-clause-read
returns-clause-read c =
    let entry = c.args.entry in
    let can : CanStand (entry_parts entry) = record {
      uid = omega arith;
      size = omega arith;
      file = omega arith;
      place = omega arith;
      field = omega arith;
      head = eqb-true entry.head 45 c.requires;
      date = c.put_date_field.ensures.read;
    } in
    on_ok c.put_record_end.result (entry-again (entry_parts entry) can)
