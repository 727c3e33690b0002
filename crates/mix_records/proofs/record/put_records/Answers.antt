use Rattle.std.proofs.Common.{◌≡◌, ◌∙◌, take, true, ap, sym, subst}
use Rattle.std.proofs.lemmas.List.{take_all}
use Rattle.std.proofs.lemmas.List.Elements.{All-more, All-same}
use Rattle.mix_records.specs.Records.{IsReadAgain, records_of}
use Rattle.mix_records.proofs.RecordTexts.{written-step, written-all, records-again}
use Rattle.mix_records.proofs.record.put_records.Goals as goal

pub put-requires : goal.put-requires
put-requires g c =
    let at = c.loop-record.record-index in
    subst (λ item. g.R.Record.form.may_stand (g.R.Record.parts item) ≡ true) (sym c.record-item.is) (c.requires.may_stand at c.record-item.result c.loop-record-test.true)

pub loop-record-preserved : goal.loop-record-preserved
loop-record-preserved g c =
    let records = c.args.records.now in
    record {
      text = written-step g.R.Record.form g.R.Record.parts records c.loop-record.record-index _ _ c.record-item.result c.loop-record-test.true c.record-item.is c.in_ok-put.ensures.text
          ∙ c.loop-record.invariant.text;
      read = All-more (λ item. IsReadAgain g.R.Record.form (g.R.Record.parts item)) records c.loop-record.record-index c.record-item.result c.loop-record-test.true
          c.loop-record.invariant.read (subst (λ item. IsReadAgain g.R.Record.form (g.R.Record.parts item)) c.record-item.is c.in_ok-put.ensures.read);
    }

pub returns-clause-text : goal.returns-clause-text
returns-clause-text g c =
    written-all g.R.Record.form g.R.Record.parts c.args.records.now c.loop-record.record-index c.loop-record.text.items c.loop-record-test.false c.loop-record.invariant.text

pub returns-clause-read : goal.returns-clause-read
returns-clause-read g c =
    ap (records_of g.R.Record.form)
    (written-all g.R.Record.form g.R.Record.parts c.args.records.now c.loop-record.record-index c.loop-record.text.items c.loop-record-test.false c.loop-record.invariant.text)
    ∙ records-again g.R.Record.form g.R.Record.parts c.args.records.now g.met.R.Record.nothing
    (All-same (λ item. IsReadAgain g.R.Record.form (g.R.Record.parts item)) c.args.records.now (take c.loop-record.record-index c.args.records.now)
    (sym (take_all c.loop-record.record-index c.args.records.now c.loop-record-test.false)) c.loop-record.invariant.read) c.requires.rising
