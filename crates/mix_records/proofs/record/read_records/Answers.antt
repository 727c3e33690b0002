use Rattle.std.proofs.Common.{◌≡◌, ◌<◌, ◌∙◌, map, length, true, Err, ap, sym, arith, rules}
use Rattle.std.proofs.lemmas.Bool.{eqb-true, eqb-false}
use Rattle.std.proofs.lemmas.List.{length-map}
use Rattle.mix_records.proofs.RecordTexts.{read-step, all-read, part-read, records-rise, all-pushed}
use Rattle.mix_records.proofs.record.read_records.Goals as goal

pub loop-found-preserved : goal.loop-found-preserved
loop-found-preserved g c =
    let old = c.loop-found in
    let step =
    read-step g.R.Record.form g.R.Record.parts old.records.items c.push.new.self.items c.in-Some.found.0 old.last c.uid-last.result c.args.bytes.now old.rest.now c.in-Some.found.1.now
    c.in-Some.ensures.value c.in-Some.ensures.shorter c.in_ok-push.ensures.items c.uid-last.ensures old.invariant.few in
    record {
      few = step.0;
      may_stand = all-pushed (λ each. g.R.Record.form.may_stand (g.R.Record.parts each) ≡ true) old.records.items c.push.new.self.items c.in-Some.found.0
          c.in_ok-push.ensures.items old.invariant.may_stand c.in-Some.ensures.may_stand;
      found = step.1 ∙ old.invariant.found;
    }

pub returns-then-is_empty-clause-ok : goal.returns-then-is_empty-clause-ok
returns-then-is_empty-clause-ok g c =
    all-read g.R.Record.form (map g.R.Record.parts c.loop-found.records.items) _ c.loop-found.last c.args.bytes.now c.loop-found.rest.now c.in_default.ensures.value c.loop-found.invariant.found
    (eqb-true (length c.loop-found.rest.now) 0 (sym c.is_empty.ensures ∙ c.if-is_empty.true))

pub returns-then-is_empty-clause-rising : goal.returns-then-is_empty-clause-rising
returns-then-is_empty-clause-rising g c =
    records-rise g.R.Record.form c.args.bytes.now (map g.R.Record.parts c.loop-found.records.items)
    (all-read g.R.Record.form (map g.R.Record.parts c.loop-found.records.items) _ c.loop-found.last c.args.bytes.now c.loop-found.rest.now c.in_default.ensures.value c.loop-found.invariant.found
    (eqb-true (length c.loop-found.rest.now) 0 (sym c.is_empty.ensures ∙ c.if-is_empty.true)))

pub returns-else-is_empty-clause-err : goal.returns-else-is_empty-clause-err
returns-else-is_empty-clause-err g c =
    let some : 0 < length c.loop-found.rest.now = omega (arith, eqb-false (length c.loop-found.rest.now) 0 (sym c.is_empty.ensures ∙ c.if-is_empty.false)) in
    let count : c.len.result ≡ length c.loop-found.records.items = first_of (search rules, omega arith) in
    part-read g.R.Record.form (map g.R.Record.parts c.loop-found.records.items) _ c.loop-found.last c.args.bytes.now c.loop-found.rest.now c.in_default.ensures.value c.loop-found.invariant.found some
    ∙ ap Err (length-map c.loop-found.records.items g.R.Record.parts ∙ sym count)
