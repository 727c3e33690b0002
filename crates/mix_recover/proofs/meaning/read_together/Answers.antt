use Rattle.std.proofs.Common.{◌∙◌, ⊎_elim, inl, inr, map, ap, sym, Ok, Err}
use Rattle.mix_index.specs.Entries.{entry_parts}
use Rattle.mix_recover.specs.Listings.{file_scan_parts}
use Rattle.mix_recover.specs.Readings.{texts_of}
use Rattle.mix_recover.proofs.Together.{bad_meta, bad_statuses, all_read, passed_on, past_records, past_text, past_none, same_ends}
use Rattle.mix_recover.proofs.meaning.read_together.Goals as goal

pub returns-in_err-meta-clause-err : goal.returns-in_err-meta-clause-err
returns-in_err-meta-clause-err c =
    let texts = texts_of c.args.texts.now in
    let scans = map file_scan_parts c.args.scans.now in
    passed_on c.from_residual.result c.in_err-meta.field-0.0 _ c.from_residual.ensures.1
    (⊎_elim (λ memory. inl memory) (λ bad. inr (bad_meta texts scans bad.1 ∙ ap Err (sym bad.0))) c.in_err-meta.ensures)

pub returns-in_err-statuses-clause-err : goal.returns-in_err-statuses-clause-err
returns-in_err-statuses-clause-err c =
    let texts = texts_of c.args.texts.now in
    let scans = map file_scan_parts c.args.scans.now in
    passed_on c.from_residual-in_err-statuses.result c.in_err-statuses.field-0.0 _ c.from_residual-in_err-statuses.ensures.1
    (⊎_elim (λ memory. inl memory) (λ bad. inr (bad_statuses texts scans c.in_ok-meta.meta bad.0 c.in_ok-meta.ensures bad.2 ∙ ap Err (sym bad.1))) c.in_err-statuses.ensures)

pub returns-in_err-check_limits-clause-err : goal.returns-in_err-check_limits-clause-err
returns-in_err-check_limits-clause-err c =
    let texts = texts_of c.args.texts.now in
    let scans = map file_scan_parts c.args.scans.now in
    let is = all_read texts scans c.in_ok-meta.meta c.in_ok-statuses.statuses.items c.in_ok-meta.ensures c.in_ok-statuses.ensures in
    let same = sym c.in-Ok.ensures.listing ∙ ap (map entry_parts) (sym c.as_slice.ensures.value) in
    passed_on c.from_residual-in_err-check_limits.result c.in_err-check_limits.field-0.0 _ c.from_residual-in_err-check_limits.ensures.1
    (⊎_elim (λ many. inr (past_records texts scans c.as_slice.result.now _ is same many.1 ∙ ap Err (sym many.0)))
    (λ large. inr (past_text texts scans c.as_slice.result.now _ is same large.1 large.2 ∙ ap Err (sym large.0))) c.in_err-check_limits.ensures)

pub returns-in-Ok-ends-clause-ok : goal.returns-in-Ok-ends-clause-ok
returns-in-Ok-ends-clause-ok c =
    let texts = texts_of c.args.texts.now in
    let scans = map file_scan_parts c.args.scans.now in
    let is = all_read texts scans c.in_ok-meta.meta c.in_ok-statuses.statuses.items c.in_ok-meta.ensures c.in_ok-statuses.ensures in
    let same = sym c.in-Ok.ensures.listing ∙ ap (map entry_parts) (sym c.as_slice.ensures.value) in
    past_none texts scans c.as_slice.result.now _ is same c.in_ok-check_limits.ensures.0 c.in_ok-check_limits.ensures.1
    ∙ (λ i. Ok (record {
      meta = c.in_ok-meta.meta;
      statuses = c.in_ok-statuses.statuses.items;
      entries = sym c.in-Ok.ensures.listing i;
      ends = (sym (same_ends c.args.scans.now) ∙ sym c.in-Ok-ends.ensures) i;
      rebuilt = sym c.in-Ok.ensures.rebuilt i;
    }))
