use Rattle.std.proofs.Common.{rules, ◌∙◌, sym, ap, map}
use Rattle.std.specs.List.{list_any}
use Rattle.mix_index.specs.Entries.{entry_parts}
use Rattle.mix_data.specs.Scans.{placed_parts}
use Rattle.mix_recover.specs.Listings.{is_record_of}
use Rattle.std.proofs.lemmas.List.Sorted.{answers_always}
use Rattle.mix_recover.proofs.Searches.{file_found, file_missing}
use Rattle.mix_recover.proofs.accepting.is_scanned.Goals as goal

pub returns-in-Ok : goal.returns-in-Ok
returns-in-Ok c =
    c.has_record.ensures
    ∙ ap (λ l. list_any (is_record_of (entry_parts c.args.entry.now)) (map placed_parts l)) (c.as_slice.ensures.value ∙ ap (λ s. s.scan.records.items) (sym c.index-scans-found.is))
    ∙ sym (file_found (entry_parts c.args.entry.now) c.args.scans.now c.in-Ok.found c.index-scans-found.result c.requires.files c.in-Ok.ensures.bound c.index-scans-found.is
    (c.in-Ok.ensures.position (λ s. s.number) (answers_always _ _ _ (λ f a r after called. search rules))))

pub returns-in-Err : goal.returns-in-Err
returns-in-Err c =
    file_missing (entry_parts c.args.entry.now) c.args.scans.now c.in-Err.field-0 c.requires.files (c.in-Err.ensures.position (λ s. s.number) (answers_always _ _ _ (λ f a r after called. search rules)))
