use Rattle.std.proofs.Common.{rules, ◌∙◌, sym}
use Rattle.mix_index.specs.Entries.{entry_parts}
use Rattle.std.proofs.lemmas.List.Sorted.{answers_always}
use Rattle.mix_recover.proofs.Searches.{record_found, record_missing}
use Rattle.mix_recover.proofs.accepting.has_record.Goals as goal

pub returns-in-Ok : goal.returns-in-Ok
returns-in-Ok c =
    c.is_record_of.ensures
    ∙ sym (record_found (entry_parts c.args.entry.now) c.args.records.now c.in-Ok.found c.index-records-found.result c.requires.places c.in-Ok.ensures.bound c.index-records-found.is
    (c.in-Ok.ensures.position (λ p. p.place) (answers_always _ _ _ (λ f a r after called. search rules))))

pub returns-in-Err : goal.returns-in-Err
returns-in-Err c =
    record_missing (entry_parts c.args.entry.now) c.args.records.now c.in-Err.field-0 c.requires.places (c.in-Err.ensures.position (λ p. p.place) (answers_always _ _ _ (λ f a r after called. search rules)))
