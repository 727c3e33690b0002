use Rattle.std.proofs.Common.{rules, ◌≡◌, ◌≢◌, ◌∙◌, sym, ap}
use Rattle.std.specs.BTreeMap.{insert_entry}
use Rattle.std.specs.Ordering.{nat_cmp}
use Rattle.mix_index.specs.Entries.{entry_parts}
use Rattle.mix_data.specs.Scans.{placed_parts}
use Rattle.mix_recover.specs.Listings.{rebuilt_entry, with_entry}
use Rattle.mix_recover.specs.Rebuilding.{listed_in}
use Rattle.mix_recover.proofs.Rebuilt.{inserted, list_step, rise_inserted}
use Rattle.mix_recover.proofs.rebuilding.list.Goals as goal

pub loop-placed-preserved : goal.loop-placed-preserved
loop-placed-preserved c =
    let old = c.loop-placed in
    let entry = c.entry_of-entry.result in
    let entries : c.insert.new.self.entries ≡ insert_entry nat_cmp old.listing.entries entry.uid entry = search rules in
    let one = inserted old.listing c.insert.new.self entry old.invariant.keys entries in
    let some : entry.uid ≢ 0 = search rules in
    record {
      keys = one.0;
      rising = rise_inserted (listed_in old.listing) (listed_in c.insert.new.self) (entry_parts entry) old.invariant.rising some one.1;
      listed = one.1 ∙ ap (with_entry (listed_in old.listing)) c.entry_of-entry.ensures
          ∙ ap (λ l. with_entry l (rebuilt_entry c.args.file (placed_parts c.placed-item.result))) old.invariant.listed
          ∙ sym (list_step (λ p. rebuilt_entry c.args.file (placed_parts p)) c.args.records.now old.placed-index c.placed-item.result (listed_in c.args.listing.now) c.loop-placed-test.true c.placed-item.is);
    }
