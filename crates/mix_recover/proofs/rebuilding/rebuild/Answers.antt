use Rattle.std.proofs.Common.{◌≡◌, ◌∙◌, map, fold, [], take, sym, ap, refl}
use Rattle.std.proofs.lemmas.List.{take_all}
use Rattle.mix_index.specs.Entries.{entry_form}
use Rattle.mix_records.specs.Records.{rise_from}
use Rattle.mix_data.specs.Scans.{placed_parts}
use Rattle.mix_recover.specs.Listings.{rebuilt_entry, scanned, with_entry}
use Rattle.std.proofs.lemmas.Iterator.{items_from_collect}
use Rattle.std.proofs.lemmas.Iterator.Consumers.{YieldsList-from_rest}
use Rattle.mix_recover.proofs.Rebuilt.{none_listed, scans_step, listing_is, listing_rises, listing_heads}
use Rattle.mix_recover.proofs.rebuilding.rebuild.Goals as goal

pub loop-each-init : goal.loop-each-init
unfolding scanned
loop-each-init c = let none = none_listed c.new-listing.result c.new-listing.ensures.empty in record { keys = none.0; rising = ap (rise_from entry_form 0) none.1; listed = none.1 }

pub loop-each-preserved : goal.loop-each-preserved
loop-each-preserved c =
    let old = c.loop-each in
    record {
      keys = c.in_ok-list.ensures.keys;
      rising = c.in_ok-list.ensures.rising;
      listed = c.in_ok-list.ensures.listed ∙ (λ i. fold with_entry (old.invariant.listed i) (map (λ p. rebuilt_entry c.each-item.result.number (placed_parts p)) (c.as_slice.ensures.value i)))
          ∙ sym (scans_step c.args.scans.now old.each-index c.each-item.result [] c.loop-each-test.true c.each-item.is);
    }

pub returns : goal.returns
returns c =
    let old = c.loop-each in
    let all : take old.each-index c.args.scans.now ≡ c.args.scans.now = take_all old.each-index c.args.scans.now c.loop-each-test.false in
    let values = items_from_collect _ c.collect.ensures.ran (YieldsList-from_rest (map (λ e. e.1) old.listing.entries) c.into_values.ensures.rest) in
    let listing = listing_is c.collect.result old.listing c.args.scans.now (take old.each-index c.args.scans.now) old.invariant.listed all _ refl values in
    record {
      listing = listing;
      rising = listing_rises c.collect.result old.listing old.invariant.rising _ refl values;
      heads = listing_heads c.collect.result _ listing;
    }
