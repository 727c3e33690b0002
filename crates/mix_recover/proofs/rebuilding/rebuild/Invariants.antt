use Rattle.std.proofs.Common.{◌≡◌, map, fold, take, [], true}
use Rattle.mix_records.specs.Records.{rise_from}
use Rattle.mix_index.specs.Entries.{entry_form}
use Rattle.mix_recover.specs.Listings.{file_scan_parts, scanned, with_entry}
use Rattle.mix_recover.specs.Rebuilding.{IsByUid, listed_in}
use Rattle.mix_recover.proofs.rebuilding.rebuild.Given as goal

abbrev pub invariant-loop-each : goal.invariant-loop-each
invariant-loop-each l = record {
  keys : IsByUid l.listing;
  rising : rise_from entry_form 0 (listed_in l.listing) ≡ true;
  listed : listed_in l.listing ≡ fold with_entry [] (scanned (map file_scan_parts (take l.each-index l.scans)));
}
