use Rattle.std.proofs.Common.{rules, ◌∙◌, map, ap, sym, true, false}
use Rattle.std.specs.List.{list_all}
use Rattle.mix_index.specs.Entries.{entry_parts, entries_of}
use Rattle.mix_recover.specs.Listings.{file_scan_parts, is_scanned, indexed}
use Rattle.mix_recover.specs.Readings.{option_bytes}
use Rattle.mix_recover.proofs.Together.{no_index, bad_index, good_index}
use Rattle.mix_recover.proofs.meaning.accepted.Goals as goal

pub returns-in_default : goal.returns-in_default
returns-in_default c = record {
  rising = tt;
  heads = tt;
  value = ap (λ o. indexed (option_bytes o) (map file_scan_parts c.args.scans.now)) c.in_default.is ∙ no_index (map file_scan_parts c.args.scans.now);
}

pub returns-in_default-2 : goal.returns-in_default-2
returns-in_default-2 c = record {
  rising = tt;
  heads = tt;
  value = ap (λ o. indexed (option_bytes o) (map file_scan_parts c.args.scans.now)) c.in-Some.is
      ∙ bad_index c.in-Some.text.items (map file_scan_parts c.args.scans.now) (ap entries_of (sym c.as_slice.ensures.value) ∙ search rules);
}

pub returns-then-is_accepted : goal.returns-then-is_accepted
returns-then-is_accepted c =
    let scans = map file_scan_parts c.args.scans.now in
    record {
      rising = search rules;
      heads = search rules;
      value = ap (λ o. indexed (option_bytes o) scans) c.in-Some.is
          ∙ good_index c.in-Some.text.items scans (map entry_parts c.in-Some-2.entries.items) true (ap entries_of (sym c.as_slice.ensures.value) ∙ search rules)
          (ap (λ l. list_all (is_scanned scans) (map entry_parts l)) (sym c.as_slice-2.ensures.value) ∙ sym c.is_accepted.ensures ∙ c.if-is_accepted.true);
    }

pub returns-else-is_accepted : goal.returns-else-is_accepted
returns-else-is_accepted c =
    let scans = map file_scan_parts c.args.scans.now in
    record {
      rising = tt;
      heads = tt;
      value = ap (λ o. indexed (option_bytes o) scans) c.in-Some.is
          ∙ good_index c.in-Some.text.items scans (map entry_parts c.in-Some-2.entries.items) false (ap entries_of (sym c.as_slice.ensures.value) ∙ search rules)
          (ap (λ l. list_all (is_scanned scans) (map entry_parts l)) (sym c.as_slice-2.ensures.value) ∙ sym c.is_accepted.ensures ∙ c.if-is_accepted.false);
    }
