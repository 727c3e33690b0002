use Rattle.std.proofs.Common.{rules, tests, ◌∙◌, sym, map}
use Rattle.std.proofs.lemmas.Iterator.{YieldsList-from_slice}
use Rattle.std.proofs.lemmas.Iterator.Search.{all_from_yields_List}
use Rattle.std.proofs.lemmas.List.Folds.{list_all-map}
use Rattle.mix_index.specs.Entries.{entry_parts}
use Rattle.mix_recover.specs.Listings.{file_scan_parts, is_scanned}
use Rattle.mix_recover.proofs.accepting.is_accepted.Goals as goal

pub returns : goal.returns
returns c =
    let scans = map file_scan_parts c.args.scans.now in
    all_from_yields_List (λ entry. is_scanned scans (entry_parts entry)) _ _ c.all.result c.all.ensures.ran (YieldsList-from_slice c.args.entries.now cc) (λ x r q. search (rules, tests))
    ∙ sym (list_all-map (is_scanned scans) entry_parts c.args.entries.now)
