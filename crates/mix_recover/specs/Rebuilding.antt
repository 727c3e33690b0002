-- A listing in a map from UIDs.
use Rattle.std.specs.Prelude.{◌≡◌, ℕ, List, map}
use Rattle.std.specs.BTreeMap.{BTreeMap}
use Rattle.mix_index.specs.declared.entry.Entry.{Entry}
use Rattle.mix_index.specs.Entries.{EntryParts, entry_parts}

-- each entry stands under its UID
abbrev pub IsByUid : BTreeMap ℕ Entry → Type 0
IsByUid listing = map (λ e. e.0) listing.entries ≡ map (λ e. e.1.uid) listing.entries

-- the entries, by rising UID
abbrev pub listed_in : BTreeMap ℕ Entry → List EntryParts
listed_in listing = map (λ e. entry_parts e.1) listing.entries
