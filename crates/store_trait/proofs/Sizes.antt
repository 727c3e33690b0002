-- How many names and messages a store tells after a change.
use Rattle.std.proofs.Common.{◌≡◌, ◌+◌, length, map, refl, sym, ◌∙◌, ap, arith}
use Rattle.std.proofs.lemmas.List.{length-map}
use Rattle.mail_types.specs.declared.driver.Keeps.{Keeps}
use Rattle.mail_types.specs.declared.mailbox.Mailbox.{Mailbox}
use Rattle.mail_types.specs.Lists.{cleared, changed_records, next_number}
use Rattle.mail_types.proofs.Adding.{added_all}
use Rattle.mail_types.proofs.ChangingFlags.{changed_count, with_numbers_count}
use Rattle.mail_types.proofs.Dropping.{left_count}
use Rattle.store_trait.specs.declared.change.Change.{Change}
use Rattle.store_trait.specs.declared.change.Change.TheVariants.{Append, SetFlags, Expunge}
use Rattle.store_trait.specs.Changes.{CanChange, IsSized, changed_mailbox}
use Rattle.store_trait.specs.Views.{summary_of, info_of}

pub infos_count : (m : Mailbox) → length (summary_of m).infos ≡ length m.records
infos_count m = length-map m.records info_of

pub sized_changed : (keeps : Keeps) (m : Mailbox) (change : Change) → CanChange keeps m.words (length m.records) change
    → IsSized (summary_of m) change (summary_of (changed_mailbox keeps m change))
sized_changed keeps m (Append new words) can = record {
  words = refl;
  count = infos_count (changed_mailbox keeps m (Append new words)) ∙ added_all keeps m new words ∙ ap (λ n. n + length new) (sym (infos_count m));
}
sized_changed keeps m (SetFlags changes words) can = record {
  words = refl;
  count = infos_count (changed_mailbox keeps m (SetFlags changes words))
      ∙ with_numbers_count (next_number keeps m.number) (map (cleared (length m.words) (length words)) m.records) (changed_records (length words) 0 changes (map (cleared (length m.words) (length words)) m.records))
      ∙ changed_count (length words) 0 changes (map (cleared (length m.words) (length words)) m.records) ∙ length-map m.records (cleared (length m.words) (length words)) ∙ sym (infos_count m);
}
sized_changed keeps m (Expunge places) can =
    let left = left_count 0 (length m.records) places m.records can (omega arith) in
    let infos = infos_count (changed_mailbox keeps m (Expunge places)) in
    record { words = refl; count = omega (arith, left, infos, infos_count m) }
