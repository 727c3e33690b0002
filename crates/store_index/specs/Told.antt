-- What an open store tells, and what its texts make of it.
use Rattle.std.specs.Prelude.{ℕ, List, [], ◌∷◌, ◌++◌, ◌+◌, ◌==◌, if◌then◌else◌, length, map, ◌%◌, ◌^◌, ◌*◌, ◌/◌}
use Rattle.mail_types.specs.declared.driver.Keeps.{Keeps}
use Rattle.mail_types.specs.declared.mailbox.Mailbox.{Mailbox}
use Rattle.mail_types.specs.declared.message.FlagChange.{FlagChange}
use Rattle.mail_types.specs.declared.message.NewMessage.{NewMessage}
use Rattle.mail_types.specs.declared.message.Record.{Record}
use Rattle.mail_types.specs.Keeping.{words_below, text_in_form}
use Rattle.mail_types.specs.Lists.{added_record, undropped}
use Rattle.store_trait.specs.declared.change.Change.{Change}
use Rattle.store_trait.specs.declared.change.Change.TheVariants.{Append, SetFlags, Expunge}
use Rattle.store_trait.specs.declared.store.Info.{Info}
use Rattle.store_trait.specs.Views.{info_of}
use Rattle.store_index.specs.States.{ToldState}

abbrev pub record_at : Info → List ℕ → Record
record_at i text = record { uid = i.uid; text = text; stamp = i.stamp; flags = i.flags; words = i.words; number = 0 }

abbrev pub records_at : List Info → List (List ℕ) → List Record
records_at [] texts = []
records_at (i ∷ infos) [] = []
records_at (i ∷ infos) (text ∷ texts) = record_at i text ∷ records_at infos texts

-- the mailbox that is told, with these texts
abbrev pub mailbox_at : ToldState → List (List ℕ) → Mailbox
mailbox_at s texts = record { validity = s.validity; number = 0; last = s.last; words = s.words; records = records_at s.infos texts }

abbrev pub cleared_info : (old new : ℕ) → Info → Info
cleared_info old new i = record i { words = i.words % 2 ^ old + 2 ^ new * (i.words / 2 ^ new) }

abbrev pub changed_info : (names place : ℕ) → List FlagChange → Info → Info
changed_info names place [] i = i
changed_info names place (change ∷ rest) i = if place == change.place then record i { flags = change.flags; words = words_below names change.words } else changed_info names place rest i

abbrev pub changed_infos : (names place : ℕ) → List FlagChange → List Info → List Info
changed_infos names place changes [] = []
changed_infos names place changes (i ∷ rest) = changed_info names place changes i ∷ changed_infos names (place + 1) changes rest

abbrev pub added_infos : Keeps → (names next : ℕ) → List NewMessage → List Info
added_infos keeps names next [] = []
added_infos keeps names next (new ∷ rest) = info_of (added_record keeps names 0 next new) ∷ added_infos keeps names (next + 1) rest

-- what is told after a change
abbrev pub changed_summary : Keeps → ToldState → Change → ToldState
changed_summary keeps s (Append new words) = record {
  validity = s.validity;
  last = s.last + length new;
  words = words;
  infos = map (cleared_info (length s.words) (length words)) s.infos ++ added_infos keeps (length words) (s.last + 1) new;
}
changed_summary keeps s (SetFlags changes words) = record {
  validity = s.validity;
  last = s.last;
  words = words;
  infos = changed_infos (length words) 0 changes (map (cleared_info (length s.words) (length words)) s.infos);
}
changed_summary keeps s (Expunge places) = record { validity = s.validity; last = s.last; words = s.words; infos = undropped 0 places s.infos }

abbrev pub new_texts : Keeps → List NewMessage → List (List ℕ)
new_texts keeps [] = []
new_texts keeps (new ∷ rest) = text_in_form keeps.text new.text ∷ new_texts keeps rest

-- the texts after a change
abbrev pub changed_texts : Keeps → List (List ℕ) → Change → List (List ℕ)
changed_texts keeps texts (Append new words) = texts ++ new_texts keeps new
changed_texts keeps texts (SetFlags changes words) = texts
changed_texts keeps texts (Expunge places) = undropped 0 places texts
