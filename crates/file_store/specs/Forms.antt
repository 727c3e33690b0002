-- The form of a driver's one file, with the texts that stand in it.
use Rattle.std.proofs.Common.{ℕ, Bool, false, List, [], ◌≡◌, ◌≤◌, ◌⊎◌, inl, inr, nat_lt, length, map, ap}
use Rattle.mail_types.specs.declared.contents.StoreContents.{StoreContents}
use Rattle.mail_types.specs.declared.driver.Driver.{Driver}
use Rattle.mail_types.specs.declared.message.Record.{Record}
use Rattle.mail_types.specs.Limits.{file_limit}
use Rattle.store_trait.specs.declared.change.Change.{Change}
use Rattle.store_trait.specs.declared.change.Change.TheVariants.{Append, SetFlags, Expunge}
use Rattle.store_trait.specs.Forms.{FileForm, Forms}
use Rattle.store_trait.specs.Laws.{IsFileForm, may_outgrow}

abbrev pub texts_of : List Record → List (List ℕ)
texts_of records = map (λ r. r.text) records

-- The form of a file, and the texts that stand in a file: so the mailbox of a view is a function of the bytes.
pub record ReadForm : Type 1 where
  pub file : FileForm
  pub texts : List ℕ → List (List ℕ)

pub record IsReadForm (driver : Driver) (form : ReadForm) : Type 0 where
  pub law : IsFileForm driver form.file
  pub texts : (bytes : List ℕ) (contents : StoreContents) (records : ℕ) → form.file.spells bytes contents records → form.texts bytes ≡ texts_of contents.records

-- the forms that a store of one driver knows
abbrev pub forms_of : Driver → ReadForm → Forms
forms_of driver form = record { knows = λ d. d ≡ driver; file = λ d. form.file; directory = λ d. record { says = λ files contents records. ⊥; rewritten = λ files prior change after. ⊥ } }

-- any other file is at most 512 MiB long
abbrev pub IsShortFile : Driver → List ℕ → Type 0
IsShortFile driver bytes = may_outgrow driver ≡ false → length bytes ≤ file_limit

-- whether a change appends, and the file would be too long
abbrev pub is_long_append : Change → ℕ → Bool
is_long_append (Append new words) long = nat_lt file_limit long
is_long_append (SetFlags changes words) long = false
is_long_append (Expunge places) long = false

-- ---- A lawful form says its texts

module _ (driver : Driver) (form : FileForm) (law : IsFileForm driver form) where
  abbrev pub texts_found : (bytes : List ℕ) → ((contents : StoreContents) × ((records : ℕ) × form.spells bytes contents records)) ⊎ ((contents : StoreContents) (records : ℕ) → form.spells bytes contents records → ⊥) → List (List ℕ)
  texts_found bytes (inl found) = texts_of found.0.records
  texts_found bytes (inr none) = []

  -- the texts of what bytes say, none where they say nothing
  abbrev pub read_form : ReadForm
  read_form = record { file = form; texts = λ bytes. texts_found bytes (law.reads.decides bytes) }

  texts_are : (bytes : List ℕ) (contents : StoreContents) (records : ℕ) → form.spells bytes contents records
      → (decided : ((contents : StoreContents) × ((records : ℕ) × form.spells bytes contents records)) ⊎ ((contents : StoreContents) (records : ℕ) → form.spells bytes contents records → ⊥))
      → texts_found bytes decided ≡ texts_of contents.records
  texts_are bytes contents records spelled (inl found) = ap (λ c. texts_of c.records) (law.reads.one_reading bytes found.0 contents found.1.0 records found.1.1 spelled).0
  texts_are bytes contents records spelled (inr none) = absurd (none contents records spelled)

  pub is_read_form : IsReadForm driver read_form
  is_read_form = record { law = law; texts = λ bytes contents records spelled. texts_are bytes contents records spelled (law.reads.decides bytes) }
