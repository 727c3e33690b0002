-- A driver that refuses every file has no lawful form: each driver can have an empty mailbox, and what is written of it says it.
use Rattle.std.proofs.Common.{◌≢◌, ◌≤◌, ℕ, Bool, true, false, cond, List, arith, ap, refl}
use Rattle.mail_types.specs.declared.contents.StoreContents.{StoreContents}
use Rattle.mail_types.specs.declared.driver.Driver.{Driver}
use Rattle.mail_types.specs.Drivers.{keeps_of}
use Rattle.mail_types.specs.Mailboxes.{greatest_number}
use Rattle.mail_types.specs.Stored.{empty_mailbox}
use Rattle.store_trait.specs.Forms.{FileForm, Directory, DirectoryForm}
use Rattle.store_trait.specs.Having.{CanSpell}
use Rattle.store_trait.specs.Laws.{IsFileForm, IsDirectoryForm}

number_small : (d : Driver) → (empty_mailbox d 0).number ≤ greatest_number
number_small d = step (keeps_of d).numbers
  where
    step : (b : Bool) → cond b 1 0 ≤ greatest_number
    step true = omega arith
    step false = omega arith

pub can_spell_empty : (d : Driver) (fresh : ℕ) → fresh ≢ 0 → fresh ≤ greatest_number → CanSpell d (empty_mailbox d fresh)
can_spell_empty d fresh some fits = record {
  mailbox = record { validity = some; validity_fits = fits; number_fits = number_small d; last_fits = omega arith; few = omega arith; distinct = refl; rise = refl; within = refl; clean = refl; numbered = refl };
  names = tt;
  few = omega arith;
  many = refl;
  large = refl;
  in_form = tt;
  named = tt;
  last = omega arith;
  unnumbered = λ none. ap (λ b. cond b 1 0) none;
}

one_is_some : ◌≢◌ {A = ℕ} 1 0
one_is_some = λ e. absurd (cc)

pub no_empty_form : (d : Driver) (form : FileForm) → IsFileForm d form → ((bytes : List ℕ) (c : StoreContents) (n : ℕ) → form.spells bytes c n → ⊥) → ⊥
no_empty_form d form law none =
    let said = law.again (empty_mailbox d 1) (can_spell_empty d 1 one_is_some (omega arith)) in
    none (form.written (empty_mailbox d 1)) _ said.0 said.1

pub no_empty_directory : (d : Driver) (form : DirectoryForm) → IsDirectoryForm d form → ((files : Directory) (c : StoreContents) (n : ℕ) → form.says files c n → ⊥) → ⊥
no_empty_directory d form law none =
    let said = law.again 1 one_is_some (omega arith) in
    none said.0 _ said.1.1.0 said.1.1.1
