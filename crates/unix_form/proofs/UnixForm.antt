-- The form of unix files is lawful.
use Rattle.std.proofs.Common.{◌≡◌, ◌⊎◌, inl, inr, ℕ, List, length, refl, sym, ◌∙◌, ap, subst, arith, Option, Some, None}
use Rattle.std.proofs.lemmas.Option.{same_Some}
use Rattle.mail_types.specs.declared.contents.StoreContents.{StoreContents}
use Rattle.mail_types.specs.declared.driver.Driver.TheVariants.{Unix}
use Rattle.store_trait.specs.Having.{IsFound}
use Rattle.store_trait.specs.Laws.{IsFileForm}
use Rattle.store_trait.proofs.Anew.{is_form_anew}
use Rattle.unix_form.specs.Form.{UnixFile, file_of, file_records, contents_in, IsUnixSpelled, unix_written, unix_file_form}
use Rattle.unix_form.proofs.Again.{unix_again}
use Rattle.unix_form.proofs.Found.{unix_found, few_messages}

one_reading : (bytes : List ℕ) (one other : StoreContents) (few many : ℕ) → IsUnixSpelled bytes one few → IsUnixSpelled bytes other many → (one ≡ other) × (few ≡ many)
one_reading bytes one other few many first second =
    let same : first.file ≡ second.file = same_Some first.file second.file (sym first.reads ∙ second.reads) in
    (first.says ∙ ap contents_in same ∙ sym second.says, first.counts ∙ ap file_records same ∙ sym second.counts)

decides : (bytes : List ℕ) → ((c : StoreContents) × ((n : ℕ) × IsUnixSpelled bytes c n)) ⊎ ((c : StoreContents) (n : ℕ) → IsUnixSpelled bytes c n → ⊥)
decides bytes = step (file_of bytes) refl
  where
    step : (o : Option UnixFile) → file_of bytes ≡ o → ((c : StoreContents) × ((n : ℕ) × IsUnixSpelled bytes c n)) ⊎ ((c : StoreContents) (n : ℕ) → IsUnixSpelled bytes c n → ⊥)
    step None here = inr (λ c n is. let e : None ≡ Some is.file = sym here ∙ is.reads in absurd (cc))
    step (Some file) here = inl (contents_in file, (file_records file, record { file = file; reads = here; says = refl; counts = refl }))

pub unix_is_form : IsFileForm Unix unix_file_form
unix_is_form =
    is_form_anew Unix refl refl (λ bytes contents records. IsUnixSpelled bytes contents records) (λ m. unix_written m)
    one_reading
    decides
    (λ bytes c n is. omega (arith, is.counts, ap (λ x. length x.records) is.says, few_messages bytes is.file is.reads))
    (λ bytes c n is. subst (IsFound Unix) (sym is.says) (unix_found bytes is.file is.reads))
    unix_again
