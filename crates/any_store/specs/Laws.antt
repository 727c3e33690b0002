-- The laws of the enum, from those of its drivers. A further driver adds a line to each.
use Rattle.std.proofs.Common.{◌≡◌, ◌≢◌, ℕ, List, [], ◌∷◌, Some, inr, refl, sym, ◌∙◌, ap, true, false}
use Rattle.std.specs.Prelude.{◌↔◌}
use Rattle.std.proofs.lemmas.Bool.{false≢true}
use Rattle.mail_types.specs.declared.driver.Driver.{Driver}
use Rattle.mail_types.specs.declared.driver.Driver.TheVariants.{Unix as UnixDriver, Mmdf, Mbx as MbxDriver, Mtx, Tenex, Mh, Mix}
use Rattle.mail_types.specs.declared.contents.StoreContents.{StoreContents}
use Rattle.mail_types.specs.declared.message.Record.{Record}
use Rattle.store_trait.proofs.Grammars.{form_reads}
use Rattle.store_trait.specs.Laws.{IsFileReading, IsDirectoryReading, IsForm, IsReading, IsView}
use Rattle.store_trait.specs.OwnPaths.{is_directory_driver}
use Rattle.any_store.specs.declared.any.AnyStore.{AnyStore}
use Rattle.any_store.specs.declared.any.AnyStore.TheVariants.{Unix, Mbx}
use Rattle.any_store.specs.Choice.{formats_of, chosen, driver_by_records, stored_driver, IsStored}
use Rattle.any_store.specs.Promises.{IsChoice}
use Rattle.any_store.specs.Stores.{is_known, no_forms, mbx_read, unix_forms, mbx_forms, all_forms, unix_view, mbx_view, view_of}
use Rattle.any_store.specs.OwnForms.{own_unix, own_mbx, some_mbx}
use Rattle.file_store.specs.Forms.{is_read_form}
use Rattle.file_store.specs.Laws.{file_is_view, file_are_forms}
use Rattle.unix_form.specs.Form.{unix_file_form}
use Rattle.unix_form.proofs.UnixForm.{unix_is_form}
use Rattle.unix_layout.specs.Forms.{unix_read}
use Rattle.mbx_form.specs.Form.{mbx_form}
use Rattle.mbx_form.proofs.MbxForm.{mbx_is_form}
use Rattle.mbx_store.specs.Places.{HasPlaces}
use Rattle.any_store.specs.Fronts.{chosen_file, chosen_empty}
use Rattle.any_store.specs.Arms.{SharesForm, shares_at, form_all, view_all}

-- A form by which nothing says anything is lawful to read, and can't be written.
nothing_reads : {d : Driver} → IsFileReading d (no_forms.file d)
nothing_reads {d} = record {
  one_reading = λ bytes one other few many is also. absurd is;
  decides = λ bytes. inr (λ contents records is. is);
  counts = λ bytes contents records is. absurd is;
  found = λ bytes contents records is. absurd is;
}

no_directory_reads : {d : Driver} → IsDirectoryReading d (no_forms.directory d)
no_directory_reads {d} = record {
  moves = λ one other contents records same is. is;
  one_reading = λ files one other few many is also. absurd is;
  decides = λ files names. inr (λ contents records is. is);
  found = λ files contents records is. absurd is;
  marked = λ files contents records is. absurd is;
}

-- each driver has its own form
pub shares_unix : (d : Driver) → d ≡ UnixDriver → SharesForm d unix_forms all_forms
shares_unix d is = shares_at unix_forms all_forms UnixDriver d is (record { file = refl; directory = refl })

pub shares_mbx : (d : Driver) → d ≡ MbxDriver → SharesForm d mbx_forms all_forms
shares_mbx d is = shares_at mbx_forms all_forms MbxDriver d is (record { file = refl; directory = refl })

pub any_is_view : (store : AnyStore) → IsView all_forms (view_of store)
any_is_view (Unix s) =
    view_all unix_forms all_forms (unix_view s) (shares_unix UnixDriver refl) refl (file_is_view UnixDriver unix_read refl (λ bytes. unix_read.texts bytes ≡ s.layout.texts.items) s.front)
any_is_view (Mbx s) =
    view_all mbx_forms all_forms (mbx_view s) (shares_mbx MbxDriver refl) refl (file_is_view MbxDriver mbx_read refl (λ bytes. HasPlaces s.layout bytes) s.front)

pub any_are_forms : (d : Driver) → is_known d ≡ true → IsForm d all_forms
any_are_forms UnixDriver known =
    form_all unix_forms all_forms UnixDriver (shares_unix UnixDriver refl) (file_are_forms UnixDriver unix_read (is_read_form UnixDriver unix_file_form unix_is_form) refl UnixDriver refl)
any_are_forms MbxDriver known =
    form_all mbx_forms all_forms MbxDriver (shares_mbx MbxDriver refl) (file_are_forms MbxDriver mbx_read (is_read_form MbxDriver mbx_form mbx_is_form) refl MbxDriver refl)
any_are_forms Mmdf known = absurd (false≢true known)
any_are_forms Mtx known = absurd (false≢true known)
any_are_forms Tenex known = absurd (false≢true known)
any_are_forms Mh known = absurd (false≢true known)
any_are_forms Mix known = absurd (false≢true known)

-- What files say is one thing and decided, for every driver.
pub any_reads : (d : Driver) → IsReading d all_forms
any_reads UnixDriver = form_reads all_forms UnixDriver (any_are_forms UnixDriver refl)
any_reads MbxDriver = form_reads all_forms MbxDriver (any_are_forms MbxDriver refl)
any_reads Mmdf = nothing_reads
any_reads Mtx = nothing_reads
any_reads Tenex = nothing_reads
any_reads Mh = no_directory_reads
any_reads Mix = no_directory_reads

-- A driver of one file adds two lines: its bytes choose it, and what no bytes say in it.
pub any_is_choice : IsChoice (formats_of all_forms chosen)
any_is_choice = record { files = chosen_file; own = own; empty = chosen_empty; same_empty = same_empty; stored = stored }
  where
    own : (d : Driver) (bytes : List ℕ) (contents : StoreContents) (records : ℕ) → is_directory_driver d ≡ false → (all_forms.file d).spells bytes contents records → bytes ≢ [] → chosen bytes ≡ Some d
    own UnixDriver bytes contents records kind is some = own_unix bytes contents records is some
    own MbxDriver bytes contents records kind is some = own_mbx bytes contents records is
    own Mmdf bytes contents records kind is some = absurd is
    own Mtx bytes contents records kind is some = absurd is
    own Tenex bytes contents records kind is some = absurd is
    own Mh bytes contents records kind is some = absurd (false≢true (sym kind))
    own Mix bytes contents records kind is some = absurd (false≢true (sym kind))

    same_empty : (d : Driver) (contents : StoreContents) (records : ℕ) → is_directory_driver d ≡ false → (all_forms.file d).spells [] contents records → (all_forms.file UnixDriver).spells [] contents records
    same_empty UnixDriver contents records kind is = is
    same_empty MbxDriver contents records kind is = absurd (some_mbx contents records is)
    same_empty Mmdf contents records kind is = absurd is
    same_empty Mtx contents records kind is = absurd is
    same_empty Tenex contents records kind is = absurd is
    same_empty Mh contents records kind is = absurd (false≢true (sym kind))
    same_empty Mix contents records kind is = absurd (false≢true (sym kind))

    by_unix : (records : List Record) → driver_by_records UnixDriver records ≡ UnixDriver
    by_unix [] = refl
    by_unix (first ∷ rest) = refl

    by_mbx : (records : List Record) → driver_by_records MbxDriver records ≡ MbxDriver
    by_mbx [] = refl
    by_mbx (first ∷ rest) = refl

    unix_stored : (bytes : List ℕ) (contents : StoreContents) (records : ℕ) → (all_forms.file UnixDriver).spells bytes contents records → chosen bytes ≡ Some UnixDriver
    unix_stored [] contents records is = chosen_empty
    unix_stored (first ∷ rest) contents records is = own_unix (first ∷ rest) contents records is (λ none. absurd (cc))

    stored : (d : Driver) (bytes : List ℕ) (contents : StoreContents) (records : ℕ) → is_directory_driver d ≡ false → IsStored d contents → (all_forms.file d).spells bytes contents records
        → chosen bytes ≡ Some (stored_driver d contents)
    stored UnixDriver bytes contents records kind has is = unix_stored bytes contents records is ∙ ap Some (sym (by_unix contents.records))
    stored MbxDriver bytes contents records kind has is = own_mbx bytes contents records is ∙ ap Some (sym (by_mbx contents.records))
    stored Mmdf bytes contents records kind has is = absurd is
    stored Mtx bytes contents records kind has is = absurd is
    stored Tenex bytes contents records kind has is = absurd is
    stored Mh bytes contents records kind has is = absurd (false≢true (sym kind))
    stored Mix bytes contents records kind has is = absurd (false≢true (sym kind))

-- A store knows the drivers that stand.
pub any_knows : (d : Driver) → all_forms.knows d ↔ (is_known d ≡ true)
any_knows d = ((λ knows. knows), (λ known. known))

-- While unix and mbx stand alone, a mailbox is one file.
pub any_of_files : (d : Driver) → all_forms.knows d → is_directory_driver d ≡ false
any_of_files UnixDriver known = refl
any_of_files MbxDriver known = refl
any_of_files Mmdf known = refl
any_of_files Mtx known = refl
any_of_files Tenex known = refl
any_of_files Mh known = absurd (false≢true known)
any_of_files Mix known = absurd (false≢true known)
