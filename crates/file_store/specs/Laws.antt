-- The laws of a store of one file.
use Rattle.std.proofs.Common.{◌≡◌, ℕ, false, List, [], ◌∷◌, length, map, inl, Some, unwrap_or, refl, sym, ap, ◌∙◌, subst}
use Rattle.std.proofs.lemmas.List.{length-map}
use Rattle.file_model.specs.Images.{Image, bytes_of, bytes_at}
use Rattle.mail_types.specs.declared.driver.Driver.{Driver}
use Rattle.mail_types.specs.declared.driver.Driver.TheVariants.{Unix, Mmdf, Mbx, Mtx, Tenex, Mh, Mix}
use Rattle.store_trait.specs.declared.store.Info.{Info}
use Rattle.store_trait.specs.Having.{CanSpell, IsBacked}
use Rattle.store_trait.specs.Laws.{IsForm, IsView}
use Rattle.store_trait.specs.OwnPaths.{RestsOn, is_directory_driver}
use Rattle.store_trait.specs.Views.{info_of, summary_of}
use Rattle.store_index.specs.States.{ToldState, told_as}
use Rattle.store_trait.proofs.Rewriting.{is_file_form, as_written}
use Rattle.store_index.specs.Fronts.{FrontState}
use Rattle.store_index.specs.Told.{record_at, records_at, mailbox_at}
use Rattle.file_store.specs.Forms.{ReadForm, IsReadForm, forms_of}
use Rattle.file_store.specs.Standing.{IsSizedBy, file_view, mailbox_in}

-- ---- The form

pub file_are_forms : (of : Driver) (form : ReadForm) → IsReadForm of form → is_directory_driver of ≡ false → (driver : Driver) → (forms_of of form).knows driver → IsForm driver (forms_of of form)
file_are_forms of form is of_file driver same = subst (λ d. IsForm d (forms_of of form)) (sym same) (is_file_form (forms_of of form) of of_file is.law)

-- ---- The view

info_at : (i : Info) (t : List ℕ) → i.size ≡ length t → info_of (record_at i t) ≡ i
info_at i t same = λ k. record { uid = i.uid; stamp = i.stamp; flags = i.flags; words = i.words; size = sym same k }

pub infos_at : (infos : List Info) (texts : List (List ℕ)) → IsSizedBy infos texts → map info_of (records_at infos texts) ≡ infos
infos_at [] texts sized = refl
infos_at (i ∷ infos) [] sized = absurd (cc)
infos_at (i ∷ infos) (t ∷ texts) sized =
    let first : i.size ≡ length t = cc in
    let rest : IsSizedBy infos texts = cc in
    λ k. info_at i t first k ∷ infos_at infos texts rest k

-- none has a modification number
zeros_at : (infos : List Info) (texts : List (List ℕ)) → IsSizedBy infos texts → map (λ r. r.number) (records_at infos texts) ≡ map (λ (i : Info). 0) infos
zeros_at [] texts sized = refl
zeros_at (i ∷ infos) [] sized = absurd (cc)
zeros_at (i ∷ infos) (t ∷ texts) sized = let rest : IsSizedBy infos texts = cc in ap (λ l. 0 ∷ l) (zeros_at infos texts rest)

pub told_summary : (s : ToldState) (texts : List (List ℕ)) → IsSizedBy s.infos texts → summary_of (mailbox_at s texts) ≡ told_as s
told_summary s texts sized = λ k. record { validity = s.validity; number = 0; last = s.last; words = s.words; infos = infos_at s.infos texts sized k; numbers = zeros_at s.infos texts sized k }

-- so many messages as are told of
pub told_count : (s : ToldState) (texts : List (List ℕ)) → IsSizedBy s.infos texts → length (records_at s.infos texts) ≡ length s.infos
told_count s texts sized = sym (length-map (records_at s.infos texts) info_of) ∙ ap (λ l. length l) (infos_at s.infos texts sized)

-- the meaning of a path rests on what stands there
rests_itself : (driver : Driver) (path : List ℕ) → RestsOn driver path path
rests_itself Unix path = refl
rests_itself Mmdf path = refl
rests_itself Mbx path = refl
rests_itself Mtx path = refl
rests_itself Tenex path = refl
rests_itself Mh path = inl refl
rests_itself Mix path = inl refl

module _ (driver : Driver) (form : ReadForm) (holds : List ℕ → Type 0) (s : FrontState) where
  -- the mailbox that it stands for, by the bytes of its file
  pub stands_for : (image : Image) (bytes : List ℕ) → bytes_at image s.path ≡ Some bytes → (file_view driver form holds s).mailbox image ≡ mailbox_in form s.told bytes
  stands_for image bytes has = ap (λ o. mailbox_in form s.told (unwrap_or o [])) has

pub file_is_view : (driver : Driver) (form : ReadForm) → is_directory_driver driver ≡ false → (holds : List ℕ → Type 0) (s : FrontState) → IsView (forms_of driver form) (file_view driver form holds s)
file_is_view driver form of_file holds s = record {
  known = refl;
  summarized = λ image stands. ap summary_of (stands_for driver form holds s image stands.bytes stands.has) ∙ told_summary s.told (form.texts stands.bytes) stands.is.sized;
  can_have = λ image stands. subst (CanSpell driver) (sym (stands_for driver form holds s image stands.bytes stands.has)) stands.is.can;
  stays = λ one other agree stands.
      let same : bytes_at other s.path ≡ bytes_at one s.path = ap bytes_of (agree s.path (rests_itself driver s.path)) in (
        record { bytes = stands.bytes; has = same ∙ stands.has; places = stands.places; is = stands.is },
        ap (λ o. mailbox_in form s.told (unwrap_or o [])) same,
      );
  written = λ image stands. (
    stands.is.contents,
    (stands.is.records, as_written (forms_of driver form) driver of_file s.path image stands.is.contents stands.is.records (record { bytes = stands.bytes; has = stands.has; spells = stands.is.spelled })),
    subst (IsBacked driver stands.is.contents) (sym (stands_for driver form holds s image stands.bytes stands.has)) stands.is.backed,
  );
}
