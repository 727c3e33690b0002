-- The texts of messages that are told of, as they stand in their file.
use Rattle.std.proofs.Common.{◌≡◌, ◌<◌, ℕ, zero, suc, true, List, [], ◌∷◌, length, map, take, drop, take-append-drop, get_or, refl, ap, sym, subst, ◌∙◌, arith}
use Rattle.std.specs.Prelude.{slice_get}
use Rattle.std.specs.List.{list_all}
use Rattle.std.proofs.lemmas.Bool.{and_parts}
use Rattle.std.proofs.lemmas.Option.{same_Some}
use Rattle.file_model.specs.Disk.{seen}
use Rattle.file_model.specs.Histories.{History, Now}
use Rattle.file_model.proofs.Runs.{now_weaker}
use Rattle.mail_types.specs.declared.driver.Driver.TheVariants.{Unix}
use Rattle.mail_types.specs.Mailboxes.{has_no_nul}
use Rattle.text_forms.specs.Lines.{clean_byte}
use Rattle.store_trait.specs.declared.store.Info.{Info}
use Rattle.store_trait.specs.Views.{size_at, size_in, text_at, text_in}
use Rattle.store_index.specs.States.{ToldState, told_as}
use Rattle.store_index.specs.Told.{records_at, mailbox_at}
use Rattle.file_store.specs.Scans.{OfFile}
use Rattle.file_store.specs.Standing.{IsSizedBy, StandsOn, mailbox_in}
use Rattle.unix_form.proofs.NoNul.{clean_stays, no_nul_parts}
use Rattle.unix_layout.specs.Forms.{unix_read}
use Rattle.unix_layout.proofs.FoundMessages.{sized_length}

text_of : (infos : List Info) (texts : List (List ℕ)) (place : ℕ) → length infos ≡ length texts → place < length infos → text_in (slice_get (records_at infos texts) place) ≡ get_or texts place []
text_of [] texts place same inside = absurd (omega (arith, inside))
text_of (i ∷ infos) [] place same inside = absurd (omega (arith, same))
text_of (i ∷ infos) (t ∷ texts) zero same inside = refl
text_of (i ∷ infos) (t ∷ texts) (suc place) same inside = text_of infos texts place (omega (arith, same)) (omega (arith, inside))

size_of : (infos : List Info) (texts : List (List ℕ)) (place : ℕ) → IsSizedBy infos texts → place < length infos → size_in (slice_get infos place) ≡ length (get_or texts place [])
size_of [] texts place sized inside = absurd (omega (arith, inside))
size_of (i ∷ infos) [] place sized inside = absurd (cc)
size_of (i ∷ infos) (t ∷ texts) zero sized inside = cc
size_of (i ∷ infos) (t ∷ texts) (suc place) sized inside = let rest : IsSizedBy infos texts = cc in size_of infos texts place rest (omega (arith, inside))

clean_of : (infos : List Info) (texts : List (List ℕ)) (place : ℕ) → length infos ≡ length texts → list_all (λ r. has_no_nul r.text) (records_at infos texts) ≡ true → has_no_nul (get_or texts place []) ≡ true
clean_of [] [] place same all = refl
clean_of [] (t ∷ texts) place same all = absurd (omega (arith, same))
clean_of (i ∷ infos) [] place same all = absurd (omega (arith, same))
clean_of (i ∷ infos) (t ∷ texts) zero same all = (and_parts (has_no_nul t) (list_all (λ r. has_no_nul r.text) (records_at infos texts)) all).0
clean_of (i ∷ infos) (t ∷ texts) (suc place) same all =
    clean_of infos texts place (omega (arith, same)) (and_parts (has_no_nul t) (list_all (λ r. has_no_nul r.text) (records_at infos texts)) all).1

clean_part : (n from : ℕ) (text : List ℕ) → has_no_nul text ≡ true → has_no_nul (take n (drop from text)) ≡ true
clean_part n from text all =
    let behind = (no_nul_parts (take from text) (drop from text) (ap has_no_nul (take-append-drop from text) ∙ all)).1 in
    (no_nul_parts (take n (drop from text)) (drop n (drop from text)) (ap has_no_nul (take-append-drop n (drop from text)) ∙ behind)).0

module _ (path : List ℕ) (s : ToldState) (texts : List (List ℕ)) (place : ℕ) (inside : place < length s.infos) where
  -- what is shown of a text is the part of it
  pub shown_now : (from size n : ℕ) (out : List ℕ) (h : History) → Now h (λ w. StandsOn Unix unix_read (λ b. unix_read.texts b ≡ texts) path s (seen w.disk)) → size ≡ size_at (told_as s) place
      → (size ≡ length (get_or texts place []) → out ≡ map clean_byte (take n (drop from (get_or texts place [])))) → OfFile h path (λ bytes. out ≡ take n (drop from (text_at (mailbox_in unix_read s bytes) place)))
  shown_now from size n out h stands size_is shows =
      now_weaker _ _ (λ w stand bytes has.
      let same : stand.bytes ≡ bytes = same_Some stand.bytes bytes (sym stand.has ∙ has) in
      let holds : unix_read.texts bytes ≡ texts = subst (λ b. unix_read.texts b ≡ texts) same stand.places in
      let own : unix_read.texts stand.bytes ≡ texts = stand.places in
      let sized : IsSizedBy s.infos texts = subst (IsSizedBy s.infos) own stand.is.sized in
      let count = sized_length s.infos texts sized in
      let clean = clean_of s.infos texts place count (ap (λ t. list_all (λ r. has_no_nul r.text) (records_at s.infos t)) (sym own) ∙ stand.is.can.mailbox.clean) in
      let text = get_or texts place [] in
      shows (size_is ∙ size_of s.infos texts place sized inside)
      ∙ clean_stays (take n (drop from text)) (clean_part n from text clean)
      ∙ ap (λ t. take n (drop from t)) (sym (ap (λ t. text_at (mailbox_at s t) place) holds ∙ text_of s.infos texts place count inside))) h stands
