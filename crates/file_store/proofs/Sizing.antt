-- The sizes that are told after a change, and the texts.
use Rattle.std.proofs.Common.{◌≡◌, ℕ, ◌+◌, ◌==◌, Bool, true, false, cond, List, [], ◌∷◌, ◌++◌, length, map, nat_eq, refl, sym, ap, ◌∙◌, arith}
use Rattle.std.proofs.lemmas.List.{length-map, map-append}
use Rattle.std.specs.List.{AllByRecursion, list_any}
use Rattle.mail_types.specs.declared.driver.Keeps.{Keeps}
use Rattle.mail_types.specs.declared.message.FlagChange.{FlagChange}
use Rattle.mail_types.specs.declared.message.NewMessage.{NewMessage}
use Rattle.mail_types.specs.declared.message.Record.{Record}
use Rattle.mail_types.specs.Keeping.{take_record, words_below, text_in_form}
use Rattle.mail_types.specs.Lists.{undropped}
use Rattle.mail_types.specs.Stored.{stored_record}
use Rattle.store_trait.specs.declared.change.Change.{Change}
use Rattle.store_trait.specs.declared.change.Change.TheVariants.{Append, SetFlags, Expunge}
use Rattle.store_trait.specs.declared.store.Info.{Info}
use Rattle.store_index.specs.States.{ToldState}
use Rattle.store_trait.proofs.Rewriting.{stored_text}
use Rattle.store_index.specs.Told.{records_at, cleared_info, changed_info, changed_infos, added_infos, changed_summary, new_texts, changed_texts}
use Rattle.file_store.specs.Forms.{texts_of}
use Rattle.file_store.specs.Standing.{IsSizedBy}

abbrev size_of : Info → ℕ
size_of i = i.size

abbrev length_of : List ℕ → ℕ
length_of t = length t

-- ---- Sizes

cleared_sizes : (old new : ℕ) (infos : List Info) → map size_of (map (cleared_info old new) infos) ≡ map size_of infos
cleared_sizes old new [] = refl
cleared_sizes old new (i ∷ infos) = ap (λ l. i.size ∷ l) (cleared_sizes old new infos)

one_size : (names place : ℕ) (cs : List FlagChange) (i : Info) → (changed_info names place cs i).size ≡ i.size
one_size names place [] i = refl
one_size names place (c ∷ cs) i = step (place == c.place) (one_size names place cs i)
  where
    step : (b : Bool) → (changed_info names place cs i).size ≡ i.size → (cond b (record i { flags = c.flags; words = words_below names c.words }) (changed_info names place cs i)).size ≡ i.size
    step true later = refl
    step false later = later

changed_sizes : (names place : ℕ) (cs : List FlagChange) (infos : List Info) → map size_of (changed_infos names place cs infos) ≡ map size_of infos
changed_sizes names place cs [] = refl
changed_sizes names place cs (i ∷ infos) = λ k. one_size names place cs i k ∷ changed_sizes names (place + 1) cs infos k

added_sizes : (keeps : Keeps) (names next : ℕ) (new : List NewMessage) → map size_of (added_infos keeps names next new) ≡ map length_of (new_texts keeps new)
added_sizes keeps names next [] = refl
added_sizes keeps names next (n ∷ new) = ap (λ l. length (text_in_form keeps.text n.text) ∷ l) (added_sizes keeps names (next + 1) new)

map_undropped : {A B : Type 0} (f : A → B) (place : ℕ) (places : List ℕ) (xs : List A) → map f (undropped place places xs) ≡ undropped place places (map f xs)
map_undropped f place places [] = refl
map_undropped f place places (x ∷ xs) = step (list_any (nat_eq place) places) (map_undropped f (place + 1) places xs)
  where
    step : (b : Bool) → map f (undropped (place + 1) places xs) ≡ undropped (place + 1) places (map f xs)
        → map f (cond b (undropped (place + 1) places xs) (x ∷ undropped (place + 1) places xs)) ≡ cond b (undropped (place + 1) places (map f xs)) (f x ∷ undropped (place + 1) places (map f xs))
    step true later = later
    step false later = ap (λ l. f x ∷ l) later

pub sized_after : (keeps : Keeps) (s : ToldState) (texts : List (List ℕ)) (change : Change) → IsSizedBy s.infos texts → IsSizedBy (changed_summary keeps s change).infos (changed_texts keeps texts change)
sized_after keeps s texts (Append new words) sized =
    map-append size_of (map (cleared_info (length s.words) (length words)) s.infos) (added_infos keeps (length words) (s.last + 1) new)
    ∙ ap (λ l. l ++ map size_of (added_infos keeps (length words) (s.last + 1) new)) (cleared_sizes (length s.words) (length words) s.infos ∙ sized)
    ∙ ap (λ l. map length_of texts ++ l) (added_sizes keeps (length words) (s.last + 1) new)
    ∙ sym (map-append length_of texts (new_texts keeps new))
sized_after keeps s texts (SetFlags changes words) sized =
    changed_sizes (length words) 0 changes (map (cleared_info (length s.words) (length words)) s.infos) ∙ cleared_sizes (length s.words) (length words) s.infos ∙ sized
sized_after keeps s texts (Expunge places) sized = map_undropped size_of 0 places s.infos ∙ ap (undropped 0 places) sized ∙ sym (map_undropped length_of 0 places texts)

-- ---- Texts

pub texts_count : (infos : List Info) (texts : List (List ℕ)) → IsSizedBy infos texts → length texts ≡ length infos
texts_count infos texts sized = sym (length-map texts length_of) ∙ sym (ap (λ l. length l) sized) ∙ length-map infos size_of

pub texts_at : (infos : List Info) (texts : List (List ℕ)) → length texts ≡ length infos → texts_of (records_at infos texts) ≡ texts
texts_at [] [] same = refl
texts_at [] (t ∷ texts) same = absurd (omega (arith, same))
texts_at (i ∷ infos) [] same = absurd (omega (arith, same))
texts_at (i ∷ infos) (t ∷ texts) same = ap (λ l. t ∷ l) (texts_at infos texts (omega (arith, same)))

-- what is stored of a mailbox in the driver's form has its texts
pub stored_texts : (keeps : Keeps) (rs : List Record) → AllByRecursion (λ r. take_record keeps r ≡ r) rs → texts_of (map (stored_record keeps) rs) ≡ texts_of rs
stored_texts keeps [] all = refl
stored_texts keeps (r ∷ rs) all = λ k. stored_text keeps r all.0 k ∷ stored_texts keeps rs all.1 k
