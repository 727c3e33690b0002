-- The texts of items of a message.
use Rattle.std.proofs.Common.{ℕ, zero, suc, Bool, true, false, List, [], ◌∷◌, ◌++◌, ◌+◌, ◌<◌, ◌≡◌, ◌&&◌, refl, sym, ◌∙◌, ap, append_assoc, drop, take, length, slice_get, Some, arith}
use Rattle.std.proofs.Math.ListN.{get_or}
use Rattle.std.specs.List.{list_all}
use Rattle.std.proofs.lemmas.List.{append-nil}
use Rattle.std.proofs.lemmas.Option.{slice_get_read}
use Rattle.mail_fields.specs.Texts.{written_at}
use Rattle.imap_arguments.specs.declared.item.Item.{Item}
use Rattle.imap_reply.specs.Texts.{behind_spaces, spaced}
use Rattle.imap_session.proofs.Places.{one_more}
use Rattle.imap_session.specs.Items.{LookedAt, IsItem, AreItems}

pub behind_both : (one two : List (List ℕ)) → behind_spaces (one ++ two) ≡ behind_spaces one ++ behind_spaces two
behind_both [] two = refl
behind_both (text ∷ one) two = ap (λ l. 32 ∷ (text ++ l)) (behind_both one two) ∙ ap (λ l. 32 ∷ l) (sym (append_assoc text (behind_spaces one) (behind_spaces two)))

pub spaced_is : (texts : List (List ℕ)) → drop 1 (behind_spaces texts) ≡ spaced texts
spaced_is [] = refl
spaced_is (text ∷ texts) = refl

-- ---- Items, one by one

pub items_more : (items : List Item) (m : LookedAt) (texts : List (List ℕ)) (item : Item) (text : List ℕ) → AreItems items m texts → IsItem item m text → AreItems (items ++ item ∷ []) m (texts ++ text ∷ [])
items_more [] m [] item text are is = (is, tt)
items_more [] m (other ∷ texts) item text are is = absurd are
items_more (x ∷ items) m [] item text are is = absurd are
items_more (x ∷ items) m (other ∷ texts) item text are is = (are.0, items_more items m texts item text are.1 is)

-- what holds of all items holds of the one at a place
pub all_at : {A : Type 0} (test : A → Bool) (items : List A) (i : ℕ) (item : A) → list_all test items ≡ true → i < length items → item ≡ get_or items i item → test item ≡ true
all_at test [] i item all within is = absurd (omega (arith, within))
all_at test (x ∷ items) zero item all within is = ap test is ∙ first_true (test x) (list_all test items) all
  where
    first_true : (a b : Bool) → (a && b) ≡ true → a ≡ true
    first_true true b both = refl
    first_true false b both = both
all_at test (x ∷ items) (suc i) item all within is = all_at test items i item (rest_true (test x) (list_all test items) all) (omega (arith, within)) is
  where
    rest_true : (a b : Bool) → (a && b) ≡ true → b ≡ true
    rest_true true b both = both
    rest_true false b both = absurd (cc)

pub found_at : {A : Type 0} (items : List A) (i : ℕ) (x : A) → i < length items → x ≡ get_or items i x → slice_get items i ≡ Some x
found_at items i x within is = slice_get_read items (length items) i x refl within is

pub taken_more : {A : Type 0} (items : List A) (i : ℕ) (x : A) → i < length items → x ≡ get_or items i x → take (i + 1) items ≡ take i items ++ x ∷ []
taken_more items i x within is = one_more items i x (found_at items i x within is)

-- a date that is written over a buffer of its length
pub date_written : (before text new : List ℕ) → new ≡ written_at before 0 text → length text ≡ 26 → drop 26 before ≡ [] → new ≡ text
unfolding written_at
date_written before text new is long room = is ∙ ap (λ n. text ++ drop (0 + n) before) long ∙ ap (λ l. text ++ l) room ∙ append-nil text
