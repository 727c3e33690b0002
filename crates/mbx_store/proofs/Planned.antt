-- What a plan has on every host.
use Rattle.std.proofs.Common.{◌≡◌, ◌≤◌, ◌+◌, ◌-◌, ◌&&◌, map, ℕ, suc, Bool, true, false, cond, nat_lt, List, [], ◌∷◌, ◌++◌, length, length-append, Some, refl, sym, ap, ◌∙◌, subst, arith}
use Rattle.std.specs.List.{AllByRecursion}
use Rattle.std.proofs.lemmas.List.{length-drop}
use Rattle.mail_types.specs.declared.driver.Driver.TheVariants.{Mbx}
use Rattle.mail_types.specs.declared.driver.Keeps.{Keeps}
use Rattle.mail_types.specs.declared.message.NewMessage.{NewMessage}
use Rattle.mail_types.specs.Drivers.{keeps_of}
use Rattle.mail_types.specs.Flags.{has_bit}
use Rattle.mail_types.specs.Limits.{file_limit}
use Rattle.store_trait.specs.declared.change.Change.{Change}
use Rattle.store_trait.specs.declared.change.Change.TheVariants.{Append, SetFlags, Expunge}
use Rattle.store_trait.specs.declared.store.Info.{Info}
use Rattle.store_index.specs.States.{ToldState}
use Rattle.store_index.specs.Told.{cleared_info, added_infos, changed_summary}
use Rattle.mbx_form.specs.Form.{is_append}
use Rattle.mbx_store.specs.declared.place.MbxPlace.{MbxPlace}
use Rattle.mbx_store.specs.declared.plan.Piece.{Piece}
use Rattle.mbx_store.specs.declared.plan.Plan.{Plan}
use Rattle.mbx_store.specs.Bytes.{SpanEndsBy, places_in}
use Rattle.mbx_store.specs.Places.{EndsBy, IsNear}
use Rattle.mbx_store.specs.Plans.{kept_piece, message_piece, message_over, end_of, as_list, end_after, behind, next_piece, left_pieces, added_pieces, new_place, HasRoom, old_infos, new_infos, left_places, unmarked_places, added_by, planned_long, chosen_places, IsPlan}
use Rattle.mbx_store.proofs.Leaving.{left_have, unmarked_have}

-- ---- Where records stand

all_places : (qs : List Piece) → AllByRecursion HasRoom qs → AllByRecursion IsNear (places_in qs)
all_places [] all = tt
all_places (q ∷ qs) all = (omega (arith, all.0), all_places qs all.1)

join_all : {A : Type 0} (P : A → Type 0) (xs ys : List A) → AllByRecursion P xs → AllByRecursion P ys → AllByRecursion P (xs ++ ys)
join_all P [] ys one two = two
join_all P (x ∷ xs) ys one two = (one.0, join_all P xs ys one.1 two)

pub places_near : (names : ℕ) (olds places : List MbxPlace) (infos : List Info) (new : List NewMessage) (p : Plan) → IsPlan names olds infos new p → places ≡ places_in p.left.items ++ places_in p.added.items → AllByRecursion IsNear places
places_near names olds places infos new p is made =
    subst (AllByRecursion IsNear) (sym made) (join_all IsNear (places_in p.left.items) (places_in p.added.items) (all_places p.left.items is.left_room) (all_places p.added.items is.added_room))

-- ---- What is taken from the file before

spans_end : (most names at : ℕ) (olds : List MbxPlace) (infos : List Info) → AllByRecursion (EndsBy most) olds → AllByRecursion (SpanEndsBy most) (left_pieces names at olds infos)
spans_end most names at [] infos all = tt
spans_end most names at (old ∷ olds) infos all =
    join_all (SpanEndsBy most) (as_list (next_piece at names old infos)) (left_pieces names (end_after at (next_piece at names old infos)) olds (behind old infos)) (step (has_bit 32768 old.bits) infos)
    (spans_end most names (end_after at (next_piece at names old infos)) olds (behind old infos) all.1)
  where
    step : (b : Bool) (infos : List Info) → AllByRecursion (SpanEndsBy most) (as_list (cond b (Some (kept_piece at old)) (message_over at names old infos)))
    step true infos = (omega (arith, all.0), tt)
    step false [] = tt
    step false (i ∷ infos) = (omega (arith, all.0), tt)

pub chosen_have : (P : MbxPlace → Type 0) (names : ℕ) (change : Change) (olds : List MbxPlace) (infos : List Info) → AllByRecursion P olds → AllByRecursion P (chosen_places names change olds infos)
chosen_have P names change olds infos all = step (is_append change && nat_lt file_limit (planned_long names olds infos (added_by change)))
  where
    step : (b : Bool) → AllByRecursion P (cond b (unmarked_places olds) olds)
    step true = unmarked_have P olds all
    step false = all

pub plan_spans : (most names : ℕ) (change : Change) (places : List MbxPlace) (infos : List Info) (p : Plan) → AllByRecursion (EndsBy most) places
    → IsPlan names (chosen_places names change (left_places change places) infos) infos (added_by change) p → AllByRecursion (SpanEndsBy most) p.left.items
plan_spans most names change places infos p all is =
    subst (AllByRecursion (SpanEndsBy most)) (sym is.left_is)
    (spans_end most names 2048 (chosen_places names change (left_places change places) infos) (old_infos infos (added_by change)) (chosen_have (EndsBy most) names change (left_places change places) infos (left_have (EndsBy most) change places all)))

-- ---- How many messages are new

added_count : (names at : ℕ) (infos : List Info) (new : List NewMessage) → length infos ≡ length new → length (added_pieces names at infos new) ≡ length new
added_count names at [] [] same = refl
added_count names at [] (n ∷ new) same = absurd (omega (arith, same))
added_count names at (i ∷ infos) [] same = absurd (omega (arith, same))
added_count names at (i ∷ infos) (n ∷ new) same = ap suc (added_count names (end_of (message_piece at names (new_place n) i)) infos new (omega (arith, same)))

infos_added : (keeps : Keeps) (names next : ℕ) (new : List NewMessage) → length (added_infos keeps names next new) ≡ length new
infos_added keeps names next [] = refl
infos_added keeps names next (n ∷ new) = ap suc (infos_added keeps names (next + 1) new)

pub new_count : (told next : ToldState) (change : Change) → next ≡ changed_summary (keeps_of Mbx) told change → length (added_by change) ≤ length next.infos
new_count told next (Append new words) is =
    omega (arith, ap (λ (s : ToldState). length s.infos) is, length-append (map (cleared_info (length told.words) (length words)) told.infos) (added_infos (keeps_of Mbx) (length words) (told.last + 1) new), infos_added (keeps_of Mbx) (length words) (told.last + 1) new)
new_count told next (SetFlags changes words) is = omega arith
new_count told next (Expunge places) is = omega arith

pub plan_count : (told next : ToldState) (names : ℕ) (change : Change) (olds : List MbxPlace) (p : Plan) → next ≡ changed_summary (keeps_of Mbx) told change → IsPlan names olds next.infos (added_by change) p → length p.added.items ≡ length (added_by change)
plan_count told next names change olds p next_is is =
    ap (λ (l : List Piece). length l) is.added_is
    ∙ added_count names _ (new_infos next.infos (added_by change)) (added_by change) (omega (arith, new_count told next change next_is, length-drop (length next.infos - length (added_by change)) next.infos))
