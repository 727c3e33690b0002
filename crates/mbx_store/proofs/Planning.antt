-- Plans as the code makes them.
use Rattle.std.proofs.Common.{◌≡◌, ◌≤◌, ◌<◌, ◌+◌, ◌*◌, ◌/◌, ◌%◌, ◌^◌, ℕ, List, [], ◌∷◌, ◌++◌, length, drop, get_or, Option, Some, None, refl, sym, ap, ◌∙◌, subst, arith, append_assoc}
use Rattle.std.specs.List.{AllByRecursion}
use Rattle.std.specs.Prelude.{IfSome}
use Rattle.std.proofs.lemmas.List.{drop_more}
use Rattle.std.proofs.lemmas.Nat.{mod_below}
use Rattle.std.proofs.Math.Nat.{one-le-pow}
use Rattle.mail_types.specs.declared.message.NewMessage.{NewMessage}
use Rattle.store_trait.specs.declared.store.Info.{Info}
use Rattle.mbx_form.proofs.Messages.{small_words}
use Rattle.mbx_store.specs.declared.place.MbxPlace.{MbxPlace}
use Rattle.mbx_store.specs.declared.plan.Piece.{Piece}
use Rattle.mbx_store.specs.Places.{IsNear}
use Rattle.mbx_store.specs.Plans.{head_width, kept_piece, message_piece, next_piece, behind, end_of, as_list, end_after, left_pieces, end_from, added_pieces, new_place}

-- ---- One record

pub words_fit : (names words old : ℕ) → names ≤ 30 → old < 4294967296 → words % 2 ^ names + 2 ^ names * (old / 2 ^ names) < 4294967296
words_fit names words old few fits = small_words names (words % 2 ^ names) old (omega (arith, few)) (mod_below words (2 ^ names) (one-le-pow names 2 (omega arith))) fits

pub kept_room : (at : ℕ) (old : MbxPlace) → at ≤ 2 ^ 62 → IsNear old → end_of (kept_piece at old) ≤ 2 ^ 63 + 2 ^ 62 + 91
kept_room at old short near = omega (arith, short, near)

pub message_room : (at names width : ℕ) (old : MbxPlace) (i : Info) → IsNear old → width ≡ head_width old.size → width ≤ 91 → at ≤ 2 ^ 62 → end_of (message_piece at names old i) ≤ 2 ^ 63 + 2 ^ 62 + 91
message_room at names width old i near is wide short = omega (arith, short, near, is, wide)

-- ---- Lists

pub pieces_more : (P : Piece → Type 0) (qs : List Piece) (o : Option Piece) → AllByRecursion P qs → IfSome o P → AllByRecursion P (qs ++ as_list o)
pieces_more P [] None all one = tt
pieces_more P [] (Some q) all one = (one, tt)
pieces_more P (x ∷ qs) o all one = (all.0, pieces_more P qs o all.1 one)

pub end_more : (at : ℕ) (qs : List Piece) (o : Option Piece) → end_from at (qs ++ as_list o) ≡ end_after (end_from at qs) o
end_more at [] None = refl
end_more at [] (Some q) = refl
end_more at (x ∷ qs) o = end_more (end_of x) qs o

pub left_more : (names : ℕ) (all now new : List Piece) (olds : List MbxPlace) (i at end : ℕ) (other : MbxPlace) (rest : List Info) → i < length olds
    → new ≡ now ++ as_list (next_piece at names (get_or olds i other) rest) → end ≡ end_after at (next_piece at names (get_or olds i other) rest)
    → now ++ left_pieces names at (drop i olds) rest ≡ all → new ++ left_pieces names end (drop (i + 1) olds) (behind (get_or olds i other) rest) ≡ all
left_more names all now new olds i at end other rest below made ends before =
    let o = next_piece at names (get_or olds i other) rest in
    let later = left_pieces names (end_after at o) (drop (i + 1) olds) (behind (get_or olds i other) rest) in
    ap (λ n. new ++ left_pieces names n (drop (i + 1) olds) (behind (get_or olds i other) rest)) ends
    ∙ ap (λ l. l ++ later) made ∙ append_assoc now (as_list o) later
    ∙ sym (ap (λ l. now ++ left_pieces names at l rest) (drop_more olds i other below)) ∙ before

pub added_more : (names : ℕ) (all now new : List Piece) (infos : List Info) (news : List NewMessage) (i at end : ℕ) (other : Info) (other_new : NewMessage) → i < length infos → i < length news
    → new ≡ now ++ message_piece at names (new_place (get_or news i other_new)) (get_or infos i other) ∷ [] → end ≡ end_of (message_piece at names (new_place (get_or news i other_new)) (get_or infos i other))
    → now ++ added_pieces names at (drop i infos) (drop i news) ≡ all → new ++ added_pieces names end (drop (i + 1) infos) (drop (i + 1) news) ≡ all
added_more names all now new infos news i at end other other_new below within made ends before =
    let q = message_piece at names (new_place (get_or news i other_new)) (get_or infos i other) in
    let later = added_pieces names (end_of q) (drop (i + 1) infos) (drop (i + 1) news) in
    ap (λ n. new ++ added_pieces names n (drop (i + 1) infos) (drop (i + 1) news)) ends
    ∙ ap (λ l. l ++ later) made ∙ append_assoc now (q ∷ []) later
    ∙ sym (ap (λ l. now ++ added_pieces names at l (drop i news)) (drop_more infos i other below) ∙ ap (λ l. now ++ added_pieces names at (get_or infos i other ∷ drop (i + 1) infos) l) (drop_more news i other_new within)) ∙ before

pub pieces_made : (P : Piece → Type 0) (qs : List Piece) (o : Option Piece) (made : List Piece) → made ≡ qs ++ as_list o → AllByRecursion P qs → IfSome o P → AllByRecursion P made
pieces_made P qs o made is all one = subst (AllByRecursion P) (sym is) (pieces_more P qs o all one)

pub end_made : (start : ℕ) (qs : List Piece) (o : Option Piece) (made : List Piece) (at end : ℕ) → made ≡ qs ++ as_list o → at ≡ end_from start qs → end ≡ end_after at o → end ≡ end_from start made
end_made start qs o made at end is before ends = ends ∙ ap (λ n. end_after n o) before ∙ sym (end_more start qs o) ∙ ap (end_from start) (sym is)

pub left_made : (names : ℕ) (all now made : List Piece) (olds : List MbxPlace) (i at end : ℕ) (other : MbxPlace) (o : Option Piece) (rest behind_rest : List Info) → i < length olds → o ≡ next_piece at names (get_or olds i other) rest → made ≡ now ++ as_list o → end ≡ end_after at o
    → behind_rest ≡ behind (get_or olds i other) rest → now ++ left_pieces names at (drop i olds) rest ≡ all → made ++ left_pieces names end (drop (i + 1) olds) behind_rest ≡ all
left_made names all now made olds i at end other o rest behind_rest below is more ends behind_is before =
    ap (λ r. made ++ left_pieces names end (drop (i + 1) olds) r) behind_is
    ∙ left_more names all now made olds i at end other rest below (more ∙ ap (λ p. now ++ as_list p) is) (ends ∙ ap (end_after at) is) before

pub added_made : (names : ℕ) (all now made : List Piece) (infos : List Info) (news : List NewMessage) (i at end : ℕ) (other : Info) (other_new : NewMessage) (q : Piece) (p : MbxPlace) → length infos ≡ length news → i < length news
    → p ≡ new_place (get_or news i other_new) → q ≡ message_piece at names p (get_or infos i other) → made ≡ now ++ q ∷ [] → end ≡ end_of q
    → now ++ added_pieces names at (drop i infos) (drop i news) ≡ all → made ++ added_pieces names end (drop (i + 1) infos) (drop (i + 1) news) ≡ all
added_made names all now made infos news i at end other other_new q p count below place is more ends before =
    let same : q ≡ message_piece at names (new_place (get_or news i other_new)) (get_or infos i other) = is ∙ ap (λ o. message_piece at names o (get_or infos i other)) place in
    added_more names all now made infos news i at end other other_new (omega (arith, below, count)) below (more ∙ ap (λ x. now ++ x ∷ []) same) (ends ∙ ap end_of same) before
