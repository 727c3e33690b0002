-- The bytes of lines, one after the other.
use Rattle.std.proofs.Common.{ℕ, List, [], ◌∷◌, ◌++◌, ◌≡◌, ◌≢◌, ◌<◌, refl, sym, ◌∙◌, ap, subst, append_assoc, length, length-append, arith}
use Rattle.std.proofs.lemmas.List.{append-nil}
use Rattle.file_model.specs.Arrived.{Begins}
use Rattle.session_loop.specs.Machine.{Protocol}
use Rattle.session_loop.specs.Saying.{AllSaid, FirstSaid}
use Rattle.session_loop.proofs.Machine.{begins_refl, begins_trans, begins_behind, begins_none, nothing_before}

pub all_append : {L : Type 0} (says : L → List ℕ → Type 0) (xs ys : List L) (a b : List ℕ) → AllSaid says xs a → AllSaid says ys b → AllSaid says (xs ++ ys) (a ++ b)
all_append says [] ys a b one two = subst (λ l. AllSaid says ys (l ++ b)) (sym one) two
all_append says (x ∷ xs) ys a b one two =
    (one.0, one.1 ++ b, one.2, all_append says xs ys one.1 b one.3 two, ap (λ l. l ++ b) one.4 ∙ append_assoc one.0 one.1 b)

-- one line alone
pub all_one : {L : Type 0} (says : L → List ℕ → Type 0) (line : L) (bytes : List ℕ) → says line bytes → AllSaid says (line ∷ []) bytes
all_one says line bytes is = (bytes, [], is, refl, sym (append-nil bytes))

pub first_all : {L : Type 0} (says : L → List ℕ → Type 0) (lines : List L) (bytes : List ℕ) → AllSaid says lines bytes → FirstSaid says lines bytes
first_all says lines bytes are = record { first = lines; are_first = begins_refl lines; whole = bytes; is_whole = are; is_part = begins_refl bytes }

-- the bytes of a part
pub first_part : {L : Type 0} (says : L → List ℕ → Type 0) (lines : List L) (part bytes : List ℕ) → AllSaid says lines bytes → Begins part bytes → FirstSaid says lines part
first_part says lines part bytes are begins = record { first = lines; are_first = begins_refl lines; whole = bytes; is_whole = are; is_part = begins }

pub first_none : {L : Type 0} (says : L → List ℕ → Type 0) (lines : List L) → FirstSaid says lines []
first_none says lines = record { first = []; are_first = begins_none lines; whole = []; is_whole = refl; is_part = begins_refl [] }

-- more lines, of which none is said
pub first_more : {L : Type 0} (says : L → List ℕ → Type 0) (xs ys : List L) (bytes : List ℕ) → Begins xs ys → FirstSaid says xs bytes → FirstSaid says ys bytes
first_more says xs ys bytes begins is = record { first = is.first; are_first = begins_trans is.are_first begins; whole = is.whole; is_whole = is.is_whole; is_part = is.is_part }

-- behind lines that were said
pub first_append : {L : Type 0} (says : L → List ℕ → Type 0) (xs ys : List L) (a b : List ℕ) → AllSaid says xs a → FirstSaid says ys b → FirstSaid says (xs ++ ys) (a ++ b)
first_append says xs ys a b one two = record {
  first = xs ++ two.first;
  are_first = begins_behind xs two.are_first;
  whole = a ++ two.whole;
  is_whole = all_append says xs two.first a two.whole one two.is_whole;
  is_part = begins_behind a two.is_part;
}

-- of no lines nothing is said
pub nothing_said : {L : Type 0} (says : L → List ℕ → Type 0) (part : List ℕ) → FirstSaid says [] part → part ≡ []
nothing_said says part is =
    let none = nothing_before is.first is.are_first in
    let all : AllSaid says [] is.whole = subst (λ lines. AllSaid says lines is.whole) none is.is_whole in
    nothing_before part (subst (Begins part) all is.is_part)

some_length : {A : Type 0} (xs : List A) → xs ≢ [] → 0 < length xs
some_length [] some = absurd (some refl)
some_length (x ∷ xs) some = omega arith

-- more lines are longer
pub all_longer : {L : Type 0} (says : L → List ℕ → Type 0) (xs ys : List L) (a b : List ℕ)
    → ((line : L) (bytes : List ℕ) → says line bytes → bytes ≢ [])
    → ((line : L) (bytes other : List ℕ) → says line bytes → says line other → bytes ≡ other)
    → ys ≢ [] → AllSaid says xs a → AllSaid says (xs ++ ys) b → length a < length b
all_longer says [] [] a b some one more is longer = absurd (more refl)
all_longer says [] (y ∷ ys) a b some one more is longer =
    let front = some_length longer.0 (some y longer.0 longer.2) in
    let e = length-append longer.0 longer.1 in
    rw (is, longer.4) (omega (arith, front, e))
all_longer says (x ∷ xs) ys a b some one more is longer =
    let same = ap length (one x is.0 longer.0 is.2 longer.2) in
    let below = all_longer says xs ys is.1 longer.1 some one more is.3 longer.3 in
    let e = length-append is.0 is.1 in
    let f = length-append longer.0 longer.1 in
    rw (is.4, longer.4) (omega (arith, same, below, e, f))
