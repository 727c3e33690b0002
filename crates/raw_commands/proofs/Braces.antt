-- The last brace of a line, by its place.
use Rattle.std.proofs.Common.{◌≡◌, ℕ, suc, ◌+◌, ◌<◌, Bool, true, false, ◌==◌, List, [], ◌∷◌, ◌++◌, Some, None, if◌then◌else◌, length, take, drop, slice_index, refl, sym, ◌∙◌, ap, arith, take-append-drop, add-one}
use Rattle.std.proofs.lemmas.List.{get_or-drop}
use Rattle.std.proofs.lemmas.Grind.{common_steps}
use Rattle.std.proofs.lemmas.Bool.Decides.{nat_tests}
use Rattle.std.proofs.Math.Seq.{drop-cons}
use Rattle.memchr.specs.Find.{IsLastByte, is_byte}
use Rattle.raw_commands.specs.Limits.{last_behind, behind_brace}

abbrev NoBrace : List ℕ → Type 0
NoBrace [] = Unit {0}
NoBrace (b ∷ rest) = ((b == 123) ≡ false) × NoBrace rest

not_true : (x : Bool) → (x ≡ true → ⊥) → x ≡ false
not_true true none = absurd (none refl)
not_true false none = refl

nowhere : (bytes : List ℕ) → ((j : ℕ) → j < length bytes → (slice_index bytes j == 123) ≡ true → ⊥) → NoBrace bytes
nowhere [] none = tt
nowhere (b ∷ bytes) none =
    (not_true (b == 123) (none 0 (omega arith)), nowhere bytes (λ j below. none (suc j) (omega arith)))

no_tail : (b : ℕ) (rest : List ℕ) → (b == 123) ≡ false → last_behind b rest None ≡ None
no_tail b rest is = ap (λ x. if x then Some rest else None) is

behind_none : (bytes : List ℕ) → NoBrace bytes → behind_brace bytes ≡ None
behind_none [] none = refl
behind_none (b ∷ bytes) none = ap (last_behind b bytes) (behind_none bytes none.1) ∙ no_tail b bytes none.0

behind_some : (front rest : List ℕ) → behind_brace rest ≡ None → behind_brace (front ++ 123 ∷ rest) ≡ Some rest
behind_some [] rest none = ap (last_behind 123 rest) none
behind_some (b ∷ front) rest none = ap (last_behind b (front ++ 123 ∷ rest)) (behind_some front rest none)

is_number : (n byte : ℕ) → (byte == n) ≡ true → byte ≡ n
is_number n byte is = grind (arith, nat_tests)

parts_at : (bytes : List ℕ) (k : ℕ) → k < length bytes → (slice_index bytes k == 123) ≡ true → bytes ≡ take k bytes ++ 123 ∷ drop (k + 1) bytes
parts_at bytes k within is =
    sym (take-append-drop k bytes) ∙ ap (λ rest. take k bytes ++ rest)
    (drop-cons bytes k 0 within ∙ ap (λ b. b ∷ drop (suc k) bytes) (is_number 123 (slice_index bytes k) is) ∙ ap (λ n. 123 ∷ drop n bytes) (sym (add-one k)))

-- no brace stands in a line
pub brace_nowhere : (bytes : List ℕ) → IsLastByte (is_byte 123) bytes None → behind_brace bytes ≡ None
brace_nowhere bytes none = behind_none bytes (nowhere bytes (λ j below. none j (omega arith) below))

later : (bytes : List ℕ) (k j : ℕ) → j < length (drop (k + 1) bytes) → (k + 1) + j < length bytes
later bytes k j below = grind (arith, common_steps)

-- the last brace of a line stands at a place
pub brace_at : (bytes : List ℕ) (k : ℕ) → IsLastByte (is_byte 123) bytes (Some k) → behind_brace bytes ≡ Some (drop (k + 1) bytes)
brace_at bytes k at =
    let none = nowhere (drop (k + 1) bytes) (λ j below is. at.0.after ((k + 1) + j) (omega arith) (later bytes k j below)
    (ap (λ b. b == 123) (sym (get_or-drop (k + 1) bytes j 0)) ∙ is)) in
    ap behind_brace (parts_at bytes k at.0.high at.1) ∙ behind_some (take k bytes) (drop (k + 1) bytes) (behind_none (drop (k + 1) bytes) none)
