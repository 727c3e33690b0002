-- A longest run passes its test.
use Rattle.std.proofs.Common.{ℕ, suc, ◌+◌, Bool, true, false, List, [], ◌∷◌, ◌≡◌, ◌&&◌, cond, arith, refl, ◌∙◌, ap, take}
use Rattle.std.specs.List.{prefix_len, list_all}

front_if : (p : ℕ → Bool) (b : ℕ) (bytes : List ℕ) (x : Bool) (n : ℕ) → p b ≡ x → list_all p (take n bytes) ≡ true → list_all p (take (cond x (1 + n) 0) (b ∷ bytes)) ≡ true
front_if p b bytes true n is below =
    let one : 1 + n ≡ suc n = omega arith in
    ap (λ k. list_all p (take k (b ∷ bytes))) one ∙ ap (λ y. y && list_all p (take n bytes)) is ∙ below
front_if p b bytes false n is below = refl

pub all_in_front : (p : ℕ → Bool) (bytes : List ℕ) → list_all p (take (prefix_len p bytes) bytes) ≡ true
all_in_front p [] = refl
all_in_front p (b ∷ bytes) = front_if p b bytes (p b) (prefix_len p bytes) refl (all_in_front p bytes)
