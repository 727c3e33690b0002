-- Parts of a list whose elements are read as others.
use Rattle.std.proofs.Common.{◌≡◌, ◌∙◌, ◌+◌, ◌-◌, ℕ, zero, suc, List, [], ◌∷◌, length, take, drop, map, refl, ap, sym}
use Rattle.std.proofs.lemmas.List.{take-map, take_rest, drop-drop}

module _ {X Y : Type 0} (f : X → Y) where
  pub map-front : (n : ℕ) (xs : List X) → map f (take n xs) ≡ take n (map f xs)
  map-front n xs = sym (take-map f n xs)

  pub map-drop : (n : ℕ) (xs : List X) → map f (drop n xs) ≡ drop n (map f xs)
  map-drop zero xs = refl
  map-drop (suc n) [] = refl
  map-drop (suc n) (x ∷ xs) = map-drop n xs

  -- what stands behind an offset, as the code cuts it
  pub map-rest : (xs : List X) (n : ℕ) → map f (take (length xs - n) (drop n xs)) ≡ drop n (map f xs)
  map-rest xs n = ap (map f) (take_rest xs n) ∙ map-drop n xs

  -- what stands behind the element at an offset
  pub map-behind : (xs : List X) (at : ℕ) → map f (take (length xs - (at + 1)) (drop (at + 1) xs)) ≡ drop 1 (map f (drop at xs))
  map-behind xs at = map-rest xs (at + 1) ∙ sym (drop-drop 1 at (map f xs)) ∙ ap (drop 1) (sym (map-drop at xs))
