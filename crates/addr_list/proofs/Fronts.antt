-- The longest front of a list whose elements pass a test.
use Rattle.std.proofs.Common.{◌≡◌, ◌∙◌, ⊎_elim, ℕ, suc, ◌+◌, Bool, true, false, List, [], ◌∷◌, ◌++◌, length, take, drop, refl, ap, sym, subst, arith}
use Rattle.std.specs.List.{prefix_len, list_all}
use Rattle.std.proofs.lemmas.Bool.{and_parts, and_from, cases_Bool, cond-true, cond-false}

by_one : (n : ℕ) → 1 + n ≡ suc n
by_one n = omega arith

module _ {X : Type 0} (p : X → Bool) where
  -- one that passes, and none
  pub front-yes : (x : X) (xs : List X) → p x ≡ true → prefix_len p (x ∷ xs) ≡ suc (prefix_len p xs)
  front-yes x xs is = cond-true (p x) (1 + prefix_len p xs) 0 is ∙ by_one (prefix_len p xs)

  pub front-no : (x : X) (xs : List X) → p x ≡ false → prefix_len p (x ∷ xs) ≡ 0
  front-no x xs is = cond-false (p x) (1 + prefix_len p xs) 0 is

  -- a list that passes, and what stands behind it
  pub front-append : (xs ys : List X) → list_all p xs ≡ true → prefix_len p (xs ++ ys) ≡ length xs + prefix_len p ys
  front-append [] ys all = let e : prefix_len p ys ≡ 0 + prefix_len p ys = omega arith in e
  front-append (x ∷ xs) ys all =
      let both = and_parts (p x) (list_all p xs) all in
      front-yes x (xs ++ ys) both.0 ∙ ap suc (front-append xs ys both.1) ∙ (let e : suc (length xs + prefix_len p ys) ≡ suc (length xs) + prefix_len p ys = omega arith in e)

  pub front-all : (xs : List X) → list_all p (take (prefix_len p xs) xs) ≡ true
  front-all [] = refl
  front-all (x ∷ xs) =
      let all : ℕ → Type 0 = λ n. list_all p (take n (x ∷ xs)) ≡ true in
      ⊎_elim
      (λ is. subst all (sym (front-yes x xs is)) (and_from (p x) (list_all p (take (prefix_len p xs) xs)) is (front-all xs)))
      (λ is. subst all (sym (front-no x xs is)) refl)
      (cases_Bool (p x))

  pub front-stops : (xs : List X) → prefix_len p (drop (prefix_len p xs) xs) ≡ 0
  front-stops [] = refl
  front-stops (x ∷ xs) =
      let stops : ℕ → Type 0 = λ n. prefix_len p (drop n (x ∷ xs)) ≡ 0 in
      ⊎_elim
      (λ is. subst stops (sym (front-yes x xs is)) (front-stops xs))
      (λ is. subst stops (sym (front-no x xs is)) (front-no x xs is))
      (cases_Bool (p x))
