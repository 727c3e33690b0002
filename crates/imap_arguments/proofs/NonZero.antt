-- Lists whose elements pass a test, cut and put together.
use Rattle.std.proofs.Common.{◌≡◌, ◌==◌, ℕ, zero, suc, Bool, true, false, not, List, [], ◌∷◌, ◌++◌, flat_map, take, drop, refl, sym, ◌∙◌}
use Rattle.std.proofs.lemmas.Bool.{and_parts, and_from, or_parts, not_from_false}
use Rattle.std.proofs.lemmas.List.Folds.{list_all-append}
use Rattle.std.specs.List.{list_all, list_any}
use Rattle.imap_arguments.specs.Laws.{nonzero}

pub all_both : {A : Type 0} (p : A → Bool) (xs ys : List A) → list_all p xs ≡ true → list_all p ys ≡ true → list_all p (xs ++ ys) ≡ true
all_both p [] ys one other = other
all_both p (x ∷ xs) ys one other =
    let both = and_parts (p x) (list_all p xs) one in
    and_from (p x) (list_all p (xs ++ ys)) both.0 (all_both p xs ys both.1 other)

pub all_push : {A : Type 0} (p : A → Bool) (xs : List A) (x : A) → list_all p xs ≡ true → p x ≡ true → list_all p (xs ++ x ∷ []) ≡ true
all_push p xs x one other = all_both p xs (x ∷ []) one (and_from (p x) true other refl)

pub all_taken : {A : Type 0} (p : A → Bool) (n : ℕ) (xs : List A) → list_all p xs ≡ true → list_all p (take n xs) ≡ true
all_taken p zero xs all = refl
all_taken p (suc n) [] all = refl
all_taken p (suc n) (x ∷ xs) all =
    let both = and_parts (p x) (list_all p xs) all in
    and_from (p x) (list_all p (take n xs)) both.0 (all_taken p n xs both.1)

pub all_behind : {A : Type 0} (p : A → Bool) (n : ℕ) (xs : List A) → list_all p xs ≡ true → list_all p (drop n xs) ≡ true
all_behind p zero xs all = all
all_behind p (suc n) [] all = refl
all_behind p (suc n) (x ∷ xs) all = all_behind p n xs (and_parts (p x) (list_all p xs) all).1

pub all_flat_push : {A B : Type 0} (p : B → Bool) (f : A → List B) (xs : List A) (x : A) → list_all p (flat_map f xs) ≡ true → list_all p (f x) ≡ true
    → list_all p (flat_map f (xs ++ x ∷ [])) ≡ true
all_flat_push p f [] x one other = all_both p (f x) [] other refl
all_flat_push p f (first ∷ xs) x one other =
    let both = and_parts (list_all p (f first)) (list_all p (flat_map f xs)) (sym (list_all-append p (f first) (flat_map f xs)) ∙ one) in
    all_both p (f first) (flat_map f (xs ++ x ∷ [])) both.0 (all_flat_push p f xs x both.1 other)

-- where no byte is found that is 0
pub nonzero_from : (bytes : List ℕ) → list_any (λ b. b == 0) bytes ≡ false → nonzero bytes ≡ true
nonzero_from [] none = refl
nonzero_from (b ∷ bytes) none =
    let both = or_parts (b == 0) (list_any (λ b. b == 0) bytes) none in
    and_from (not (b == 0)) (nonzero bytes) (not_from_false (b == 0) both.0) (nonzero_from bytes both.1)

pub all_nonzero_from : (texts : List (List ℕ)) → list_any (λ text. list_any (λ b. b == 0) text) texts ≡ false → list_all nonzero texts ≡ true
all_nonzero_from [] none = refl
all_nonzero_from (text ∷ texts) none =
    let both = or_parts (list_any (λ b. b == 0) text) (list_any (λ text. list_any (λ b. b == 0) text) texts) none in
    and_from (nonzero text) (list_all nonzero texts) (nonzero_from text both.0) (all_nonzero_from texts both.1)
