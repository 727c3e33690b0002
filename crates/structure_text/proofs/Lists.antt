-- Lists of values as they are written.
use Rattle.std.proofs.Common.{◌≡◌, ◌∙◌, ℕ, List, [], ◌∷◌, ◌++◌, codes, ap, sym}
use Rattle.std.proofs.lemmas.List.{append_assoc, append-nil}
use Rattle.std.proofs.lemmas.Grind.{flat_map-append}
use Rattle.structure_text.specs.Strings.{after_spaces, listed}

-- values behind others
pub spaces_append : (xs ys : List (List ℕ)) → after_spaces (xs ++ ys) ≡ after_spaces xs ++ after_spaces ys
spaces_append xs ys = flat_map-append (λ value. 32 ∷ value) xs ys

-- a list of values in two parts
pub listed_front : (value : List ℕ) (fields more : List (List ℕ)) → listed (value ∷ fields ++ more) ≡ (codes "(" ++ (value ++ after_spaces fields)) ++ (after_spaces more ++ codes ")")
listed_front value fields more = rw (spaces_append fields more) (simp append_assoc)

-- four values behind others
pub four_values : (out a b c d : List ℕ) → ((((out ++ 40 ∷ []) ++ a) ++ 32 ∷ b) ++ 32 ∷ c) ++ 32 ∷ d ≡ out ++ 40 ∷ a ++ after_spaces (b ∷ c ∷ d ∷ [])
four_values out a b c d = simp (append_assoc, append-nil)

-- the values of an envelope behind others
regroup : (o p a b s r i q : List ℕ) → ((((o ++ (p ++ (a ++ b))) ++ s) ++ r) ++ i) ++ q ≡ o ++ (p ++ (a ++ ((b ++ (s ++ (r ++ i))) ++ q)))
regroup o p a b s r i q = simp append_assoc

pub envelope_values : (out a b : List ℕ) (senders receivers identifiers : List (List ℕ))
    → ((((out ++ 40 ∷ (a ++ 32 ∷ b)) ++ after_spaces senders) ++ after_spaces receivers) ++ after_spaces identifiers) ++ 41 ∷ [] ≡ out ++ listed (a ∷ b ∷ senders ++ (receivers ++ identifiers))
envelope_values out a b senders receivers identifiers =
    regroup out (40 ∷ []) a (32 ∷ b) (after_spaces senders) (after_spaces receivers) (after_spaces identifiers) (41 ∷ [])
    ∙ ap (λ x. out ++ 40 ∷ (a ++ ((32 ∷ (b ++ x)) ++ 41 ∷ []))) (sym (spaces_append senders (receivers ++ identifiers) ∙ ap (λ x. after_spaces senders ++ x) (spaces_append receivers identifiers)))

-- the first values of a list behind others
pub front_values : (out value : List ℕ) (fields more : List (List ℕ)) → (out ++ (codes "(" ++ (value ++ after_spaces fields))) ++ after_spaces more ≡ out ++ (codes "(" ++ (value ++ after_spaces (fields ++ more)))
front_values out value fields more = simp append_assoc (ap (λ x. out ++ 40 ∷ (value ++ x)) (sym (spaces_append fields more)))
