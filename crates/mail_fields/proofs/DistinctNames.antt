-- Names of which no two are the same: one name more, and the first of them.
use Rattle.std.proofs.Common.{◌≡◌, ℕ, Bool, true, false, not, List, [], ◌∷◌, ◌++◌, refl, ap, sym, ◌∙◌, ◌&&◌, ◌||◌}
use Rattle.std.specs.List.{list_any}
use Rattle.std.specs.Cmp.Derive.{both_true}
use Rattle.std.proofs.lemmas.Bool.{and_parts}
use Rattle.std.proofs.lemmas.List.Folds.{list_any-append}
use Rattle.mail_fields.specs.Keyword.{same_keyword}
use Rattle.mail_fields.specs.Names.{are_distinct}

shuffled : (a b c d : Bool) → (not (a || (b || false)) && (c && not d)) ≡ ((not a && c) && not (b || d))
shuffled true b c d = refl
shuffled false true true d = refl
shuffled false true false d = refl
shuffled false false true d = refl
shuffled false false false d = refl

-- one name more
pub distinct-more : (names : List (List ℕ)) (name : List ℕ) → are_distinct (names ++ name ∷ []) ≡ (are_distinct names && not (list_any (λ each. same_keyword each name) names))
distinct-more [] name = refl
distinct-more (first ∷ names) name =
    ap (λ taken. not taken && are_distinct (names ++ name ∷ [])) (list_any-append (same_keyword first) names (name ∷ []))
    ∙ ap (λ later. not (list_any (same_keyword first) names || (same_keyword first name || false)) && later) (distinct-more names name)
    ∙ shuffled (list_any (same_keyword first) names) (same_keyword first name) (are_distinct names) (list_any (λ each. same_keyword each name) names)

-- the first of such names are such names
pub distinct-front : (names more : List (List ℕ)) → are_distinct (names ++ more) ≡ true → are_distinct names ≡ true
distinct-front [] more is = refl
distinct-front (first ∷ names) more is =
    let parts = and_parts (not (list_any (same_keyword first) (names ++ more))) (are_distinct (names ++ more)) is in
    both_true (not-front (list_any (same_keyword first) names) (list_any (same_keyword first) more)
    (ap not (sym (list_any-append (same_keyword first) names more)) ∙ parts.0)) (distinct-front names more parts.1)
  where
    not-front : (one other : Bool) → not (one || other) ≡ true → not one ≡ true
    not-front true other is = is
    not-front false other is = refl
