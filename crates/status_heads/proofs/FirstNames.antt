-- The first names of a value: at most 30, and no two the same.
use Rattle.std.proofs.Common.{◌≡◌, ℕ, ◌≤◌, ⊎_elim, true, not, List, [], ◌∷◌, ◌++◌, length, length-append, cond, refl, ap, sym, ◌∙◌, subst, arith, ◌&&◌, nat_lt}
use Rattle.std.specs.List.{list_any}
use Rattle.std.proofs.lemmas.Bool.{cases_Bool, and_parts}
use Rattle.std.proofs.lemmas.Bool.Decides.{nat_tests}
use Rattle.mail_fields.specs.Keyword.{same_keyword, is_keyword}
use Rattle.mail_fields.specs.Names.{are_distinct}
use Rattle.mail_fields.proofs.DistinctNames.{distinct-more}
use Rattle.status_heads.specs.Names.{is_new, words_of, with_names}

-- names that a mailbox may have
abbrev May : List (List ℕ) → Type 0
May names = (length names ≤ 30) × (are_distinct names ≡ true)

may-more : (names : List (List ℕ)) (name : List ℕ) → May names → is_new names name ≡ true → May (names ++ name ∷ [])
may-more names name may new =
    let parts = and_parts (nat_lt (length names) 30) _ new in
    let other = (and_parts (is_keyword name) _ parts.1).1 in (
      grind (arith, nat_tests, length-append names (name ∷ []), parts.0),
      distinct-more names name ∙ ap (λ test. test && not (list_any (λ each. same_keyword each name) names)) may.1 ∙ other,
    )

with-may : (names words : List (List ℕ)) → May names → May (with_names names words)
with-may names [] may = may
with-may names (word ∷ words) may = ⊎_elim
    (λ new. subst (λ test. May (with_names (cond test (names ++ word ∷ []) names) words)) (sym new) (with-may (names ++ word ∷ []) words (may-more names word may new)))
    (λ old. subst (λ test. May (with_names (cond test (names ++ word ∷ []) names) words)) (sym old) (with-may names words may))
    (cases_Bool (is_new names word))

pub with_names_may : (names words : List (List ℕ)) → length names ≤ 30 → are_distinct names ≡ true → (length (with_names names words) ≤ 30) × (are_distinct (with_names names words) ≡ true)
with_names_may names words few distinct = with-may names words (few, distinct)

-- the names that stand when no word is left
pub first-may : (value rest : List ℕ) (names : List (List ℕ)) → with_names names (words_of rest) ≡ with_names [] (words_of value) → words_of rest ≡ [] → May names
first-may value rest names same none =
    subst May (sym (ap (with_names names) (sym none) ∙ same)) (with-may [] (words_of value) (omega arith, refl))
