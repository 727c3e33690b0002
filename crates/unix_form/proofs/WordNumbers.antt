-- The keywords of a message by name and by number.
use Rattle.std.proofs.Common.{◌≡◌, ◌<◌, ◌+◌, ◌*◌, ◌/◌, ◌%◌, ◌^◌, ◌&&◌, ◌||◌, ℕ, suc, Bool, true, false, not, cond, nat_lt, List, [], ◌∷◌, ◌++◌, length, map, ⊎_elim, append_assoc, refl, ap, sym, ◌∙◌, arith}
use Rattle.std.specs.List.{list_all, list_any}
use Rattle.std.specs.Cmp.Derive.{both_true}
use Rattle.std.proofs.lemmas.Bool.{cases_Bool, and_parts, not-true, false≢true}
use Rattle.std.proofs.lemmas.List.Folds.{list_any-append}
use Rattle.std.proofs.lemmas.Slice.Eq.{bytes_eq-Decides}
use Rattle.std.proofs.lemmas.Nat.{pow-add}
use Rattle.mail_fields.specs.Keyword.{is_keyword, same_keyword, lower}
use Rattle.mail_fields.specs.Names.{are_distinct}
use Rattle.mail_types.specs.Flags.{has_bit}
use Rattle.text_forms.proofs.ReservedFields.{or_parts}
use Rattle.status_heads.specs.Names.{is_new, with_names}
use Rattle.status_heads.specs.Numbered.{number_of_bits, marks_of, word_bits}
use Rattle.status_heads.proofs.Marks.{same-self, others}
use Rattle.unix_form.specs.Form.{names_by}

-- what all names pass, those of some numbers pass
pub all_by : (test : List ℕ → Bool) (words : ℕ) (names : List (List ℕ)) → list_all test names ≡ true → list_all test (names_by words names) ≡ true
all_by test words [] all = refl
all_by test words (name ∷ names) all =
    let parts = and_parts (test name) (list_all test names) all in
    let later = all_by test (words / 2) names parts.1 in
    elim (has_bit 1 words) as (λ bit. list_all test (cond bit (name ∷ names_by (words / 2) names) (names_by (words / 2) names)) ≡ true) [
      | true ↦ both_true parts.0 later
      | false ↦ later
    ]

none_by : (test : List ℕ → Bool) (words : ℕ) (names : List (List ℕ)) → list_any test names ≡ false → list_any test (names_by words names) ≡ false
none_by test words [] none = refl
none_by test words (name ∷ names) none =
    let parts = or_parts (test name) (list_any test names) none in
    let later = none_by test (words / 2) names parts.1 in
    let both = ap (λ t. t || list_any test (names_by (words / 2) names)) parts.0 ∙ later in
    elim (has_bit 1 words) as (λ bit. list_any test (cond bit (name ∷ names_by (words / 2) names) (names_by (words / 2) names)) ≡ false) [
      | true ↦ both
      | false ↦ later
    ]

-- ---- They add no name

abbrev is_known : List (List ℕ) → List ℕ → Bool
is_known names word = list_any (λ each. same_keyword each word) names

or_true : (a : Bool) → (a || true) ≡ true
or_true true = refl
or_true false = refl

all_known : (front names : List (List ℕ)) → list_all (is_known (front ++ names)) names ≡ true
all_known front [] = refl
all_known front (name ∷ names) =
    let here : is_known (front ++ name ∷ names) name ≡ true =
    list_any-append (λ each. same_keyword each name) front (name ∷ names) ∙ ap (λ t. is_known front name || (t || is_known names name)) (same-self name) ∙ or_true (is_known front name) in
    both_true here (ap (λ all. list_all (is_known all) names) (sym (append_assoc front (name ∷ []) names)) ∙ all_known (front ++ name ∷ []) names)

known_stay : (names words : List (List ℕ)) → list_all (is_known names) words ≡ true → with_names names words ≡ names
known_stay names [] all = refl
known_stay names (word ∷ words) all =
    let parts = and_parts (is_known names word) (list_all (is_known names) words) all in
    let old : is_new names word ≡ false = ap (λ t. nat_lt (length names) 30 && (is_keyword word && not t)) parts.0 ∙ none (nat_lt (length names) 30) (is_keyword word) in
    ap (λ t. with_names (cond t (names ++ word ∷ []) names) words) old ∙ known_stay names words parts.1
  where
    none : (a b : Bool) → (a && (b && false)) ≡ false
    none true true = refl
    none true false = refl
    none false b = refl

pub none_added : (words : ℕ) (names : List (List ℕ)) → with_names names (names_by words names) ≡ names
none_added words names = known_stay names (names_by words names) (all_by (is_known names) words names (all_known [] names))

-- ---- They have their numbers again

same_turned : (one other : List ℕ) → same_keyword one other ≡ false → same_keyword other one ≡ false
same_turned one other is = ⊎_elim
    (λ yes. absurd (false≢true (sym is ∙ (bytes_eq-Decides (map lower one) (map lower other)).1 (sym ((bytes_eq-Decides (map lower other) (map lower one)).0 yes)))))
    (λ no. no)
    (cases_Bool (same_keyword other one))

turned : (name : List ℕ) (names : List (List ℕ)) → list_any (same_keyword name) names ≡ false → list_any (λ each. same_keyword each name) names ≡ false
turned name [] none = refl
turned name (other ∷ names) none =
    let parts = or_parts (same_keyword name other) (list_any (same_keyword name) names) none in
    ap (λ t. t || list_any (λ each. same_keyword each name) names) (same_turned name other parts.0) ∙ turned name names parts.1

two_times : (n : ℕ) → 2 ^ suc n ≡ 2 * 2 ^ n
two_times n = let e : suc n ≡ 1 + n = omega arith in ap (λ k. 2 ^ k) e ∙ pow-add 2 1 n

halves : (words : ℕ) (bit : Bool) → has_bit 1 words ≡ bit → cond bit 1 0 + 2 * (words / 2) ≡ words
halves words true is = let e : words / 1 % 2 ≡ 1 = grind (arith, is) in omega (arith, e)
halves words false is = let e : (words / 1 % 2 ≡ 1) → ⊥ = λ one. let f = is in grind (arith, f, one) in omega (arith, e)

pub bits_again : (words : ℕ) (names : List (List ℕ)) → words < 2 ^ length names → are_distinct names ≡ true → word_bits names (names_by words names) ≡ words
bits_again words [] small distinct = omega (arith, small)
bits_again words (name ∷ names) small distinct =
    let parts = and_parts (not (list_any (same_keyword name) names)) (are_distinct names) distinct in
    let apart : list_any (same_keyword name) names ≡ false = not-true (list_any (same_keyword name) names) parts.0 in
    let less : words / 2 < 2 ^ length names = omega (arith, small, two_times (length names)) in
    step (has_bit 1 words) refl apart (bits_again (words / 2) names less parts.1)
  where
    step : (bit : Bool) → has_bit 1 words ≡ bit → list_any (same_keyword name) names ≡ false → word_bits names (names_by (words / 2) names) ≡ words / 2
        → word_bits (name ∷ names) (cond bit (name ∷ names_by (words / 2) names) (names_by (words / 2) names)) ≡ words
    step true is apart again =
        let rest = names_by (words / 2) names in
        ap (λ t. cond (t || list_any (same_keyword name) rest) 1 0 + 2 * number_of_bits (marks_of names (name ∷ rest))) (same-self name)
        ∙ ap (λ marks. 1 + 2 * number_of_bits marks) (others names rest name (turned name names apart))
        ∙ ap (λ n. 1 + 2 * n) again ∙ halves words true is
    step false is apart again =
        let rest = names_by (words / 2) names in
        ap (λ t. cond t 1 0 + 2 * word_bits names rest) (none_by (same_keyword name) (words / 2) names apart)
        ∙ ap (λ n. 0 + 2 * n) again ∙ halves words false is

-- a number of bits is below that power of 2
pub bits_below : (bits : List Bool) → number_of_bits bits < 2 ^ length bits
bits_below [] = omega arith
bits_below (true ∷ bits) = omega (arith, bits_below bits, two_times (length bits))
bits_below (false ∷ bits) = omega (arith, bits_below bits, two_times (length bits))
