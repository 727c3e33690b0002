-- What a base that is read has, and names that are found.
use Rattle.std.proofs.Common.{◌≡◌, ◌≢◌, ◌≤◌, ◌<◌, ◌&&◌, ◌^◌, ℕ, Bool, true, false, not, cond, nat_lt, nat_le, List, [], ◌∷◌, ◌++◌, length, Option, Some, None, ⊎_elim, refl, ap, subst, ◌∙◌, arith}
use Rattle.std.specs.Prelude.{unwrap_or}
use Rattle.std.specs.List.{AllByRecursion, list_all, list_any}
use Rattle.std.specs.Cmp.Derive.{both_true}
use Rattle.std.proofs.lemmas.Bool.{cases_Bool, and_parts}
use Rattle.std.proofs.lemmas.Bool.Decides.{nat_tests}
use Rattle.std.proofs.lemmas.List.{length-map}
use Rattle.std.proofs.lemmas.List.Folds.{list_all-append}
use Rattle.std.proofs.lemmas.Option.{same_Some}
use Rattle.mail_fields.specs.Keyword.{IsKeyword, is_keyword, same_keyword}
use Rattle.mail_fields.specs.Names.{are_distinct}
use Rattle.mail_fields.specs.Numbers.{◌>>=◌, decimal_of}
use Rattle.mail_types.specs.Mailboxes.{greatest_number}
use Rattle.status_heads.specs.declared.base.Base.{Base}
use Rattle.status_heads.specs.Bases.{base_of, base_of_words, number_first}
use Rattle.status_heads.specs.Fields.{value_named, fields_in}
use Rattle.status_heads.specs.Names.{is_new, with_names, words_of}
use Rattle.status_heads.specs.Numbers.{number_between, greatest_uid}
use Rattle.status_heads.specs.Numbered.{marks_of, word_bits}
use Rattle.status_heads.proofs.FirstNames.{with_names_may}
use Rattle.unix_form.proofs.WordNumbers.{bits_below}

-- ---- Names

-- names that a mailbox may have
pub record AreNames (names : List (List ℕ)) : Type 0 where
  pub few : length names ≤ 30
  pub distinct : are_distinct names ≡ true
  pub keywords : list_all is_keyword names ≡ true

keywords_stay : (names words : List (List ℕ)) → list_all is_keyword names ≡ true → list_all is_keyword (with_names names words) ≡ true
keywords_stay names [] all = all
keywords_stay names (word ∷ words) all = ⊎_elim
    (λ new.
    let keyword = (and_parts (is_keyword word) (not (list_any (λ each. same_keyword each word) names)) (and_parts (nat_lt (length names) 30) _ new).1).0 in
    let more = list_all-append is_keyword names (word ∷ []) ∙ both_true all (both_true keyword refl) in
    ap (λ test. list_all is_keyword (with_names (cond test (names ++ word ∷ []) names) words)) new ∙ keywords_stay (names ++ word ∷ []) words more)
    (λ old. ap (λ test. list_all is_keyword (with_names (cond test (names ++ word ∷ []) names) words)) old ∙ keywords_stay names words all)
    (cases_Bool (is_new names word))

pub names_stay : (names words : List (List ℕ)) → AreNames names → AreNames (with_names names words)
names_stay names words are =
    let may = with_names_may names words are.few are.distinct in
    record { few = may.0; distinct = may.1; keywords = keywords_stay names words are.keywords }

pub no_names : AreNames []
no_names = record { few = omega arith; distinct = refl; keywords = refl }

pub keywords_are : (names : List (List ℕ)) → list_all is_keyword names ≡ true → AllByRecursion IsKeyword names
keywords_are [] all = tt
keywords_are (name ∷ names) all =
    let both = and_parts (is_keyword name) (list_all is_keyword names) all in
    let size = and_parts (nat_le 1 (length name)) (nat_le (length name) 64 && _) both.0 in
    let rest = and_parts (nat_le (length name) 64) _ size.1 in
    (record { some = let e = size.0 in grind (arith, nat_tests, e); few = let e = rest.0 in grind (arith, nat_tests, e); atoms = rest.1 }, keywords_are names both.1)

-- the keywords of a message have numbers below the number of names
pub word_bits_below : (names words : List (List ℕ)) → word_bits names words < 2 ^ length names
word_bits_below names words = subst (λ n. word_bits names words < 2 ^ n) (length-map names (λ name. list_any (same_keyword name) words)) (bits_below (marks_of names words))

-- ---- Numbers

between_step : (low high : ℕ) (found : Option ℕ) (number : ℕ) → (found >>= (λ (n : ℕ). cond (nat_le low n && nat_le n high) (Some n) None)) ≡ Some number → (low ≤ number) × (number ≤ high)
between_step low high None number is = absurd (cc)
between_step low high (Some n) number is = step (nat_le low n && nat_le n high) refl is
  where
    step : (b : Bool) → (nat_le low n && nat_le n high) ≡ b → cond b (Some n) None ≡ Some number → (low ≤ number) × (number ≤ high)
    step false test none = absurd (cc)
    step true test some =
        let both = and_parts (nat_le low n) (nat_le n high) test in
        let same : n ≡ number = same_Some n number some in
        (let e = both.0 in grind (arith, nat_tests, e, same), let e = both.1 in grind (arith, nat_tests, e, same))

-- a number that is read between two others
pub between_is : (low high : ℕ) (value : List ℕ) (number : ℕ) → number_between low high value ≡ Some number → (low ≤ number) × (number ≤ high)
unfolding number_between
between_is low high value number is = between_step low high (decimal_of value) number is

pub between_below : (high : ℕ) (value : List ℕ) → unwrap_or (number_between 1 high value) 0 ≤ high
between_below high value = step (number_between 1 high value) refl
  where
    step : (found : Option ℕ) → number_between 1 high value ≡ found → unwrap_or found 0 ≤ high
    step None is = omega arith
    step (Some number) is = (between_is 1 high value number is).1

-- ---- The base

abbrev some_first : ℕ → List (List ℕ) → Option (ℕ × List (List ℕ))
some_first number words = Some (number, words)

abbrev some_base : ℕ → ℕ → List (List ℕ) → Option Base
some_base validity last words = Some (record { validity = validity; last = last; words = with_names [] words })

first_is : (low high : ℕ) (words : List (List ℕ)) (found : ℕ × List (List ℕ)) → number_first low high words ≡ Some found → (low ≤ found.0) × (found.0 ≤ high)
first_is low high [] found is = absurd (cc)
first_is low high (word ∷ words) found is = step (number_between low high word) refl is
  where
    step : (number : Option ℕ) → number_between low high word ≡ number → (number >>= (λ (n : ℕ). some_first n words)) ≡ Some found → (low ≤ found.0) × (found.0 ≤ high)
    step None reads none = absurd (cc)
    step (Some n) reads some = subst (λ (f : ℕ × List (List ℕ)). (low ≤ f.0) × (f.0 ≤ high)) (same_Some (n, words) found some) (between_is low high word n reads)

-- what a base that is read has
pub record IsRead (base : Base) : Type 0 where
  pub some : base.validity ≢ 0
  pub fits : base.validity ≤ greatest_number
  pub last : base.last ≤ greatest_uid
  pub names : AreNames base.words

words_is : (words : List (List ℕ)) (base : Base) → base_of_words words ≡ Some base → IsRead base
unfolding base_of_words
words_is words base is = step (number_first 1 greatest_number words) refl is
  where
    last_step : (validity : ℕ) (rest : List (List ℕ)) → (1 ≤ validity) × (validity ≤ greatest_number) → (last : Option (ℕ × List (List ℕ))) → number_first 0 greatest_uid rest ≡ last
        → (last >>= (λ (l : ℕ × List (List ℕ)). some_base validity l.0 l.1)) ≡ Some base → IsRead base
    last_step validity rest within None reads none = absurd (cc)
    last_step validity rest within (Some l) reads some =
        let made : Base = record { validity = validity; last = l.0; words = with_names [] l.1 } in
        let least = within.0 in
        subst IsRead (same_Some made base some)
        (record { some = λ zero. omega (arith, least, zero); fits = within.1; last = (first_is 0 greatest_uid rest l reads).1; names = names_stay [] l.1 no_names })

    step : (validity : Option (ℕ × List (List ℕ))) → number_first 1 greatest_number words ≡ validity
        → (validity >>= (λ (v : ℕ × List (List ℕ)). number_first 0 greatest_uid v.1 >>= (λ (l : ℕ × List (List ℕ)). some_base v.0 l.0 l.1))) ≡ Some base → IsRead base
    step None reads none = absurd (cc)
    step (Some v) reads some = last_step v.0 v.1 (first_is 1 greatest_number words v reads) (number_first 0 greatest_uid v.1) refl some

pub base_is : (text name : List ℕ) (base : Base) → base_of text name ≡ Some base → IsRead base
base_is text name base is = words_is (words_of (value_named name (fields_in text))) base is
