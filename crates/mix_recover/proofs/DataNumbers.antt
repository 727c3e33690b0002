-- The numbers of the data files are found among the names of a directory, in whatever order these come.
use Rattle.std.proofs.Common.{◌≡◌, ℕ, ◌+◌, ◌<◌, ◌≤◌, List, [], ◌∷◌, ◌++◌, length, map, take, get_or, Bool, true, false, cond, ◌||◌, nat_lt, nat_eq, Option, Some, None, refl, sym, ap, ◌∙◌}
use Rattle.std.specs.Prelude.{is_some}
use Rattle.std.specs.List.{list_any, filter_map, cons_option, dedup, dedup_from}
use Rattle.std.specs.List.Sorted.{IsStrictlyIncreasing, IsStrictlySortedBy, IsPermutation}
use Rattle.std.specs.Ordering.{nat_cmp, is_eq}
use Rattle.std.specs.Cmp.{unsigned_ties}
use Rattle.std.proofs.lemmas.Cmp.{nat_cmp_total}
use Rattle.std.proofs.lemmas.Bool.{eqb-true}
use Rattle.std.proofs.lemmas.Map.Keys.{sorted_from_strictly_increasing}
use Rattle.std.proofs.lemmas.Map.Lookups.{btree_set_from_contains}
use Rattle.std.proofs.lemmas.List.{take_more, take_all}
use Rattle.std.proofs.lemmas.List.Elements.{filter_map-append}
use Rattle.std.proofs.lemmas.List.Folds.{list_any_more, list_any_at}
use Rattle.std.proofs.lemmas.List.Sorted.{list_any-IsPermutation}
use Rattle.file_model.specs.Disk.{seen}
use Rattle.file_model.specs.Histories.{History, Now}
use Rattle.file_model.specs.Images.{Image, bytes_at, names_in}
use Rattle.file_model.specs.Paths.{child}
use Rattle.mail_fields.specs.Numbers.{◌>>=◌}
use Rattle.mail_types.specs.Limits.{file_limit}
use Rattle.mix_data.specs.DataFiles.{DataFile, data_path, number_of_name, data_file_at, number_at, data_files_at}
use Rattle.mix_data.proofs.HexNames.{name_again}
use Rattle.mix_data.proofs.NumbersRise.{numbers_of_files, numbers_rise}
use Rattle.mix_recover.specs.declared.faults.MeansFault.{MeansFault}
use Rattle.mix_recover.specs.declared.faults.MeansFault.TheVariants.{IllFormed, TooLarge, Failed, Memory}
use Rattle.mix_recover.specs.Meanings.{is_long}
use Rattle.mix_recover.specs.Reads.{RefusesLong, RefusesData, RefusesNamed, AreShort, is_long_file, is_long_at}

-- ---- Lists of numbers

-- what the first of two that are the same passes is passed by one
dedup_more : (test : ℕ → Bool) (k : ℕ) (xs : List ℕ) → list_any test (dedup_from nat_eq k xs) ≡ (test k || list_any test xs)
dedup_more test k [] = refl
dedup_more test k (x ∷ xs) = at (nat_eq x k) refl (dedup_more test k xs) (dedup_more test x xs)
  where
    twice : (a b : Bool) → (a || b) ≡ (a || (a || b))
    twice true b = refl
    twice false b = refl

    at : (b : Bool) → nat_eq x k ≡ b → list_any test (dedup_from nat_eq k xs) ≡ (test k || list_any test xs) → list_any test (dedup_from nat_eq x xs) ≡ (test x || list_any test xs)
        → list_any test (cond b (dedup_from nat_eq k xs) (k ∷ dedup_from nat_eq x xs)) ≡ (test k || (test x || list_any test xs))
    at true e same other = same ∙ twice (test k) (list_any test xs) ∙ ap (λ c. test k || (test c || list_any test xs)) (sym (eqb-true x k e))
    at false e same other = ap (λ b. test k || b) other

pub dedup_same : (test : ℕ → Bool) (xs : List ℕ) → list_any test (dedup nat_eq xs) ≡ list_any test xs
dedup_same test [] = refl
dedup_same test (x ∷ xs) = dedup_more test x xs

-- numbers that rise, and pass the same tests, are the same
same_numbers : (xs ys : List ℕ) → IsStrictlyIncreasing xs → IsStrictlySortedBy nat_cmp ys → ((test : ℕ → Bool) → list_any test xs ≡ list_any test ys) → xs ≡ ys
same_numbers xs ys one other same =
    btree_set_from_contains nat_cmp_total (record { keys = xs }) (record { keys = ys }) (sorted_from_strictly_increasing xs one) other (λ q. same (λ x. is_eq (nat_cmp q x)))
    (λ x y e. eqb-true x y (unsigned_ties x y ∙ ap is_eq e))

-- ---- Names

-- what a test finds among the values of some names
abbrev test_with : {X : Type 0} → (X → Bool) → Option X → Bool
test_with test None = false
test_with test (Some x) = test x

any_of : {A X : Type 0} (test : X → Bool) (value : A → Option X) (names : List A) → list_any test (filter_map value names) ≡ list_any (λ name. test_with test (value name)) names
any_of test value [] = refl
any_of {X = X} test value (name ∷ names) = at (value name) (any_of test value names)
  where
    at : (o : Option X) → list_any test (filter_map value names) ≡ list_any (λ name. test_with test (value name)) names
        → list_any test (cons_option o (filter_map value names)) ≡ (test_with test o || list_any (λ name. test_with test (value name)) names)
    at None rest = rest
    at (Some x) rest = ap (λ b. test x || b) rest

-- names in another order have values that pass the same tests
any_same : {A X : Type 0} (test : X → Bool) (value : A → Option X) (one other : List A) → IsPermutation one other → list_any test (filter_map value one) ≡ list_any test (filter_map value other)
any_same test value one other same = any_of test value one ∙ list_any-IsPermutation (λ name. test_with test (value name)) one other same ∙ sym (any_of test value other)

any_long : (image : Image) (dir : List ℕ) (names : List (List ℕ)) → list_any (λ (d : DataFile). nat_lt file_limit (length d.bytes)) (filter_map (data_file_at image dir) names) ≡ list_any (is_long_at image dir) names
any_long image dir [] = refl
any_long image dir (name ∷ names) = at (data_file_at image dir name) (any_long image dir names)
  where
    at : (o : Option DataFile) → list_any (λ (d : DataFile). nat_lt file_limit (length d.bytes)) (filter_map (data_file_at image dir) names) ≡ list_any (is_long_at image dir) names
        → list_any (λ (d : DataFile). nat_lt file_limit (length d.bytes)) (cons_option o (filter_map (data_file_at image dir) names)) ≡ (is_long_file o || list_any (is_long_at image dir) names)
    at None rest = rest
    at (Some d) rest = ap (λ b. nat_lt file_limit (length d.bytes) || b) rest

-- ---- The file of one name

abbrev file_with : Option ℕ → Option (List ℕ) → Option DataFile
file_with found bytes = do
  number ← found
  bytes ← bytes
  Some (record { number = number; bytes = bytes })

module _ (image : Image) (dir name : List ℕ) where
  at_path : (n : ℕ) → number_of_name name ≡ Some n → data_file_at image dir name ≡ file_with (Some n) (bytes_at image (data_path dir n))
  at_path n is = (λ i. file_with (is i) (bytes_at image (child dir (sym (name_again name n is) i))))

  number_there : (n : ℕ) → number_of_name name ≡ Some n → number_at image dir name ≡ cond (is_some (bytes_at image (data_path dir n))) (Some n) None
  number_there n is = ap (λ (o : Option DataFile). o >>= λ d. Some d.number) (at_path n is) ∙ at (bytes_at image (data_path dir n))
    where
      at : (o : Option (List ℕ)) → (file_with (Some n) o >>= λ d. Some d.number) ≡ cond (is_some o) (Some n) None
      at None = refl
      at (Some bytes) = refl

  long_there : (n : ℕ) → number_of_name name ≡ Some n → is_long_at image dir name ≡ is_long (bytes_at image (data_path dir n))
  long_there n is = ap is_long_file (at_path n is) ∙ at (bytes_at image (data_path dir n))
    where
      at : (o : Option (List ℕ)) → is_long_file (file_with (Some n) o) ≡ is_long o
      at None = refl
      at (Some bytes) = refl

  none_there : number_of_name name ≡ None → number_at image dir name ≡ None
  none_there is = ap (λ n. file_with n (bytes_at image (child dir name)) >>= λ d. Some d.number) is

  none_long : number_of_name name ≡ None → is_long_at image dir name ≡ false
  none_long is = ap (λ n. is_long_file (file_with n (bytes_at image (child dir name)))) is

-- ---- On a host

module _ (dir name : List ℕ) where
  pub number_now : (h : History) (n : ℕ) (stands : Bool) → number_of_name name ≡ Some n → Now h (λ w. stands ≡ is_some (bytes_at (seen w.disk) (data_path dir n))) → Now h (λ w. cond stands (Some n) None ≡ number_at (seen w.disk) dir name)
  number_now [] n stands is there = tt
  number_now (w ∷ past) n stands is there = ap (λ b. cond b (Some n) None) there ∙ sym (number_there (seen w.disk) dir name n is)

  pub short_now : (h : History) (n : ℕ) → number_of_name name ≡ Some n → Now h (λ w. is_long (bytes_at (seen w.disk) (data_path dir n)) ≡ false) → Now h (λ w. is_long_at (seen w.disk) dir name ≡ false)
  short_now [] n is short = tt
  short_now (w ∷ past) n is short = long_there (seen w.disk) dir name n is ∙ short

  pub no_number : (h : History) → number_of_name name ≡ None → Now h (λ w. None ≡ number_at (seen w.disk) dir name)
  no_number [] is = tt
  no_number (w ∷ past) is = sym (none_there (seen w.disk) dir name is)

  pub no_long : (h : History) → number_of_name name ≡ None → Now h (λ w. is_long_at (seen w.disk) dir name ≡ false)
  no_long [] is = tt
  no_long (w ∷ past) is = none_long (seen w.disk) dir name is

  long_now : (h : History) (n : ℕ) → number_of_name name ≡ Some n → Now h (λ w. is_long (bytes_at (seen w.disk) (data_path dir n)) ≡ true) → Now h (λ w. list_any (is_long_at (seen w.disk) dir) (name ∷ []) ≡ true)
  long_now [] n is long = tt
  long_now (w ∷ past) n is long = ap (λ b. b || false) (long_there (seen w.disk) dir name n is ∙ long)

  pub refuse_name : (h : History) (n : ℕ) (fault : MeansFault) → number_of_name name ≡ Some n → RefusesLong (data_path dir n) fault h → RefusesNamed dir (name ∷ []) fault h
  refuse_name h n Failed is refused = tt
  refuse_name h n Memory is refused = tt
  refuse_name h n (IllFormed k) is refused = (refused.0, long_now h n is refused.1)
  refuse_name h n (TooLarge l) is refused = (refused.0, long_now h n is refused.1)

module _ (dir : List ℕ) (names : List (List ℕ)) where
  pub numbers_more : (h : History) (i : ℕ) (name old new : List ℕ) (found : Option ℕ) → i < length names → get_or names i [] ≡ name → Now h (λ w. found ≡ number_at (seen w.disk) dir name) → new ≡ old ++ cons_option found []
      → Now h (λ w. old ≡ filter_map (number_at (seen w.disk) dir) (take i names)) → Now h (λ w. new ≡ filter_map (number_at (seen w.disk) dir) (take (i + 1) names))
  numbers_more [] i name old new found inside is one more was = tt
  numbers_more (w ∷ past) i name old new found inside is one more was =
      let value = number_at (seen w.disk) dir in
      more ∙ (λ j. was j ++ cons_option ((one ∙ ap value (sym is)) j) []) ∙ sym (filter_map-append value (take i names) (get_or names i [] ∷ [])) ∙ ap (filter_map value) (sym (take_more names i [] inside))

  pub short_more : (h : History) (i : ℕ) (name : List ℕ) → i < length names → get_or names i [] ≡ name → Now h (λ w. is_long_at (seen w.disk) dir name ≡ false)
      → Now h (λ w. list_any (is_long_at (seen w.disk) dir) (take i names) ≡ false) → Now h (λ w. list_any (is_long_at (seen w.disk) dir) (take (i + 1) names) ≡ false)
  short_more [] i name inside is one was = tt
  short_more (w ∷ past) i name inside is one was =
      list_any_more (is_long_at (seen w.disk) dir) names i [] inside ∙ (λ j. was j || (ap (is_long_at (seen w.disk) dir) is ∙ one) j)

  any_named : (test : List ℕ → Bool) (i : ℕ) (name : List ℕ) → i < length names → get_or names i [] ≡ name → list_any test (name ∷ []) ≡ true → list_any test names ≡ true
  any_named test i name inside is one = list_any_at test names i [] inside (ap test is ∙ alone (test name) one)
    where
      alone : (b : Bool) → (b || false) ≡ true → b ≡ true
      alone true e = refl
      alone false e = e

  long_named : (h : History) (i : ℕ) (name : List ℕ) → i < length names → get_or names i [] ≡ name → Now h (λ w. list_any (is_long_at (seen w.disk) dir) (name ∷ []) ≡ true) → Now h (λ w. list_any (is_long_at (seen w.disk) dir) names ≡ true)
  long_named [] i name inside is one = tt
  long_named (w ∷ past) i name inside is one = any_named (is_long_at (seen w.disk) dir) i name inside is one

  pub refuse_named : (h : History) (i : ℕ) (name : List ℕ) (fault : MeansFault) → i < length names → get_or names i [] ≡ name → RefusesNamed dir (name ∷ []) fault h → RefusesNamed dir names fault h
  refuse_named h i name Failed inside is refused = tt
  refuse_named h i name Memory inside is refused = tt
  refuse_named h i name (IllFormed k) inside is refused = (refused.0, long_named h i name inside is refused.1)
  refuse_named h i name (TooLarge l) inside is refused = (refused.0, long_named h i name inside is refused.1)

  pub all_numbers : (h : History) (i : ℕ) (numbers : List ℕ) → length names ≤ i → Now h (λ w. numbers ≡ filter_map (number_at (seen w.disk) dir) (take i names)) → Now h (λ w. numbers ≡ filter_map (number_at (seen w.disk) dir) names)
  all_numbers [] i numbers done was = tt
  all_numbers (w ∷ past) i numbers done was = was ∙ ap (filter_map (number_at (seen w.disk) dir)) (take_all i names done)

  pub all_short : (h : History) (i : ℕ) → length names ≤ i → Now h (λ w. list_any (is_long_at (seen w.disk) dir) (take i names) ≡ false) → Now h (λ w. list_any (is_long_at (seen w.disk) dir) names ≡ false)
  all_short [] i done was = tt
  all_short (w ∷ past) i done was = ap (list_any (is_long_at (seen w.disk) dir)) (sym (take_all i names done)) ∙ was

  -- ---- Of all names of a directory

  pub numbers_found : (h : History) (found result : List ℕ) → Now h (λ w. IsPermutation names (names_in (seen w.disk) dir)) → Now h (λ w. found ≡ filter_map (number_at (seen w.disk) dir) names) → IsStrictlyIncreasing result
      → ((test : ℕ → Bool) → list_any test result ≡ list_any test found) → Now h (λ w. result ≡ map (λ d. d.number) (data_files_at (seen w.disk) dir))
  numbers_found [] found result listed is rise same = tt
  numbers_found (w ∷ past) found result listed is rise same =
      let value = number_at (seen w.disk) dir in
      let all = names_in (seen w.disk) dir in
      same_numbers result (filter_map value all) rise (numbers_rise (seen w.disk) dir) (λ test. same test ∙ ap (list_any test) is ∙ any_same test value names all listed)
      ∙ sym (numbers_of_files (seen w.disk) dir all)

  pub short_found : (h : History) → Now h (λ w. IsPermutation names (names_in (seen w.disk) dir)) → Now h (λ w. list_any (is_long_at (seen w.disk) dir) names ≡ false) → Now h (λ w. AreShort (data_files_at (seen w.disk) dir))
  short_found [] listed short = tt
  short_found (w ∷ past) listed short =
      let all = names_in (seen w.disk) dir in
      any_long (seen w.disk) dir all ∙ sym (list_any-IsPermutation (is_long_at (seen w.disk) dir) names all listed) ∙ short

  long_found : (h : History) → Now h (λ w. IsPermutation names (names_in (seen w.disk) dir)) → Now h (λ w. list_any (is_long_at (seen w.disk) dir) names ≡ true)
      → Now h (λ w. list_any (λ (d : DataFile). nat_lt file_limit (length d.bytes)) (data_files_at (seen w.disk) dir) ≡ true)
  long_found [] listed long = tt
  long_found (w ∷ past) listed long =
      let all = names_in (seen w.disk) dir in
      any_long (seen w.disk) dir all ∙ sym (list_any-IsPermutation (is_long_at (seen w.disk) dir) names all listed) ∙ long

  pub refuse_found : (h : History) (fault : MeansFault) → Now h (λ w. IsPermutation names (names_in (seen w.disk) dir)) → RefusesNamed dir names fault h → RefusesData dir fault h
  refuse_found h Failed listed refused = tt
  refuse_found h Memory listed refused = tt
  refuse_found h (IllFormed k) listed refused = (refused.0, long_found h listed refused.1)
  refuse_found h (TooLarge l) listed refused = (refused.0, long_found h listed refused.1)
