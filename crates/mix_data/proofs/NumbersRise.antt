-- The numbers of the data files of a directory rise, as its names do.
use Rattle.std.proofs.Common.{◌≡◌, ℕ, ◌+◌, ◌*◌, ◌<◌, List, [], ◌∷◌, ◌++◌, length, drop, map, Bool, true, false, cond, ◌&&◌, ◌==◌, Option, Some, None, refl, sym, ap, ◌∙◌, subst, arith, nat_eq, codes, T}
use Rattle.std.specs.List.{list_all, starts_with, filter_map, cons_option, AllByRecursion}
use Rattle.std.specs.List.Sorted.{IsStrictlySortedBy}
use Rattle.std.specs.Char.{digit_value, is_digit}
use Rattle.std.specs.Str.Parse.{digits_value, digits_value_after}
use Rattle.std.specs.declared.cmp.Ordering.{Ordering}
use Rattle.std.specs.declared.cmp.Ordering.TheVariants.{Less, Equal, Greater}
use Rattle.std.specs.Ordering.{nat_cmp, ordering_then, is_lt, MatchOrdering}
use Rattle.std.specs.Cmp.{nat_cmp_is, ranks}
use Rattle.std.specs.Cmp.Lexicographic.{slice_cmp}
use Rattle.std.specs.FinMap.{entries, entries_sorted}
use Rattle.std.specs.FinMap.Entries.{is_sorted, below_all}
use Rattle.std.proofs.lemmas.Bool.{eqb-true}
use Rattle.std.proofs.lemmas.Bool.Decides.{nat_tests}
use Rattle.std.proofs.lemmas.List.{take-append-drop, length-drop}
use Rattle.file_model.specs.Images.{Entry, Image, path_cmp, bytes_at, name_within, names_in}
use Rattle.file_model.specs.Paths.{child}
use Rattle.file_model.specs.Reserved.{is_lower_hex, is_data_file}
use Rattle.file_model.proofs.Moved.{split_and}
use Rattle.file_model.proofs.NamesIn.{within_is}
use Rattle.mail_fields.specs.Numbers.{◌>>=◌, number_in}
use Rattle.mix_data.specs.DataFiles.{DataFile, number_of_name, data_file_at, number_at}
use Rattle.mix_data.proofs.HexNames.{both_parts, front_is}

-- ---- Digits

-- digits behind a smaller number write a smaller one
behind_smaller : (m n : ℕ) (xs ys : List ℕ) → length xs ≡ length ys → list_all is_lower_hex xs ≡ true → m < n → digits_value_after 16 m xs < digits_value_after 16 n ys
behind_smaller m n [] [] long hex less = less
behind_smaller m n [] (y ∷ ys) long hex less = absurd (omega (arith, long))
behind_smaller m n (x ∷ xs) [] long hex less = absurd (omega (arith, long))
behind_smaller m n (x ∷ xs) (y ∷ ys) long hex less =
    let parts = both_parts (is_lower_hex x) (list_all is_lower_hex xs) hex in
    let digit = parts.0 in
    let small : digit_value x < 16 = grind (arith, nat_tests, digit) in
    behind_smaller (m * 16 + digit_value x) (n * 16 + digit_value y) xs ys (omega (arith, long)) parts.1 (omega (arith, less, small))

digit_rises : (x y : ℕ) → is_lower_hex x ≡ true → is_lower_hex y ≡ true → x < y → digit_value x < digit_value y
digit_rises x y one other less = grind (arith, nat_tests, one, other, less)

-- of two rows of as many digits the one that is before the other writes the smaller number
less_value : (n : ℕ) (xs ys : List ℕ) → length xs ≡ length ys → list_all is_lower_hex xs ≡ true → list_all is_lower_hex ys ≡ true → slice_cmp nat_cmp xs ys ≡ Less
    → digits_value_after 16 n xs < digits_value_after 16 n ys
less_value n [] [] long one other less = absurd (cc)
less_value n [] (y ∷ ys) long one other less = absurd (omega (arith, long))
less_value n (x ∷ xs) [] long one other less = absurd (omega (arith, long))
less_value n (x ∷ xs) (y ∷ ys) long one other less =
    let first = both_parts (is_lower_hex x) (list_all is_lower_hex xs) one in
    let second = both_parts (is_lower_hex y) (list_all is_lower_hex ys) other in
    at first.0 second.0 first.1 (nat_cmp x y) (ranks x y) less (λ behind. less_value (n * 16 + digit_value x) xs ys (omega (arith, long)) first.1 second.1 behind)
  where
    at : is_lower_hex x ≡ true → is_lower_hex y ≡ true → list_all is_lower_hex xs ≡ true → (o : Ordering) → MatchOrdering o (x < y) (x ≡ y) (y < x) → ordering_then o (slice_cmp nat_cmp xs ys) ≡ Less
        → (slice_cmp nat_cmp xs ys ≡ Less → digits_value_after 16 (n * 16 + digit_value x) xs < digits_value_after 16 (n * 16 + digit_value x) ys)
        → digits_value_after 16 n (x ∷ xs) < digits_value_after 16 n (y ∷ ys)
    at p q hex Less below is rest =
        let rises = digit_rises x y p q below in
        behind_smaller (n * 16 + digit_value x) (n * 16 + digit_value y) xs ys (omega (arith, long)) hex (omega (arith, rises))
    at p q hex Equal same is rest = subst (λ c. digits_value_after 16 n (x ∷ xs) < digits_value_after 16 n (c ∷ ys)) same (rest is)
    at p q hex Greater over is rest = absurd (cc)

-- ---- Names

-- a name is `.mix` and eight digits, which write a number
record IsNumbered (name : List ℕ) (n : ℕ) : Type 0 where
  whole : name ≡ codes ".mix" ++ drop 4 name
  long : length (drop 4 name) ≡ 8
  hex : list_all is_lower_hex (drop 4 name) ≡ true
  value : digits_value 16 (drop 4 name) ≡ n

numbered : (name : List ℕ) (n : ℕ) → number_of_name name ≡ Some n → IsNumbered name n
unfolding number_in
numbered name n is = at (is_data_file name) refl is
  where
    value : (b : Bool) → cond b (Some (digits_value 16 (drop 4 name))) None ≡ Some n → digits_value 16 (drop 4 name) ≡ n
    value true e = cc
    value false e = absurd (cc)

    at : (b : Bool) → is_data_file name ≡ b → cond b (number_in 16 (drop 4 name)) None ≡ Some n → IsNumbered name n
    at false e reads = absurd (cc)
    at true e reads =
        let two = both_parts (starts_with nat_eq name (codes ".mix") && (length name == 12)) (list_all is_lower_hex (drop 4 name)) e in
        let one = both_parts (starts_with nat_eq name (codes ".mix")) (length name == 12) two.0 in
        let twelve : length name ≡ 12 = eqb-true (length name) 12 one.1 in
        record {
          whole = sym (take-append-drop 4 name) ∙ ap (λ l. l ++ drop 4 name) (front_is name (codes ".mix") one.0);
          long = omega (arith, twelve, length-drop 4 name);
          hex = two.1;
          value = value (list_all (λ byte. is_digit byte 16) (drop 4 name)) reads;
        }

itself : (x : ℕ) → nat_cmp x x ≡ Equal
itself x = sym (nat_cmp_is x x Equal refl)

cmp_behind : (front x y : List ℕ) → path_cmp (front ++ x) (front ++ y) ≡ path_cmp x y
cmp_behind [] x y = refl
cmp_behind (b ∷ front) x y = ap (λ o. ordering_then o (slice_cmp nat_cmp (front ++ x) (front ++ y))) (itself b) ∙ cmp_behind front x y

less_numbers : (one other : List ℕ) (m n : ℕ) → number_of_name one ≡ Some m → number_of_name other ≡ Some n → path_cmp one other ≡ Less → m < n
less_numbers one other m n p q less =
    let a = numbered one m p in
    let b = numbered other n q in
    let behind : path_cmp (drop 4 one) (drop 4 other) ≡ Less = sym ((λ i. path_cmp (a.whole i) (b.whole i)) ∙ cmp_behind (codes ".mix") (drop 4 one) (drop 4 other)) ∙ less in
    let rises : digits_value 16 (drop 4 one) < digits_value 16 (drop 4 other) = less_value 0 (drop 4 one) (drop 4 other) (a.long ∙ sym b.long) a.hex b.hex behind in
    omega (arith, rises, a.value, b.value)

-- ---- The names in a directory rise

abbrev listed : List ℕ → List (List ℕ × Entry) → List (List ℕ)
listed dir es = filter_map (name_within dir) (map (λ e. e.0) es)

is_less : (o : Ordering) → T (is_lt o) → o ≡ Less
is_less Less holds = refl
is_less Equal holds = absurd holds
is_less Greater holds = absurd holds

cmp_child : (dir one other : List ℕ) → path_cmp (child dir one) (child dir other) ≡ path_cmp one other
cmp_child dir one other = cmp_behind dir (47 ∷ one) (47 ∷ other) ∙ cmp_behind (47 ∷ []) one other

below_names : (dir name : List ℕ) (es : List (List ℕ × Entry)) → T (below_all path_cmp (child dir name) es) → AllByRecursion (λ n. path_cmp name n ≡ Less) (listed dir es)
below_names dir name [] below = tt
below_names dir name (e ∷ es) below =
    let parts = split_and (is_lt (path_cmp (child dir name) e.0)) (below_all path_cmp (child dir name) es) below in
    at (name_within dir e.0) refl parts.0 (below_names dir name es parts.1)
  where
    at : (o : Option (List ℕ)) → name_within dir e.0 ≡ o → T (is_lt (path_cmp (child dir name) e.0)) → AllByRecursion (λ n. path_cmp name n ≡ Less) (listed dir es) → AllByRecursion (λ n. path_cmp name n ≡ Less) (cons_option o (listed dir es))
    at None is first rest = rest
    at (Some n) is first rest = (is_less (path_cmp name n) (subst (λ r. T (is_lt r)) (ap (path_cmp (child dir name)) (within_is dir e.0 n is).whole ∙ cmp_child dir name n) first), rest)

names_listed : (dir : List ℕ) (es : List (List ℕ × Entry)) → T (is_sorted path_cmp es) → IsStrictlySortedBy path_cmp (listed dir es)
unfolding IsStrictlySortedBy
names_listed dir [] sorted = tt
names_listed dir (e ∷ es) sorted =
    let parts = split_and (below_all path_cmp e.0 es) (is_sorted path_cmp es) sorted in
    at (name_within dir e.0) refl parts.0 (names_listed dir es parts.1)
  where
    at : (o : Option (List ℕ)) → name_within dir e.0 ≡ o → T (below_all path_cmp e.0 es) → IsStrictlySortedBy path_cmp (listed dir es) → IsStrictlySortedBy path_cmp (cons_option o (listed dir es))
    at None is below rest = rest
    at (Some n) is below rest = (below_names dir n es (subst (λ p. T (below_all path_cmp p es)) (within_is dir e.0 n is).whole below), rest)

names_rise : (image : Image) (dir : List ℕ) → IsStrictlySortedBy path_cmp (names_in image dir)
names_rise image dir = names_listed dir (entries image.names) (entries_sorted image.names)

-- ---- So do the numbers of its data files

abbrev file_with : Option ℕ → Option (List ℕ) → Option DataFile
file_with found bytes = do
  number ← found
  bytes ← bytes
  Some (record { number = number; bytes = bytes })

module _ (image : Image) (dir : List ℕ) where
  named_by : (name : List ℕ) (n : ℕ) → number_at image dir name ≡ Some n → number_of_name name ≡ Some n
  named_by name n is = at (number_of_name name) (bytes_at image (child dir name)) is
    where
      at : (found : Option ℕ) (bytes : Option (List ℕ)) → (file_with found bytes >>= λ file. Some file.number) ≡ Some n → found ≡ Some n
      at None bytes e = absurd (cc)
      at (Some m) None e = absurd (cc)
      at (Some m) (Some bytes) e = e

  above : (m : ℕ) (one : List ℕ) → number_of_name one ≡ Some m → (names : List (List ℕ)) → AllByRecursion (λ n. path_cmp one n ≡ Less) names → AllByRecursion (λ n. nat_cmp m n ≡ Less) (filter_map (number_at image dir) names)
  above m one is [] less = tt
  above m one is (name ∷ names) less = at (number_at image dir name) refl (above m one is names less.1)
    where
      at : (o : Option ℕ) → number_at image dir name ≡ o → AllByRecursion (λ n. nat_cmp m n ≡ Less) (filter_map (number_at image dir) names) → AllByRecursion (λ n. nat_cmp m n ≡ Less) (cons_option o (filter_map (number_at image dir) names))
      at None e rest = rest
      at (Some n) e rest = (sym (nat_cmp_is m n Less (less_numbers one name m n is (named_by name n e) less.0)), rest)

  rise_with : (names : List (List ℕ)) → IsStrictlySortedBy path_cmp names → IsStrictlySortedBy nat_cmp (filter_map (number_at image dir) names)
  unfolding IsStrictlySortedBy
  rise_with [] sorted = tt
  rise_with (name ∷ names) sorted = at (number_at image dir name) refl (rise_with names sorted.1)
    where
      at : (o : Option ℕ) → number_at image dir name ≡ o → IsStrictlySortedBy nat_cmp (filter_map (number_at image dir) names) → IsStrictlySortedBy nat_cmp (cons_option o (filter_map (number_at image dir) names))
      at None e rest = rest
      at (Some n) e rest = (above n name (named_by name n e) names sorted.0, rest)

  -- the numbers of the files with some names
  pub numbers_of_files : (names : List (List ℕ)) → map (λ (d : DataFile). d.number) (filter_map (data_file_at image dir) names) ≡ filter_map (number_at image dir) names
  numbers_of_files [] = refl
  numbers_of_files (name ∷ names) = at (data_file_at image dir name) (numbers_of_files names)
    where
      at : (o : Option DataFile) → map (λ (d : DataFile). d.number) (filter_map (data_file_at image dir) names) ≡ filter_map (number_at image dir) names
          → map (λ (d : DataFile). d.number) (cons_option o (filter_map (data_file_at image dir) names)) ≡ cons_option (o >>= λ d. Some d.number) (filter_map (number_at image dir) names)
      at None rest = rest
      at (Some d) rest = ap (λ l. d.number ∷ l) rest

  pub numbers_rise : IsStrictlySortedBy nat_cmp (filter_map (number_at image dir) (names_in image dir))
  numbers_rise = rise_with (names_in image dir) (names_rise image dir)
