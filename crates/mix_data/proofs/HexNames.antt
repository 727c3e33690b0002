-- The number in a data file's name leads back to the name.
use Rattle.std.proofs.Common.{◌≡◌, ℕ, zero, suc, ◌+◌, ◌*◌, ◌/◌, ◌%◌, ◌<◌, ◌≤◌, List, [], ◌∷◌, ◌++◌, length, take, drop, get_or, Bool, true, false, cond, Option, Some, None, refl, sym, ap, ◌∙◌, arith, nat_eq, ◌==◌, ◌&&◌, codes}
use Rattle.std.specs.Prelude.{unwrap_or, All}
use Rattle.std.specs.List.{list_all, starts_with, filter_map, cons_option}
use Rattle.std.specs.Char.{digit_char, digit_value, is_digit}
use Rattle.std.specs.Str.Parse.{digits_value}
use Rattle.std.proofs.lemmas.Int.Digits.{digits_value_more}
use Rattle.std.proofs.lemmas.Bool.Decides.{nat_tests}
use Rattle.std.proofs.lemmas.Bool.{eqb-true}
use Rattle.std.proofs.lemmas.List.{take_more, take_all, take-append-drop, length-drop}
use Rattle.std.proofs.lemmas.List.Elements.{All-cons, All-nil}
use Rattle.file_model.specs.Images.{Image, bytes_at, text_at}
use Rattle.file_model.specs.Paths.{child}
use Rattle.file_model.specs.Reserved.{is_lower_hex, is_data_file}
use Rattle.mail_fields.specs.Numbers.{◌>>=◌, digits_in, number_in}
use Rattle.mix_data.specs.DataFiles.{DataFile, data_name, data_path, number_of_name, data_file_at}

digit_back : (c : ℕ) → is_lower_hex c ≡ true → (digit_char (digit_value c) ≡ c) × (digit_value c < 16)
digit_back c is = (grind (arith, nat_tests, is), grind (arith, nat_tests, is))

at_all : (test : ℕ → Bool) (xs : List ℕ) (i : ℕ) → i < length xs → list_all test xs ≡ true → test (get_or xs i 0) ≡ true
at_all test [] i inside all = absurd (omega (arith, inside))
at_all test (x ∷ xs) zero inside all = first (test x) (list_all test xs) all
  where
    first : (a b : Bool) → (a && b) ≡ true → a ≡ true
    first true b is = refl
    first false b is = absurd (cc)
at_all test (x ∷ xs) (suc i) inside all = at_all test xs i (omega (arith, inside)) (second (test x) (list_all test xs) all)
  where
    second : (a b : Bool) → (a && b) ≡ true → b ≡ true
    second true b is = is
    second false b is = absurd (cc)

pub digits_back : (ds : List ℕ) (i : ℕ) → i ≤ length ds → list_all is_lower_hex ds ≡ true → digits_in 16 i (digits_value 16 (take i ds)) ≡ take i ds
digits_back ds zero inside all = refl
digits_back ds (suc i) inside all =
    let c = get_or ds i 0 in
    let v = digits_value 16 (take i ds) in
    let back = digit_back c (at_all is_lower_hex ds i (omega (arith, inside)) all) in
    let next : i + 1 ≡ suc i = omega arith in
    let value : digits_value 16 (take (suc i) ds) ≡ v * 16 + digit_value c = ap (λ n. digits_value 16 (take n ds)) (sym next) ∙ digits_value_more 16 ds i (omega (arith, inside)) in
    let high : (v * 16 + digit_value c) / 16 ≡ v = omega (arith, back.1) in
    let low : (v * 16 + digit_value c) % 16 ≡ digit_value c = omega (arith, back.1) in
    let more : take (suc i) ds ≡ take i ds ++ c ∷ [] = ap (λ n. take n ds) (sym next) ∙ take_more ds i 0 (omega (arith, inside)) in
    ap (digits_in 16 (suc i)) value
    ∙ (λ j. digits_in 16 i (high j) ++ digit_char (low j) ∷ [])
    ∙ (λ j. digits_back ds i (omega (arith, inside)) all j ++ back.0 j ∷ [])
    ∙ sym more

pub both_parts : (a b : Bool) → (a && b) ≡ true → (a ≡ true) × (b ≡ true)
both_parts true b is = (refl, is)
both_parts false b is = absurd (cc)

number_back : (ds : List ℕ) (n : ℕ) → length ds ≡ 8 → list_all is_lower_hex ds ≡ true → number_in 16 ds ≡ Some n → digits_in 16 8 n ≡ ds
unfolding number_in
number_back ds n long hex reads = found (list_all (λ byte. is_digit byte 16) ds) reads
  where
    found : (b : Bool) → cond b (Some (digits_value 16 ds)) None ≡ Some n → digits_in 16 8 n ≡ ds
    found false e = absurd (cc)
    found true e =
        let value : digits_value 16 ds ≡ n = cc in
        let all : take 8 ds ≡ ds = take_all 8 ds (omega (arith, long)) in
        ap (digits_in 16 8) (sym value ∙ ap (digits_value 16) (sym all)) ∙ digits_back ds 8 (omega (arith, long)) hex ∙ all

pub front_is : (name front : List ℕ) → starts_with nat_eq name front ≡ true → take (length front) name ≡ front
front_is name [] is = refl
front_is [] (f ∷ front) is = absurd (cc)
front_is (x ∷ name) (f ∷ front) is =
    let parts = both_parts (nat_eq f x) (starts_with nat_eq name front) is in
    (λ i. sym (eqb-true f x parts.0) i ∷ front_is name front parts.1 i)

pub name_again : (name : List ℕ) (n : ℕ) → number_of_name name ≡ Some n → data_name n ≡ name
name_again name n is = at (is_data_file name) refl is
  where
    at : (b : Bool) → is_data_file name ≡ b → cond b (number_in 16 (drop 4 name)) None ≡ Some n → data_name n ≡ name
    at false e reads = absurd (cc)
    at true e reads =
        let two = both_parts (starts_with nat_eq name (codes ".mix") && (length name == 12)) (list_all is_lower_hex (drop 4 name)) e in
        let one = both_parts (starts_with nat_eq name (codes ".mix")) (length name == 12) two.0 in
        let long : length name ≡ 12 = eqb-true (length name) 12 one.1 in
        let digits : digits_in 16 8 n ≡ drop 4 name = number_back (drop 4 name) n (omega (arith, long, length-drop 4 name)) two.1 reads in
        (λ i. sym (front_is name (codes ".mix") one.0) i ++ digits i) ∙ take-append-drop 4 name

-- each data file stands at the path of its number
file_here : (image : Image) (dir name : List ℕ) (d : DataFile) → data_file_at image dir name ≡ Some d → text_at image (data_path dir d.number) ≡ d.bytes
file_here image dir name d is = at (number_of_name name) refl (bytes_at image (child dir name)) refl is
  where
    at : (n : Option ℕ) → number_of_name name ≡ n → (b : Option (List ℕ)) → bytes_at image (child dir name) ≡ b → (n >>= λ number. b >>= λ bytes. Some (record { number = number; bytes = bytes })) ≡ Some d → text_at image (data_path dir d.number) ≡ d.bytes
    at None p b q e = absurd (cc)
    at (Some n) p None q e = absurd (cc)
    at (Some n) p (Some bytes) q e =
        let same : record { number = n; bytes = bytes } ≡ d = cc in
        let number : n ≡ d.number = ap (λ (d : DataFile). d.number) same in
        ap (λ k. text_at image (data_path dir k)) (sym number) ∙ ap (λ name. text_at image (child dir name)) (name_again name n p) ∙ ap (λ o. unwrap_or o []) q ∙ ap (λ (d : DataFile). d.bytes) same

pub are_named : (image : Image) (dir : List ℕ) (names : List (List ℕ)) → All (λ (d : DataFile). text_at image (data_path dir d.number) ≡ d.bytes) (filter_map (data_file_at image dir) names)
are_named image dir [] = All-nil (λ (d : DataFile). text_at image (data_path dir d.number) ≡ d.bytes)
are_named image dir (name ∷ names) = at (data_file_at image dir name) refl (are_named image dir names)
  where
    at : (o : Option DataFile) → data_file_at image dir name ≡ o → All (λ (d : DataFile). text_at image (data_path dir d.number) ≡ d.bytes) (filter_map (data_file_at image dir) names)
        → All (λ (d : DataFile). text_at image (data_path dir d.number) ≡ d.bytes) (cons_option o (filter_map (data_file_at image dir) names))
    at None is rest = rest
    at (Some d) is rest = All-cons (λ (d : DataFile). text_at image (data_path dir d.number) ≡ d.bytes) d (filter_map (data_file_at image dir) names) (file_here image dir name d is) rest
