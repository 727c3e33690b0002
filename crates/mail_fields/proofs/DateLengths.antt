-- The lengths that a from date can have.
use Rattle.std.proofs.Common.{◌≡◌, ◌≢◌, ℕ, ◌-◌, ◌<◌, ◌≤◌, ◌⊎◌, inl, inr, ⊎_elim, Bool, true, false, cond, List, [], ◌∷◌, length, take, drop, slice_index, Option, Some, None, refl, ap, sym, ◌∙◌, arith, length-drop, length-take-le, take_all}
use Rattle.std.specs.Option.{option_and_then, option_or}
use Rattle.std.proofs.Common.{subst, ◌==◌}
use Rattle.std.specs.List.{list_any}
use Rattle.std.proofs.lemmas.Bool.{cases_lt, ne_eqb, eqb-false, or_parts}
use Rattle.std.proofs.lemmas.Bool.Decides.{nat_tests}
use Rattle.mail_fields.specs.CivilDays.{part, month_of, day_of}
use Rattle.mail_fields.specs.Clock.{clock_of}
use Rattle.mail_fields.specs.FromDate.{year_of, zone_of, year_zone_of, end_of, has_frame, stamp_of_fields, stamp_in_frame, from_date_of}

-- no value where the next step never gives one
none-then : {A B : Type 0} (value : Option A) (step : A → Option B) → ((x : A) → step x ≡ None) → option_and_then step value ≡ None
none-then None step none = refl
none-then (Some x) step none = none x

none-from : {A B : Type 0} (value : Option A) (step : A → Option B) → value ≡ None → option_and_then step value ≡ None
none-from value step is = ap (option_and_then step) is

-- a length that no zone has, with the space before it
record IsNoZone (width : ℕ) : Type 0 where
  pub some : width ≢ 0
  pub letters : width ≢ 4
  pub offset : width ≢ 6

zone-lengths : (bytes : List ℕ) → IsNoZone (length bytes) → zone_of bytes ≡ None
zone-lengths bytes none =
    let some = ne_eqb (length bytes) 0 none.some in
    let letters = ne_eqb (length bytes) 4 none.letters in
    let offset = ne_eqb (length bytes) 6 none.offset in
    simp (some, letters, offset) refl

year-lengths : (bytes : List ℕ) → length bytes ≢ 5 → year_of bytes ≡ None
year-lengths bytes other = let none = ne_eqb (length bytes) 5 other in simp none refl

year_zone-lengths : (year zone : List ℕ) → (length year ≢ 5) ⊎ IsNoZone (length zone) → year_zone_of year zone ≡ None
year_zone-lengths year zone (inl other) = simp (year-lengths year other) refl
year_zone-lengths year zone (inr none) = none-then (year_of year) _ (λ number. simp (zone-lengths zone none) refl)

-- a length that no end of a date has
record IsNoEnd (width : ℕ) : Type 0 where
  pub year : width ≢ 5
  pub letters : width ≢ 9
  pub offset : width ≢ 11

end-lengths : (bytes : List ℕ) → IsNoEnd (length bytes) → end_of bytes ≡ None
unfolding end_of
end-lengths bytes none =
    let n = length bytes in
    let behind = length-drop 5 bytes in
    let before = length-drop (n - 5) bytes in
    let no_zone : 5 ≤ n → IsNoZone (n - 5) = λ long. record {
      some = λ is. none.year (omega arith);
      letters = λ is. none.letters (omega arith);
      offset = λ is. none.offset (omega arith);
    } in
    let year_first : year_zone_of (take 5 bytes) (drop 5 bytes) ≡ None = year_zone-lengths (take 5 bytes) (drop 5 bytes) (⊎_elim
    (λ short. let whole = ap length (take_all 5 bytes (omega arith)) in inl (λ is. omega arith))
    (λ long. inr (subst (λ w. IsNoZone w) (sym behind) (no_zone long)))
    (cases_lt n 5)) in
    let zone_first : year_zone_of (drop (n - 5) bytes) (take (n - 5) bytes) ≡ None = year_zone-lengths (drop (n - 5) bytes) (take (n - 5) bytes) (⊎_elim
    (λ short. inl (λ is. omega arith))
    (λ long. inr (subst (λ w. IsNoZone w) (sym (length-take-le (n - 5) bytes (omega arith))) (no_zone long)))
    (cases_lt n 5)) in
    ap (λ first. option_or first (year_zone_of (drop (n - 5) bytes) (take (n - 5) bytes))) year_first ∙ zone_first

fields-lengths : (date clock end : List ℕ) → IsNoEnd (length end) → stamp_of_fields date clock end ≡ None
unfolding stamp_of_fields
fields-lengths date clock end none =
    none-then (month_of (part 4 3 date)) _ (λ month. none-then (day_of (part 8 2 date)) _ (λ day. none-then (clock_of clock) _ (λ second.
    none-from (end_of end) _ (end-lengths end none))))

neither : {A : Type 0} (test : Bool) (one other : Option A) → one ≡ None → other ≡ None → cond test one other ≡ None
neither true one other a b = a
neither false one other a b = b

-- a from date has one of six lengths
abbrev pub date_lengths : List ℕ
date_lengths = 30 ∷ 28 ∷ 27 ∷ 25 ∷ 24 ∷ 21 ∷ []

abbrev pub is_date_length : ℕ → List ℕ → Bool
is_date_length width = list_any (λ each. each == width)

-- none of the lengths
record IsNoDate (width : ℕ) : Type 0 where
  pub bare : width ≢ 21
  pub letters : width ≢ 25
  pub offset : width ≢ 27
  pub with_seconds : width ≢ 24
  pub letters_with_seconds : width ≢ 28
  pub offset_with_seconds : width ≢ 30

no-date : (width : ℕ) → is_date_length width date_lengths ≡ false → IsNoDate width
no-date width none =
    let a = or_parts (30 == width) _ none in
    let b = or_parts (28 == width) _ a.1 in
    let c = or_parts (27 == width) _ b.1 in
    let d = or_parts (25 == width) _ c.1 in
    let e = or_parts (24 == width) _ d.1 in
    let f = or_parts (21 == width) _ e.1 in
    record {
      bare = λ is. eqb-false 21 width f.0 (sym is);
      letters = λ is. eqb-false 25 width d.0 (sym is);
      offset = λ is. eqb-false 27 width c.0 (sym is);
      with_seconds = λ is. eqb-false 24 width e.0 (sym is);
      letters_with_seconds = λ is. eqb-false 28 width b.0 (sym is);
      offset_with_seconds = λ is. eqb-false 30 width a.0 (sym is);
    }

pub date-lengths : (date : List ℕ) → is_date_length (length date) date_lengths ≡ false → from_date_of date ≡ None
unfolding from_date_of stamp_in_frame
date-lengths date other =
    let none = no-date (length date) other in
    let long = length-drop 19 date in
    let short = length-drop 16 date in
    let with_seconds : IsNoEnd (length (drop 19 date)) = record {
      year = λ is. none.with_seconds (omega arith);
      letters = λ is. none.letters_with_seconds (omega arith);
      offset = λ is. none.offset_with_seconds (omega arith);
    } in
    let without : IsNoEnd (length (drop 16 date)) = record {
      year = λ is. none.bare (omega arith);
      letters = λ is. none.letters (omega arith);
      offset = λ is. none.offset (omega arith);
    } in
    neither (has_frame date) _ None
    (neither (slice_index date 16 == 58) _ _ (fields-lengths date (part 11 8 date) (drop 19 date) with_seconds) (fields-lengths date (part 11 5 date) (drop 16 date) without))
    refl

-- and none of them is short
pub short-date : (date : List ℕ) → length date < 21 → from_date_of date ≡ None
short-date date short = date-lengths date (none-below (length date) short)
  where
    none-below : (width : ℕ) → width < 21 → is_date_length width date_lengths ≡ false
    none-below width short = grind (arith, nat_tests)
