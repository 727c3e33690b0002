-- A line is a delimiter line whether a NUL in it is read as 80 hex or not.
use Rattle.std.proofs.Common.{◌≡◌, ◌<◌, ◌+◌, ◌-◌, ◌*◌, ◌==◌, ◌&&◌, ⊎_elim, ℕ, zero, suc, ℤ, Bool, true, false, cond, nat_le, nat_lt, List, [], ◌∷◌, length, take, drop, map, slice_index, codes, bytes_eq, Option, Some, None, is_some, refl, ap, sym, ◌∙◌, arith}
use Rattle.std.specs.Option.{option_or}
use Rattle.std.specs.List.{list_all, prefix_len}
use Rattle.std.specs.Char.{is_digit, to_ascii_lowercase, is_ascii_alphabetic}
use Rattle.std.proofs.lemmas.Bool.{cases_Bool, cond-false, false≢true, and_parts, ne_eqb}
use Rattle.std.proofs.lemmas.List.{take-map}
use Rattle.std.specs.Prelude.{not, pos, option_map}
use Rattle.bstr.specs.Text.{line_len}
use Rattle.bstr.proofs.lemmas.LineLemmas.{lines-step, line_len-bounds}
use Rattle.text_lines.specs.Lines.{lines_of, line_text, is_line_end}
use Rattle.text_lines.proofs.Lines.{one-line}
use Rattle.text_forms.specs.Lines.{clean_byte}
use Rattle.mail_fields.specs.CivilDays.{part, day_names, month_names, month_of, day_of, civil_day_of}
use Rattle.mail_fields.specs.Clock.{clock_of, offset_of, sixtieth_of, seconds_of, signed}
use Rattle.mail_fields.specs.DelimiterLine.{is_delimiter_line, delimiter_stamp, date_behind_space, is_short, is_one_line}
use Rattle.mail_fields.specs.FromDate.{year_of, zone_of, year_zone_of, end_of, has_frame, stamp_of_fields, stamp_in_frame, from_date_of}
use Rattle.mail_fields.specs.Numbers.{◌>>=◌, number_in, number_of, number_below, place_of}
use Rattle.mail_fields.specs.Stamps.{StampParts}

abbrev clean : List ℕ → List ℕ
clean bytes = map clean_byte bytes

other_stays : (byte : ℕ) → clean_byte (suc byte) ≡ suc byte
other_stays byte = cond-false (suc byte == 0) 128 (suc byte) (ne_eqb (suc byte) 0 (λ is. omega (arith, is)))

at_byte : {A : Type 0} (t : ℕ → A) → t 128 ≡ t 0 → (byte : ℕ) → t (clean_byte byte) ≡ t byte
at_byte t same zero = same
at_byte t same (suc byte) = ap t (other_stays byte)

at_place : {A : Type 0} (t : ℕ → A) → t 128 ≡ t 0 → (bytes : List ℕ) (i : ℕ) → t (slice_index (clean bytes) i) ≡ t (slice_index bytes i)
at_place t same [] i = refl
at_place t same (byte ∷ bytes) zero = at_byte t same byte
at_place t same (byte ∷ bytes) (suc i) = at_place t same bytes i

all_same : (t : ℕ → Bool) → t 128 ≡ t 0 → (bytes : List ℕ) → list_all t (clean bytes) ≡ list_all t bytes
all_same t same [] = refl
all_same t same (byte ∷ bytes) = ap (λ b. b && list_all t (clean bytes)) (at_byte t same byte) ∙ ap (λ b. t byte && b) (all_same t same bytes)

pub long_same : (bytes : List ℕ) → length (clean bytes) ≡ length bytes
long_same [] = refl
long_same (byte ∷ bytes) = ap suc (long_same bytes)

drop_same : (n : ℕ) (bytes : List ℕ) → drop n (clean bytes) ≡ clean (drop n bytes)
drop_same zero bytes = refl
drop_same (suc n) [] = refl
drop_same (suc n) (byte ∷ bytes) = drop_same n bytes

part_same : (at width : ℕ) (bytes : List ℕ) → part at width (clean bytes) ≡ clean (part at width bytes)
part_same at width bytes = ap (take width) (drop_same at bytes) ∙ take-map clean_byte width (drop at bytes)

-- ---- Numbers and names

digits_stay : (bytes : List ℕ) → list_all (λ byte. is_digit byte 10) bytes ≡ true → clean bytes ≡ bytes
digits_stay [] all = refl
digits_stay (zero ∷ bytes) all = absurd (false≢true all)
digits_stay (suc byte ∷ bytes) all =
    ap (λ b. b ∷ clean bytes) (other_stays byte)
    ∙ ap (λ l. suc byte ∷ l) (digits_stay bytes (and_parts (is_digit (suc byte) 10) (list_all (λ b. is_digit b 10) bytes) all).1)

number_same : (bytes : List ℕ) → number_of (clean bytes) ≡ number_of bytes
unfolding number_in
number_same bytes = ⊎_elim
    (λ yes. ap number_of (digits_stay bytes yes))
    (λ no. cond-false (list_all (λ byte. is_digit byte 10) (clean bytes)) _ None (all_same (λ byte. is_digit byte 10) refl bytes ∙ no) ∙ sym (cond-false (list_all (λ byte. is_digit byte 10) bytes) _ None no))
    (cases_Bool (list_all (λ byte. is_digit byte 10) bytes))

below_same : (limit : ℕ) (bytes : List ℕ) → number_below limit (clean bytes) ≡ number_below limit bytes
below_same limit bytes = ap (λ n. n >>= (λ number. cond (nat_lt number limit) (Some number) None)) (number_same bytes)

-- bytes that are neither NUL nor 80 hex
abbrev IsPlain : List ℕ → Type 0
IsPlain [] = Unit {0}
IsPlain (byte ∷ bytes) = ((128 == byte) ≡ (0 == byte)) × IsPlain bytes

name_same : (name other : List ℕ) → IsPlain other → bytes_eq (map to_ascii_lowercase (clean name)) other ≡ bytes_eq (map to_ascii_lowercase name) other
name_same [] other plain = refl
name_same (byte ∷ name) [] plain = refl
name_same (byte ∷ name) (first ∷ other) plain =
    ap (λ b. b && bytes_eq (map to_ascii_lowercase (clean name)) other) (at_byte (λ b. to_ascii_lowercase b == first) plain.0 byte)
    ∙ ap (λ b. (to_ascii_lowercase byte == first) && b) (name_same name other plain.1)

abbrev ArePlain : List (List ℕ) → Type 0
ArePlain [] = Unit {0}
ArePlain (name ∷ names) = IsPlain (map to_ascii_lowercase name) × ArePlain names

abbrev is_name : List ℕ → List ℕ → Bool
is_name name each = bytes_eq (map to_ascii_lowercase name) (map to_ascii_lowercase each)

before_same : (name : List ℕ) (names : List (List ℕ)) → ArePlain names → prefix_len (λ each. not (is_name (clean name) each)) names ≡ prefix_len (λ each. not (is_name name each)) names
before_same name [] plain = refl
before_same name (first ∷ names) plain =
    ap (λ b. cond (not b) (1 + prefix_len (λ each. not (is_name (clean name) each)) names) 0) (name_same name (map to_ascii_lowercase first) plain.0)
    ∙ ap (λ n. cond (not (is_name name first)) (1 + n) 0) (before_same name names plain.1)

place_same : (name : List ℕ) (names : List (List ℕ)) → ArePlain names → place_of (clean name) names ≡ place_of name names
place_same name names plain = ap (λ n. cond (nat_lt n (length names)) (Some n) None) (before_same name names plain)

months_plain : ArePlain month_names
months_plain = ((refl, (refl, (refl, tt))), ((refl, (refl, (refl, tt))), ((refl, (refl, (refl, tt))), ((refl, (refl, (refl, tt))), ((refl, (refl, (refl, tt))), ((refl, (refl, (refl, tt))), ((refl, (refl, (refl, tt))), ((refl, (refl, (refl, tt))), ((refl, (refl, (refl, tt))), ((refl, (refl, (refl, tt))), ((refl, (refl, (refl, tt))), ((refl, (refl, (refl, tt))), tt))))))))))))

days_plain : ArePlain day_names
days_plain = ((refl, (refl, (refl, tt))), ((refl, (refl, (refl, tt))), ((refl, (refl, (refl, tt))), ((refl, (refl, (refl, tt))), ((refl, (refl, (refl, tt))), ((refl, (refl, (refl, tt))), ((refl, (refl, (refl, tt))), tt)))))))

month_same : (name : List ℕ) → month_of (clean name) ≡ month_of name
unfolding month_of
month_same name = ap (option_map (λ place. place + 1)) (place_same name month_names months_plain)

-- ---- Dates

day_same : (bytes : List ℕ) → day_of (clean bytes) ≡ day_of bytes
unfolding day_of
day_same bytes =
    ap (λ b. cond b (number_of (drop 1 (clean bytes))) (number_of (clean bytes))) (at_place (λ b. b == 32) refl bytes 0)
    ∙ ap (λ n. cond (slice_index bytes 0 == 32) n (number_of (clean bytes))) (ap number_of (drop_same 1 bytes) ∙ number_same (drop 1 bytes))
    ∙ ap (λ n. cond (slice_index bytes 0 == 32) (number_of (drop 1 bytes)) n) (number_same bytes)

sixtieth_same : (bytes : List ℕ) → sixtieth_of (clean bytes) ≡ sixtieth_of bytes
unfolding sixtieth_of
sixtieth_same bytes =
    ap (λ b. cond b (number_below 60 (drop 1 (clean bytes))) None) (at_place (λ b. b == 58) refl bytes 0)
    ∙ ap (λ n. cond (slice_index bytes 0 == 58) n None) (ap (number_below 60) (drop_same 1 bytes) ∙ below_same 60 (drop 1 bytes))

seconds_same : (bytes : List ℕ) → seconds_of (clean bytes) ≡ seconds_of bytes
unfolding seconds_of
seconds_same bytes =
    ap (λ n. cond (n == 0) (Some 0) (sixtieth_of (clean bytes))) (long_same bytes)
    ∙ ap (cond (length bytes == 0) (Some 0)) (sixtieth_same bytes)

abbrev clock_by : Option ℕ → Option ℕ → Option ℕ → Option ℕ
clock_by hours minutes seconds = hours >>= (λ hour. minutes >>= (λ minute. seconds >>= (λ second. Some (3600 * hour + 60 * minute + second))))

clock_same : (bytes : List ℕ) → clock_of (clean bytes) ≡ clock_of bytes
unfolding clock_of
clock_same bytes =
    ap (λ h. clock_by h (sixtieth_of (part 2 3 (clean bytes))) (seconds_of (drop 5 (clean bytes)))) (ap (number_below 24) (take-map clean_byte 2 bytes) ∙ below_same 24 (take 2 bytes))
    ∙ ap (λ m. clock_by (number_below 24 (take 2 bytes)) m (seconds_of (drop 5 (clean bytes)))) (ap sixtieth_of (part_same 2 3 bytes) ∙ sixtieth_same (part 2 3 bytes))
    ∙ ap (clock_by (number_below 24 (take 2 bytes)) (sixtieth_of (part 2 3 bytes))) (ap seconds_of (drop_same 5 bytes) ∙ seconds_same (drop 5 bytes))

abbrev offset_by : ℕ → Option ℕ → Option ℕ → Option ℤ
offset_by sign hours minutes = hours >>= (λ hour. minutes >>= (λ minute. signed sign (60 * hour + minute)))

offset_same : (bytes : List ℕ) → offset_of (clean bytes) ≡ offset_of bytes
unfolding offset_of
offset_same bytes =
    ap (λ h. offset_by (slice_index (clean bytes) 0) h (number_below 60 (drop 3 (clean bytes)))) (ap (number_below 24) (part_same 1 2 bytes) ∙ below_same 24 (part 1 2 bytes))
    ∙ ap (offset_by (slice_index (clean bytes) 0) (number_below 24 (part 1 2 bytes))) (ap (number_below 60) (drop_same 3 bytes) ∙ below_same 60 (drop 3 bytes))
    ∙ sign_same (number_below 24 (part 1 2 bytes)) (number_below 60 (drop 3 bytes))
  where
    sign_same : (hours minutes : Option ℕ) → offset_by (slice_index (clean bytes) 0) hours minutes ≡ offset_by (slice_index bytes 0) hours minutes
    sign_same None minutes = refl
    sign_same (Some hour) None = refl
    sign_same (Some hour) (Some minute) = at_place (λ b. signed b (60 * hour + minute)) refl bytes 0

year_same : (bytes : List ℕ) → year_of (clean bytes) ≡ year_of bytes
year_same bytes =
    ap (λ n. cond ((n == 5) && (slice_index (clean bytes) 0 == 32)) (number_of (drop 1 (clean bytes))) None) (long_same bytes)
    ∙ ap (λ b. cond ((length bytes == 5) && b) (number_of (drop 1 (clean bytes))) None) (at_place (λ b. b == 32) refl bytes 0)
    ∙ ap (λ n. cond ((length bytes == 5) && (slice_index bytes 0 == 32)) n None) (ap number_of (drop_same 1 bytes) ∙ number_same (drop 1 bytes))

abbrev zone_by : ℕ → Bool → Bool → Option ℤ → Option ℤ
zone_by long space letters offset =
    cond (long == 0) (Some (pos 0)) (cond ((long == 4) && space && letters) (Some (pos 0)) (cond ((long == 6) && space) offset None))

zone_same : (bytes : List ℕ) → zone_of (clean bytes) ≡ zone_of bytes
zone_same bytes =
    ap (λ n. zone_by n (slice_index (clean bytes) 0 == 32) (list_all is_ascii_alphabetic (drop 1 (clean bytes))) (offset_of (drop 1 (clean bytes)))) (long_same bytes)
    ∙ ap (λ b. zone_by (length bytes) b (list_all is_ascii_alphabetic (drop 1 (clean bytes))) (offset_of (drop 1 (clean bytes)))) (at_place (λ b. b == 32) refl bytes 0)
    ∙ ap (λ l. zone_by (length bytes) (slice_index bytes 0 == 32) (list_all is_ascii_alphabetic l) (offset_of l)) (drop_same 1 bytes)
    ∙ ap (λ b. zone_by (length bytes) (slice_index bytes 0 == 32) b (offset_of (clean (drop 1 bytes)))) (all_same is_ascii_alphabetic refl (drop 1 bytes))
    ∙ ap (zone_by (length bytes) (slice_index bytes 0 == 32) (list_all is_ascii_alphabetic (drop 1 bytes))) (offset_same (drop 1 bytes))

year_zone_same : (year zone : List ℕ) → year_zone_of (clean year) (clean zone) ≡ year_zone_of year zone
year_zone_same year zone =
    ap (λ n. n >>= (λ number. zone_of (clean zone) >>= (λ minutes. Some (number, minutes)))) (year_same year)
    ∙ ap (λ z. year_of year >>= (λ number. z >>= (λ minutes. Some (number, minutes)))) (zone_same zone)

end_same : (bytes : List ℕ) → end_of (clean bytes) ≡ end_of bytes
unfolding end_of
end_same bytes =
    ap (λ n. option_or (year_zone_of (take 5 (clean bytes)) (drop 5 (clean bytes))) (year_zone_of (drop (n - 5) (clean bytes)) (take (n - 5) (clean bytes)))) (long_same bytes)
    ∙ ap (λ l. option_or (year_zone_of l (drop 5 (clean bytes))) (year_zone_of (drop n (clean bytes)) (take n (clean bytes)))) (take-map clean_byte 5 bytes)
    ∙ ap (λ l. option_or (year_zone_of (clean (take 5 bytes)) l) (year_zone_of (drop n (clean bytes)) (take n (clean bytes)))) (drop_same 5 bytes)
    ∙ ap (λ l. option_or (year_zone_of (clean (take 5 bytes)) (clean (drop 5 bytes))) (year_zone_of l (take n (clean bytes)))) (drop_same n bytes)
    ∙ ap (λ l. option_or (year_zone_of (clean (take 5 bytes)) (clean (drop 5 bytes))) (year_zone_of (clean (drop n bytes)) l)) (take-map clean_byte n bytes)
    ∙ ap (λ e. option_or e (year_zone_of (clean (drop n bytes)) (clean (take n bytes)))) (year_zone_same (take 5 bytes) (drop 5 bytes))
    ∙ ap (option_or (year_zone_of (take 5 bytes) (drop 5 bytes))) (year_zone_same (drop n bytes) (take n bytes))
  where
    n : ℕ
    n = length bytes - 5

abbrev fields_by : Option ℕ → Option ℕ → Option ℕ → Option (ℕ × ℤ) → Option StampParts
fields_by months days seconds ends =
    months >>= (λ month. days >>= (λ day. seconds >>= (λ second. ends >>= (λ (year_zone : ℕ × ℤ).
    civil_day_of year_zone.0 month day >>= (λ civil. Some (record { day = civil; second = second; zone_minutes = year_zone.1 }))))))

fields_same : (date clock end : List ℕ) → stamp_of_fields (clean date) (clean clock) (clean end) ≡ stamp_of_fields date clock end
unfolding stamp_of_fields
fields_same date clock end =
    ap (λ m. fields_by m (day_of (part 8 2 (clean date))) (clock_of (clean clock)) (end_of (clean end))) (ap month_of (part_same 4 3 date) ∙ month_same (part 4 3 date))
    ∙ ap (λ d. fields_by (month_of (part 4 3 date)) d (clock_of (clean clock)) (end_of (clean end))) (ap day_of (part_same 8 2 date) ∙ day_same (part 8 2 date))
    ∙ ap (λ s. fields_by (month_of (part 4 3 date)) (day_of (part 8 2 date)) s (end_of (clean end))) (clock_same clock)
    ∙ ap (fields_by (month_of (part 4 3 date)) (day_of (part 8 2 date)) (clock_of clock)) (end_same end)

in_frame_same : (date : List ℕ) → stamp_in_frame (clean date) ≡ stamp_in_frame date
unfolding stamp_in_frame
in_frame_same date =
    let one : stamp_of_fields (clean date) (part 11 8 (clean date)) (drop 19 (clean date)) ≡ stamp_of_fields date (part 11 8 date) (drop 19 date) =
    ap (λ c. stamp_of_fields (clean date) c (drop 19 (clean date))) (part_same 11 8 date)
    ∙ ap (stamp_of_fields (clean date) (clean (part 11 8 date))) (drop_same 19 date) ∙ fields_same date (part 11 8 date) (drop 19 date) in
    let other : stamp_of_fields (clean date) (part 11 5 (clean date)) (drop 16 (clean date)) ≡ stamp_of_fields date (part 11 5 date) (drop 16 date) =
    ap (λ c. stamp_of_fields (clean date) c (drop 16 (clean date))) (part_same 11 5 date)
    ∙ ap (stamp_of_fields (clean date) (clean (part 11 5 date))) (drop_same 16 date) ∙ fields_same date (part 11 5 date) (drop 16 date) in
    ap (λ b. cond b (stamp_of_fields (clean date) (part 11 8 (clean date)) (drop 19 (clean date))) (stamp_of_fields (clean date) (part 11 5 (clean date)) (drop 16 (clean date)))) (at_place (λ b. b == 58) refl date 16)
    ∙ ap (λ s. cond (slice_index date 16 == 58) s (stamp_of_fields (clean date) (part 11 5 (clean date)) (drop 16 (clean date)))) one
    ∙ ap (cond (slice_index date 16 == 58) (stamp_of_fields date (part 11 8 date) (drop 19 date))) other

frame_same : (date : List ℕ) → has_frame (clean date) ≡ has_frame date
frame_same date =
    ap (λ p. is_some p && (slice_index (clean date) 3 == 32) && (slice_index (clean date) 7 == 32) && (slice_index (clean date) 10 == 32)) (ap (λ l. place_of l day_names) (take-map clean_byte 3 date) ∙ place_same (take 3 date) day_names days_plain)
    ∙ ap (λ b. is_some (place_of (take 3 date) day_names) && b && (slice_index (clean date) 7 == 32) && (slice_index (clean date) 10 == 32)) (at_place (λ b. b == 32) refl date 3)
    ∙ ap (λ b. is_some (place_of (take 3 date) day_names) && (slice_index date 3 == 32) && b && (slice_index (clean date) 10 == 32)) (at_place (λ b. b == 32) refl date 7)
    ∙ ap (λ b. is_some (place_of (take 3 date) day_names) && (slice_index date 3 == 32) && (slice_index date 7 == 32) && b) (at_place (λ b. b == 32) refl date 10)

date_same : (date : List ℕ) → from_date_of (clean date) ≡ from_date_of date
unfolding from_date_of
date_same date = ap (λ b. cond b (stamp_in_frame (clean date)) None) (frame_same date) ∙ ap (λ s. cond (has_frame date) s None) (in_frame_same date)

behind_same : (text : List ℕ) → date_behind_space (clean text) ≡ date_behind_space text
unfolding date_behind_space
behind_same [] = refl
behind_same (byte ∷ rest) =
    ap (λ b. cond b (option_or (from_date_of (clean rest)) (date_behind_space (clean rest))) (date_behind_space (clean rest))) (at_byte (λ b. b == 32) refl byte)
    ∙ ap (λ d. cond (byte == 32) (option_or d (date_behind_space (clean rest))) (date_behind_space (clean rest))) (date_same rest)
    ∙ ap (λ d. cond (byte == 32) (option_or (from_date_of rest) d) d) (behind_same rest)

-- ---- Lines

line_end_same : (line : List ℕ) → is_line_end (clean line) ≡ is_line_end line
line_end_same [] = refl
line_end_same (byte ∷ []) = at_byte (λ b. b == 10) refl byte
line_end_same (byte ∷ next ∷ rest) =
    ap (λ b. b && is_line_end (clean (next ∷ rest))) (at_byte (λ b. b == 13) refl byte) ∙ ap (λ b. (byte == 13) && b) (line_end_same (next ∷ rest))

text_same : (line : List ℕ) → line_text (clean line) ≡ clean (line_text line)
text_same [] = refl
text_same (byte ∷ rest) =
    ap (λ b. cond b [] (clean_byte byte ∷ line_text (clean rest))) (line_end_same (byte ∷ rest))
    ∙ elim (is_line_end (byte ∷ rest)) as (λ b. cond b [] (clean_byte byte ∷ line_text (clean rest)) ≡ clean (cond b [] (byte ∷ line_text rest))) [
      | true ↦ refl
      | false ↦ ap (λ l. clean_byte byte ∷ l) (text_same rest)
    ]

pub width_same : (text : List ℕ) → line_len (clean text) ≡ line_len text
unfolding line_len
width_same [] = refl
width_same (byte ∷ rest) =
    ap (λ b. cond b 1 (suc (line_len (clean rest)))) (at_byte (λ b. b == 10) refl byte) ∙ ap (λ n. cond (byte == 10) 1 (suc n)) (width_same rest)

one_line : (text : List ℕ) → 0 < length text → (line_len text == length text) ≡ nat_le (length (lines_of text)) 1
one_line text some =
    let bounds = line_len-bounds text some in
    one-line text (line_len text) (record { within = bounds.1; some = λ _. bounds.0; lines = λ _. lines-step text some })

one_same : (text : List ℕ) → is_one_line (clean text) ≡ is_one_line text
one_same [] = refl
one_same (byte ∷ rest) =
    sym (one_line (clean (byte ∷ rest)) (omega arith)) ∙ ap (λ n. n == length (clean (byte ∷ rest))) (width_same (byte ∷ rest))
    ∙ ap (λ n. line_len (byte ∷ rest) == n) (long_same (byte ∷ rest)) ∙ one_line (byte ∷ rest) (omega arith)

short_same : (line : List ℕ) → is_short (clean line) ≡ is_short line
short_same line =
    ap (λ n. nat_le n 1000 && nat_le (length (line_text (clean line))) 998) (long_same line)
    ∙ ap (λ n. nat_le (length line) 1000 && nat_le n 998) (ap length (text_same line) ∙ long_same (line_text line))

-- letters before a line
abbrev AreOther : List ℕ → Type 0
AreOther [] = Unit {0}
AreOther (byte ∷ bytes) = ((byte == 128) ≡ (byte == 0)) × AreOther bytes

begins_same : (letters bytes : List ℕ) → AreOther letters → bytes_eq letters (clean bytes) ≡ bytes_eq letters bytes
begins_same [] [] other = refl
begins_same [] (byte ∷ bytes) other = refl
begins_same (first ∷ letters) [] other = refl
begins_same (first ∷ letters) (byte ∷ bytes) other =
    ap (λ b. b && bytes_eq letters (clean bytes)) (at_byte (λ b. first == b) other.0 byte) ∙ ap (λ b. (first == byte) && b) (begins_same letters bytes other.1)

stamp_same : (line : List ℕ) → delimiter_stamp (clean line) ≡ delimiter_stamp line
unfolding delimiter_stamp
stamp_same line =
    ap (λ b. cond (b && is_short (clean line) && is_one_line (clean line)) (date_behind_space (drop 4 (line_text (clean line)))) None)
    (ap (bytes_eq (codes "From ")) (take-map clean_byte 5 line) ∙ begins_same (codes "From ") (take 5 line) (refl, (refl, (refl, (refl, (refl, tt))))))
    ∙ ap (λ b. cond (bytes_eq (codes "From ") (take 5 line) && b && is_one_line (clean line)) (date_behind_space (drop 4 (line_text (clean line)))) None) (short_same line)
    ∙ ap (λ b. cond (bytes_eq (codes "From ") (take 5 line) && is_short line && b) (date_behind_space (drop 4 (line_text (clean line)))) None) (one_same line)
    ∙ ap (λ d. cond (bytes_eq (codes "From ") (take 5 line) && is_short line && is_one_line line) d None)
    (ap date_behind_space (ap (drop 4) (text_same line) ∙ drop_same 4 (line_text line)) ∙ behind_same (drop 4 (line_text line)))

pub delimiter_same : (line : List ℕ) → is_delimiter_line (clean line) ≡ is_delimiter_line line
delimiter_same line = ap is_some (stamp_same line)
