-- The delimiter line that is written is one, with its stamp.
use Rattle.std.proofs.Common.{◌≡◌, ℕ, ℤ, ◌+◌, ◌≤◌, true, false, not, cond, List, [], ◌∷◌, ◌++◌, ◌==◌, ◌&&◌, nat_le, length, length-append, drop, append_assoc, append-nil, codes, Some, None, refl, ap, sym, ◌∙◌, arith}
use Rattle.std.specs.Cmp.Derive.{both_true}
use Rattle.std.specs.Option.{option_or}
use Rattle.std.proofs.lemmas.Bool.{ne_eqb}
use Rattle.std.proofs.lemmas.Bool.Decides.{nat_tests}
use Rattle.text_lines.specs.Lines.{lines_of, line_text}
use Rattle.text_lines.proofs.Lines.{no_lines}
use Rattle.text_lines.proofs.Texts.{is_closed, closed-first}
use Rattle.mail_fields.specs.DelimiterLine.{date_behind_space, delimiter_stamp, is_one_line, is_short}
use Rattle.mail_fields.specs.FromDate.{from_date_of, from_date_text}
use Rattle.mail_fields.specs.Stamps.{StampParts}
use Rattle.mail_fields.specs.Texts.{written_at}
use Rattle.std.proofs.lemmas.List.{drop_all}
use Rattle.status_heads.specs.Delimiters.{delimiter_text}
use Rattle.status_heads.proofs.HighBytes.{high-pass, date-high}
use Rattle.status_heads.proofs.MadeLines.{is_clean, text-of, closed-of}
use Rattle.status_heads.proofs.WrittenValues.{clean-both}

-- ---- A from date has no byte of a line end

byte-clean : (byte : ℕ) → 14 ≤ byte → (not (byte == 10) && not (byte == 13)) ≡ true
byte-clean byte high =
    let feed : (byte == 10) ≡ false = ne_eqb byte 10 (λ is. omega (arith, high, is)) in
    let return : (byte == 13) ≡ false = ne_eqb byte 13 (λ is. omega (arith, high, is)) in
    rw (feed, return) refl

date-clean : (day : ℤ) (second : ℕ) → is_clean (from_date_text day second) ≡ true
date-clean day second = high-pass (λ byte. not (byte == 10) && not (byte == 13)) byte-clean (from_date_text day second) (date-high day second)

-- ---- The line

module _ (date : List ℕ) (stamp : StampParts) (long : length date ≡ 24) (clean : is_clean date ≡ true) (reads : from_date_of date ≡ Some stamp) where
  abbrev sender : List ℕ
  sender = codes "From MAILER-DAEMON "

  abbrev line : List ℕ
  line = sender ++ (date ++ 10 ∷ [])

  text-is : line_text line ≡ sender ++ date
  text-is = ap line_text (sym (append_assoc sender date (10 ∷ []))) ∙ text-of (sender ++ date) (clean-both sender date refl clean)

  lines-are : lines_of line ≡ line ∷ []
  lines-are =
      let closed = ap is_closed (sym (append_assoc sender date (10 ∷ []))) ∙ closed-of (sender ++ date) (clean-both sender date refl clean) in
      ap lines_of (sym (append-nil line)) ∙ closed-first line [] closed ∙ ap (λ lines. line ∷ lines) (no_lines [] refl)

  date-found : date_behind_space (drop 4 (sender ++ date)) ≡ Some stamp
  unfolding date_behind_space from_date_of
  date-found = ap (λ found. option_or found (date_behind_space date)) reads

  pub line_back : delimiter_stamp line ≡ Some stamp
  unfolding delimiter_stamp
  line_back =
      let behind = length-append date (10 ∷ []) in
      let found = date_behind_space (drop 4 (line_text line)) in
      let size : length line ≡ 44 = omega (arith, behind, long) in
      let text_size : length (line_text line) ≡ 43 = let text = ap length text-is in let parts = length-append sender date in omega (arith, text, parts, long) in
      let few : nat_le (length line) 1000 ≡ true = grind (arith, nat_tests, size) in
      let text_few : nat_le (length (line_text line)) 998 ≡ true = grind (arith, nat_tests, text_size) in
      let short : is_short line ≡ true = both_true few text_few in
      let one : is_one_line line ≡ true = ap (λ lines. nat_le (length lines) 1) lines-are in
      ap (λ is. cond ((true && is) && is_one_line line) found None) short
      ∙ ap (λ is. cond is found None) one
      ∙ ap (λ text. date_behind_space (drop 4 text)) text-is ∙ date-found

-- it is one line
pub delimiter-closed : (day : ℤ) (second : ℕ) → is_closed (delimiter_text day second) ≡ true
unfolding delimiter_text
delimiter-closed day second =
    let date = from_date_text day second in
    ap is_closed (sym (append_assoc (codes "From MAILER-DAEMON ") date (10 ∷ []))) ∙ closed-of (codes "From MAILER-DAEMON " ++ date) (clean-both (codes "From MAILER-DAEMON ") date refl (date-clean day second))

pub stamp_back : (day : ℤ) (second : ℕ) (stamp : StampParts) → length (from_date_text day second) ≡ 24 → from_date_of (from_date_text day second) ≡ Some stamp → delimiter_stamp (delimiter_text day second) ≡ Some stamp
unfolding delimiter_text
stamp_back day second stamp long reads = line_back (from_date_text day second) stamp long (date-clean day second) reads

-- a date over all of a buffer, between the other parts of the line
pub line-is : (day : ℤ) (second : ℕ) (given buffer first then line : List ℕ) → length given ≡ 24 → length (from_date_text day second) ≡ 24
    → buffer ≡ written_at given 0 (from_date_text day second) → first ≡ codes "From MAILER-DAEMON " → then ≡ first ++ buffer → line ≡ then ++ codes "\n"
    → line ≡ delimiter_text day second
unfolding delimiter_text written_at
line-is day second given buffer first then line room long written begins middle ends =
    let date = from_date_text day second in
    let over : buffer ≡ date = written ∙ ap (λ rest. date ++ rest) (drop_all (0 + length date) given (omega (arith, room, long))) ∙ append-nil date in
    ends ∙ ap (λ t. t ++ codes "\n") (middle ∙ ap (λ f. f ++ buffer) begins ∙ ap (λ d. codes "From MAILER-DAEMON " ++ d) over)
    ∙ append_assoc (codes "From MAILER-DAEMON ") date (codes "\n")
