-- Fields of records: each has a colon before it, and its own width.
use Rattle.std.specs.Prelude.{ℕ, ◌+◌, List, ◌∷◌, codes, Option, Some, None, nat_le, ◌==◌, ◌&&◌, if◌then◌else◌, length, take, drop, slice_index}
use Rattle.mail_fields.specs.Numbers.{◌>>=◌, number_at_front, digits_in}
use Rattle.mail_fields.specs.Stamps.{StampParts}
use Rattle.mail_fields.specs.MixDate.{mix_date_of, mix_date_text}

-- a colon and a number of so many hex digits, in either letter case, at the front of a text; and what stands behind them
unfoldable pub hex_at_front : ℕ → List ℕ → Option (ℕ × List ℕ)
hex_at_front width text =
    if slice_index text 0 == 58 then (do
      number ← number_at_front 16 width (drop 1 text)
      Some (number, drop (width + 1) text))
    else None

-- the same as it is written, the letters in lower case
unfoldable pub hex_text : ℕ → ℕ → List ℕ
hex_text width number = 58 ∷ digits_in 16 width number

-- a colon and a date of 19 bytes at the front of a text, and what stands behind them
unfoldable pub date_at_front : List ℕ → Option (StampParts × List ℕ)
date_at_front text =
    if nat_le 20 (length text) && (slice_index text 0 == 58) then (do
      stamp ← mix_date_of (take 19 (drop 1 text))
      Some (stamp, drop 20 text))
    else None

-- the same as it is written
unfoldable pub date_text : StampParts → List ℕ
date_text stamp = 58 ∷ mix_date_text stamp

-- what ends a record: a colon and CRLF
abbrev pub record_end : List ℕ
record_end = codes ":\r\n"

-- what stands behind the end of a record, if a text begins with that
unfoldable pub end_at_front : List ℕ → Option (List ℕ)
end_at_front text =
    if (slice_index text 0 == 58) && (slice_index text 1 == 13) && (slice_index text 2 == 10) then Some (drop 3 text) else None
