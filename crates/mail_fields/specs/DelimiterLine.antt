-- Delimiter lines, which the messages of a unix file begin with (RFC 4155, appendix A).
use Rattle.std.specs.Prelude.{ℕ, ◌-◌, Bool, List, [], ◌∷◌, Option, None, is_some, IsTrue, nat_lt, nat_le, ◌==◌, ◌&&◌, if◌then◌else◌, length, take, drop, slice_index, codes, bytes_eq}
use Rattle.std.specs.Option.{option_or}
use Rattle.text_lines.specs.Lines.{lines_of, line_text}
use Rattle.mail_fields.specs.Stamps.{StampParts}
use Rattle.mail_fields.specs.FromDate.{from_date_of}

-- the from date behind the first space that has one behind it
unfoldable pub date_behind_space : List ℕ → Option StampParts
date_behind_space [] = None
date_behind_space (byte ∷ rest) =
    if byte == 32 then option_or (from_date_of rest) (date_behind_space rest) else date_behind_space rest

-- the from date that the last bytes of a text are, so many of them, if a space stands before them
unfoldable pub date_at_end : List ℕ → ℕ → Option StampParts
date_at_end text width =
    if nat_lt width (length text) && (slice_index text (length text - width - 1) == 32) then from_date_of (drop (length text - width) text)
    else None

-- one line: at most its last byte is LF
abbrev pub is_one_line : List ℕ → Bool
is_one_line line = nat_le (length (lines_of line)) 1

-- short enough to be sent: at most 998 bytes, and 1,000 with the line end (RFC 5322, section 2.1.1)
abbrev pub is_short : List ℕ → Bool
is_short line = nat_le (length line) 1000 && nat_le (length (line_text line)) 998

-- the stamp of a delimiter line: one short line that begins with `From ` and ends, behind a space, in a from date
unfoldable pub delimiter_stamp : List ℕ → Option StampParts
delimiter_stamp line =
    if bytes_eq (codes "From ") (take 5 line) && is_short line && is_one_line line then date_behind_space (drop 4 (line_text line)) else None

-- a delimiter line is one that has a stamp
abbrev pub is_delimiter_line : List ℕ → Bool
is_delimiter_line line = is_some (delimiter_stamp line)

abbrev pub IsDelimiterLine : List ℕ → Type 0
IsDelimiterLine line = IsTrue (is_delimiter_line line)
