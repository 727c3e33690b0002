-- Heads of records in mtx and tenex files, such as `17-Jul-1996 02:44:25 -0700,1024;000000000001`.
use Rattle.std.specs.Prelude.{◌≡◌, ℕ, Bool, List, ◌++◌, codes, decimal, Option, Some, None, MatchOption, ◌==◌, if◌then◌else◌, length, take, drop, slice_index}
use Rattle.std.specs.List.{before_first, after_first}
use Rattle.mail_fields.specs.Numbers.{◌>>=◌, number_at_front, decimal_of, digits_in}
use Rattle.mail_fields.specs.Stamps.{StampParts, parts_of}
use Rattle.mail_fields.specs.ImapDate.{imap_date_of, imap_date_text}
use Rattle.octal_head.specs.declared.head.Octal.{Octal}

-- the four parts of a head: when its message came, how many bytes that has, the bits of its keywords and those of its flags
pub record OctalParts : Type 0 where
  pub stamp : StampParts
  pub size : ℕ
  pub words : ℕ
  pub bits : ℕ

abbrev pub head_parts : Octal → OctalParts
head_parts head = record { stamp = parts_of head.stamp; size = head.size; words = head.words; bits = head.bits }

-- a reader answers the head that a line means, and none exactly where it means none
abbrev pub ReadsHead : Option Octal → Option OctalParts → Type 0
ReadsHead result meant = MatchOption result (meant ≡ None) (λ head. meant ≡ Some (head_parts head))

-- what ends a size
abbrev pub is_semicolon : ℕ → Bool
is_semicolon byte = byte == 59

-- 12 octal digits: ten for the bits of keywords, and two for those of flags
unfoldable pub marks_of : List ℕ → Option (ℕ × ℕ)
marks_of digits =
    if length digits == 12 then (do
      words ← number_at_front 8 10 digits
      bits ← number_at_front 8 2 (drop 10 digits)
      Some (words, bits))
    else None

-- what stands behind the comma: a decimal size up to the first semicolon, and behind that the bits
unfoldable pub size_then_marks_of : List ℕ → Option (ℕ × ℕ × ℕ)
size_then_marks_of text = do
  size ← decimal_of (before_first is_semicolon text)
  marks ← marks_of (after_first is_semicolon text)
  Some (size, marks.0, marks.1)

-- the parts of a line: its date, and what stands behind the comma
unfoldable pub octal_parts_of : List ℕ → List ℕ → Option OctalParts
octal_parts_of date behind = do
  stamp ← imap_date_of date
  found ← size_then_marks_of behind
  Some (record { stamp = stamp; size = found.0; words = found.1; bits = found.2 })

-- the head that a line is, without its line end: an IMAP date, which has 26 bytes, a comma, the size and the bits
unfoldable pub octal_head_of : List ℕ → Option OctalParts
octal_head_of line = if slice_index line 26 == 44 then octal_parts_of (take 26 line) (drop 27 line) else None

-- the line of a head as it is written
unfoldable pub octal_head_text : OctalParts → List ℕ
octal_head_text head = imap_date_text head.stamp ++ codes "," ++ decimal head.size ++ codes ";" ++ (digits_in 8 10 head.words ++ digits_in 8 2 head.bits)

-- CRLF, or LF alone
abbrev pub line_end : Bool → List ℕ
line_end crlf = if crlf then codes "\r\n" else codes "\n"
