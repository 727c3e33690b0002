-- One line of a text: what the text forms make of it.
use Rattle.std.specs.Prelude.{ℕ, Bool, false, List, [], ◌∷◌, ◌++◌, ◌==◌, ◌&&◌, ◌||◌, nat_lt, if◌then◌else◌, length, take, drop, codes, bytes_eq}
use Rattle.std.specs.Str.{str_eq_ignore_ascii_case}
use Rattle.text_lines.specs.Blanks.{is_blank, is_continuation}
use Rattle.text_lines.specs.Lines.{line_text, line_end_of}
use Rattle.mail_fields.specs.DelimiterLine.{is_delimiter_line}

-- a line that has a line end (RFC 5322, section 2.1)
abbrev pub is_ended : List ℕ → Bool
is_ended line = nat_lt 0 (length (line_end_of line))

-- the line with another line end in place of its own, if it has one
abbrev pub with_end : List ℕ → List ℕ → List ℕ
with_end end line = if is_ended line then line_text line ++ end else line

-- the line with CRLF at its end
abbrev pub kept_line : List ℕ → List ℕ
kept_line = with_end (13 ∷ 10 ∷ [])

-- the line with LF at its end
abbrev pub stored_line : List ℕ → List ℕ
stored_line = with_end (10 ∷ [])

-- the line, with LF at its end where it has no line end
abbrev pub ended_line : List ℕ → List ℕ
ended_line line = if is_ended line then line else line ++ 10 ∷ []

-- the line, with a byte before it where it passes a test
abbrev pub marked_line : (List ℕ → Bool) → ℕ → List ℕ → List ℕ
marked_line test mark line = if test line then mark ∷ line else line

-- the line, with `>` before it where it is a delimiter line (RFC 4155, appendix A)
abbrev pub quoted_from : List ℕ → List ℕ
quoted_from = marked_line is_delimiter_line 62

-- the border of a message in an mmdf file: four bytes 01
abbrev pub is_mmdf_line : List ℕ → Bool
is_mmdf_line line = bytes_eq (line_text line) (1 ∷ 1 ∷ 1 ∷ 1 ∷ [])

-- the line, with a space before it where it is such a border
abbrev pub quoted_mmdf : List ℕ → List ℕ
quoted_mmdf = marked_line is_mmdf_line 32

-- blanks, perhaps none, then a colon
abbrev pub begins_colon : List ℕ → Bool
begins_colon [] = false
begins_colon (byte ∷ rest) = byte == 58 || (is_blank byte && begins_colon rest)

-- a line that begins a field of that name: the name in any case, blanks, perhaps none, and a colon (RFC 5322, sections 2.2 and 4.5)
abbrev pub is_field_named : List ℕ → List ℕ → Bool
is_field_named line name = str_eq_ignore_ascii_case (take (length name) line) name && begins_colon (drop (length name) line)

-- a line that begins a field which a driver writes itself
abbrev pub is_reserved : List ℕ → Bool
is_reserved line =
    is_field_named line (codes "Status") || (
    is_field_named line (codes "X-Status") || (
    is_field_named line (codes "X-UID") || (
    is_field_named line (codes "X-Keywords") || (
    is_field_named line (codes "X-IMAP") || is_field_named line (codes "X-IMAPbase")))))

-- a header line that belongs to such a field, where it is known whether the line above it does
abbrev pub is_dropped : Bool → List ℕ → Bool
is_dropped above line = if is_continuation line then above else is_reserved line

-- the byte, or 80 hex for NUL
abbrev pub clean_byte : ℕ → ℕ
clean_byte byte = if byte == 0 then 128 else byte
