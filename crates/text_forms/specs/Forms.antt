-- The text forms, on the lines of a text.
use Rattle.std.specs.Prelude.{ℕ, Bool, true, false, List, [], ◌∷◌, ◌++◌, ◌==◌, ◌||◌, if◌then◌else◌, flat_map}
use Rattle.std.specs.List.{concat, list_any}
use Rattle.text_lines.specs.Lines.{lines_of, is_empty_line}
use Rattle.text_forms.specs.Lines.{kept_line, stored_line, ended_line, quoted_from, quoted_mmdf, is_dropped, is_reserved}

-- CRLF at the end of each line
abbrev pub keep_lines : List ℕ → List ℕ
keep_lines text = flat_map kept_line (lines_of text)

-- LF at the end of each line
abbrev pub store_lf : List ℕ → List ℕ
store_lf text = flat_map stored_line (lines_of text)

-- a text of whole lines: it has no byte, or LF as its last one
abbrev pub is_whole : List ℕ → Bool
is_whole [] = true
is_whole (byte ∷ []) = byte == 10
is_whole (byte ∷ next ∷ rest) = is_whole (next ∷ rest)

-- LF at the end of a last line without a line end
abbrev pub end_last : List ℕ → List ℕ
end_last text = flat_map ended_line (lines_of text)

-- the lines without the reserved fields of the header, where it is known whether the line above belongs to one
abbrev pub unreserved_lines : Bool → List (List ℕ) → List (List ℕ)
unreserved_lines above [] = []
unreserved_lines above (line ∷ lines) =
    if is_empty_line line then line ∷ lines
    else (if is_dropped above line then unreserved_lines true lines else line ∷ unreserved_lines false lines)

-- lines with a header line that begins a reserved field
abbrev pub has_reserved : List (List ℕ) → Bool
has_reserved [] = false
has_reserved (line ∷ lines) = if is_empty_line line then false else (is_reserved line || has_reserved lines)

-- the text without the reserved fields of its header
abbrev pub drop_reserved : List ℕ → List ℕ
drop_reserved text = concat (unreserved_lines false (lines_of text))

-- a text with an empty line, which ends its header (RFC 5322, section 2.1)
abbrev pub has_empty_line : List ℕ → Bool
has_empty_line text = list_any is_empty_line (lines_of text)

-- CRLF behind a text without an empty line
abbrev pub end_header : List ℕ → List ℕ
end_header text = if has_empty_line text then text else text ++ 13 ∷ 10 ∷ []

-- `>` before each delimiter line (RFC 4155, appendix A)
abbrev pub quote_from : List ℕ → List ℕ
quote_from text = flat_map quoted_from (lines_of text)

-- a space before each border of an mmdf file
abbrev pub quote_mmdf : List ℕ → List ℕ
quote_mmdf text = flat_map quoted_mmdf (lines_of text)

-- every byte as it is
abbrev pub exact_form : List ℕ → List ℕ
exact_form text = text

-- CRLF line ends
abbrev pub lines_form : List ℕ → List ℕ
lines_form = keep_lines

-- whole lines that end in CRLF, no reserved field, and an empty line behind the header
abbrev pub headed_form : List ℕ → List ℕ
headed_form text = end_header (drop_reserved (keep_lines (end_last text)))

-- such a text without a delimiter line
abbrev pub unix_form : List ℕ → List ℕ
unix_form text = quote_from (headed_form text)

-- such a text without the border of an mmdf file
abbrev pub mmdf_form : List ℕ → List ℕ
mmdf_form text = quote_mmdf (headed_form text)
