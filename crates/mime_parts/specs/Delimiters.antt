-- The lines that divide a multipart, and the parts between them (RFC 2046, section 5.1.1).
use Rattle.std.specs.Prelude.{◌≡◌, ℕ, Bool, false, not, List, [], ◌∷◌, ◌+◌, ◌<◌, ◌≤◌, ◌||◌, ◌&&◌, if◌then◌else◌, Option, Some, None, length, take, drop}
use Rattle.std.specs.List.{concat, list_all, prefix_len, before_first}
use Rattle.std.specs.Str.{bytes_eq}
use Rattle.text_lines.specs.Blanks.{is_blank}
use Rattle.text_lines.specs.Lines.{lines_of, line_text}

-- what a line has behind `--boundary`, without its line end; none where it begins otherwise
abbrev pub after_boundary : List ℕ → List ℕ → Option (List ℕ)
after_boundary boundary line =
    let dashed = 45 ∷ 45 ∷ boundary in
    let text = line_text line in
    if bytes_eq (take (length dashed) text) dashed then Some (drop (length dashed) text) else None

-- blanks alone
abbrev pub are_blanks : Option (List ℕ) → Bool
are_blanks None = false
are_blanks (Some bytes) = list_all is_blank bytes

-- `--`, and then blanks alone
abbrev pub are_dashes : Option (List ℕ) → Bool
are_dashes None = false
are_dashes (Some bytes) = bytes_eq (take 2 bytes) (45 ∷ 45 ∷ []) && list_all is_blank (drop 2 bytes)

-- `--boundary`: a part begins behind it
abbrev pub opens_part : List ℕ → List ℕ → Bool
opens_part boundary line = are_blanks (after_boundary boundary line)

-- `--boundary--`: no part begins behind it
abbrev pub closes_parts : List ℕ → List ℕ → Bool
closes_parts boundary line = are_dashes (after_boundary boundary line)

-- a delimiter line of either kind
abbrev pub is_delimiter : List ℕ → List ℕ → Bool
is_delimiter boundary line = opens_part boundary line || closes_parts boundary line

-- the text of a part: its lines; the line end before a delimiter belongs to that
abbrev pub text_before : List (List ℕ) → List (List ℕ) → List ℕ
text_before lines [] = concat lines
text_before lines (delimiter ∷ more) = line_text (concat lines)

-- the lines up to the next delimiter line
abbrev pub lines_before : List ℕ → List (List ℕ) → List (List ℕ)
lines_before boundary lines = before_first (is_delimiter boundary) lines

-- the lines from the next delimiter line on
abbrev pub lines_from_delimiter : List ℕ → List (List ℕ) → List (List ℕ)
lines_from_delimiter boundary lines = drop (prefix_len (λ line. not (is_delimiter boundary line)) lines) lines

-- the parts behind the delimiter lines of some lines, the first of which stands at an offset: each by its offset and its text, up to a delimiter that closes
abbrev pub parts_from : List ℕ → ℕ → List (List ℕ) → List (ℕ × List ℕ)
parts_from boundary offset [] = []
parts_from boundary offset (line ∷ rest) =
    let behind = offset + length line in
    if closes_parts boundary line then []
    else if opens_part boundary line then
    (behind, text_before (lines_before boundary rest) (lines_from_delimiter boundary rest)) ∷ parts_from boundary behind rest
    else parts_from boundary behind rest

-- the parts of a multipart body that stands at an offset
abbrev pub parts_of_body : List ℕ → ℕ → List ℕ → List (ℕ × List ℕ)
parts_of_body boundary offset body = parts_from boundary offset (lines_of body)

-- a line that a text begins with, and the lines behind it
pub record BeginsLines (text line : List ℕ) : Type 0 where
  pub some : 0 < length line
  pub within : length line ≤ length text
  pub front : line ≡ take (length line) text
  pub lines : lines_of text ≡ line ∷ lines_of (drop (length line) text)
