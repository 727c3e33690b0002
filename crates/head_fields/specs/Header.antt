-- The header of a text and the body behind it (RFC 5322, section 2.1).
use Rattle.std.specs.Prelude.{◌≡◌, ◌<◌, ◌≤◌, ◌+◌, ℕ, List, ◌∷◌, length, take, drop}
use Rattle.std.specs.List.{concat}
use Rattle.text_lines.specs.Lines.{lines_of, header_of}

-- the body stands behind the header's lines and the next line, which is empty, if there is one
abbrev pub body_start_of : List ℕ → ℕ
body_start_of text = length (concat (take (length (header_of text) + 1) (lines_of text)))

-- the header of a text alone, with the empty line that ends it
abbrev pub header_alone : List ℕ → List ℕ
header_alone text = take (body_start_of text) text

-- the line is the first of the text and of its header, and the header goes on behind it
pub record BeginsHeader (text line : List ℕ) : Type 0 where
  pub some : 0 < length line
  pub within : length line ≤ length text
  pub front : line ≡ take (length line) text
  pub lines : lines_of text ≡ line ∷ lines_of (drop (length line) text)
  pub header : header_of text ≡ line ∷ header_of (drop (length line) text)
