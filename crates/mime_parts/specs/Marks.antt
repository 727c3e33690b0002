-- The lines that may be delimiter lines, those that begin with `--` (RFC 2046, section 5.1.1), and the rest of a text behind them.
use Rattle.std.specs.Prelude.{◌≡◌, ℕ, Bool, true, false, not, List, [], ◌∷◌, ◌++◌, ◌+◌, ◌-◌, ◌≤◌, ◌==◌, ◌||◌, ◌&&◌, if◌then◌else◌, length, take, drop, slice_range, get_or}
use Rattle.std.specs.List.{concat, list_all}
use Rattle.text_lines.specs.Lines.{lines_of}
use Rattle.mime_parts.specs.Delimiters.{opens_part, text_before, lines_before, lines_from_delimiter}
use Rattle.mime_parts.specs.declared.mark.Mark.{Mark}
use Rattle.mime_parts.specs.declared.mark.Tail.{Tail}
use Rattle.mime_parts.specs.declared.mark.Next.{Next}
use Rattle.mime_parts.specs.declared.delimiter.Section.{Section}

-- a line that begins with `--`
abbrev pub is_dashed : List ℕ → Bool
is_dashed [] = false
is_dashed (a ∷ []) = false
is_dashed (a ∷ b ∷ rest) = (a == 45) && (b == 45)

-- the marks of some lines, the first of which stands at an offset and behind so many lines
abbrev pub marks_from : ℕ → ℕ → List (List ℕ) → List Mark
marks_from at count [] = []
marks_from at count (line ∷ rest) =
    let later = marks_from (at + length line) (count + 1) rest in
    if is_dashed line then record { at = at; lines = count } ∷ later else later

-- what a reader knows of the rest of a text
pub record IsTail (text : List ℕ) (tail : Tail) : Type 0 where
  pub within : tail.from ≤ length text
  pub few : tail.before ≤ tail.from
  pub lines : tail.until ≡ tail.before + length (lines_of (drop tail.from text))
  pub marks : tail.marks.now ≡ marks_from tail.from tail.before (lines_of (drop tail.from text))

-- no line is left that begins with `--`
abbrev pub HasNoDashed : List ℕ → Tail → Type 0
HasNoDashed text tail = list_all (λ line. not (is_dashed line)) (lines_of (drop tail.from text)) ≡ true

-- the next line that begins with `--`, the lines before it, and what stands behind it
pub record IsNext (text : List ℕ) (tail : Tail) (next : Next) : Type 0 where
  pub skipped : List (List ℕ)
  pub plain : list_all (λ line. not (is_dashed line)) skipped ≡ true
  pub dashed : is_dashed next.line.now ≡ true
  pub whole : lines_of (drop tail.from text) ≡ skipped ++ next.line.now ∷ lines_of (drop next.behind.from text)
  pub at : next.mark.at ≡ tail.from + length (concat skipped)
  pub lines : next.mark.lines ≡ tail.before + length skipped
  pub behind : IsTail text next.behind
  pub from : next.behind.from ≡ next.mark.at + length next.line.now
  pub before : next.behind.before ≡ next.mark.lines + 1
  pub marks : tail.marks.now ≡ next.mark ∷ next.behind.marks.now
  pub until : next.behind.until ≡ tail.until

-- nothing, or bytes that end in LF
abbrev pub ends_line : List ℕ → Bool
ends_line bytes = (length bytes == 0) || (get_or bytes (length bytes - 1) 0 == 10)

-- the offset and the text of a section
abbrev pub section_in : List ℕ → Section → ℕ × List ℕ
section_in text section = (section.tail.from, slice_range text section.tail.from section.to)

-- the part that a line opens, if it does, by the lines behind it, the first of which stands at an offset
abbrev pub opened_part : List ℕ → List ℕ → ℕ → List (List ℕ) → List (ℕ × List ℕ)
opened_part boundary line at rest =
    if opens_part boundary line then (at, text_before (lines_before boundary rest) (lines_from_delimiter boundary rest)) ∷ [] else []

-- a section stands in a text, and its tail is the rest of the text up to its end
pub record IsSection (text : List ℕ) (section : Section) : Type 0 where
  pub ordered : section.tail.from ≤ section.to
  pub within : section.to ≤ length text
  pub tail : IsTail (take section.to text) section.tail

-- a part that begins a tail ends at the line of a mark, and so many marks stand in it
pub record EndsAt (text : List ℕ) (tail : Tail) (mark : Mark) (passed : ℕ) : Type 0 where
  pub front : List (List ℕ)
  pub line : List ℕ
  pub rest : List (List ℕ)
  pub whole : lines_of (drop tail.from text) ≡ front ++ line ∷ rest
  pub at : mark.at ≡ tail.from + length (concat front)
  pub lines : mark.lines ≡ tail.before + length front
  pub marks : take passed tail.marks.now ≡ marks_from tail.from tail.before front
  pub few : passed ≤ length tail.marks.now
