-- How the lines of a unix file are divided into messages (RFC 4155).
use Rattle.std.specs.Prelude.{ℕ, List, [], ◌∷◌, Option, Some, None, if◌then◌else◌}
use Rattle.std.specs.List.{concat}
use Rattle.text_lines.specs.Lines.{is_empty_line}
use Rattle.mail_fields.specs.DelimiterLine.{is_delimiter_line}

-- a message as it stands in a file: its delimiter line, and the lines behind that
pub record RawMessage : Type 0 where
  pub line : List ℕ
  pub lines : List (List ℕ)

-- lines before the first delimiter line, and the messages that begin with one
pub record CutLines : Type 0 where
  pub loose : List (List ℕ)
  pub messages : List RawMessage

-- a line before some that are cut
abbrev pub cut_line : List ℕ → CutLines → CutLines
cut_line line later =
    if is_delimiter_line line then record { loose = []; messages = record { line = line; lines = later.loose } ∷ later.messages }
    else record { loose = line ∷ later.loose; messages = later.messages }

-- lines cut before each delimiter line
abbrev pub cut_lines : List (List ℕ) → CutLines
cut_lines [] = record { loose = []; messages = [] }
cut_lines (line ∷ rest) = cut_line line (cut_lines rest)

-- the messages that lines are, where no line stands before the first delimiter line
abbrev pub messages_if : CutLines → Option (List RawMessage)
messages_if cut = elim cut.loose as (λ _. Option (List RawMessage)) [ [] ↦ Some cut.messages | (line ∷ rest) ↦ None ]

abbrev pub messages_in : List (List ℕ) → Option (List RawMessage)
messages_in lines = messages_if (cut_lines lines)

-- lines without the last one, if that is empty
abbrev pub without_last_empty : List (List ℕ) → List (List ℕ)
without_last_empty [] = []
without_last_empty (line ∷ []) = if is_empty_line line then [] else line ∷ []
without_last_empty (line ∷ next ∷ rest) = line ∷ without_last_empty (next ∷ rest)

-- the text of a message as it stands: its lines but an empty one at the end
abbrev pub raw_text : RawMessage → List ℕ
raw_text message = concat (without_last_empty message.lines)
