-- The lines of messages are cut into these messages again.
use Rattle.std.proofs.Common.{◌≡◌, ℕ, true, false, List, [], ◌∷◌, ◌++◌, Some, inl, append-nil, refl, ap, ◌∙◌}
use Rattle.std.proofs.lemmas.Bool.{cond-true, cond-false}
use Rattle.text_lines.specs.Lines.{is_empty_line}
use Rattle.text_lines.proofs.Texts.{is_closed, AreLines}
use Rattle.mail_fields.specs.DelimiterLine.{is_delimiter_line}
use Rattle.status_heads.proofs.Insertions.{Each}
use Rattle.unix_form.specs.Messages.{RawMessage, CutLines, cut_line, cut_lines, messages_if, messages_in, without_last_empty}

-- a line with LF at its end that begins no message
pub record IsPlain (line : List ℕ) : Type 0 where
  pub closed : is_closed line ≡ true
  pub other : is_delimiter_line line ≡ false

-- a message as it can stand in a file: behind its delimiter line stands none
pub record IsMessage (message : RawMessage) : Type 0 where
  pub closed : is_closed message.line ≡ true
  pub begins : is_delimiter_line message.line ≡ true
  pub plain : Each IsPlain message.lines

abbrev pub EachMessage : List RawMessage → Type 0
EachMessage [] = Unit {0}
EachMessage (message ∷ rest) = IsMessage message × EachMessage rest

-- the lines of messages
abbrev pub lines_in : List RawMessage → List (List ℕ)
lines_in [] = []
lines_in (message ∷ rest) = message.line ∷ (message.lines ++ lines_in rest)

pub each_both : (P : List ℕ → Type 0) (one other : List (List ℕ)) → Each P one → Each P other → Each P (one ++ other)
each_both P [] other a b = b
each_both P (line ∷ one) other a b = (a.0, each_both P one other a.1 b)

pub each_parts : (P : List ℕ → Type 0) (one other : List (List ℕ)) → Each P (one ++ other) → Each P one × Each P other
each_parts P [] other all = (tt, all)
each_parts P (line ∷ one) other all = let rest = each_parts P one other all.1 in ((all.0, rest.0), rest.1)

plain_before : (lines rest : List (List ℕ)) → Each IsPlain lines → cut_lines (lines ++ rest) ≡ record { loose = lines ++ (cut_lines rest).loose; messages = (cut_lines rest).messages }
plain_before [] rest all = refl
plain_before (line ∷ lines) rest all =
    ap (cut_line line) (plain_before lines rest all.1)
    ∙ cond-false (is_delimiter_line line) (record { loose = []; messages = record { line = line; lines = lines ++ (cut_lines rest).loose } ∷ (cut_lines rest).messages })
    (record { loose = line ∷ (lines ++ (cut_lines rest).loose); messages = (cut_lines rest).messages }) all.0.other

cut_back : (messages : List RawMessage) → EachMessage messages → cut_lines (lines_in messages) ≡ record { loose = []; messages = messages }
cut_back [] all = refl
cut_back (message ∷ rest) all =
    ap (cut_line message.line) (plain_before message.lines (lines_in rest) all.0.plain)
    ∙ cond-true (is_delimiter_line message.line) (record { loose = []; messages = record { line = message.line; lines = message.lines ++ (cut_lines (lines_in rest)).loose } ∷ (cut_lines (lines_in rest)).messages })
    (record { loose = message.line ∷ (message.lines ++ (cut_lines (lines_in rest)).loose); messages = (cut_lines (lines_in rest)).messages }) all.0.begins
    ∙ ap {A = CutLines} (λ cut. record { loose = []; messages = record { line = message.line; lines = message.lines ++ cut.loose } ∷ cut.messages }) (cut_back rest all.1)
    ∙ ap (λ lines. record { loose = []; messages = record { line = message.line; lines = lines } ∷ rest }) (append-nil message.lines)

-- the lines of messages are these messages
pub messages_back : (messages : List RawMessage) → EachMessage messages → messages_in (lines_in messages) ≡ Some messages
messages_back messages all = ap messages_if (cut_back messages all)

plain_lines : (lines rest : List (List ℕ)) → Each IsPlain lines → AreLines rest → AreLines (lines ++ rest)
plain_lines [] rest all are = are
plain_lines (line ∷ lines) rest all are = inl (all.0.closed, plain_lines lines rest all.1 are)

pub message_lines_are : (messages : List RawMessage) → EachMessage messages → AreLines (lines_in messages)
message_lines_are [] all = tt
message_lines_are (message ∷ rest) all = inl (all.0.closed, plain_lines message.lines (lines_in rest) all.0.plain (message_lines_are rest all.1))

-- an empty line at the end goes, and no other
pub last_empty : (lines : List (List ℕ)) (line : List ℕ) → is_empty_line line ≡ true → without_last_empty (lines ++ line ∷ []) ≡ lines
last_empty [] line empty = cond-true (is_empty_line line) [] (line ∷ []) empty
last_empty (first ∷ []) line empty = ap (λ l. first ∷ l) (last_empty [] line empty)
last_empty (first ∷ second ∷ lines) line empty = ap (λ l. first ∷ l) (last_empty (second ∷ lines) line empty)
