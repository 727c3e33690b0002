-- The messages that bytes without NUL are have none.
use Rattle.std.proofs.Common.{◌≡◌, ℕ, Bool, true, false, cond, List, [], ◌∷◌, Some, refl, ap, sym, ◌∙◌}
use Rattle.std.specs.List.{list_all, concat}
use Rattle.std.specs.Cmp.Derive.{both_true}
use Rattle.std.proofs.lemmas.Bool.{and_parts}
use Rattle.std.proofs.lemmas.Option.{same_Some}
use Rattle.text_lines.specs.Lines.{lines_of, is_empty_line}
use Rattle.text_lines.proofs.Texts.{joined}
use Rattle.mail_fields.specs.DelimiterLine.{is_delimiter_line}
use Rattle.mail_types.specs.Mailboxes.{has_no_nul}
use Rattle.unix_form.specs.Messages.{RawMessage, CutLines, cut_lines, messages_if, messages_in, without_last_empty, raw_text}
use Rattle.unix_form.proofs.NoNul.{no_nul_both, no_nul_parts}

abbrev clean_lines : List (List ℕ) → Bool
clean_lines lines = list_all has_no_nul lines

-- no line behind a delimiter line has a NUL
abbrev pub clean_messages : List RawMessage → Bool
clean_messages messages = list_all (λ (message : RawMessage). list_all has_no_nul message.lines) messages

clean_cut : (lines : List (List ℕ)) → clean_lines lines ≡ true → (clean_lines (cut_lines lines).loose ≡ true) × (clean_messages (cut_lines lines).messages ≡ true)
clean_cut [] all = (refl, refl)
clean_cut (line ∷ rest) all =
    let both = and_parts (has_no_nul line) (clean_lines rest) all in
    let later = clean_cut rest both.1 in
    let cut = cut_lines rest in
    let begins : CutLines = record { loose = []; messages = record { line = line; lines = cut.loose } ∷ cut.messages } in
    let goes_on : CutLines = record { loose = line ∷ cut.loose; messages = cut.messages } in
    elim (is_delimiter_line line) as (λ is. (clean_lines (cond is begins goes_on).loose ≡ true) × (clean_messages (cond is begins goes_on).messages ≡ true)) [
      | true ↦ (refl, both_true later.0 later.1)
      | false ↦ (both_true both.0 later.0, later.1)
    ]

clean_if : (cut : CutLines) (messages : List RawMessage) → clean_messages cut.messages ≡ true → messages_if cut ≡ Some messages → clean_messages messages ≡ true
clean_if cut messages all is = step cut.loose is
  where
    step : (loose : List (List ℕ)) → messages_if (record { loose = loose; messages = cut.messages }) ≡ Some messages → clean_messages messages ≡ true
    step [] some = ap clean_messages (sym (same_Some cut.messages messages some)) ∙ all
    step (line ∷ rest) none = absurd (cc)

each_line : (lines : List (List ℕ)) → has_no_nul (concat lines) ≡ true → clean_lines lines ≡ true
each_line [] all = refl
each_line (line ∷ lines) all = let both = no_nul_parts line (concat lines) all in both_true both.0 (each_line lines both.1)

pub messages_clean : (bytes : List ℕ) (messages : List RawMessage) → has_no_nul bytes ≡ true → messages_in (lines_of bytes) ≡ Some messages → clean_messages messages ≡ true
messages_clean bytes messages all is =
    clean_if (cut_lines (lines_of bytes)) messages (clean_cut (lines_of bytes) (each_line (lines_of bytes) (ap has_no_nul (joined bytes) ∙ all))).1 is

last_clean : (lines : List (List ℕ)) → clean_lines lines ≡ true → clean_lines (without_last_empty lines) ≡ true
last_clean [] all = refl
last_clean (line ∷ []) all = elim (is_empty_line line) as (λ is. clean_lines (cond is [] (line ∷ [])) ≡ true) [ true ↦ refl | false ↦ all ]
last_clean (line ∷ next ∷ rest) all =
    let both = and_parts (has_no_nul line) (clean_lines (next ∷ rest)) all in
    both_true both.0 (last_clean (next ∷ rest) both.1)

concat_clean : (lines : List (List ℕ)) → clean_lines lines ≡ true → has_no_nul (concat lines) ≡ true
concat_clean [] all = refl
concat_clean (line ∷ lines) all = let both = and_parts (has_no_nul line) (clean_lines lines) all in no_nul_both line (concat lines) both.0 (concat_clean lines both.1)

pub raw_clean : (message : RawMessage) → list_all has_no_nul message.lines ≡ true → has_no_nul (raw_text message) ≡ true
raw_clean message all = concat_clean (without_last_empty message.lines) (last_clean message.lines all)
