-- What is written of a mailbox has no NUL, and what is read has none.
use Rattle.std.proofs.Common.{◌≡◌, ◌≢◌, ◌≤◌, ◌<◌, ◌==◌, ◌&&◌, ◌^◌, ℕ, Bool, true, false, not, cond, List, [], ◌∷◌, ◌++◌, Some, length, map, flat_map, codes, refl, ap, sym, ◌∙◌, arith}
use Rattle.std.specs.List.{list_all, concat}
use Rattle.std.specs.Fmt.{decimal}
use Rattle.std.specs.Cmp.Derive.{both_true}
use Rattle.std.proofs.lemmas.Bool.{and_parts, false≢true, ne_eqb}
use Rattle.std.proofs.lemmas.List.Folds.{list_all-append, concat-append}
use Rattle.text_lines.specs.Lines.{lines_of, line_text, line_end_of}
use Rattle.text_lines.proofs.LineEnds.{text-then-end}
use Rattle.text_lines.proofs.Texts.{joined}
use Rattle.mail_fields.specs.FromDate.{from_date_text}
use Rattle.mail_fields.specs.Keyword.{is_keyword}
use Rattle.mail_fields.specs.Names.{are_distinct}
use Rattle.mail_fields.proofs.Digits.{decimal-digits}
use Rattle.mail_types.specs.declared.flags.Flags.{Flags}
use Rattle.mail_types.specs.declared.message.Record.{Record}
use Rattle.mail_types.specs.Mailboxes.{has_no_nul}
use Rattle.text_forms.specs.Forms.{store_lf, drop_reserved, has_empty_line}
use Rattle.text_forms.specs.Lines.{clean_byte, is_ended, stored_line}
use Rattle.status_heads.specs.declared.base.Base.{Base}
use Rattle.status_heads.specs.Delimiters.{delimiter_text}
use Rattle.status_heads.specs.HeadTexts.{field_line, lines_of_field, letter_if, status_text, more_text, names_text, head_lines, heads_text}
use Rattle.status_heads.specs.Insertions.{with_fields}
use Rattle.status_heads.specs.Numbers.{greatest_uid}
use Rattle.status_heads.specs.PseudoTexts.{pseudo_line, pseudo_message, pseudo_text}
use Rattle.status_heads.proofs.HighBytes.{is_high, high-pass, names-high, solid-high, date-high}
use Rattle.status_heads.proofs.Insertions.{Each, IsMade, parts, none-reserved, with-is}
use Rattle.status_heads.proofs.PseudoBack.{words, body, message-is, every}
use Rattle.status_heads.proofs.WrittenValues.{digits-solid}

-- ---- Bytes that are read

pub clean_found : (bytes : List ℕ) → has_no_nul (map clean_byte bytes) ≡ true
clean_found [] = refl
clean_found (byte ∷ rest) = step (clean_found rest) (byte == 0) refl
  where
    step : has_no_nul (map clean_byte rest) ≡ true → (b : Bool) → (byte == 0) ≡ b → (not ((cond b 128 byte) == 0) && has_no_nul (map clean_byte rest)) ≡ true
    step later true is = later
    step later false is = ap (λ b. not b && has_no_nul (map clean_byte rest)) is ∙ later

pub clean_stays : (bytes : List ℕ) → has_no_nul bytes ≡ true → map clean_byte bytes ≡ bytes
clean_stays [] all = refl
clean_stays (byte ∷ rest) all =
    let both = and_parts (not (byte == 0)) (has_no_nul rest) all in
    let same : clean_byte byte ≡ byte = step (byte == 0) both.0 in
    let later = clean_stays rest both.1 in
    λ i. same i ∷ later i
  where
    step : (b : Bool) → not b ≡ true → cond b 128 byte ≡ byte
    step true is = absurd (false≢true is)
    step false is = refl

-- ---- Texts of parts

pub no_nul_both : (one other : List ℕ) → has_no_nul one ≡ true → has_no_nul other ≡ true → has_no_nul (one ++ other) ≡ true
no_nul_both one other a b = list_all-append (λ byte. not (byte == 0)) one other ∙ both_true a b

pub no_nul_parts : (one other : List ℕ) → has_no_nul (one ++ other) ≡ true → (has_no_nul one ≡ true) × (has_no_nul other ≡ true)
no_nul_parts one other all = and_parts (has_no_nul one) (has_no_nul other) (sym (list_all-append (λ byte. not (byte == 0)) one other) ∙ all)

byte_high : (byte : ℕ) → 14 ≤ byte → not (byte == 0) ≡ true
byte_high byte high = ap not (ne_eqb byte 0 (λ is. omega (arith, high, is)))

pub no_nul_high : (text : List ℕ) → is_high text ≡ true → has_no_nul text ≡ true
no_nul_high text high = high-pass (λ byte. not (byte == 0)) byte_high text high

stored_no_nul : (line : List ℕ) → has_no_nul line ≡ true → has_no_nul (stored_line line) ≡ true
stored_no_nul line all = step (is_ended line)
  where
    front : has_no_nul (line_text line) ≡ true
    front = (no_nul_parts (line_text line) (line_end_of line) (ap has_no_nul (text-then-end line) ∙ all)).0

    step : (b : Bool) → has_no_nul (cond b (line_text line ++ 10 ∷ []) line) ≡ true
    step true = no_nul_both (line_text line) (10 ∷ []) front refl
    step false = all

stored_lines : (lines : List (List ℕ)) → has_no_nul (concat lines) ≡ true → has_no_nul (flat_map stored_line lines) ≡ true
stored_lines [] all = refl
stored_lines (line ∷ lines) all =
    let both = no_nul_parts line (concat lines) all in
    no_nul_both (stored_line line) (flat_map stored_line lines) (stored_no_nul line both.0) (stored_lines lines both.1)

pub store_no_nul : (text : List ℕ) → has_no_nul text ≡ true → has_no_nul (store_lf text) ≡ true
store_no_nul text all = stored_lines (lines_of text) (ap has_no_nul (joined text) ∙ all)

-- ---- What is written

field_no_nul : (name value : List ℕ) → has_no_nul name ≡ true → has_no_nul value ≡ true → has_no_nul (field_line name value) ≡ true
unfolding field_line
field_no_nul name value a b =
    no_nul_both (name ++ codes ": " ++ value) (codes "\n") (no_nul_both (name ++ codes ": ") value (no_nul_both name (codes ": ") a refl) b) refl

fields_no_nul : (name value : List ℕ) → has_no_nul name ≡ true → has_no_nul value ≡ true → has_no_nul (concat (lines_of_field name value)) ≡ true
fields_no_nul name value a b =
    let line = no_nul_both (field_line name value) [] (field_no_nul name value a b) refl in
    elim (length value == 0) as (λ none. has_no_nul (concat (cond none [] (field_line name value ∷ []))) ≡ true) [ true ↦ refl | false ↦ line ]

letter_no_nul : (set : Bool) (letter : ℕ) → has_no_nul (letter ∷ []) ≡ true → has_no_nul (letter_if set letter) ≡ true
letter_no_nul true letter is = is
letter_no_nul false letter is = refl

status_no_nul : (flags : Flags) → has_no_nul (status_text flags) ≡ true
unfolding status_text
status_no_nul flags = no_nul_both (letter_if flags.seen 82) (letter_if flags.old 79) (letter_no_nul flags.seen 82 refl) (letter_no_nul flags.old 79 refl)

more_no_nul : (flags : Flags) → has_no_nul (more_text flags) ≡ true
unfolding more_text
more_no_nul flags =
    let d = letter_if flags.deleted 68 in
    let f = letter_if flags.flagged 70 in
    let a = letter_if flags.answered 65 in
    let t = letter_if flags.draft 84 in
    no_nul_both (d ++ f ++ a) t (no_nul_both (d ++ f) a (no_nul_both d f (letter_no_nul flags.deleted 68 refl) (letter_no_nul flags.flagged 70 refl)) (letter_no_nul flags.answered 65 refl)) (letter_no_nul flags.draft 84 refl)

-- status fields have none
pub heads_no_nul : (flags : Flags) (names : List (List ℕ)) (uid : ℕ) → list_all is_keyword names ≡ true → uid ≤ greatest_uid
    → has_no_nul (heads_text (record { seen_old = flags; words = names; uid = Some uid })) ≡ true
unfolding head_lines
heads_no_nul flags names uid all high =
    let a = lines_of_field (codes "Status") (status_text flags) in
    let b = lines_of_field (codes "X-Status") (more_text flags) in
    let c = lines_of_field (codes "X-Keywords") (names_text names) in
    let d = lines_of_field (codes "X-UID") (decimal uid) in
    let number = no_nul_high (decimal uid) (solid-high (decimal uid) (digits-solid (decimal uid) (decimal-digits uid (omega (arith, high))))) in
    let last = fields_no_nul (codes "X-UID") (decimal uid) refl number in
    let third = ap has_no_nul (concat-append c d) ∙ no_nul_both (concat c) (concat d) (fields_no_nul (codes "X-Keywords") (names_text names) refl (no_nul_high (names_text names) (names-high names all))) last in
    let second = ap has_no_nul (concat-append b (c ++ d)) ∙ no_nul_both (concat b) (concat (c ++ d)) (fields_no_nul (codes "X-Status") (more_text flags) refl (more_no_nul flags)) third in
    ap has_no_nul (concat-append a (b ++ (c ++ d))) ∙ no_nul_both (concat a) (concat (b ++ (c ++ d))) (fields_no_nul (codes "Status") (status_text flags) refl (status_no_nul flags)) second

-- fields before the first empty line
pub with_no_nul : (text : List ℕ) (made : List (List ℕ)) → Each IsMade made → has_empty_line text ≡ true → drop_reserved text ≡ text → has_no_nul text ≡ true → has_no_nul (concat made) ≡ true
    → has_no_nul (with_fields (concat made) text) ≡ true
with_no_nul text made each has free all fields =
    let none = none-reserved text free in
    let split = parts text made each has none in
    let behind = split.1 ∷ split.2 in
    let whole : text ≡ concat split.0 ++ concat behind = sym (joined text) ∙ ap concat split.3.whole ∙ concat-append split.0 behind in
    let both = no_nul_parts (concat split.0) (concat behind) (sym (ap has_no_nul whole) ∙ all) in
    ap has_no_nul (with-is text made each has none ∙ concat-append split.0 (made ++ behind) ∙ ap (λ rest. concat split.0 ++ rest) (concat-append made behind))
    ∙ no_nul_both (concat split.0) (concat made ++ concat behind) both.0 (no_nul_both (concat made) (concat behind) fields both.1)

pub delimiter_no_nul : (r : Record) → has_no_nul (delimiter_text r.stamp.day r.stamp.second) ≡ true
unfolding delimiter_text
delimiter_no_nul r =
    let date = from_date_text r.stamp.day r.stamp.second in
    no_nul_both (codes "From MAILER-DAEMON ") (date ++ codes "\n") refl (no_nul_both date (codes "\n") (no_nul_high date (date-high r.stamp.day r.stamp.second)) refl)

pub pseudo_no_nul : (base : Base) → base.validity ≢ 0 → base.validity < 2 ^ 32 → base.last ≤ greatest_uid → length base.words ≤ 30 → are_distinct base.words ≡ true → list_all is_keyword base.words ≡ true
    → has_no_nul (pseudo_text base) ≡ true
pseudo_no_nul base some fits last few distinct all =
    let value = names_text (words base) in
    let field = field_no_nul (codes "X-IMAP") value refl (no_nul_high value (names-high (words base) (every base some fits last few distinct all))) in
    let front = codes "From: Mail System Internal Data <MAILER-DAEMON@localhost>\n" in
    let subject = codes "Subject: DON'T DELETE THIS MESSAGE -- FOLDER INTERNAL DATA\n" in
    let rest = concat (codes "Status: RO\n" ∷ body) in
    let text = no_nul_both front (subject ++ (field_line (codes "X-IMAP") value ++ rest)) refl (no_nul_both subject (field_line (codes "X-IMAP") value ++ rest) refl (no_nul_both (field_line (codes "X-IMAP") value) rest field refl)) in
    no_nul_both pseudo_line (pseudo_message base) refl (ap has_no_nul (message-is base some fits last few distinct all) ∙ text)
