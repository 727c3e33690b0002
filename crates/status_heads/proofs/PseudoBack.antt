-- The message that holds a base, read back.
use Rattle.std.proofs.Common.{◌≡◌, ◌≢◌, ℕ, ◌<◌, ◌≤◌, ◌^◌, inl, Bool, true, false, not, cond, List, [], ◌∷◌, ◌++◌, nat_le, nat_lt, length, length-append, append_assoc, append-nil, codes, Some, None, refl, ap, sym, ◌∙◌, arith}
use Rattle.std.specs.Char.{is_digit}
use Rattle.std.specs.Cmp.Derive.{both_true}
use Rattle.std.specs.List.{before_first, concat, list_all, list_any}
use Rattle.std.proofs.lemmas.Bool.{and_parts}
use Rattle.std.proofs.lemmas.Bool.Decides.{nat_tests}
use Rattle.text_lines.specs.Lines.{lines_of, header_of, is_empty_line}
use Rattle.text_lines.proofs.Texts.{AreLines, lines-joined}
use Rattle.head_fields.specs.Fields.{readings_of}
use Rattle.head_fields.specs.Folding.{unfolded}
use Rattle.mail_fields.specs.Keyword.{is_atom, same_keyword, is_keyword}
use Rattle.mail_fields.specs.Numbers.{number_in, digits_in}
use Rattle.mail_fields.proofs.Digits.{length-digits_in, number-digits}
use Rattle.mail_fields.specs.Names.{are_distinct}
use Rattle.mail_types.specs.Mailboxes.{greatest_number}
use Rattle.status_heads.specs.declared.base.Base.{Base}
use Rattle.status_heads.specs.Bases.{base_of, base_of_words}
use Rattle.status_heads.specs.Fields.{value_named}
use Rattle.status_heads.specs.HeadTexts.{field_line, names_text, spaced_names}
use Rattle.status_heads.specs.Names.{is_new, with_names, words_of}
use Rattle.status_heads.specs.Numbers.{number_between, greatest_uid}
use Rattle.status_heads.specs.PseudoTexts.{base_text, pseudo_message, ten_digits}
use Rattle.mail_fields.proofs.DistinctNames.{distinct-more, distinct-front}
use Rattle.status_heads.proofs.Insertions.{Each, IsFilled, IsMade, lines-before, header-before, header-end}
use Rattle.status_heads.proofs.MadeLines.{is_clean, IsReservedName, made-line, line-reads}
use Rattle.status_heads.proofs.WrittenValues.{names-clean, names-unfolded, words-again}

digits-pass : (text : List ℕ) (number : ℕ) → number_in 10 text ≡ Some number → list_all (λ byte. is_digit byte 10) text ≡ true
unfolding number_in
digits-pass text number is = tested (list_all (λ byte. is_digit byte 10) text) _ number is
  where
    tested : (test : Bool) (value number : ℕ) → cond test (Some value) None ≡ Some number → test ≡ true
    tested true value number is = refl
    tested false value number is = absurd (cc)

digits-atoms : (text : List ℕ) → list_all (λ byte. is_digit byte 10) text ≡ true → list_all is_atom text ≡ true
digits-atoms [] all = refl
digits-atoms (byte ∷ rest) all =
    let parts = and_parts (is_digit byte 10) (list_all (λ each. is_digit each 10) rest) all in
    both_true (grind (arith, nat_tests, parts.0)) (digits-atoms rest parts.1)

-- ten digits could be a name
digits-keyword : (number : ℕ) → number < 10 ^ 10 → is_keyword (ten_digits number) ≡ true
unfolding ten_digits
digits-keyword number small =
    let long = length-digits_in 10 10 number in
    let some : nat_le 1 (length (digits_in 10 10 number)) ≡ true = grind (arith, nat_tests, long) in
    let few : nat_le (length (digits_in 10 10 number)) 64 ≡ true = grind (arith, nat_tests, long) in
    both_true some (both_true few
    (digits-atoms (digits_in 10 10 number) (digits-pass (digits_in 10 10 number) number (number-digits 10 10 number (omega arith) (omega arith) small))))

number-again : (low high number : ℕ) → number < 10 ^ 10 → low ≤ number → number ≤ high → number_between low high (ten_digits number) ≡ Some number
unfolding number_between ten_digits
number-again low high number small least most =
    let first : nat_le low number ≡ true = grind (arith, nat_tests, least) in
    let second : nat_le number high ≡ true = grind (arith, nat_tests, most) in
    rw (length-digits_in 10 10 number, number-digits 10 10 number (omega arith) (omega arith) small, first, second) refl

-- names that a mailbox may have are all taken
with-all : (front names : List (List ℕ)) → length (front ++ names) ≤ 30 → are_distinct (front ++ names) ≡ true → list_all is_keyword names ≡ true → with_names front names ≡ front ++ names
with-all front [] few distinct all = sym (append-nil front)
with-all front (name ∷ names) few distinct all =
    let parts = and_parts (is_keyword name) (list_all is_keyword names) all in
    let joined = append_assoc front (name ∷ []) names in
    let one = distinct-front (front ++ name ∷ []) names (ap are_distinct joined ∙ distinct) in
    let free = (and_parts (are_distinct front) (not (list_any (λ each. same_keyword each name) front)) (sym (distinct-more front name) ∙ one)).1 in
    let room : nat_lt (length front) 30 ≡ true = grind (arith, nat_tests, length-append front (name ∷ names), few) in
    let new : is_new front name ≡ true = both_true room (both_true parts.0 free) in
    let shorter : length ((front ++ name ∷ []) ++ names) ≤ 30 = omega (arith, few, ap length joined) in
    ap (λ test. with_names (cond test (front ++ name ∷ []) front) names) new
    ∙ with-all (front ++ name ∷ []) names shorter (ap are_distinct joined ∙ distinct) parts.1
    ∙ joined

-- the numbers and the names of a base, as words
abbrev pub words : Base → List (List ℕ)
words base = ten_digits base.validity ∷ ten_digits base.last ∷ base.words

grouped : (validity last rest : List ℕ) → validity ++ 32 ∷ [] ++ last ++ rest ≡ validity ++ ((32 ∷ last) ++ rest)
grouped validity last rest = simp append_assoc

value-is : (base : Base) → base_text base ≡ names_text (words base)
unfolding base_text
value-is base = grouped (ten_digits base.validity) (ten_digits base.last) (spaced_names base.words)

imap-name : IsReservedName (codes "X-IMAP")
imap-name = record { begins = λ tail. refl; named = λ tail. refl; behind = λ tail. refl; reserved = λ tail. refl; first = λ tail. refl; filled = λ tail. refl; closed = λ tail is. is }

abbrev pub from_line : List ℕ
from_line = codes "From: Mail System Internal Data <MAILER-DAEMON@localhost>\n"

abbrev pub subject_line : List ℕ
subject_line = codes "Subject: DON'T DELETE THIS MESSAGE -- FOLDER INTERNAL DATA\n"

abbrev pub status_line : List ℕ
status_line = codes "Status: RO\n"

abbrev pub body : List (List ℕ)
body = (10 ∷ []) ∷ codes "This text is part of the internal format of your mail folder.\n" ∷ []

status-made : IsMade status_line
status-made = record { is = record { closed = refl; filled = refl }; reserved = refl; first = refl }

-- the lines of the header, with a value of the field X-IMAP
abbrev pub header : List ℕ → List (List ℕ)
header value = from_line ∷ subject_line ∷ field_line (codes "X-IMAP") value ∷ status_line ∷ []

message-lines : (value : List ℕ)
    → codes "From: Mail System Internal Data <MAILER-DAEMON@localhost>\nSubject: DON'T DELETE THIS MESSAGE -- FOLDER INTERNAL DATA\nX-IMAP: " ++ value ++ codes "\nStatus: RO\n\nThis text is part of the internal format of your mail folder.\n"
    ≡ concat (header value ++ body)
unfolding field_line
message-lines value =
    let front = codes "From: Mail System Internal Data <MAILER-DAEMON@localhost>\nSubject: DON'T DELETE THIS MESSAGE -- FOLDER INTERNAL DATA\nX-IMAP: " in
    let rest = codes "Status: RO\n\nThis text is part of the internal format of your mail folder.\n" in
    append_assoc front value (10 ∷ rest) ∙ ap (λ text. front ++ text) (sym (append_assoc value (10 ∷ []) rest))

module _ (value : List ℕ) (clean : is_clean value ≡ true) where
  pub filled : Each IsFilled (header value)
  filled = (record { closed = refl; filled = refl }, (record { closed = refl; filled = refl }, ((made-line (codes "X-IMAP") value imap-name clean).is, (status-made.is, tt))))

  are : AreLines body
  are = inl (refl, inl (refl, tt))

  header-is : (message : List ℕ) → message ≡ concat (header value ++ body) → header_of message ≡ header value
  header-is message is =
      ap (λ text. before_first is_empty_line (lines_of text)) is
      ∙ ap (before_first is_empty_line) (lines-joined (header value ++ body) (lines-before (header value) body filled are))
      ∙ header-before (header value) body filled
      ∙ ap (λ lines. header value ++ lines) (header-end (10 ∷ []) (codes "This text is part of the internal format of your mail folder.\n" ∷ []) refl)

  field-found : value_named (codes "X-IMAP") (readings_of (header value)) ≡ unfolded (32 ∷ value)
  field-found = ap (value_named (codes "X-IMAP")) (line-reads (codes "X-IMAP") value imap-name clean (status_line ∷ []) (status-made, tt))

module _ (base : Base) (some : base.validity ≢ 0) (fits : base.validity < 2 ^ 32) (last : base.last ≤ greatest_uid) (few : length base.words ≤ 30)
    (distinct : are_distinct base.words ≡ true) (all : list_all is_keyword base.words ≡ true) where
  -- all of them could be names
  pub every : list_all is_keyword (words base) ≡ true
  every = both_true (digits-keyword base.validity (omega (arith, fits))) (both_true (digits-keyword base.last (omega (arith, last))) all)

  words-base : base_of_words (words base) ≡ Some base
  unfolding base_of_words
  words-base =
      rw (
        number-again 1 greatest_number base.validity (omega (arith, fits)) (omega (arith, some)) (omega (arith, fits)),
        number-again 0 greatest_uid base.last (omega (arith, last)) (omega arith) last,
        with-all [] base.words few distinct all,
      ) refl

  pub message-is : pseudo_message base ≡ concat (header (names_text (words base)) ++ body)
  unfolding pseudo_message
  message-is = ap (λ value. codes "From: Mail System Internal Data <MAILER-DAEMON@localhost>\nSubject: DON'T DELETE THIS MESSAGE -- FOLDER INTERNAL DATA\nX-IMAP: " ++ value ++ codes "\nStatus: RO\n\nThis text is part of the internal format of your mail folder.\n") (value-is base) ∙ message-lines (names_text (words base))

  pub base_back : base_of (pseudo_message base) (codes "X-IMAP") ≡ Some base
  base_back =
      let value = names_text (words base) in
      let clean = names-clean (words base) every in
      ap (λ lines. base_of_words (words_of (value_named (codes "X-IMAP") (readings_of lines)))) (header-is value clean (pseudo_message base) message-is)
      ∙ ap (λ found. base_of_words (words_of found)) (field-found value clean ∙ names-unfolded (ten_digits base.validity) (ten_digits base.last ∷ base.words) every)
      ∙ ap base_of_words (words-again (words base) every) ∙ words-base

  -- its lines: the header, an empty line and one line of text
  pub message_lines : lines_of (pseudo_message base) ≡ header (names_text (words base)) ++ body
  message_lines =
      let value = names_text (words base) in
      ap lines_of message-is ∙ lines-joined (header value ++ body) (lines-before (header value) body (filled value (names-clean (words base) every)) (are value (names-clean (words base) every)))
