-- Bytes that the forms of unix and mbx spell are chosen as theirs.
use Rattle.std.proofs.Common.{◌≡◌, ◌≢◌, ◌≤◌, ◌<◌, ◌+◌, ◌-◌, ◌==◌, ◌&&◌, inl, inr, ⊎_elim, ℕ, true, false, List, [], ◌∷◌, ◌++◌, length, take, drop, take_all, take-append-drop, append-nil, map, codes, bytes_eq, Some, None, option_map, refl, ap, sym, subst, ◌∙◌, arith}
use Rattle.std.specs.List.{concat}
use Rattle.std.proofs.lemmas.Bool.{cases_Bool, cases_lt, cond-true, cond-false, false≢true, and_parts}
use Rattle.std.proofs.lemmas.List.{take-map, take-take}
use Rattle.std.proofs.Math.Seq.{take-append-add}
use Rattle.std.proofs.lemmas.Slice.Eq.{bytes_eq-Decides}
use Rattle.bstr.proofs.lemmas.LineLemmas.{lines-step}
use Rattle.bstr.specs.Text.{line_len}
use Rattle.text_lines.specs.Lines.{lines_of}
use Rattle.text_lines.proofs.Texts.{AreLines, are-lines, joined, closed-first}
use Rattle.text_forms.specs.Lines.{clean_byte}
use Rattle.text_forms.proofs.Borders.{delimiter_first}
use Rattle.mail_fields.specs.CivilDays.{part}
use Rattle.mail_fields.specs.DelimiterLine.{is_delimiter_line}
use Rattle.mail_types.specs.declared.driver.Driver.TheVariants.{Unix, Mbx}
use Rattle.mail_types.specs.declared.contents.StoreContents.{StoreContents}
use Rattle.unix_form.specs.Form.{UnixFile, IsUnixSpelled, file_in}
use Rattle.unix_form.specs.Messages.{messages_in}
use Rattle.unix_layout.proofs.FilesFound.{none_read}
use Rattle.unix_layout.proofs.Fronts.{long_other}
use Rattle.mbx_form.specs.declared.header.MbxHeader.{MbxHeader}
use Rattle.mbx_form.specs.Form.{IsMbxSpelled}
use Rattle.mbx_form.specs.Header.{header_of}
use Rattle.mbx_form.proofs.Steps.{then_some, tested}
use Rattle.text_forms.proofs.CleanLines.{long_same, width_same, delimiter_same}
use Rattle.any_store.specs.Choice.{chosen, chosen_by_line, chosen_by_lines, is_mbx_line, is_mmdf_line, front_length}

-- ---- A delimiter line is chosen as unix

not_mbx : (line : List ℕ) → is_delimiter_line line ≡ true → is_mbx_line line ≡ false
not_mbx line is = ⊎_elim
    (λ yes.
    let mbx : line ≡ 42 ∷ 109 ∷ 98 ∷ 120 ∷ 42 ∷ 13 ∷ 10 ∷ [] = (bytes_eq-Decides line (42 ∷ 109 ∷ 98 ∷ 120 ∷ 42 ∷ 13 ∷ 10 ∷ [])).0 yes in
    absurd (false≢true (sym (delimiter_first line (λ rest from. other rest (sym mbx ∙ from))) ∙ is)))
    (λ no. no)
    (cases_Bool (is_mbx_line line))
  where
    other : (rest : List ℕ) → 42 ∷ 109 ∷ 98 ∷ 120 ∷ 42 ∷ 13 ∷ 10 ∷ [] ≡ 70 ∷ rest → ⊥
    other rest same = absurd (cc)

from_no_mmdf : (rest : List ℕ) → is_mmdf_line (70 ∷ rest) ≡ false
from_no_mmdf [] = refl
from_no_mmdf (byte ∷ rest) = refl

not_mmdf : (line : List ℕ) → is_delimiter_line line ≡ true → is_mmdf_line line ≡ false
not_mmdf line is = ⊎_elim
    (λ yes. absurd (false≢true (sym (delimiter_first line (λ rest from. false≢true (sym (from_no_mmdf rest) ∙ ap is_mmdf_line (sym from) ∙ yes))) ∙ is)))
    (λ no. no)
    (cases_Bool (is_mmdf_line line))

delimiter_chosen : (line : List ℕ) → is_delimiter_line line ≡ true → chosen_by_line line ≡ Some Unix
delimiter_chosen line is =
    cond-false (is_mbx_line line) _ _ (not_mbx line is)
    ∙ cond-false (is_mmdf_line line) _ _ (not_mmdf line is)
    ∙ cond-true (is_delimiter_line line) _ _ is

-- ---- The first line of a text stands in its first 1,024 bytes, where it isn't longer

module _ (text line : List ℕ) (behind : List (List ℕ)) (lines : lines_of text ≡ line ∷ behind) (short : length line ≤ front_length) where
  whole : line ++ concat behind ≡ text
  whole = ap concat (sym lines) ∙ joined text

  front_lines : AreLines (line ∷ behind) → (later : List (List ℕ)) × (lines_of (take front_length text) ≡ line ∷ later)
  front_lines (inl closed) =
      let rest = concat behind in
      let split : front_length ≡ length line + (front_length - length line) = omega (arith, short) in
      let cut : take front_length text ≡ line ++ take (front_length - length line) rest =
      ap (λ n. take n text) split ∙ ap (take (length line + (front_length - length line))) (sym whole) ∙ take-append-add line rest (front_length - length line) in
      (lines_of (take (front_length - length line) rest), ap lines_of cut ∙ closed-first line (take (front_length - length line) rest) closed.0)
  front_lines (inr last) =
      let same : line ≡ text = sym (append-nil line) ∙ ap (λ l. line ++ concat l) (sym last.2) ∙ whole in
      (behind, ap lines_of (take_all front_length text (subst (λ t. length t ≤ front_length) same short)) ∙ lines)

  front_chosen : chosen_by_lines (lines_of (take front_length text)) ≡ chosen_by_line line
  front_chosen = ap chosen_by_lines (front_lines (subst AreLines lines (are-lines text))).1

-- ---- What unix spells

-- the first line of a unix file is a delimiter line, as it stands and as it is read
module _ (bytes : List ℕ) (file : UnixFile) (some : 0 < length bytes) (reads : option_map file_in (messages_in (lines_of (map clean_byte bytes))) ≡ Some file) where
  read_line : take (line_len (map clean_byte bytes)) (map clean_byte bytes) ≡ map clean_byte (take (line_len bytes) bytes)
  read_line = ap (λ n. take n (map clean_byte bytes)) (width_same bytes) ∙ take-map clean_byte (line_len bytes) bytes

  read_lines : lines_of (map clean_byte bytes) ≡ map clean_byte (take (line_len bytes) bytes) ∷ lines_of (drop (line_len (map clean_byte bytes)) (map clean_byte bytes))
  read_lines =
      lines-step (map clean_byte bytes) (subst (λ n. 0 < n) (sym (long_same bytes)) some)
      ∙ ap (λ l. l ∷ lines_of (drop (line_len (map clean_byte bytes)) (map clean_byte bytes))) read_line

  begins : is_delimiter_line (take (line_len bytes) bytes) ≡ true
  begins = ⊎_elim
      (λ yes. yes)
      (λ other.
      let none : None ≡ Some file = sym (ap (option_map file_in) (none_read (map clean_byte bytes) (map clean_byte (take (line_len bytes) bytes)) (drop (line_len (map clean_byte bytes)) (map clean_byte bytes)) read_lines
      (delimiter_same (take (line_len bytes) bytes) ∙ other))) ∙ reads in
      absurd (cc))
      (cases_Bool (is_delimiter_line (take (line_len bytes) bytes)))

  short_first : length (take (line_len bytes) bytes) ≤ front_length
  short_first = ⊎_elim
      (λ long. absurd (false≢true (sym (long_other (take (line_len bytes) bytes) long) ∙ begins)))
      (λ short. omega (arith, short))
      (cases_lt 1000 (length (take (line_len bytes) bytes)))

  text_chosen : chosen_by_lines (lines_of (take front_length bytes)) ≡ Some Unix
  text_chosen = front_chosen bytes (take (line_len bytes) bytes) (lines_of (drop (line_len bytes) bytes)) (lines-step bytes some) short_first ∙ delimiter_chosen (take (line_len bytes) bytes) begins

some_byte : (bytes : List ℕ) → bytes ≢ [] → 0 < length bytes
some_byte [] some = absurd (some refl)
some_byte (byte ∷ rest) some = omega arith

pub own_unix : (bytes : List ℕ) (contents : StoreContents) (records : ℕ) → IsUnixSpelled bytes contents records → bytes ≢ [] → chosen bytes ≡ Some Unix
unfolding chosen
own_unix bytes contents records is some = text_chosen bytes is.file (some_byte bytes some) is.reads

-- ---- What mbx spells

abbrev mbx_line : List ℕ
mbx_line = 42 ∷ 109 ∷ 98 ∷ 120 ∷ 42 ∷ 13 ∷ 10 ∷ []

begins_mbx : (text : List ℕ) (header : MbxHeader) → header_of text ≡ Some header → take 7 text ≡ mbx_line
unfolding header_of
begins_mbx text header is =
    let test = tested ((length text == 2048) && bytes_eq (part 0 7 text) (codes "*mbx*\r\n") && bytes_eq (part 23 2 text) (codes "\r\n")) _ header is in
    let two = and_parts ((length text == 2048) && bytes_eq (part 0 7 text) (codes "*mbx*\r\n")) (bytes_eq (part 23 2 text) (codes "\r\n")) test.passed in
    let one = and_parts (length text == 2048) (bytes_eq (part 0 7 text) (codes "*mbx*\r\n")) two.0 in
    (bytes_eq-Decides (take 7 text) mbx_line).0 one.1

mbx_front : (bytes : List ℕ) → take 7 (take 2048 bytes) ≡ mbx_line → bytes ≡ mbx_line ++ drop 7 bytes
mbx_front bytes is = sym (take-append-drop 7 bytes) ∙ ap (λ front. front ++ drop 7 bytes) (sym (take-take 7 2048 bytes (omega arith)) ∙ is)

mbx_lines : (rest : List ℕ) → chosen (mbx_line ++ rest) ≡ Some Mbx
unfolding chosen
mbx_lines rest = ap chosen_by_lines (closed-first mbx_line (take 1017 rest) refl)

pub own_mbx : (bytes : List ℕ) (contents : StoreContents) (records : ℕ) → IsMbxSpelled bytes contents records → chosen bytes ≡ Some Mbx
own_mbx bytes contents records is =
    let header = then_some (header_of (take 2048 bytes)) _ is.file is.reads in
    ap chosen (mbx_front bytes (begins_mbx (take 2048 bytes) header.value header.is)) ∙ mbx_lines (drop 7 bytes)

-- no bytes are no mbx file
pub some_mbx : (contents : StoreContents) (records : ℕ) → IsMbxSpelled [] contents records → ⊥
some_mbx contents records is =
    let header = then_some (header_of (take 2048 [])) _ is.file is.reads in
    let none : [] ≡ mbx_line = begins_mbx (take 2048 []) header.value header.is in
    absurd (cc)
