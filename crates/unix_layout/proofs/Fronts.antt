-- The first parts of a text that is no unix file: at most one message stands in front.
use Rattle.std.proofs.Common.{◌≡◌, ◌<◌, ◌≤◌, ◌+◌, ◌-◌, ◌==◌, ◌&&◌, ◌⊎◌, inl, inr, ⊎_elim, ℕ, zero, suc, Bool, true, false, cond, nat_le, List, [], ◌∷◌, ◌++◌, length, length-append, take, drop, take_all, take-append-drop, append-nil, map, codes, bytes_eq, Option, Some, None, option_map, is_some, refl, ap, sym, subst, ◌∙◌, arith}
use Rattle.std.specs.List.{concat}
use Rattle.std.proofs.lemmas.Bool.{cases_Bool, cases_lt, cond-true, cond-false, false≢true}
use Rattle.std.proofs.lemmas.Bool.Decides.{nat_tests}
use Rattle.std.proofs.lemmas.List.{take-map, length-drop, length-take}
use Rattle.std.proofs.lemmas.Option.{same_Some}
use Rattle.std.proofs.Math.Seq.{take-add}
use Rattle.status_heads.specs.Bases.{base_of}
use Rattle.text_lines.specs.Lines.{lines_of, is_open, line_text}
use Rattle.text_lines.proofs.Lines.{no_lines}
use Rattle.text_lines.proofs.OpenLines.{open-before, open-first, open-behind}
use Rattle.text_lines.proofs.Texts.{is_closed, AreLines, are-lines, joined, lines-joined, closed-first}
use Rattle.text_forms.specs.Lines.{clean_byte}
use Rattle.mail_fields.specs.DelimiterLine.{delimiter_stamp, date_behind_space, is_delimiter_line, is_one_line}
use Rattle.status_heads.specs.declared.base.Base.{Base}
use Rattle.unix_form.specs.Messages.{RawMessage, cut_lines, messages_if, messages_in, raw_text}
use Rattle.mail_types.specs.declared.contents.StoreContents.{StoreContents}
use Rattle.file_store.specs.Scans.{HasFront, HasWholeFront}
use Rattle.unix_form.specs.Form.{UnixFile, IsUnixSpelled, contents_in, file_in, file_with, file_of, file_records}
use Rattle.unix_layout.specs.Forms.{unix_read}

-- a line of more than 1,000 bytes is no delimiter line
pub long_other : (line : List ℕ) → 1000 < length line → is_delimiter_line line ≡ false
unfolding delimiter_stamp
long_other line long =
    let far : nat_le (length line) 1000 ≡ false = grind (arith, nat_tests, long) in
    ap (λ t. is_some (cond ((bytes_eq (codes "From ") (take 5 line) && (t && nat_le (length (line_text line)) 998)) && is_one_line line) (date_behind_space (drop 4 (line_text line))) None)) far
    ∙ none (bytes_eq (codes "From ") (take 5 line)) (is_one_line line)
  where
    none : (a b : Bool) → is_some (cond ((a && false) && b) (date_behind_space (drop 4 (line_text line))) None) ≡ false
    none true b = refl
    none false b = refl

-- the first bytes of a line are open
closed_front : (k : ℕ) (line : List ℕ) → is_closed line ≡ true → k < length line → is_open (take k line) ≡ true
closed_front zero line closed inside = refl
closed_front (suc k) [] closed inside = absurd (omega (arith, inside))
closed_front (suc k) (byte ∷ []) closed inside = absurd (omega (arith, inside))
closed_front (suc k) (byte ∷ next ∷ rest) closed inside = ⊎_elim
    (λ feed. absurd (false≢true (sym (cond-true (byte == 10) false (is_closed (next ∷ rest)) feed) ∙ closed)))
    (λ other. open-before byte (take k (next ∷ rest)) other (closed_front k (next ∷ rest) (sym (cond-false (byte == 10) false (is_closed (next ∷ rest)) other) ∙ closed) (omega (arith, inside))))
    (cases_Bool (byte == 10))

open_front : (k : ℕ) (line : List ℕ) → is_open line ≡ true → is_open (take k line) ≡ true
open_front zero line is = refl
open_front (suc k) [] is = refl
open_front (suc k) (byte ∷ rest) is = open-before byte (take k rest) (open-first byte rest is) (open_front k rest (open-behind byte rest is))

part_take : (k n : ℕ) (text : List ℕ) → k ≤ n → take k (take n text) ≡ take k text
part_take zero n text within = refl
part_take (suc k) zero text within = absurd (omega (arith, within))
part_take (suc k) (suc n) [] within = refl
part_take (suc k) (suc n) (byte ∷ text) within = ap (λ l. byte ∷ l) (part_take k n text (omega (arith, within)))

-- an open text is one line, and a file where that is a delimiter line
open_lines : (text : List ℕ) → 0 < length text → is_open text ≡ true → lines_of text ≡ text ∷ []
open_lines text some is = ap lines_of (sym (append-nil text)) ∙ lines-joined (text ∷ []) (inr (some, is, refl))

none_of : (text line : List ℕ) (behind : List (List ℕ)) → lines_of text ≡ line ∷ behind → is_delimiter_line line ≡ false → messages_in (lines_of text) ≡ None
none_of text line behind lines other =
    ap messages_in lines
    ∙ ap messages_if (cond-false (is_delimiter_line line) (record { loose = []; messages = record { line = line; lines = (cut_lines behind).loose } ∷ (cut_lines behind).messages })
    (record { loose = line ∷ (cut_lines behind).loose; messages = (cut_lines behind).messages }) other)

abbrev alone : List ℕ → RawMessage
alone line = record { line = line; lines = [] }

one_of : (text : List ℕ) → lines_of text ≡ text ∷ [] → is_delimiter_line text ≡ true → messages_in (lines_of text) ≡ Some (alone text ∷ [])
one_of text lines begins =
    ap messages_in lines
    ∙ ap messages_if (cond-true (is_delimiter_line text) (record { loose = []; messages = alone text ∷ [] }) (record { loose = text ∷ []; messages = [] }) begins)

one_record : (pseudo : Option Base) (line : List ℕ) → file_records (file_with pseudo (alone line) []) ≡ 1
one_record None line = refl
one_record (Some base) line = refl

empty_other : is_delimiter_line [] ≡ false
unfolding delimiter_stamp
empty_other = refl

filled : (l : List ℕ) → is_delimiter_line l ≡ true → 0 < length l
filled [] is = absurd (false≢true (sym empty_other ∙ is))
filled (byte ∷ rest) is = omega arith

-- how many messages stand in a first part that is a file
module _ (text line : List ℕ) (width : ℕ) (some : 0 < length text) (line_is : line ≡ take width text) (lines : lines_of text ≡ line ∷ lines_of (drop width text)) (within : width ≤ length text) (other : is_delimiter_line line ≡ false) where
  line_long : length line ≡ width
  line_long = let size = length-append line (drop width text) in let both = ap length (take-append-drop width text) in let left = length-drop width text in omega (arith, ap length line_is, length-take width text, within)

  first_is : (is_closed line ≡ true) ⊎ ((is_open line ≡ true) × (text ≡ line))
  first_is = step (subst AreLines lines (are-lines text))
    where
      step : AreLines (line ∷ lines_of (drop width text)) → (is_closed line ≡ true) ⊎ ((is_open line ≡ true) × (text ≡ line))
      step (inl closed) = inl closed.0
      step (inr last) = inr (last.1, sym (joined text) ∙ ap concat (lines ∙ ap (λ l. line ∷ l) last.2) ∙ append-nil line)

  -- behind the first line none is
  past_none : (long : ℕ) → width ≤ long → messages_in (lines_of (take long text)) ≡ None
  past_none long past = ⊎_elim
      (λ closed.
      let split : long ≡ width + (long - width) = omega (arith, past) in
      let whole : take long text ≡ line ++ take (long - width) (drop width text) = ap (λ n. take n text) split ∙ take-add width (long - width) text ∙ ap (λ l. l ++ take (long - width) (drop width text)) (sym line_is) in
      none_of (take long text) line (lines_of (take (long - width) (drop width text))) (ap lines_of whole ∙ closed-first line (take (long - width) (drop width text)) closed) other)
      (λ last.
      let all : take long text ≡ text = take_all long text (omega (arith, past, ap length last.1, line_long)) in
      none_of (take long text) line (lines_of (drop width text)) (ap lines_of all ∙ lines) other)
      first_is

  -- before its end there may be one
  front_open : (long : ℕ) → long < width → is_open (take long line) ≡ true
  front_open long inside = ⊎_elim (λ closed. closed_front long line closed (omega (arith, inside, line_long))) (λ last. open_front long line last.0) first_is

  front_text : (long : ℕ) → long < width → take long text ≡ take long line
  front_text long inside = sym (ap (take long) line_is ∙ part_take long width text (omega (arith, inside)))

  pub one_front : (long : ℕ) → long < width → is_delimiter_line (take long line) ≡ true → messages_in (lines_of (take long text)) ≡ Some (alone (take long line) ∷ [])
  one_front long inside begins =
      ap (λ t. messages_in (lines_of t)) (front_text long inside)
      ∙ one_of (take long line) (open_lines (take long line) (filled (take long line) begins) (front_open long inside)) begins

  -- and no first part has more
  pub few_fronts : (long : ℕ) (file : UnixFile) → option_map file_in (messages_in (lines_of (take long text))) ≡ Some file
      → (file_records file ≡ 0) ⊎ ((file_records file ≡ 1) × (long < width) × (is_delimiter_line (take long line) ≡ true))
  few_fronts long file reads = ⊎_elim inside_front (λ past. absurd (nothing file (sym (ap (option_map file_in) (past_none long past)) ∙ reads))) (cases_lt long width)
    where
      nothing : (f : UnixFile) → None ≡ Some f → ⊥
      nothing f is = absurd (cc)

      inside_front : long < width → (file_records file ≡ 0) ⊎ ((file_records file ≡ 1) × (long < width) × (is_delimiter_line (take long line) ≡ true))
      inside_front inside = ⊎_elim
          (λ begins.
          let said : file_with (base_of (raw_text (alone (take long line))) (codes "X-IMAP")) (alone (take long line)) [] ≡ file = same_Some _ file (sym (ap (option_map file_in) (one_front long inside begins)) ∙ reads) in
          inr (sym (ap file_records said) ∙ one_record (base_of (raw_text (alone (take long line))) (codes "X-IMAP")) (take long line), inside, begins))
          (λ no. empty_front (take long line) (front_open long inside) no (sym (ap (λ t. option_map file_in (messages_in (lines_of t))) (front_text long inside)) ∙ reads))
          (cases_Bool (is_delimiter_line (take long line)))
        where
          empty_front : (l : List ℕ) → is_open l ≡ true → is_delimiter_line l ≡ false → option_map file_in (messages_in (lines_of l)) ≡ Some file → (file_records file ≡ 0) ⊎ ((file_records file ≡ 1) × (long < width) × (is_delimiter_line (take long line) ≡ true))
          empty_front [] is other reads = inl (sym (ap file_records (same_Some (file_in []) file (sym (ap (λ ls. option_map file_in (messages_in ls)) (no_lines [] refl)) ∙ reads))))
          empty_front (byte ∷ rest) is other reads =
              absurd (nothing file (sym (ap (option_map file_in) (none_of (byte ∷ rest) (byte ∷ rest) [] (open_lines (byte ∷ rest) (omega arith) is) other)) ∙ reads))

-- ---- Of the bytes of a file

-- how many messages has the longest first part that is a file: one where the first line begins as a delimiter line and goes on
module _ (bytes text line : List ℕ) (width : ℕ) (same : map clean_byte bytes ≡ text) (some : 0 < length text) (line_is : line ≡ take width text) (lines : lines_of text ≡ line ∷ lines_of (drop width text))
    (within : width ≤ length text) (other : is_delimiter_line line ≡ false) where
  front_same : (long : ℕ) → map clean_byte (take long bytes) ≡ take long text
  front_same long = sym (take-map clean_byte long bytes) ∙ ap (take long) same

  reads_front : (long : ℕ) → file_of (take long bytes) ≡ option_map file_in (messages_in (lines_of (take long text)))
  reads_front long = ap (λ t. option_map file_in (messages_in (lines_of t))) (front_same long)

  few_in : (n : ℕ) → HasFront unix_read bytes n → (n ≡ 0) ⊎ ((n ≡ 1) × (long : ℕ) × (long < width) × (is_delimiter_line (take long line) ≡ true))
  few_in n has = ⊎_elim
      (λ none. inl (has.2.counts ∙ none))
      (λ one. inr (has.2.counts ∙ one.0, has.0, one.1, one.2))
      (few_fronts text line width some line_is lines within other has.0 has.2.file (sym (reads_front has.0) ∙ has.2.reads))

  -- no first part of the line is a delimiter line
  pub front_none : ((long : ℕ) → long < width → is_delimiter_line (take long line) ≡ false) → HasWholeFront unix_read bytes 0
  front_none none = record {
    found = inl (0, contents_in (file_in []), record { file = file_in []; reads = reads_front 0 ∙ ap (λ ls. option_map file_in (messages_in ls)) (no_lines [] refl); says = refl; counts = refl });
    greatest = λ n has. ⊎_elim (λ zero_is. omega (arith, zero_is)) (λ one. absurd (false≢true (sym (none one.1 one.2) ∙ one.3))) (few_in n has);
  }

  pub front_one : (long : ℕ) → long < width → is_delimiter_line (take long line) ≡ true → HasWholeFront unix_read bytes 1
  front_one long inside begins =
      let message = alone (take long line) in
      let pseudo = base_of (raw_text message) (codes "X-IMAP") in
      let file = file_with pseudo message [] in
      record {
        found = inl (long, contents_in file, record { file = file; reads = reads_front long ∙ ap (option_map file_in) (one_front text line width some line_is lines within other long inside begins); says = refl; counts = sym (one_record pseudo (take long line)) });
        greatest = λ n has. ⊎_elim (λ zero_is. omega (arith, zero_is)) (λ one. omega (arith, one.0)) (few_in n has);
      }

  -- no bytes of it are said
  pub none_said : messages_in (lines_of text) ≡ None → (contents : StoreContents) (n : ℕ) → IsUnixSpelled bytes contents n → ⊥
  none_said none contents n is = nothing is.file (sym (ap (λ t. option_map file_in (messages_in (lines_of t))) same ∙ ap (option_map file_in) none) ∙ is.reads)
    where
      nothing : (f : UnixFile) → None ≡ Some f → ⊥
      nothing f said = absurd (cc)

-- a text that is no file begins with no delimiter line
pub other_of : (text line : List ℕ) (behind : List (List ℕ)) → lines_of text ≡ line ∷ behind → messages_in (lines_of text) ≡ None → is_delimiter_line line ≡ false
other_of text line behind lines none = ⊎_elim
    (λ begins.
    let said : Some (record { line = line; lines = (cut_lines behind).loose } ∷ (cut_lines behind).messages) ≡ None =
    sym (ap messages_in lines
    ∙ ap messages_if (cond-true (is_delimiter_line line) (record { loose = []; messages = record { line = line; lines = (cut_lines behind).loose } ∷ (cut_lines behind).messages })
    (record { loose = line ∷ (cut_lines behind).loose; messages = (cut_lines behind).messages }) begins)) ∙ none in
    absurd (cc))
    (λ other. other)
    (cases_Bool (is_delimiter_line line))
