-- One message as it is written: its lines, and what is read of them.
use Rattle.std.proofs.Common.{◌≡◌, ◌≤◌, ◌<◌, ◌^◌, ◌==◌, ◌&&◌, ℕ, true, false, not, cond, List, [], ◌∷◌, ◌++◌, Some, None, is_some, ⊎_elim, length, take, drop, codes, bytes_eq, refl, ap, sym, subst, ◌∙◌}
use Rattle.std.specs.List.{list_all, concat}
use Rattle.std.proofs.lemmas.Bool.{cases_Bool, and_parts, not-true, false≢true, eqb-true}
use Rattle.std.proofs.lemmas.List.Folds.{concat-append}
use Rattle.text_lines.specs.Lines.{lines_of, line_text}
use Rattle.text_lines.proofs.Texts.{joined}
use Rattle.mail_fields.specs.Keyword.{is_keyword}
use Rattle.mail_fields.specs.Names.{are_distinct}
use Rattle.mail_fields.specs.DelimiterLine.{is_delimiter_line, delimiter_stamp, date_behind_space, is_short, is_one_line}
use Rattle.mail_types.specs.declared.message.Record.{Record}
use Rattle.mail_types.specs.Stamps.{utc_stamp}
use Rattle.text_forms.specs.Forms.{drop_reserved, has_empty_line, store_lf, unix_form}
use Rattle.text_forms.specs.Lines.{is_reserved}
use Rattle.text_forms.proofs.OtherEnds.{AreClosed}
use Rattle.text_forms.proofs.UnixTexts.{have_none, stored-empty, stored-free, stored-closed, stored-none, unix-back}
use Rattle.status_heads.specs.declared.heads.Heads.{Heads}
use Rattle.status_heads.specs.Delimiters.{delimiter_text}
use Rattle.status_heads.specs.HeadTexts.{head_lines, heads_text}
use Rattle.status_heads.specs.Heads.{heads_of}
use Rattle.status_heads.specs.Insertions.{with_fields}
use Rattle.status_heads.specs.Numbered.{numbered_heads, word_bits}
use Rattle.status_heads.specs.Numbers.{greatest_uid}
use Rattle.status_heads.proofs.DelimiterBack.{delimiter-closed}
use Rattle.status_heads.proofs.Insertions.{Each, IsMade, parts, none-reserved, lines-are}
use Rattle.status_heads.proofs.PutBack.{head_lines_made, read_back, drop_back}
use Rattle.unix_form.specs.Messages.{RawMessage, raw_text}
use Rattle.unix_form.specs.Form.{heads_for, names_by, message_text}
use Rattle.unix_form.proofs.Cuts.{IsPlain, IsMessage, each_both, each_parts, last_empty}
use Rattle.unix_form.proofs.Stamps.{line_begins}
use Rattle.unix_form.proofs.WordNumbers.{all_by, none_added, bits_again}

-- ---- Lines that begin no message

-- the line of a status field is no delimiter line
made_other : (line : List ℕ) → IsMade line → is_delimiter_line line ≡ false
unfolding delimiter_stamp
made_other [] made = refl
made_other (byte ∷ rest) made = ⊎_elim
    (λ yes.
    let none : is_reserved (byte ∷ rest) ≡ false = subst (λ b. is_reserved (b ∷ rest) ≡ false) (eqb-true 70 byte yes) refl in
    absurd (false≢true (sym none ∙ made.reserved)))
    (λ no. ap (λ t. is_some (cond (((t && bytes_eq (codes "rom ") (take 4 rest)) && is_short (byte ∷ rest)) && is_one_line (byte ∷ rest)) (date_behind_space (drop 4 (line_text (byte ∷ rest)))) None)) no)
    (cases_Bool (70 == byte))

made_plain : (lines : List (List ℕ)) → Each IsMade lines → Each IsPlain lines
made_plain [] all = tt
made_plain (line ∷ lines) all = (record { closed = all.0.is.closed; other = made_other line all.0 }, made_plain lines all.1)

plain_of : (lines : List (List ℕ)) → AreClosed lines → have_none lines ≡ true → Each IsPlain lines
plain_of [] closed none = tt
plain_of (line ∷ lines) closed none =
    let both = and_parts (not (is_delimiter_line line)) (have_none lines) none in
    (record { closed = closed.0; other = not-true (is_delimiter_line line) both.0 }, plain_of lines closed.1 both.1)

closed_of : (lines : List (List ℕ)) → Each IsPlain lines → AreClosed lines
closed_of [] all = tt
closed_of (line ∷ lines) all = (all.0.closed, closed_of lines all.1)

pub feed_plain : IsPlain (10 ∷ [])
unfolding delimiter_stamp
feed_plain = record { closed = refl; other = refl }

-- ---- The message

-- a message that can be written, where these names are there
pub record CanStand (names : List (List ℕ)) (r : Record) : Type 0 where
  pub text : unix_form r.text ≡ r.text
  pub stamp : utc_stamp r.stamp ≡ r.stamp
  pub words : r.words < 2 ^ length names
  pub low : 1 ≤ r.uid
  pub high : r.uid ≤ greatest_uid
  pub number : 0 ≡ r.number

abbrev pub text_of : List (List ℕ) → Record → List ℕ
text_of names r = with_fields (heads_text (heads_for names r)) (store_lf r.text)

-- as it stands in the file
abbrev pub raw_of : List (List ℕ) → Record → RawMessage
raw_of names r = record { line = delimiter_text r.stamp.day r.stamp.second; lines = lines_of (text_of names r) ++ (10 ∷ []) ∷ [] }

pub message_lines : (names : List (List ℕ)) (r : Record) → message_text names r ≡ concat ((raw_of names r).line ∷ (raw_of names r).lines)
message_lines names r =
    let line = delimiter_text r.stamp.day r.stamp.second in
    ap (λ text. line ++ (text ++ 10 ∷ [])) (sym (joined (text_of names r)))
    ∙ ap (λ text. line ++ text) (sym (concat-append (lines_of (text_of names r)) ((10 ∷ []) ∷ [])))

pub raw_back : (names : List (List ℕ)) (r : Record) → raw_text (raw_of names r) ≡ text_of names r
raw_back names r = ap concat (last_empty (lines_of (text_of names r)) (10 ∷ []) refl) ∙ joined (text_of names r)

module _ (names : List (List ℕ)) (all : list_all is_keyword names ≡ true) (distinct : are_distinct names ≡ true) (r : Record) (can : CanStand names r) where
  abbrev heads : Heads
  heads = heads_for names r

  abbrev stored : List ℕ
  stored = store_lf r.text

  pub keywords : list_all is_keyword heads.words ≡ true
  keywords = all_by is_keyword r.words names all

  pub made : Each IsMade (head_lines heads)
  made = head_lines_made heads keywords can.low can.high

  pub has : has_empty_line stored ≡ true
  has = stored-empty r.text can.text

  pub free : drop_reserved stored ≡ stored
  free = stored-free r.text can.text

  plain : Each IsPlain (lines_of (text_of names r))
  plain =
      let none = none-reserved stored free in
      let split = parts stored (head_lines heads) made has none in
      let whole = subst (Each IsPlain) split.3.whole (plain_of (lines_of stored) (stored-closed r.text can.text) (stored-none r.text can.text)) in
      let both = each_parts IsPlain split.0 (split.1 ∷ split.2) whole in
      subst (Each IsPlain) (sym (lines-are stored (head_lines heads) made has none))
      (each_both IsPlain split.0 (head_lines heads ++ (split.1 ∷ split.2)) both.0 (each_both IsPlain (head_lines heads) (split.1 ∷ split.2) (made_plain (head_lines heads) made) both.1))

  pub is_message : IsMessage (raw_of names r)
  is_message = record {
    closed = delimiter-closed r.stamp.day r.stamp.second;
    begins = line_begins r.stamp can.stamp;
    plain = each_both IsPlain (lines_of (text_of names r)) ((10 ∷ []) ∷ []) plain (feed_plain, tt);
  }

  -- its text is read as it was
  pub text_back : unix_form (raw_text (raw_of names r)) ≡ r.text
  text_back =
      ap unix_form (raw_back names r)
      ∙ unix-back r.text can.text (text_of names r) (closed_of (lines_of (text_of names r)) plain)
      (drop_back heads keywords can.low can.high stored (heads_text heads) refl has free)

  -- and its status fields
  pub heads_back : numbered_heads names (heads_of (raw_text (raw_of names r))) ≡ record { flags = r.flags; words = r.words; uid = Some r.uid; names = names }
  heads_back =
      ap (λ text. numbered_heads names (heads_of text)) (raw_back names r)
      ∙ ap (numbered_heads names) (read_back heads keywords can.low can.high stored (heads_text heads) refl has free)
      ∙ ap (λ known. record { flags = r.flags; words = word_bits known (names_by r.words names); uid = Some r.uid; names = known }) (none_added r.words names)
      ∙ ap (λ words. record { flags = r.flags; words = words; uid = Some r.uid; names = names }) (bits_again r.words names can.words distinct)
