-- Every form applied twice gives what it gives once, and so does each step alone but `end_header`.
use Rattle.std.proofs.Common.{◌≡◌, ℕ, Bool, true, false, cond, List, [], ◌∷◌, ◌==◌, map, flat_map, bytes_eq, refl, ap, sym, subst, ◌∙◌}
use Rattle.std.specs.List.{concat}
use Rattle.std.proofs.lemmas.Bool.{cond-true, false≢true, eqb-true, and_parts}
use Rattle.text_lines.specs.Lines.{lines_of, line_text, is_line_end}
use Rattle.text_lines.proofs.Texts.{lines-joined, flat-is-joined}
use Rattle.mail_fields.specs.DelimiterLine.{is_delimiter_line, delimiter_stamp}
use Rattle.text_forms.specs.Lines.{kept_line, stored_line, ended_line, marked_line, is_mmdf_line}
use Rattle.text_forms.specs.Forms.{keep_lines, store_lf, end_last, quote_from, quote_mmdf, exact_form, lines_form, headed_form, unix_form, mmdf_form}
use Rattle.text_forms.proofs.LineForms.{kept-is, stored-is, ended-is, mark-is, flat-twice}
-- the step that stands with its own lemmas
pub use Rattle.text_forms.proofs.ReservedFields.{drop_reserved_twice}
use Rattle.text_forms.proofs.Headed.{IsMark, settled-lines, made-headed, headed-stays, marked-headed}

pub keep_lines_twice : (text : List ℕ) → keep_lines (keep_lines text) ≡ keep_lines text
keep_lines_twice = flat-twice kept_line kept-is

pub store_lf_twice : (text : List ℕ) → store_lf (store_lf text) ≡ store_lf text
store_lf_twice = flat-twice stored_line stored-is

pub end_last_twice : (text : List ℕ) → end_last (end_last text) ≡ end_last text
end_last_twice = flat-twice ended_line ended-is

pub headed_form_twice : (text : List ℕ) → headed_form (headed_form text) ≡ headed_form text
headed_form_twice text =
    let made = made-headed text in
    ap headed_form made.1.0 ∙ headed-stays made.0 made.1.1 ∙ sym made.1.0

module _ (test : List ℕ → Bool) (mark : ℕ) (is : IsMark test mark) where
  abbrev quoted : List ℕ → List ℕ
  quoted text = flat_map (marked_line test mark) (lines_of text)

  quoted-twice : (text : List ℕ) → quoted (quoted text) ≡ quoted text
  quoted-twice = flat-twice (marked_line test mark) (mark-is test mark is.no_feed is.marked)

  form-twice : (text : List ℕ) → quoted (headed_form (quoted (headed_form text))) ≡ quoted (headed_form text)
  form-twice text =
      let made = made-headed text in
      let lines = made.0 in
      let marked = map (marked_line test mark) lines in
      let once : quoted (headed_form text) ≡ concat marked =
      ap quoted made.1.0
      ∙ ap (flat_map (marked_line test mark)) (lines-joined lines (settled-lines lines made.1.1.settled))
      ∙ flat-is-joined (marked_line test mark) lines in
      let stays : headed_form (quoted (headed_form text)) ≡ quoted (headed_form text) =
      ap headed_form once ∙ headed-stays marked (marked-headed test mark is lines made.1.1) ∙ sym once in
      ap quoted stays ∙ quoted-twice (headed_form text)

-- an empty line begins with CR or LF
pub first-of-empty : (P : List ℕ → Type 0) → ((rest : List ℕ) → P (10 ∷ rest)) → ((rest : List ℕ) → P (13 ∷ rest)) → (line : List ℕ) → is_line_end line ≡ true → P line
first-of-empty P feed return [] is = absurd (false≢true is)
first-of-empty P feed return (byte ∷ []) is = subst (λ b. P (b ∷ [])) (sym (eqb-true byte 10 is)) (feed [])
first-of-empty P feed return (byte ∷ next ∷ rest) is =
    let first = (and_parts (byte == 13) (is_line_end (next ∷ rest)) is).0 in
    subst (λ b. P (b ∷ next ∷ rest)) (sym (eqb-true byte 13 first)) (return (next ∷ rest))

-- the mark of a delimiter line
pub from-mark : IsMark is_delimiter_line 62
unfolding delimiter_stamp
from-mark = record {
  no_feed = refl;
  no_return = refl;
  marked = λ line. refl;
  unreserved = λ line. refl;
  filled = first-of-empty (λ line. is_delimiter_line line ≡ false) (λ rest. refl) (λ rest. refl);
}

empty-no-border : (line : List ℕ) → is_line_end line ≡ true → is_mmdf_line line ≡ false
empty-no-border [] is = refl
empty-no-border (byte ∷ rest) is = ap (λ text. bytes_eq text (1 ∷ 1 ∷ 1 ∷ 1 ∷ [])) (cond-true (is_line_end (byte ∷ rest)) [] (byte ∷ line_text rest) is)

mmdf-mark : IsMark is_mmdf_line 32
mmdf-mark = record {
  no_feed = refl;
  no_return = refl;
  marked = λ line. elim (is_line_end (32 ∷ line)) as (λ is. bytes_eq (cond is [] (32 ∷ line_text line)) (1 ∷ 1 ∷ 1 ∷ 1 ∷ []) ≡ false) [ true ↦ refl | false ↦ refl ];
  unreserved = λ line. refl;
  filled = empty-no-border;
}

pub quote_from_twice : (text : List ℕ) → quote_from (quote_from text) ≡ quote_from text
quote_from_twice = quoted-twice is_delimiter_line 62 from-mark

pub quote_mmdf_twice : (text : List ℕ) → quote_mmdf (quote_mmdf text) ≡ quote_mmdf text
quote_mmdf_twice = quoted-twice is_mmdf_line 32 mmdf-mark

pub exact_form_twice : (text : List ℕ) → exact_form (exact_form text) ≡ exact_form text
exact_form_twice text = refl

pub lines_form_twice : (text : List ℕ) → lines_form (lines_form text) ≡ lines_form text
lines_form_twice = keep_lines_twice

pub unix_form_twice : (text : List ℕ) → unix_form (unix_form text) ≡ unix_form text
unix_form_twice = form-twice is_delimiter_line 62 from-mark

pub mmdf_form_twice : (text : List ℕ) → mmdf_form (mmdf_form text) ≡ mmdf_form text
mmdf_form_twice = form-twice is_mmdf_line 32 mmdf-mark
