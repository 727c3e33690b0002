-- The lines of a text up to the next delimiter line.
use Rattle.std.proofs.Common.{◌≡◌, ◌≤◌, ◌<◌, ◌+◌, ◌&&◌, ℕ, Bool, true, false, not, cond, List, [], ◌∷◌, ◌++◌, length, take, drop, append_assoc, append-nil, refl, ap, sym, ◌∙◌, arith}
use Rattle.std.specs.List.{concat}
use Rattle.std.specs.Cmp.Derive.{both_true}
use Rattle.std.proofs.lemmas.Bool.{and_parts, cond-true, cond-false, not-true}
use Rattle.std.proofs.lemmas.List.{drop-drop, length-drop}
use Rattle.std.proofs.lemmas.List.Folds.{list_all-append, concat-append}
use Rattle.std.proofs.Math.Seq.{take-add}
use Rattle.text_lines.specs.Lines.{lines_of, is_empty_line}
use Rattle.text_lines.proofs.Lines.{no_lines}
use Rattle.mail_fields.specs.DelimiterLine.{is_delimiter_line}
use Rattle.text_forms.proofs.UnixTexts.{have_none}
use Rattle.unix_form.specs.Messages.{CutLines, cut_line, cut_lines, without_last_empty}
use Rattle.unix_form.proofs.Cuts.{last_empty}

-- lines without a delimiter line stand before what is cut behind them
cut_before : (lines rest : List (List ℕ)) → have_none lines ≡ true → cut_lines (lines ++ rest) ≡ record { loose = lines ++ (cut_lines rest).loose; messages = (cut_lines rest).messages }
cut_before [] rest none = refl
cut_before (line ∷ lines) rest none =
    let both = and_parts (not (is_delimiter_line line)) (have_none lines) none in
    ap (cut_line line) (cut_before lines rest both.1)
    ∙ cond-false (is_delimiter_line line) (record { loose = []; messages = record { line = line; lines = lines ++ (cut_lines rest).loose } ∷ (cut_lines rest).messages })
    (record { loose = line ∷ (lines ++ (cut_lines rest).loose); messages = (cut_lines rest).messages }) (not-true (is_delimiter_line line) both.0)

last_filled : (lines : List (List ℕ)) (line : List ℕ) → is_empty_line line ≡ false → without_last_empty (lines ++ line ∷ []) ≡ lines ++ line ∷ []
last_filled [] line filled = cond-false (is_empty_line line) [] (line ∷ []) filled
last_filled (first ∷ []) line filled = ap (λ l. first ∷ l) (last_filled [] line filled)
last_filled (first ∷ second ∷ lines) line filled = ap (λ l. first ∷ l) (last_filled (second ∷ lines) line filled)

-- so far have lines been passed, none of them a delimiter line; and so far goes their text without a last empty one
pub record IsPassed (text : List ℕ) (whole kept : ℕ) : Type 0 where
  pub lines : List (List ℕ)
  pub within : whole ≤ length text
  pub below : kept ≤ whole
  pub front : take whole text ≡ concat lines
  pub rest : lines_of text ≡ lines ++ lines_of (drop whole text)
  pub text_is : take kept text ≡ concat (without_last_empty lines)
  pub none : have_none lines ≡ true

pub none_passed : (text : List ℕ) → IsPassed text 0 0
none_passed text = record { lines = []; within = omega arith; below = omega arith; front = refl; rest = refl; text_is = refl; none = refl }

-- one line more
pub one_passed : (text : List ℕ) (whole kept width next : ℕ) → IsPassed text whole kept → width ≤ length (drop whole text) → lines_of (drop whole text) ≡ take width (drop whole text) ∷ lines_of (drop width (drop whole text))
    → whole < length text → is_delimiter_line (take width (drop whole text)) ≡ false → next ≡ cond (is_empty_line (take width (drop whole text))) whole (whole + width) → IsPassed text (whole + width) next
one_passed text whole kept width next is fits first inside other kept_is =
    let line = take width (drop whole text) in
    let more = is.lines ++ line ∷ [] in
    let front : take (whole + width) text ≡ concat more = take-add whole width text ∙ ap (λ t. t ++ line) is.front ∙ ap (λ t. concat is.lines ++ t) (sym (append-nil line)) ∙ sym (concat-append is.lines (line ∷ [])) in
    let left = length-drop whole text in
    let text_is : (b : Bool) → is_empty_line line ≡ b → take (cond b whole (whole + width)) text ≡ concat (without_last_empty more) = λ b empty. two b empty front in
    record {
      lines = more;
      within = omega (arith, fits, left, inside);
      below = sub (is_empty_line line) next kept_is;
      front = front;
      rest = is.rest ∙ ap (λ l. is.lines ++ l) (first ∙ ap (λ t. line ∷ lines_of t) (drop-drop width whole text)) ∙ sym (append_assoc is.lines (line ∷ []) (lines_of (drop (whole + width) text)));
      text_is = ap (λ n. take n text) kept_is ∙ text_is (is_empty_line line) refl;
      none = list_all-append (λ l. not (is_delimiter_line l)) is.lines (line ∷ []) ∙ both_true is.none (ap (λ t. not t && true) other);
    }
  where
    sub : (b : Bool) (next : ℕ) → next ≡ cond b whole (whole + width) → next ≤ whole + width
    sub true next same = omega (arith, same)
    sub false next same = omega (arith, same)

    two : (b : Bool) → is_empty_line (take width (drop whole text)) ≡ b → take (whole + width) text ≡ concat (is.lines ++ take width (drop whole text) ∷ [])
        → take (cond b whole (whole + width)) text ≡ concat (without_last_empty (is.lines ++ take width (drop whole text) ∷ []))
    two true empty front = is.front ∙ ap concat (sym (last_empty is.lines (take width (drop whole text)) empty))
    two false filled front = front ∙ ap concat (sym (last_filled is.lines (take width (drop whole text)) filled))

-- behind it stands nothing, or a delimiter line
pub record IsEnded (rest : List ℕ) : Type 0 where
  pub loose : (cut_lines (lines_of rest)).loose ≡ []

pub ended_none : (rest : List ℕ) → length rest ≡ 0 → IsEnded rest
ended_none rest none = record { loose = ap (λ lines. (cut_lines lines).loose) (no_lines rest none) }

pub ended_line : (rest line : List ℕ) (behind : List (List ℕ)) → lines_of rest ≡ line ∷ behind → is_delimiter_line line ≡ true → IsEnded rest
ended_line rest line behind lines begins = record {
  loose = ap (λ l. (cut_lines l).loose) lines ∙ ap {A = CutLines} (λ cut. cut.loose)
      (cond-true (is_delimiter_line line) (record { loose = []; messages = record { line = line; lines = (cut_lines behind).loose } ∷ (cut_lines behind).messages }) (record { loose = line ∷ (cut_lines behind).loose; messages = (cut_lines behind).messages }) begins);
}

module _ (text : List ℕ) (whole kept : ℕ) (is : IsPassed text whole kept) (ended : IsEnded (drop whole text)) where
  cut_is : cut_lines (lines_of text) ≡ record { loose = is.lines; messages = (cut_lines (lines_of (drop whole text))).messages }
  cut_is =
      ap cut_lines is.rest ∙ cut_before is.lines (lines_of (drop whole text)) is.none
      ∙ ap (λ l. record { loose = is.lines ++ l; messages = (cut_lines (lines_of (drop whole text))).messages }) ended.loose
      ∙ ap (λ l. record { loose = l; messages = (cut_lines (lines_of (drop whole text))).messages }) (append-nil is.lines)

  pub run_text : take kept text ≡ concat (without_last_empty (cut_lines (lines_of text)).loose)
  run_text = is.text_is ∙ ap (λ (cut : CutLines). concat (without_last_empty cut.loose)) (sym cut_is)

  pub run_rest : (cut_lines (lines_of (drop whole text))).messages ≡ (cut_lines (lines_of text)).messages
  run_rest = ap (λ (cut : CutLines). cut.messages) (sym cut_is)
