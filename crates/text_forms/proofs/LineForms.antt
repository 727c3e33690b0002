-- Forms of each line: the lines of the text that they make, and the same form again.
use Rattle.std.proofs.Common.{◌≡◌, ◌<◌, ℕ, Bool, true, false, cond, List, [], ◌∷◌, ◌==◌, ⊎_elim, inl, inr, map, flat_map, length, refl, ap, sym, ◌∙◌, subst, arith}
use Rattle.std.specs.List.{concat}
use Rattle.std.proofs.lemmas.Bool.{cases_Bool, cond-true, cond-false}
use Rattle.text_lines.specs.Lines.{lines_of, is_line_end}
use Rattle.text_lines.proofs.Texts.{is_closed, is_open, AreLines, are-lines, lines-joined, map-lines, flat-is-joined}
use Rattle.text_forms.specs.Lines.{with_end, kept_line, stored_line, ended_line, marked_line}
use Rattle.text_forms.proofs.LineEnds.{closed-before, open-before, with-end-closed, with-end-open, with-end-twice, ended-closed, ended-open}

-- a form that makes a line of a line, and the same line again
pub record IsLineForm (form : List ℕ → List ℕ) : Type 0 where
  pub closed : (line : List ℕ) → is_closed line ≡ true → is_closed (form line) ≡ true
  pub last : (line : List ℕ) → 0 < length line → is_open line ≡ true → AreLines (form line ∷ [])
  pub twice : (line : List ℕ) → is_closed line ≡ true → form (form line) ≡ form line
  pub last_twice : (line : List ℕ) → is_open line ≡ true → form (form line) ≡ form line

module _ (form : List ℕ → List ℕ) (is : IsLineForm form) where
  map-twice : (lines : List (List ℕ)) → AreLines lines → map form (map form lines) ≡ map form lines
  map-twice [] are = refl
  map-twice (line ∷ lines) are = ⊎_elim
      (λ more. ap (λ l. l ∷ map form (map form lines)) (is.twice line more.0) ∙ ap (λ l. form line ∷ l) (map-twice lines more.1))
      (λ whole.
      ap (λ l. form (form line) ∷ map form (map form l)) whole.2
      ∙ ap (λ l. l ∷ []) (is.last_twice line whole.1)
      ∙ ap (λ l. form line ∷ map form l) (sym whole.2))
      are

  -- the lines of the text that a form makes
  pub flat-lines : (text : List ℕ) → lines_of (flat_map form (lines_of text)) ≡ map form (lines_of text)
  flat-lines text =
      ap lines_of (flat-is-joined form (lines_of text))
      ∙ lines-joined (map form (lines_of text)) (map-lines form is.closed is.last (lines_of text) (are-lines text))

  -- a form once more changes nothing
  pub flat-twice : (text : List ℕ) → flat_map form (lines_of (flat_map form (lines_of text))) ≡ flat_map form (lines_of text)
  flat-twice text =
      let lines = lines_of text in
      ap (flat_map form) (flat-lines text) ∙ flat-is-joined form (map form lines)
      ∙ ap concat (map-twice lines (are-lines text)) ∙ sym (flat-is-joined form lines)

pub end-is : (end : List ℕ) → is_line_end end ≡ true → is_closed end ≡ true → IsLineForm (with_end end)
end-is end is one = record {
  closed = λ line closed. with-end-closed end is one line closed;
  last = λ line some open_line.
      let same = with-end-open end is one line open_line in
      subst (λ l. AreLines (l ∷ [])) (sym same) (inr (some, open_line, refl));
  twice = λ line closed. with-end-twice end is one line closed;
  last_twice = λ line open_line. ap (with_end end) (with-end-open end is one line open_line);
}

pub kept-is : IsLineForm kept_line
kept-is = end-is (13 ∷ 10 ∷ []) refl refl

pub stored-is : IsLineForm stored_line
stored-is = end-is (10 ∷ []) refl refl

pub ended-is : IsLineForm ended_line
ended-is = record {
  closed = λ line closed. ap is_closed (ended-closed line closed) ∙ closed;
  last = λ line some open_line. inl (ended-open line open_line, tt);
  twice = λ line closed. ap ended_line (ended-closed line closed);
  last_twice = λ line open_line. ended-closed (ended_line line) (ended-open line open_line);
}

-- a mark that is no LF, before lines that pass a test, which no marked line does
module _ (test : List ℕ → Bool) (mark : ℕ) (other : (mark == 10) ≡ false) (marked : (line : List ℕ) → test (mark ∷ line) ≡ false) where
  pub mark-twice : (line : List ℕ) → marked_line test mark (marked_line test mark line) ≡ marked_line test mark line
  mark-twice line = ⊎_elim
      (λ yes.
      let once = cond-true (test line) (mark ∷ line) line yes in
      ap (marked_line test mark) once ∙ cond-false (test (mark ∷ line)) (mark ∷ mark ∷ line) (mark ∷ line) (marked line) ∙ sym once)
      (λ no. ap (marked_line test mark) (cond-false (test line) (mark ∷ line) line no))
      (cases_Bool (test line))

  pub mark-closed : (line : List ℕ) → is_closed line ≡ true → is_closed (marked_line test mark line) ≡ true
  mark-closed line closed =
      elim (test line) as (λ is. is_closed (cond is (mark ∷ line) line) ≡ true) [ true ↦ closed-before mark line other closed | false ↦ closed ]

  pub mark-is : IsLineForm (marked_line test mark)
  mark-is = record {
    closed = mark-closed;
    last = λ line some open_line.
        elim (test line) as (λ is. AreLines (cond is (mark ∷ line) line ∷ [])) [
          | true ↦ inr (omega arith, open-before mark line other open_line, refl)
          | false ↦ inr (some, open_line, refl)
        ];
    twice = λ line closed. mark-twice line;
    last_twice = λ line open_line. mark-twice line;
  }
