-- Line ends: a line with another end in place of its own.
use Rattle.std.proofs.Common.{◌≡◌, ℕ, ◌+◌, ◌-◌, ◌<◌, ◌≤◌, true, false, List, [], ◌∷◌, ◌++◌, ◌==◌, ◌&&◌, ⊎_elim, nat_lt, length, length-append, take, refl, ap, sym, ◌∙◌, arith}
use Rattle.std.proofs.lemmas.Bool.{cases_Bool, cond-true, cond-false, false≢true, eqb-true, and_parts}
use Rattle.std.proofs.lemmas.Bool.Decides.{nat_tests}
use Rattle.std.proofs.lemmas.List.{take_at}
use Rattle.text_lines.specs.Lines.{line_text, line_end_of, is_line_end, is_open}
use Rattle.text_lines.proofs.LineEnds.{text-then-end}
use Rattle.text_lines.proofs.Texts.{is_closed, some-byte}
use Rattle.text_lines.proofs.OpenLines.{closed-other, closed-behind, closed-text}
pub use Rattle.text_lines.proofs.OpenLines.{closed-before, open-before, open-first, open-behind, open-then-closed}
use Rattle.text_forms.specs.Lines.{is_ended, with_end, ended_line}

some_test : (n : ℕ) → 0 < n → nat_lt 0 n ≡ true
some_test n some = grind (arith, nat_tests)

-- line ends of one length are the same
pub one-end : (a b : List ℕ) → is_line_end a ≡ true → is_line_end b ≡ true → length a ≡ length b → a ≡ b
one-end [] b is too same = absurd (false≢true is)
one-end (x ∷ rest) [] is too same = absurd (false≢true too)
one-end (x ∷ []) (y ∷ []) is too same = ap (λ n. n ∷ []) (eqb-true x 10 is ∙ sym (eqb-true y 10 too))
one-end (x ∷ []) (y ∷ next ∷ more) is too same = absurd (omega (arith, same))
one-end (x ∷ next ∷ more) (y ∷ []) is too same = absurd (omega (arith, same))
one-end (x ∷ next ∷ rest) (y ∷ other ∷ more) is too same =
    let first = and_parts (x == 13) (is_line_end (next ∷ rest)) is in
    let second = and_parts (y == 13) (is_line_end (other ∷ more)) too in
    ap (λ n. n ∷ next ∷ rest) (eqb-true x 13 first.0 ∙ sym (eqb-true y 13 second.0))
    ∙ ap (λ tail. y ∷ tail) (one-end (next ∷ rest) (other ∷ more) first.1 second.1 (omega (arith, same)))

-- the line end of a line that has one
pub end-of-line : (line : List ℕ) → 0 < length (line_end_of line) → is_line_end (line_end_of line) ≡ true
end-of-line [] some = absurd (omega arith)
end-of-line (byte ∷ rest) some = ⊎_elim
    (λ whole. ap is_line_end (cond-true (is_line_end (byte ∷ rest)) (byte ∷ rest) (line_end_of rest) whole) ∙ whole)
    (λ part.
    let same = cond-false (is_line_end (byte ∷ rest)) (byte ∷ rest) (line_end_of rest) part in
    let size = ap length same in
    ap is_line_end same ∙ end-of-line rest (omega (arith, some, size)))
    (cases_Bool (is_line_end (byte ∷ rest)))

module _ (line : List ℕ) where
  sizes : length (line_text line) + length (line_end_of line) ≡ length line
  sizes = sym (length-append _ _) ∙ ap length (text-then-end line)

  -- a line as long as its text has no line end, and stays
  pub no_end : (end : List ℕ) → length line ≤ length (line_text line) → with_end end line ≡ line
  no_end end same =
      let whole = sizes in
      cond-false (is_ended line) (line_text line ++ end) line (none_test (length (line_end_of line)) (omega (arith, same, whole)))
    where
      none_test : (n : ℕ) → n ≡ 0 → nat_lt 0 n ≡ false
      none_test n none = grind (arith, nat_tests)

  -- a longer line has one, and another stands behind its text
  pub other_end : (end : List ℕ) → length (line_text line) < length line → with_end end line ≡ take (length (line_text line)) line ++ end
  other_end end more =
      let whole = sizes in
      let front : take (length (line_text line)) line ≡ line_text line =
      ap (take (length (line_text line))) (sym (text-then-end line)) ∙ take_at (line_text line) (line_end_of line) (length (line_text line)) refl in
      cond-true (is_ended line) (line_text line ++ end) line (some_test (length (line_end_of line)) (omega (arith, more, whole)))
      ∙ ap (λ text. text ++ end) (sym front)

  -- a line end of the same length is its own
  pub same_end : (end : List ℕ) → is_line_end end ≡ true → length line - length (line_text line) ≡ length end → with_end end line ≡ line
  same_end end is same =
      let whole = sizes in
      let some = some-byte-of end is in
      let own : length (line_end_of line) ≡ length end = omega (arith, same, whole) in
      let has : 0 < length (line_end_of line) = omega (arith, own, some) in
      cond-true (is_ended line) (line_text line ++ end) line (some_test (length (line_end_of line)) has)
      ∙ ap (λ tail. line_text line ++ tail) (one-end end (line_end_of line) is (end-of-line line has) (sym own))
      ∙ text-then-end line
    where
      some-byte-of : (end : List ℕ) → is_line_end end ≡ true → 0 < length end
      some-byte-of [] is = absurd (false≢true is)
      some-byte-of (byte ∷ rest) is = omega arith

  pub text_within : length (line_text line) ≤ length line
  text_within = let whole = sizes in omega (arith, whole)

-- a line end with a byte before it
end-behind : (byte : ℕ) (rest : List ℕ) → 0 < length rest → is_line_end (byte ∷ rest) ≡ ((byte == 13) && is_line_end rest)
end-behind byte [] some = absurd (omega arith)
end-behind byte (next ∷ rest) some = refl

-- a byte other than CR and LF before a line makes no line end
pub no-end-behind : (byte : ℕ) (rest : List ℕ) → (byte == 10) ≡ false → (byte == 13) ≡ false → is_line_end (byte ∷ rest) ≡ false
no-end-behind byte [] feed return = feed
no-end-behind byte (next ∷ rest) feed return = ap (λ t. t && is_line_end (next ∷ rest)) return

-- a line without LF has no line end
open-no-end : (line : List ℕ) → is_open line ≡ true → is_line_end line ≡ false
open-no-end [] is = refl
open-no-end (byte ∷ []) is = open-first byte [] is
open-no-end (byte ∷ next ∷ rest) is =
    let inner = open-no-end (next ∷ rest) (open-behind byte (next ∷ rest) is) in
    elim (byte == 13) as (λ t. (t && is_line_end (next ∷ rest)) ≡ false) [ true ↦ inner | false ↦ refl ]

open-end : (line : List ℕ) → is_open line ≡ true → line_end_of line ≡ []
open-end [] is = refl
open-end (byte ∷ rest) is =
    cond-false (is_line_end (byte ∷ rest)) (byte ∷ rest) (line_end_of rest) (open-no-end (byte ∷ rest) is)
    ∙ open-end rest (open-behind byte rest is)

pub open-not-ended : (line : List ℕ) → is_open line ≡ true → is_ended line ≡ false
open-not-ended line is = ap (λ end. nat_lt 0 (length end)) (open-end line is)

-- a closed line has a line end
pub closed-end : (line : List ℕ) → is_closed line ≡ true → 0 < length (line_end_of line)
closed-end [] closed = absurd (false≢true closed)
closed-end (byte ∷ rest) closed = ⊎_elim
    (λ whole.
    let e = ap length (cond-true (is_line_end (byte ∷ rest)) (byte ∷ rest) (line_end_of rest) whole) in
    omega arith)
    (λ part.
    let other = closed-other byte rest closed part in
    let inner = closed-end rest (closed-behind byte rest other closed) in
    let e = ap length (cond-false (is_line_end (byte ∷ rest)) (byte ∷ rest) (line_end_of rest) part) in
    omega arith)
    (cases_Bool (is_line_end (byte ∷ rest)))

pub closed-ended : (line : List ℕ) → is_closed line ≡ true → is_ended line ≡ true
closed-ended line closed = some_test _ (closed-end line closed)

module _ (end : List ℕ) (is : is_line_end end ≡ true) where
  end-text : line_text end ≡ []
  end-text = whole end is
    where
      whole : (line : List ℕ) → is_line_end line ≡ true → line_text line ≡ []
      whole [] h = refl
      whole (byte ∷ rest) h = cond-true (is_line_end (byte ∷ rest)) [] (byte ∷ line_text rest) h

  some-end : (front : List ℕ) → 0 < length (front ++ end)
  some-end front = some-of front end is
    where
      some-of : (front line : List ℕ) → is_line_end line ≡ true → 0 < length (front ++ line)
      some-of [] [] h = absurd (false≢true h)
      some-of [] (byte ∷ rest) h = omega arith
      some-of (byte ∷ front) line h = omega arith

  -- the text with another end is a line end where the line is one
  pub end-same : (line : List ℕ) → is_closed line ≡ true → is_line_end (line_text line ++ end) ≡ is_line_end line
  end-same [] closed = absurd (false≢true closed)
  end-same (byte ∷ rest) closed = ⊎_elim
      (λ whole.
      ap (λ text. is_line_end (text ++ end)) (cond-true (is_line_end (byte ∷ rest)) [] (byte ∷ line_text rest) whole)
      ∙ is ∙ sym whole)
      (λ part.
      let other = closed-other byte rest closed part in
      let behind = closed-behind byte rest other closed in
      ap (λ text. is_line_end (text ++ end)) (cond-false (is_line_end (byte ∷ rest)) [] (byte ∷ line_text rest) part)
      ∙ end-behind byte (line_text rest ++ end) (some-end (line_text rest))
      ∙ ap (λ t. (byte == 13) && t) (end-same rest behind)
      ∙ sym (end-behind byte rest (some-byte rest behind)))
      (cases_Bool (is_line_end (byte ∷ rest)))

  -- another line end leaves the text of a line
  pub text-same : (line : List ℕ) → is_closed line ≡ true → line_text (line_text line ++ end) ≡ line_text line
  text-same [] closed = absurd (false≢true closed)
  text-same (byte ∷ rest) closed = ⊎_elim
      (λ whole.
      let none = cond-true (is_line_end (byte ∷ rest)) [] (byte ∷ line_text rest) whole in
      ap (λ text. line_text (text ++ end)) none ∙ end-text ∙ sym none)
      (λ part.
      let other = closed-other byte rest closed part in
      let behind = closed-behind byte rest other closed in
      let some = cond-false (is_line_end (byte ∷ rest)) [] (byte ∷ line_text rest) part in
      let open_end : is_line_end (byte ∷ (line_text rest ++ end)) ≡ false =
      sym (ap (λ text. is_line_end (text ++ end)) some) ∙ end-same (byte ∷ rest) closed ∙ part in
      ap (λ text. line_text (text ++ end)) some
      ∙ cond-false (is_line_end (byte ∷ (line_text rest ++ end))) [] (byte ∷ line_text (line_text rest ++ end)) open_end
      ∙ ap (λ text. byte ∷ text) (text-same rest behind) ∙ sym some)
      (cases_Bool (is_line_end (byte ∷ rest)))

  module _ (one : is_closed end ≡ true) where
    pub with-end-closed : (line : List ℕ) → is_closed line ≡ true → is_closed (with_end end line) ≡ true
    with-end-closed line closed =
        ap is_closed (cond-true (is_ended line) (line_text line ++ end) line (closed-ended line closed))
        ∙ open-then-closed (line_text line) end (closed-text line closed) one

    pub with-end-open : (line : List ℕ) → is_open line ≡ true → with_end end line ≡ line
    with-end-open line open_line = cond-false (is_ended line) (line_text line ++ end) line (open-not-ended line open_line)

    -- the end that was there before counts for nothing
    pub with-end-over : (other line : List ℕ) → is_closed line ≡ true → with_end other (with_end end line) ≡ with_end other line
    with-end-over other line closed =
        let new = line_text line ++ end in
        let once : with_end end line ≡ new = cond-true (is_ended line) new line (closed-ended line closed) in
        let again : is_closed new ≡ true = sym (ap is_closed once) ∙ with-end-closed line closed in
        ap (with_end other) once
        ∙ cond-true (is_ended new) (line_text new ++ other) new (closed-ended new again)
        ∙ ap (λ text. text ++ other) (text-same line closed)
        ∙ sym (cond-true (is_ended line) (line_text line ++ other) line (closed-ended line closed))

    pub with-end-twice : (line : List ℕ) → is_closed line ≡ true → with_end end (with_end end line) ≡ with_end end line
    with-end-twice = with-end-over end

pub ended-closed : (line : List ℕ) → is_closed line ≡ true → ended_line line ≡ line
ended-closed line closed = cond-true (is_ended line) line (line ++ 10 ∷ []) (closed-ended line closed)

pub ended-open : (line : List ℕ) → is_open line ≡ true → is_closed (ended_line line) ≡ true
ended-open line is =
    ap is_closed (cond-false (is_ended line) line (line ++ 10 ∷ []) (open-not-ended line is))
    ∙ open-then-closed line (10 ∷ []) is refl
