-- The header of a text alone.
use Rattle.std.proofs.Common.{◌≡◌, inl, inr, ℕ, zero, suc, ◌+◌, ◌≤◌, Bool, List, [], ◌∷◌, ◌++◌, length, take, drop, refl, sym, ap, ◌∙◌, ⊎_elim, arith}
use Rattle.std.proofs.lemmas.Bool.{cases_Bool, cond-true, cond-false}
use Rattle.std.specs.List.{before_first, concat}
use Rattle.std.proofs.lemmas.List.{take_at, take-append-drop, length-append}
use Rattle.std.proofs.lemmas.List.Folds.{concat-append}
use Rattle.text_lines.specs.Lines.{lines_of, header_of, is_empty_line}
use Rattle.text_lines.proofs.Lines.{before-step}
use Rattle.text_lines.proofs.Texts.{AreLines, are-lines, joined, lines-joined}
use Rattle.head_fields.specs.Header.{body_start_of, header_alone}

-- the first of some lines are lines
are-first : (n : ℕ) (lines : List (List ℕ)) → AreLines lines → AreLines (take n lines)
are-first zero lines are = tt
are-first (suc n) [] are = tt
are-first (suc n) (line ∷ lines) are = ⊎_elim
    (λ more. inl (more.0, are-first n lines more.1))
    (λ last. inr (last.0, last.1, none n lines last.2))
    are
  where
    none : (n : ℕ) (lines : List (List ℕ)) → lines ≡ [] → take n lines ≡ []
    none zero lines is = refl
    none (suc n) lines is = ap (take (suc n)) is

-- what stands before the first that passes a test stands before it too where the list ends behind it
before-first : (test : List ℕ → Bool) (lines : List (List ℕ)) → before_first test (take (length (before_first test lines) + 1) lines) ≡ before_first test lines
before-first test [] = refl
before-first test (line ∷ lines) = ⊎_elim
    (λ is.
    let none : before_first test (line ∷ lines) ≡ [] = before-step test line lines ∙ cond-true (test line) [] _ is in
    ap (λ l. before_first test (take (length l + 1) (line ∷ lines))) none ∙ before-step test line [] ∙ cond-true (test line) [] _ is ∙ sym none)
    (λ other.
    let later = before_first test lines in
    let more : before_first test (line ∷ lines) ≡ line ∷ later = before-step test line lines ∙ cond-false (test line) [] _ other in
    ap (λ l. before_first test (take (length l + 1) (line ∷ lines))) more
    ∙ ap (λ n. before_first test (take n (line ∷ lines))) (one_more (length later))
    ∙ before-step test line (take (length later + 1) lines) ∙ cond-false (test line) [] _ other
    ∙ ap (λ l. line ∷ l) (before-first test lines) ∙ sym more)
    (cases_Bool (test line))
  where
    one_more : (n : ℕ) → suc n + 1 ≡ suc (n + 1)
    one_more n = omega arith

pub take-again : (n : ℕ) {A : Type 0} (l : List A) → take n (take n l) ≡ take n l
take-again zero l = refl
take-again (suc n) [] = refl
take-again (suc n) (x ∷ l) = ap (λ l. x ∷ l) (take-again n l)

module _ (text : List ℕ) where
  -- the first of its lines, and the others behind them
  lines-apart : (count : ℕ) → text ≡ concat (take count (lines_of text)) ++ concat (drop count (lines_of text))
  lines-apart count =
      sym (joined text) ∙ ap concat (sym (take-append-drop count (lines_of text)))
      ∙ concat-append (take count (lines_of text)) (drop count (lines_of text))

  front-lines : take (body_start_of text) text ≡ concat (take (length (header_of text) + 1) (lines_of text))
  front-lines =
      let count = length (header_of text) + 1 in
      let front = concat (take count (lines_of text)) in
      let behind = concat (drop count (lines_of text)) in
      ap (take (body_start_of text)) (lines-apart count) ∙ take_at front behind (body_start_of text) refl

  -- the body begins within the text
  pub body_within : body_start_of text ≤ length text
  body_within =
      let count = length (header_of text) + 1 in
      let front = concat (take count (lines_of text)) in
      let behind = concat (drop count (lines_of text)) in
      let long = ap length (lines-apart count) ∙ length-append front behind in
      omega arith

  -- the header of the header alone is the header
  pub header-of_alone : header_of (header_alone text) ≡ header_of text
  header-of_alone =
      let count = length (header_of text) + 1 in
      ap header_of front-lines
      ∙ ap (before_first is_empty_line) (lines-joined (take count (lines_of text)) (are-first count (lines_of text) (are-lines text)))
      ∙ before-first is_empty_line (lines_of text)

  -- the body begins at the same place behind the header alone
  pub body-start_alone : body_start_of (header_alone text) ≡ body_start_of text
  body-start_alone =
      let count = length (header_of text) + 1 in
      ap (λ h. length (concat (take (length h + 1) (lines_of (header_alone text))))) header-of_alone
      ∙ ap (λ l. length (concat (take count l))) (ap lines_of front-lines ∙ lines-joined (take count (lines_of text)) (are-first count (lines_of text) (are-lines text)))
      ∙ ap (λ l. length (concat l)) (take-again count (lines_of text))
