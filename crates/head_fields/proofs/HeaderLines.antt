-- The header of a text, a line at a time.
use Rattle.std.proofs.Common.{◌≡◌, ℕ, zero, suc, ◌+◌, ◌<◌, ⊎_elim, true, false, cond, List, [], ◌∷◌, ◌++◌, ◌==◌, length, take, drop, drop-cons, get_or, refl, ap, subst, sym, ◌∙◌, arith}
use Rattle.std.specs.List.{before_first, concat, position_or_len}
use Rattle.std.proofs.lemmas.Bool.{false≢true, cond-true, cond-false}
use Rattle.std.proofs.lemmas.List.{length-append, length-drop, append-nil, drop-drop, take-append-drop}
use Rattle.std.proofs.lemmas.List.Folds.{concat-append}
use Rattle.std.proofs.lemmas.List.Sums.{take_while-cons}
use Rattle.text_lines.specs.Lines.{lines_of, line_len, lines_from, header_of, is_empty_line}
use Rattle.text_lines.proofs.Lines.{IsFirstLine, before-step, no_lines}
use Rattle.text_lines.proofs.Texts.{joined}
use Rattle.head_fields.specs.Header.{body_start_of, BeginsHeader}
use Rattle.text_lines.specs.Blanks.{is_blank, is_continuation}
use Rattle.head_fields.specs.Fields.{continuations}
use Rattle.head_fields.proofs.Blanks.{blank_is}

pub header-none : (text : List ℕ) → length text ≡ 0 → header_of text ≡ []
header-none text none = ap (before_first is_empty_line) (no_lines text none)

-- no line before an empty one
pub header-empty : (text line rest : List ℕ) → lines_of text ≡ line ∷ lines_of rest → is_empty_line line ≡ true → header_of text ≡ []
header-empty text line rest lines empty =
    ap (before_first is_empty_line) lines ∙ before-step is_empty_line line (lines_of rest) ∙ cond-true (is_empty_line line) [] _ empty

pub header-line : (text line rest : List ℕ) → lines_of text ≡ line ∷ lines_of rest → is_empty_line line ≡ false → header_of text ≡ line ∷ header_of rest
header-line text line rest lines other =
    ap (before_first is_empty_line) lines ∙ before-step is_empty_line line (lines_of rest) ∙ cond-false (is_empty_line line) [] _ other

pub continuation-not_empty : (line : List ℕ) → is_continuation line ≡ true → is_empty_line line ≡ false
continuation-not_empty [] is = absurd (false≢true is)
continuation-not_empty (byte ∷ rest) is =
    let open_end : ℕ → Type 0 = λ b. is_empty_line (b ∷ rest) ≡ false in
    ⊎_elim (λ space. subst open_end (sym space) (at_space rest)) (λ tab. subst open_end (sym tab) (at_tab rest)) (blank_is byte is)
  where
    at_space : (rest : List ℕ) → is_empty_line (32 ∷ rest) ≡ false
    at_space [] = refl
    at_space (next ∷ rest) = refl

    at_tab : (rest : List ℕ) → is_empty_line (9 ∷ rest) ≡ false
    at_tab [] = refl
    at_tab (next ∷ rest) = refl

-- the first byte of a text tells whether its first line continues a field
pub front-continues : (text : List ℕ) (width byte : ℕ) (behind : List ℕ) → 0 < width → text ≡ byte ∷ behind → is_continuation (take width text) ≡ is_blank byte
front-continues text zero byte behind some whole = absurd (omega arith)
front-continues text (suc width) byte behind some whole = ap (λ t. is_continuation (take (suc width) t)) whole

-- the body of a text that begins with a header line
pub body-behind_line : (text line : List ℕ) → BeginsHeader text line → length line + body_start_of (drop (length line) text) ≡ body_start_of text
body-behind_line text line begins =
    let rest = drop (length line) text in
    let n = length (header_of rest) in
    let lines = lines_of rest in
    let counted : length (header_of text) + 1 ≡ suc (n + 1) = ap (λ h. length h + 1) begins.header ∙ one_more n in
    sym (ap (λ k. length (concat (take k (lines_of text)))) counted
    ∙ ap (λ l. length (concat (take (suc (n + 1)) l))) begins.lines
    ∙ length-append line (concat (take (n + 1) lines)))
  where
    one_more : (n : ℕ) → suc n + 1 ≡ suc (n + 1)
    one_more n = omega arith

-- the body of a text without a header
pub body-behind_none : (text line rest : List ℕ) → lines_of text ≡ line ∷ lines_of rest → header_of text ≡ [] → length line ≡ body_start_of text
body-behind_none text line rest lines none =
    sym (ap (λ h. length (concat (take (length h + 1) (lines_of text)))) none
    ∙ ap (λ l. length (concat (take 1 l))) lines
    ∙ ap length (append-nil line))

pub body-of_nothing : (text : List ℕ) → length text ≡ 0 → 0 ≡ body_start_of text
body-of_nothing text none =
    sym (ap (λ h. length (concat (take (length h + 1) (lines_of text)))) (header-none text none)
    ∙ ap (λ l. length (concat (take 1 l))) (no_lines text none))

-- a line that begins with a blank is a header line, which continues a field
pub next-continuation : (text : List ℕ) (at width : ℕ) → at < length text → is_blank (get_or text at 0) ≡ true → IsFirstLine (drop at text) width
    → (is_continuation (take width (drop at text)) ≡ true) × (header_of (drop at text) ≡ take width (drop at text) ∷ header_of (drop (at + width) text))
next-continuation text at width inside blank first =
    let rest = drop at text in
    let left = length-drop at text in
    let some : 0 < length rest = omega arith in
    let is = front-continues rest width (get_or text at 0) (drop (suc at) text) (first.some some) (drop-cons text at 0 inside) ∙ blank in
    (is, header-line rest (take width rest) (drop width rest) (first.lines some) (continuation-not_empty (take width rest) is) ∙ ap (λ t. take width rest ∷ header_of t) (drop-drop width at text))

-- the first line of a text begins with its first byte
first-byte : (byte : ℕ) (rest : List ℕ) → (line : List ℕ) × (later : List (List ℕ)) × (lines_of (byte ∷ rest) ≡ (byte ∷ line) ∷ later)
unfolding line_len lines_from
first-byte byte rest =
    let lines_at : ℕ → List (List ℕ) = λ width. take width (byte ∷ rest) ∷ lines_from (length rest) (drop width (byte ∷ rest)) in
    elim (byte == 10) as (λ feed. (line : List ℕ) × (later : List (List ℕ)) × (lines_at (cond feed 1 (suc (line_len rest))) ≡ (byte ∷ line) ∷ later)) [
      | true ↦ ([], lines_from (length rest) rest, refl)
      | false ↦ (take (line_len rest) rest, lines_from (length rest) (drop (line_len rest) rest), refl)
    ]

-- no line continues a field where no blank stands
pub no-continuation : (text : List ℕ) (at : ℕ) → at < length text → is_blank (get_or text at 0) ≡ false → continuations (header_of (drop at text)) ≡ []
no-continuation text at inside other =
    let byte = get_or text at 0 in
    let first = first-byte byte (drop (suc at) text) in
    let line = byte ∷ first.0 in
    ap (λ t. continuations (header_of t)) (drop-cons text at 0 inside)
    ∙ ap (λ lines. continuations (before_first is_empty_line lines)) first.2
    ∙ ap continuations (before-step is_empty_line line first.1)
    ∙ elim (is_empty_line line) as (λ empty. continuations (cond empty [] (line ∷ before_first is_empty_line first.1)) ≡ []) [
      | true ↦ refl
      | false ↦ take_while-cons is_continuation line (before_first is_empty_line first.1)
          ∙ cond-false (is_continuation line) (line ∷ continuations (before_first is_empty_line first.1)) [] other
    ]

pub continuations-nothing : (text : List ℕ) → length text ≡ 0 → continuations (header_of text) ≡ []
continuations-nothing text none = ap continuations (header-none text none)

-- a text begins with the lines of its header
pub header-front : (text : List ℕ) → (after : List ℕ) × (text ≡ concat (header_of text) ++ after)
header-front text =
    let count = position_or_len is_empty_line (lines_of text) in
    let after = drop count (lines_of text) in
    (concat after, sym (joined text) ∙ ap concat (sym (take-append-drop count (lines_of text))) ∙ concat-append (header_of text) after)
