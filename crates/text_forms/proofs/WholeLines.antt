-- Texts of whole lines, and what ends a last line.
use Rattle.std.proofs.Common.{◌≡◌, ◌<◌, ℕ, Bool, true, false, cond, List, [], ◌∷◌, ◌++◌, ◌==◌, ⊎_elim, map, length, append_assoc, append-nil, refl, ap, sym, ◌∙◌, arith}
use Rattle.std.specs.List.{concat, IsLastAndRest}
use Rattle.std.proofs.lemmas.Bool.{cases_Bool, cond-true, cond-false, false≢true}
use Rattle.text_lines.specs.Lines.{lines_of}
use Rattle.text_lines.proofs.Texts.{is_closed, is_open, AreLines, are-lines, joined, flat-is-joined}
use Rattle.text_forms.specs.Lines.{is_ended, ended_line}
use Rattle.text_forms.specs.Forms.{end_last, is_whole}
use Rattle.text_forms.proofs.LineEnds.{ended-closed, open-not-ended, open-first, open-behind}

-- the last byte tells
whole-last : (front : List ℕ) (last : ℕ) → is_whole (front ++ last ∷ []) ≡ (last == 10)
whole-last [] last = refl
whole-last (byte ∷ []) last = refl
whole-last (byte ∷ next ∷ rest) last = whole-last (next ∷ rest) last

pub whole_is : (text front : List ℕ) (last : ℕ) → IsLastAndRest text last front → (last == 10) ≡ is_whole text
whole_is text front last is = sym (ap is_whole is.0 ∙ whole-last front last)

whole-behind : (line more : List ℕ) → is_closed line ≡ true → is_whole (line ++ more) ≡ is_whole more
whole-behind [] more closed = absurd (false≢true closed)
whole-behind (byte ∷ []) [] closed = ⊎_elim
    (λ feed. feed)
    (λ other. absurd (false≢true (sym (cond-false (byte == 10) true false other) ∙ closed)))
    (cases_Bool (byte == 10))
whole-behind (byte ∷ []) (next ∷ more) closed = refl
whole-behind (byte ∷ next ∷ rest) more closed = ⊎_elim
    (λ feed. absurd (false≢true (sym (cond-true (byte == 10) false (is_closed (next ∷ rest)) feed) ∙ closed)))
    (λ other. whole-behind (next ∷ rest) more (sym (cond-false (byte == 10) false (is_closed (next ∷ rest)) other) ∙ closed))
    (cases_Bool (byte == 10))

open-part : (line : List ℕ) → 0 < length line → is_open line ≡ true → is_whole line ≡ false
open-part [] some is = absurd (omega (arith, some))
open-part (byte ∷ []) some is = open-first byte [] is
open-part (byte ∷ next ∷ rest) some is = open-part (next ∷ rest) (omega arith) (open-behind byte (next ∷ rest) is)

ended-lines : (lines : List (List ℕ)) → AreLines lines → concat (map ended_line lines) ≡ cond (is_whole (concat lines)) (concat lines) (concat lines ++ 10 ∷ [])
ended-lines [] are = refl
ended-lines (line ∷ lines) are = ⊎_elim
    (λ more.
    let behind = concat lines in
    ap (λ l. l ++ concat (map ended_line lines)) (ended-closed line more.0)
    ∙ ap (λ text. line ++ text) (ended-lines lines more.1)
    ∙ put-behind line behind (is_whole behind)
    ∙ ap (λ is. cond is (line ++ behind) ((line ++ behind) ++ 10 ∷ [])) (sym (whole-behind line behind more.0)))
    (λ last.
    ap (λ l. concat (map ended_line (line ∷ l))) last.2
    ∙ append-nil (ended_line line)
    ∙ cond-false (is_ended line) line (line ++ 10 ∷ []) (open-not-ended line last.1)
    ∙ sym (cond-false (is_whole line) line (line ++ 10 ∷ []) (open-part line last.0 last.1))
    ∙ ap (λ t. cond (is_whole t) t (t ++ 10 ∷ [])) (sym (append-nil line))
    ∙ ap (λ l. cond (is_whole (line ++ concat l)) (line ++ concat l) ((line ++ concat l) ++ 10 ∷ [])) (sym last.2))
    are
  where
    put-behind : (line behind : List ℕ) (is : Bool) → line ++ cond is behind (behind ++ 10 ∷ []) ≡ cond is (line ++ behind) ((line ++ behind) ++ 10 ∷ [])
    put-behind line behind true = refl
    put-behind line behind false = sym (append_assoc line behind (10 ∷ []))

-- only what isn't whole gets a line feed
pub end_last_is : (text : List ℕ) → end_last text ≡ cond (is_whole text) text (text ++ 10 ∷ [])
end_last_is text =
    flat-is-joined ended_line (lines_of text) ∙ ended-lines (lines_of text) (are-lines text)
    ∙ ap (λ t. cond (is_whole t) t (t ++ 10 ∷ [])) (joined text)
