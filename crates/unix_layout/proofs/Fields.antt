-- Fields before the first empty line of a text, line by line.
use Rattle.std.proofs.Common.{◌≡◌, ℕ, true, false, List, [], ◌∷◌, ◌++◌, length, drop, append_assoc, refl, ap, ◌∙◌}
use Rattle.std.specs.List.{concat, before_first}
use Rattle.std.proofs.lemmas.Bool.{cond-true, cond-false}
use Rattle.text_lines.specs.Lines.{lines_of, header_of, is_empty_line}
use Rattle.text_lines.proofs.Lines.{no_lines, before-step}
use Rattle.status_heads.specs.Insertions.{with_fields}

drop_more : (front one other : List ℕ) → drop (length (front ++ one)) (front ++ other) ≡ drop (length one) other
drop_more [] one other = refl
drop_more (byte ∷ front) one other = drop_more front one other

-- behind a line that isn't empty
pub with_line : (fields text line behind : List ℕ) → lines_of text ≡ line ∷ lines_of behind → text ≡ line ++ behind → is_empty_line line ≡ false → with_fields fields text ≡ line ++ with_fields fields behind
unfolding with_fields
with_line fields text line behind lines whole filled =
    let rest = concat (header_of behind) in
    let header : header_of text ≡ line ∷ header_of behind =
    ap (before_first is_empty_line) lines ∙ before-step is_empty_line line (lines_of behind) ∙ cond-false (is_empty_line line) [] (line ∷ header_of behind) filled in
    ap (λ h. concat h ++ (fields ++ drop (length (concat h)) text)) header
    ∙ ap (λ t. (line ++ rest) ++ (fields ++ drop (length (line ++ rest)) t)) whole
    ∙ ap (λ t. (line ++ rest) ++ (fields ++ t)) (drop_more line rest behind)
    ∙ append_assoc line rest (fields ++ drop (length rest) behind)

-- before an empty line
pub with_empty : (fields text line behind : List ℕ) → lines_of text ≡ line ∷ lines_of behind → is_empty_line line ≡ true → with_fields fields text ≡ fields ++ text
unfolding with_fields
with_empty fields text line behind lines empty =
    let header : header_of text ≡ [] =
    ap (before_first is_empty_line) lines ∙ before-step is_empty_line line (lines_of behind) ∙ cond-true (is_empty_line line) [] (line ∷ header_of behind) empty in
    ap (λ h. concat h ++ (fields ++ drop (length (concat h)) text)) header

-- and in a text without a byte
pub with_none : (fields text : List ℕ) → length text ≡ 0 → with_fields fields text ≡ fields ++ text
unfolding with_fields
with_none fields text none = ap (λ lines. concat (before_first is_empty_line lines) ++ (fields ++ drop (length (concat (before_first is_empty_line lines))) text)) (no_lines text none)
