-- Lines of small texts, computed.
use Rattle.std.proofs.Common.{◌≡◌, List, ℕ, [], ◌∷◌, true, false, refl}
use Rattle.text_lines.specs.Lines.{lines_of, line_len, lines_from, line_text, line_end_of, is_empty_line, header_of}

-- `a` CR LF, CR CR LF, `b`
three_lines : List ℕ
three_lines = 97 ∷ 13 ∷ 10 ∷ 13 ∷ 13 ∷ 10 ∷ 98 ∷ []

lines-example : lines_of three_lines ≡ (97 ∷ 13 ∷ 10 ∷ []) ∷ (13 ∷ 13 ∷ 10 ∷ []) ∷ (98 ∷ []) ∷ []
unfolding three_lines line_len lines_from
lines-example = refl

header-example : header_of three_lines ≡ (97 ∷ 13 ∷ 10 ∷ []) ∷ []
unfolding three_lines line_len lines_from
header-example = refl

-- without an empty line all is header
whole-header-example : header_of (97 ∷ 10 ∷ 98 ∷ []) ≡ (97 ∷ 10 ∷ []) ∷ (98 ∷ []) ∷ []
unfolding line_len lines_from
whole-header-example = refl

-- a CR that is not right before the line end stays, and so does one at the end of a last line
text-example : (line_text (97 ∷ 13 ∷ 98 ∷ 13 ∷ 13 ∷ 10 ∷ []) ≡ 97 ∷ 13 ∷ 98 ∷ []) × (line_text (97 ∷ 13 ∷ []) ≡ 97 ∷ 13 ∷ [])
text-example = (refl, refl)

end-example : (line_end_of (97 ∷ 13 ∷ 13 ∷ 10 ∷ []) ≡ 13 ∷ 13 ∷ 10 ∷ []) × (line_end_of (97 ∷ 13 ∷ []) ≡ [])
end-example = (refl, refl)

empty-example : (is_empty_line (13 ∷ 10 ∷ []) ≡ true) × (is_empty_line (13 ∷ []) ≡ false) × (is_empty_line [] ≡ false)
empty-example = (refl, refl, refl)
