-- The fields of a small text, computed.
use Rattle.std.proofs.Common.{◌≡◌, List, ℕ, [], ◌∷◌, refl}
use Rattle.text_lines.specs.Lines.{header_of, line_len, lines_from}
use Rattle.head_fields.specs.Fields.{readings_of, fields_of}
use Rattle.head_fields.specs.Folding.{unfolded}
use Rattle.head_fields.specs.Header.{body_start_of}

-- `A: b` CR LF, a space and `c` LF, `x` LF, a tab and `y` LF, `E :` LF, LF, `F:g`
small : List ℕ
small = 65 ∷ 58 ∷ 32 ∷ 98 ∷ 13 ∷ 10 ∷ 32 ∷ 99 ∷ 10 ∷ 120 ∷ 10 ∷ 9 ∷ 121 ∷ 10 ∷ 69 ∷ 32 ∷ 58 ∷ 10 ∷ 10 ∷ 70 ∷ 58 ∷ 103 ∷ []

readings-example : readings_of (header_of small) ≡ (65 ∷ [], 32 ∷ 98 ∷ 13 ∷ 10 ∷ 32 ∷ 99 ∷ []) ∷ (69 ∷ [], []) ∷ []
unfolding small line_len lines_from
readings-example = refl

fields-example : fields_of small ≡ record { name = record { from = 0; to = 1 }; value = record { from = 2; to = 8 } } ∷ record { name = record { from = 14; to = 15 }; value = record { from = 17; to = 17 } } ∷ []
unfolding small line_len lines_from
fields-example = refl

body-example : body_start_of small ≡ 19
unfolding small line_len lines_from
body-example = refl

-- a space, `b` CR LF, a tab, CR, `c` CR CR LF, a space
unfolded-example : unfolded (32 ∷ 98 ∷ 13 ∷ 10 ∷ 9 ∷ 13 ∷ 99 ∷ 13 ∷ 13 ∷ 10 ∷ 32 ∷ []) ≡ 98 ∷ 9 ∷ 13 ∷ 99 ∷ []
unfolding line_len lines_from
unfolded-example = refl
