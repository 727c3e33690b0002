-- The definitions, computed on small texts.
use Rattle.std.proofs.Common.{◌≡◌, List, ℕ, [], ◌∷◌, ◌++◌, codes, true, false, refl}
use Rattle.text_lines.specs.Lines.{line_len, lines_from}
use Rattle.mime_parts.specs.Delimiters.{opens_part, closes_parts, parts_of_body}

-- `p`, `--b`, an empty line, `x`, `--b` with a blank, `--b--` and `e`, each with its line end
small : List ℕ
small = codes "p" ++ 10 ∷ codes "--b" ++ 10 ∷ 10 ∷ codes "x" ++ 13 ∷ 10 ∷ codes "--b " ++ 10 ∷ codes "--b--" ++ 10 ∷ codes "e" ++ 10 ∷ []

-- the line end before a delimiter belongs to it, with its CR; between two delimiters stands an empty part; nothing follows the close
parts-example : parts_of_body (codes "b") 0 small ≡ (6, 10 ∷ 120 ∷ []) ∷ (15, []) ∷ []
unfolding small line_len lines_from
parts-example = refl

opens-example : opens_part (codes "b") (codes "--b " ++ 13 ∷ 10 ∷ []) ≡ true
opens-example = refl

longer-example : opens_part (codes "b") (codes "--bc") ≡ false
longer-example = refl

closes-example : closes_parts (codes "b") (codes "--b--") ≡ true
closes-example = refl
