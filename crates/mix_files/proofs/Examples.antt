-- Lines and names, computed.
use Rattle.std.proofs.Common.{◌≡◌, ◌∷◌, [], Some, None, refl, codes}
use Rattle.mail_fields.specs.Numbers.{number_in}
use Rattle.mix_files.specs.CrlfLines.{crlf_lines}
use Rattle.mix_files.specs.Names.{names_of}
use Rattle.mix_files.specs.Metadata.{line_parts, kept_lines, number_of_line}

-- a CR alone and an LF alone stand in a line; the last line may have no end
lines-example : crlf_lines (codes "a\rb\nc\r\nd") ≡ codes "a\rb\nc\r\n" ∷ codes "d" ∷ []
lines-example = refl

-- the line `s` is a further one
kept-example : kept_lines (codes "s1\r\nS2\r\n\r\n") ≡ codes "S2\r\n" ∷ codes "\r\n" ∷ []
unfolding kept_lines line_parts
kept-example = refl

number-example : (number_of_line 83 (codes "S000003E9\r\n") ≡ Some 1001) × (number_of_line 83 (codes "S3e9\r\n") ≡ None) × (number_of_line 83 (codes "S000003e9\n") ≡ None)
unfolding number_of_line line_parts number_in
number-example = (refl, refl, refl)

-- no names, two names, two spaces, and one name in two cases
names-example : (names_of [] ≡ Some []) × (names_of (codes "Work Home") ≡ Some (codes "Work" ∷ codes "Home" ∷ [])) × (names_of (codes "Work  Home") ≡ None) × (names_of (codes "Work wORK") ≡ None)
unfolding names_of
names-example = (refl, refl, refl, refl)
