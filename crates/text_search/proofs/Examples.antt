-- Needles and texts, as they are computed.
use Rattle.std.proofs.Common.{◌≡◌, true, false, codes, refl}
use Rattle.text_search.specs.Needles.{is_inside}

in-the-middle : is_inside (codes "LeE") (codes "Ann Lee") ≡ true
in-the-middle = refl

at-the-end : is_inside (codes "aab") (codes "aaab") ≡ true
at-the-end = refl

not-whole : is_inside (codes "aab") (codes "aaa") ≡ false
not-whole = refl

nothing : is_inside (codes "") (codes "") ≡ true
nothing = refl

no-letters : is_inside (codes "[") (codes "{") ≡ false
no-letters = refl
