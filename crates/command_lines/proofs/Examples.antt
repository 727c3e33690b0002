-- The definitions on small streams, computed.
use Rattle.std.specs.Prelude.{◌≡◌, ◌∷◌, [], codes, refl}
use Rattle.command_lines.specs.Stream.{lines_of, unfinished}

two_lines : lines_of (codes "a NOOP\r\n\r\nb LOG") ≡ codes "a NOOP" ∷ [] ∷ []
two_lines = refl

begun : unfinished (codes "a NOOP\r\n\r\nb LOG") ≡ codes "b LOG"
begun = refl

lone_bytes : lines_of (codes "a\nb\rc\r\r\n") ≡ codes "a\nb\rc\r" ∷ []
lone_bytes = refl

at_an_end : unfinished (codes "a\r\n") ≡ []
at_an_end = refl
