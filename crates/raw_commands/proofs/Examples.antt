-- The definitions on small streams, computed.
use Rattle.std.specs.Prelude.{◌≡◌, ◌∷◌, [], Some, None, codes, refl}
use Rattle.mail_fields.specs.Numbers.{number_in}
use Rattle.raw_commands.specs.Limits.{announced, ending_at}
use Rattle.raw_commands.specs.Streams.{reading, raw_units_of, unfinished}
use Rattle.raw_commands.specs.declared.command.RawUnit.TheVariants.{Announce, Whole, TooLarge}

size_at_the_end : announced (codes "a LOGIN {5}") ≡ Some 5
unfolding announced number_in
size_at_the_end = refl

last_of_two : announced (codes "{1{20}") ≡ Some 20
unfolding announced number_in
last_of_two = refl

with_blank : announced (codes "a { 5}") ≡ None
unfolding announced number_in
with_blank = refl

eleven_digits : announced (codes "{99999999999}") ≡ None
unfolding announced number_in
eleven_digits = refl

with_plus : announced (codes "a {5+}") ≡ None
unfolding announced number_in
with_plus = refl

-- two commands, and the begin of a third
short_commands : raw_units_of (codes "a NOOP\r\n\r\nb") ≡ Whole (record { text = codes "a NOOP"; literals = [] }) ∷ Whole (record { text = []; literals = [] }) ∷ []
unfolding reading ending_at announced number_in
short_commands = refl

begun_command : unfinished (codes "a NOOP\r\n\r\nb") ≡ codes "b"
unfolding reading ending_at announced number_in
begun_command = refl

-- a literal that has a CRLF in it, and one of no bytes
with_literals : raw_units_of (codes "a {4}\r\nx\r\ny z{0}\r\n\r\n") ≡ Announce ∷ Announce ∷ Whole (record { text = codes "a {4}\r\n z{0}\r\n"; literals = codes "x\r\ny" ∷ [] ∷ [] }) ∷ []
unfolding reading ending_at announced number_in
with_literals = refl

-- a literal is announced before its bytes
in_a_literal : raw_units_of (codes "a {4}\r\nx") ≡ Announce ∷ []
unfolding reading ending_at announced number_in
in_a_literal = refl

begun_literal : unfinished (codes "a {4}\r\nx") ≡ codes "a {4}\r\nx"
unfolding reading ending_at announced number_in
begun_literal = refl

-- a literal that is too large ends its command with its line
large_literal : raw_units_of (codes "a {16777217}\r\nb\r\n") ≡ TooLarge (codes "a {16777217}") ∷ Whole (record { text = codes "b"; literals = [] }) ∷ []
unfolding reading ending_at announced number_in
large_literal = refl
