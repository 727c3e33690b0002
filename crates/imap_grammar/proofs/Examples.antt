-- The units of small streams, computed.
use Rattle.std.specs.Prelude.{◌≡◌, ◌∷◌, [], codes, refl}
use Rattle.mail_fields.specs.Numbers.{number_in}
use Rattle.raw_commands.specs.Limits.{announced, ending_at}
use Rattle.raw_commands.specs.Streams.{reading}
use Rattle.imap_arguments.specs.Tags.{tag_of}
use Rattle.imap_syntax.specs.Verbs.{verb_of}
use Rattle.imap_syntax.specs.Commands.{meaning_of, behind_tag, arguments_at, one_name}
use Rattle.imap_syntax.specs.declared.command.Command.TheVariants as commands
use Rattle.imap_grammar.specs.Units.{units_of}
use Rattle.imap_grammar.specs.declared.unit.Unit.TheVariants.{Announce, Command, Bad, Large}

-- a command, one without its word, and the begin of a third
short_commands : units_of (codes "a NOOP\r\nb\r\nc NO") ≡ Command (codes "a") commands.Noop ∷ Bad (codes "b") 3 ∷ []
unfolding reading ending_at announced number_in meaning_of tag_of behind_tag verb_of arguments_at
short_commands = refl

empty_line : units_of (codes "\r\n") ≡ Bad (codes "*") 1 ∷ []
unfolding reading ending_at announced number_in meaning_of tag_of
empty_line = refl

-- a literal is announced before its bytes, and then is the argument
name_as_a_literal : units_of (codes "a SELECT {5}\r\nINBOX\r\n") ≡ Announce ∷ Command (codes "a") (commands.Select (codes "INBOX")) ∷ []
unfolding reading ending_at announced number_in meaning_of tag_of behind_tag verb_of arguments_at one_name
name_as_a_literal = refl

-- also that of a command that is bad already
literal_of_a_bad_command : units_of (codes "a FROB {1}\r\nx\r\n") ≡ Announce ∷ Bad (codes "a") 4 ∷ []
unfolding reading ending_at announced number_in meaning_of tag_of behind_tag verb_of
literal_of_a_bad_command = refl

large_literals : units_of (codes "a {16777217}\r\nb{99999999}\r\n") ≡ Large (codes "a") ∷ Large (codes "*") ∷ []
unfolding reading ending_at announced number_in tag_of
large_literals = refl
