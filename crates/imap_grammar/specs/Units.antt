-- The units of a whole stream of a client's bytes (RFC 3501, sections 2.2 and 9).
use Rattle.std.specs.Prelude.{ℕ, List, Option, Some, None, map, codes}
use Rattle.raw_commands.specs.Streams.{raw_units_of}
use Rattle.raw_commands.specs.declared.command.RawUnit.{RawUnit}
use Rattle.raw_commands.specs.declared.command.RawUnit.TheVariants as raw
use Rattle.imap_arguments.specs.Tags.{tag_of}
use Rattle.imap_arguments.specs.Reasons.{reason_number}
use Rattle.imap_syntax.specs.Commands.{Meaning, good, bad, meaning_of}
use Rattle.imap_grammar.specs.declared.unit.Unit as unit
use Rattle.imap_grammar.specs.declared.unit.Unit.TheVariants as units

-- a tag, or `*` where there is none
abbrev pub tag_or_star : Option (List ℕ) → List ℕ
tag_or_star None = codes "*"
tag_or_star (Some tag) = tag

-- the tag of a command that isn't read, by its text
abbrev pub first_tag : List ℕ → List ℕ
first_tag text = tag_or_star (tag_of text)

abbrev pub unit_by : Meaning → unit.Unit
unit_by (good tag command) = units.Command tag command
unit_by (bad tag reason) = units.Bad tag (reason_number reason)

-- what a raw unit is: a whole command by its meaning; one that is too long is bad, whatever else is wrong with it
abbrev pub unit_of : RawUnit → unit.Unit
unit_of raw.Announce = units.Announce
unit_of (raw.Whole command) = unit_by (meaning_of command.text command.literals)
unit_of (raw.TooLong text) = units.Bad (first_tag text) 2
unit_of (raw.TooLarge text) = units.Large (first_tag text)

-- the units of a stream
abbrev pub units_of : List ℕ → List unit.Unit
units_of stream = map unit_of (raw_units_of stream)
