-- The law of a reader of units.
use Rattle.std.specs.Prelude.{[], ◌≡◌, refl}
use Rattle.raw_commands.specs.Streams.{reading}
use Rattle.imap_grammar.specs.Units.{units_of}

pub none_at_first : units_of [] ≡ []
unfolding reading
none_at_first = refl
