-- What holds of each unit of a stream.
use Rattle.std.specs.Prelude.{ℕ, ◌≡◌, ◌≤◌, ◌⊎◌, List, true, length, codes}
use Rattle.std.specs.List.{list_all}
use Rattle.imap_arguments.specs.Laws.{nonzero}
use Rattle.imap_arguments.specs.Tags.{is_tag_byte}
use Rattle.imap_syntax.specs.Laws.{depth_of, numbers_in, texts_in}
use Rattle.imap_syntax.specs.declared.command.Command.{Command}
use Rattle.imap_grammar.specs.declared.unit.Unit as unit
use Rattle.imap_grammar.specs.declared.unit.Unit.TheVariants as units

-- a tag (RFC 3501, section 9, tag): 1 to 64 of its bytes
pub record IsTag (tag : List ℕ) : Type 0 where
  pub some : 1 ≤ length tag
  pub short : length tag ≤ 64
  pub bytes : list_all is_tag_byte tag ≡ true

abbrev pub IsTagOrStar : List ℕ → Type 0
IsTagOrStar tag = IsTag tag ⊎ (tag ≡ codes "*")

-- a command: its search keys have at most 101 levels, no number is 0 that may not be, and no byte string has a NUL
pub record IsSoundCommand (command : Command) : Type 0 where
  pub shallow : depth_of command ≤ 101
  pub numbers : nonzero (numbers_in command) ≡ true
  pub texts : list_all nonzero (texts_in command) ≡ true

-- a command has a tag; a bad one may have none, and has one of nine reasons
abbrev pub IsSound : unit.Unit → Type 0
IsSound units.Announce = Unit {0}
IsSound (units.Command tag command) = IsTag tag × IsSoundCommand command
IsSound (units.Bad tag reason) = IsTagOrStar tag × (1 ≤ reason) × (reason ≤ 9)
IsSound (units.Large tag) = IsTagOrStar tag
