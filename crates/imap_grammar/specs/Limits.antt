-- The limits that every command of a stream keeps to.
use Rattle.std.specs.Prelude.{◌+◌, ◌*◌, ◌≤◌, length}
use Rattle.std.specs.List.{sum_by}
use Rattle.raw_commands.specs.declared.command.RawCommand.{RawCommand}
use Rattle.raw_commands.specs.declared.command.RawUnit.{RawUnit}
use Rattle.raw_commands.specs.declared.command.RawUnit.TheVariants.{Announce, Whole, TooLong, TooLarge}

-- a whole command: its lines, with the CRLF of each but the last; how many literals it has; and all bytes of these
pub record KeepsLimits (command : RawCommand) : Type 0 where
  pub lines : length command.text ≤ 65536 + 2 * length command.literals
  pub few : length command.literals ≤ 32768
  pub literals : sum_by length command.literals ≤ 16777216

abbrev pub IsWithin : RawUnit → Type 0
IsWithin Announce = Unit {0}
IsWithin (Whole command) = KeepsLimits command
IsWithin (TooLong text) = length text ≤ 65536
IsWithin (TooLarge text) = length text ≤ 131072
