-- The endings as the code has them.
use Rattle.raw_commands.specs.Limits as limits
use Rattle.raw_commands.specs.declared.line.Ending.{Ending}
use Rattle.raw_commands.specs.declared.line.Ending.TheVariants.{TooLong, TooLarge, Whole, Literal}

abbrev pub ending_in : Ending → limits.Ending
ending_in TooLong = limits.too_long
ending_in TooLarge = limits.too_large
ending_in Whole = limits.whole
ending_in (Literal size) = limits.literal size
