-- Meanings as the code has them.
use Rattle.imap_syntax.specs.Commands as commands
use Rattle.imap_syntax.specs.declared.whole.Meaning.{Meaning}
use Rattle.imap_syntax.specs.declared.whole.Meaning.TheVariants.{Good, Bad}

abbrev pub meaning_in : Meaning → commands.Meaning
meaning_in (Good tag command) = commands.good tag command
meaning_in (Bad tag reason) = commands.bad tag reason
