use Rattle.imap_grammar.proofs.Sound.{all_sound}
use Rattle.imap_grammar.proofs.law.units_are_sound.Goals as goal

pub returns : goal.returns
returns c stream = all_sound stream
