use Rattle.std.proofs.Common.{refl}
use Rattle.file_model.specs.Paths.{split_path}
use Rattle.disk_tests.proofs.replies.replace.Goals as goal

pub replace_and_say-requires-clause-inside : goal.replace_and_say-requires-clause-inside
unfolding split_path
replace_and_say-requires-clause-inside g c = refl

pub replace_and_say-requires-clause-room : goal.replace_and_say-requires-clause-room
unfolding split_path
replace_and_say-requires-clause-room g c = c.requires.room
