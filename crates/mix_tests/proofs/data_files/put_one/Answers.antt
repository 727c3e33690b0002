use Rattle.std.proofs.Common.{refl}
use Rattle.file_model.specs.Paths.{split_path}
use Rattle.mix_tests.proofs.data_files.put_one.Goals as goal

pub settle-requires-clause-below : goal.settle-requires-clause-below
unfolding split_path
settle-requires-clause-below c = refl

pub settle-requires-clause-within : goal.settle-requires-clause-within
unfolding split_path
settle-requires-clause-within c = refl
