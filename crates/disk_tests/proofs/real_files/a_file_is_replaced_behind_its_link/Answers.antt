use Rattle.std.proofs.Common.{refl}
use Rattle.file_model.specs.Paths.{split_path}
use Rattle.disk_tests.proofs.real_files.a_file_is_replaced_behind_its_link.Goals as goal

pub prepare-requires-clause-inside : goal.prepare-requires-clause-inside
unfolding split_path
prepare-requires-clause-inside g c = refl
