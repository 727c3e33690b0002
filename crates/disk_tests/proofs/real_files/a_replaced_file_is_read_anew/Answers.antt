use Rattle.std.proofs.Common.{refl}
use Rattle.file_model.specs.Paths.{split_path}
use Rattle.disk_tests.proofs.real_files.a_replaced_file_is_read_anew.Goals as goal

pub prepare-pending-requires-clause-inside : goal.prepare-pending-requires-clause-inside
unfolding split_path
prepare-pending-requires-clause-inside g c = refl
