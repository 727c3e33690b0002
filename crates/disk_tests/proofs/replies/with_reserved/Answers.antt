use Rattle.std.proofs.Common.{◌≡◌, ap, true, refl, codes}
use Rattle.file_model.specs.Paths.{is_inside, split_path}
use Rattle.file_model.specs.Images.{is_directory, directory_test}
use Rattle.file_model.specs.Disk.{seen}
use Rattle.file_model.specs.Kinds.{IsTarget}
use Rattle.file_model.specs.Reserved.{is_reserved_name}
use Rattle.mem_host.proofs.Replayed.{now_after}
use Rattle.disk_tests.proofs.replies.with_reserved.Goals as goal

pub returns-clause-room : goal.returns-clause-room
unfolding is_inside split_path
returns-clause-room c =
    now_after c.put_dir.new.self.events (λ w. is_directory (seen w.disk) (codes "/mail") ≡ true)
    (ap directory_test (c.in_ok-put_dir.ensures.stands (codes "/mail")))

pub returns-clause-target : goal.returns-clause-target
unfolding is_inside split_path is_reserved_name
returns-clause-target c = now_after c.put_dir.new.self.events (λ w. IsTarget (seen w.disk) (codes "/mail/.mixindex")) (λ is. refl)
