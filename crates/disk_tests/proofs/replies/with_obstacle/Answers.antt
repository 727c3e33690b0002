use Rattle.std.proofs.Common.{◌≡◌, ◌∙◌, ap, Bool, true, false, codes}
use Rattle.file_model.specs.Paths.{is_inside, split_path}
use Rattle.file_model.specs.Images.{is_directory, directory_test}
use Rattle.file_model.specs.Disk.{seen}
use Rattle.file_model.specs.Kinds.{IsTarget}
use Rattle.mem_host.proofs.Replayed.{now_after}
use Rattle.disk_tests.proofs.replies.with_obstacle.Goals as goal

pub put_file-requires-clause-no_directory : goal.put_file-requires-clause-no_directory
unfolding is_inside split_path
put_file-requires-clause-no_directory c =
    ap directory_test (c.in_ok-put_dir.ensures.stands (codes "/mail/inbox") ∙ c.in_ok-host.ensures.nothing (codes "/mail/inbox"))

pub returns-clause-room : goal.returns-clause-room
unfolding is_inside split_path
returns-clause-room c =
    now_after c.put_file.new.self.events (λ w. is_directory (seen w.disk) (codes "/mail") ≡ true)
    (ap directory_test (c.in_ok-put_file.ensures.stands (codes "/mail")))

never_both : (b : Bool) → b ≡ false → b ≡ true → ⊥
never_both b one other = cc

pub returns-clause-target : goal.returns-clause-target
unfolding is_inside split_path
returns-clause-target c =
    now_after c.put_file.new.self.events (λ w. IsTarget (seen w.disk) (codes "/mail/inbox"))
    (λ is. absurd (never_both _ (ap directory_test (c.in_ok-put_file.ensures.stands (codes "/mail/inbox"))) is))
