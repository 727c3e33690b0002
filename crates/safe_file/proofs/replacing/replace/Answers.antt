use Rattle.std.proofs.Common.{◌≡◌, ◌≢◌, true, sym, subst, rules}
use Rattle.file_model.specs.Disk.{seen}
use Rattle.file_model.specs.Images.{is_directory}
use Rattle.file_model.specs.Kinds.{IsTarget}
use Rattle.safe_file.proofs.Beside.{directory_apart}
use Rattle.std.specs.Prelude.{string_bytes, IsErr}
use Rattle.file_model.specs.Kept.{Keeps, IsGone, Replaces, Sees, Replaced, IsWritten, HasOnly}
use Rattle.file_model.specs.Histories.{Now, Ran, Ended}
use Rattle.file_model.specs.Paths.{parent, temporary_of, IsInDirectory}
use Rattle.file_model.proofs.Inside.{in_directory}
use Rattle.file_model.proofs.InPlace.{home_now}
use Rattle.file_model.proofs.Runs.{now_weaker, files_then}
use Rattle.file_model.proofs.Seen.{directory_on, target_on}
use Rattle.safe_file.proofs.Whole.{apart, prepared_instants, whole_instants, whole_sees, whole_done, still_obstructed}
use Rattle.file_model.proofs.FileCalls.{then_keeps}
use Rattle.safe_file.proofs.replacing.replace.Goals as goal

pub returns-in_err-pending-clause-instants : goal.returns-in_err-pending-clause-instants
returns-in_err-pending-clause-instants g c durable = prepared_instants c.args.path.now c.args.bytes.now (in_directory c.args.path.now c.requires.inside) _ _ (g.F.Files.history c.prepare.new.files) (c.prepare.ensures.instants (home_now (temporary_of c.args.path.now) _ (g.met.F.Files.sound c.args.files.now) durable))

pub returns-in-Ok-clause-instants : goal.returns-in-Ok-clause-instants
returns-in-Ok-clause-instants g c durable =
    let is : string_bytes c.in_ok-pending.pending.path ≡ c.args.path.now = c.in_ok-pending.ensures.path in
    let written = subst (λ q. Now (g.F.Files.history c.prepare.new.files) (λ w. IsWritten (temporary_of q) c.args.bytes.now w.disk)) (sym is) c.in_ok-pending.ensures.written in
    let does = subst (λ q. Ran (Replaces q c.args.bytes.now (λ r. (r ≢ temporary_of q) × (r ≢ q))) (g.F.Files.history c.prepare.new.files) (g.F.Files.history c.publish.new.files)) is (c.publish.ensures.instants c.args.bytes.now written) in
    whole_instants c.args.path.now c.args.bytes.now (in_directory c.args.path.now c.requires.inside) _ _ _ (c.prepare.ensures.instants (home_now (temporary_of c.args.path.now) _ (g.met.F.Files.sound c.args.files.now) durable)) does

pub returns-clause-instants : goal.returns-clause-instants
returns-clause-instants g c durable =
    let is : string_bytes c.in_ok-pending.pending.path ≡ c.args.path.now = c.in_ok-pending.ensures.path in
    let written = subst (λ q. Now (g.F.Files.history c.prepare.new.files) (λ w. IsWritten (temporary_of q) c.args.bytes.now w.disk)) (sym is) c.in_ok-pending.ensures.written in
    let does = subst (λ q. Ran (Replaces q c.args.bytes.now (λ r. (r ≢ temporary_of q) × (r ≢ q))) (g.F.Files.history c.prepare.new.files) (g.F.Files.history c.publish.new.files)) is (c.publish.ensures.instants c.args.bytes.now written) in
    whole_instants c.args.path.now c.args.bytes.now (in_directory c.args.path.now c.requires.inside) _ _ _ (c.prepare.ensures.instants (home_now (temporary_of c.args.path.now) _ (g.met.F.Files.sound c.args.files.now) durable)) does

pub returns-in-Ok-clause-done : goal.returns-in-Ok-clause-done
returns-in-Ok-clause-done g c durable =
    let is : string_bytes c.in_ok-pending.pending.path ≡ c.args.path.now = c.in_ok-pending.ensures.path in
    let mid = g.F.Files.history c.prepare.new.files in
    let end = g.F.Files.history c.publish.new.files in
    let written = subst (λ q. Now mid (λ w. IsWritten (temporary_of q) c.args.bytes.now w.disk)) (sym is) c.in_ok-pending.ensures.written in
    let keeps = subst (λ q. Ran (Keeps (λ r. r ≢ temporary_of q)) (g.F.Files.history c.args.files.now) mid) (sym is) (c.prepare.ensures.instants (home_now (temporary_of c.args.path.now) _ (g.met.F.Files.sound c.args.files.now) durable)) in
    let sees = subst (λ q. Ended (Sees (λ r. r ≢ temporary_of q)) (g.F.Files.history c.args.files.now) mid) (sym is) c.in_ok-pending.ensures.sees in
    subst (λ q. Ended (Replaced q c.args.bytes.now) (g.F.Files.history c.args.files.now) end) is
    (whole_done (string_bytes c.in_ok-pending.pending.path) c.args.bytes.now (subst IsInDirectory (sym is) (in_directory c.args.path.now c.requires.inside)) (g.F.Files.history c.args.files.now) mid end keeps
    (c.publish.ensures.instants c.args.bytes.now written) sees c.in-Ok.ensures.sees (c.in-Ok.ensures.published c.args.bytes.now written) c.in-Ok.ensures.gone c.in-Ok.ensures.durable)

pub publish-requires-clause-room : goal.publish-requires-clause-room
publish-requires-clause-room g c =
    subst (λ q. Now (g.F.Files.history c.prepare.new.files) (λ w. is_directory (seen w.disk) (parent q) ≡ true)) (sym c.in_ok-pending.ensures.path)
    (directory_on (λ q. q ≢ temporary_of c.args.path.now) (parent c.args.path.now) (directory_apart c.args.path.now) _ _ c.in_ok-pending.ensures.sees c.requires.room)

pub publish-requires-clause-target : goal.publish-requires-clause-target
publish-requires-clause-target g c =
    subst (λ q. Now (g.F.Files.history c.prepare.new.files) (λ w. IsTarget (seen w.disk) q)) (sym c.in_ok-pending.ensures.path)
    (target_on (λ q. q ≢ temporary_of c.args.path.now) c.args.path.now (apart c.args.path.now c.args.bytes.now (in_directory c.args.path.now c.requires.inside)) _ _ c.in_ok-pending.ensures.sees c.requires.target)

pub returns-in-Ok-clause-sees : goal.returns-in-Ok-clause-sees
returns-in-Ok-clause-sees g c =
    let is : string_bytes c.in_ok-pending.pending.path ≡ c.args.path.now = c.in_ok-pending.ensures.path in
    whole_sees c.args.path.now c.args.bytes.now (in_directory c.args.path.now c.requires.inside) _ _ _ c.in_ok-pending.ensures.sees
    (subst (λ q. Ended (Sees (λ r. (r ≢ temporary_of q) × (r ≢ q))) (g.F.Files.history c.prepare.new.files) (g.F.Files.history c.publish.new.files)) is c.in-Ok.ensures.sees)

pub returns-in-Ok-clause-published : goal.returns-in-Ok-clause-published
returns-in-Ok-clause-published g c =
    let is : string_bytes c.in_ok-pending.pending.path ≡ c.args.path.now = c.in_ok-pending.ensures.path in
    let written = subst (λ q. Now (g.F.Files.history c.prepare.new.files) (λ w. IsWritten (temporary_of q) c.args.bytes.now w.disk)) (sym is) c.in_ok-pending.ensures.written in
    subst (λ q. Now (g.F.Files.history c.publish.new.files) (λ w. HasOnly q c.args.bytes.now w.disk)) is (c.in-Ok.ensures.published c.args.bytes.now written)

pub returns-in-Ok-clause-obstructed : goal.returns-in-Ok-clause-obstructed
returns-in-Ok-clause-obstructed g c =
    let is : string_bytes c.in_ok-pending.pending.path ≡ c.args.path.now = c.in_ok-pending.ensures.path in
    still_obstructed c.args.path.now (in_directory c.args.path.now c.requires.inside) _ _ (λ failed. subst IsErr c.in-Ok.is failed.0) _ _ c.in_ok-pending.ensures.sees
    (subst (λ q. Now (g.F.Files.history c.prepare.new.files) (λ w. is_directory (seen w.disk) q ≡ true → IsErr c.publish.result × (g.F.Files.history c.publish.new.files ≡ g.F.Files.history c.prepare.new.files))) is c.publish.ensures.obstructed)

pub returns-in-Ok-clause-files : goal.returns-in-Ok-clause-files
returns-in-Ok-clause-files g c = files_then _ _ _ c.prepare.ensures.files c.publish.ensures.files

pub returns-clause-files : goal.returns-clause-files
returns-clause-files g c = files_then _ _ _ c.prepare.ensures.files c.publish.ensures.files

pub returns-in-Ok-clause-directories : goal.returns-in-Ok-clause-directories
returns-in-Ok-clause-directories g c = then_keeps _ _ _ c.prepare.ensures.directories c.publish.ensures.directories

pub returns-clause-directories : goal.returns-clause-directories
returns-clause-directories g c = then_keeps _ _ _ c.prepare.ensures.directories c.publish.ensures.directories

pub returns-in-Ok-clause-beside : goal.returns-in-Ok-clause-beside
returns-in-Ok-clause-beside g c =
    now_weaker (λ w. is_directory (seen w.disk) (temporary_of c.args.path.now) ≡ true → IsErr c.prepare.result × (g.F.Files.history c.prepare.new.files ≡ g.F.Files.history c.args.files.now)) _
    (λ w stops here. let failed = (stops here).0 in absurd (search rules)) _ c.prepare.ensures.obstructed

pub returns-in-Ok-clause-gone : goal.returns-in-Ok-clause-gone
returns-in-Ok-clause-gone g c = subst (λ q. Now (g.F.Files.history c.publish.new.files) (λ w. IsGone (temporary_of q) w.disk)) c.in_ok-pending.ensures.path c.in-Ok.ensures.gone
