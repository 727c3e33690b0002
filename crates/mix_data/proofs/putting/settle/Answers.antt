use Rattle.std.proofs.Common.{◌≢◌, Ok}
use Rattle.std.proofs.lemmas.Result.{on_ok_weaker}
use Rattle.file_model.specs.Kept.{Sees}
use Rattle.file_model.specs.Paths.{parent}
use Rattle.file_model.proofs.Runs.{ended_then}
use Rattle.file_model.proofs.Calls.{sees_trans, sees_ok_sync_dir, sync_dir_at}
use Rattle.file_model.proofs.Putting.{ran_front_then}
use Rattle.mix_data.proofs.OnCalls.{sync_instants, sync_put, sync_sees, settle_instants, settle_only}
use Rattle.mix_data.proofs.putting.settle.Goals as goal

pub returns-in_err-sync-clause-instants : goal.returns-in_err-sync-clause-instants
returns-in_err-sync-clause-instants g c ready place bound = sync_instants c.args.path.now place bound _ _ _ (g.met.F.Files.sound c.args.files.now) ready c.sync.ensures.goes_on

pub returns-clause-instants : goal.returns-clause-instants
returns-clause-instants g c ready place bound =
    ran_front_then c.args.path.now place bound _ _ _ (sync_instants c.args.path.now place bound _ _ _ (g.met.F.Files.sound c.args.files.now) ready c.sync.ensures.goes_on)
    (settle_instants c.args.path.now place bound _ _ _ _ c.sync_dir.ensures.goes_on)

pub returns-clause-durable : goal.returns-clause-durable
returns-clause-durable g c text is =
    settle_only c.args.path.now 0 0 _ _ _ text (sync_put c.args.path.now 0 0 (Ok c.in_ok-sync.field-0) _ (g.F.Files.history c.sync.new.self) text is c.in_ok-sync.ensures.goes_on)
    (sync_dir_at c.sync_dir.result _ _ c.args.directory.now (parent c.args.path.now) c.requires.within c.sync_dir.ensures.goes_on)

pub returns-clause-sees : goal.returns-clause-sees
returns-clause-sees g c =
    let path = c.args.path.now in
    let first = sync_sees path 0 0 (Ok c.in_ok-sync.field-0) _ (g.F.Files.history c.sync.new.self) (g.met.F.Files.sound c.args.files.now) c.requires.file c.in_ok-sync.ensures.goes_on in
    on_ok_weaker c.sync_dir.result (λ second. ended_then (Sees (λ q. q ≢ path)) (λ x y z p q. sees_trans _ x y z p q) _ _ _ first second)
    (sees_ok_sync_dir _ _ _ c.args.directory.now (λ q. q ≢ path) (g.met.F.Files.sound c.sync.new.self) c.sync_dir.ensures.goes_on)
