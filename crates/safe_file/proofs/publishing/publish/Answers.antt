use Rattle.std.proofs.Common.{◌≡◌, sym, ◌∙◌, subst, true, Ok}
use Rattle.std.specs.Prelude.{string_bytes}
use Rattle.file_model.specs.Disk.{seen}
use Rattle.file_model.specs.Images.{is_directory}
use Rattle.file_model.specs.Histories.{Now}
use Rattle.file_model.specs.Paths.{parent}
use Rattle.file_model.proofs.Paths.{parent_apart}
use Rattle.file_model.proofs.Inside.{in_directory}
use Rattle.file_model.proofs.Calls.{ran_move, ok_move, ok_move_beside, ok_settle_move, ran_sync_dir, ran_durable, rename_at, sync_dir_at, ok_move_any, ok_gone_move, ok_all_durable, sees_ok_move, sees_ok_sync_dir, sees_trans}
use Rattle.file_model.proofs.Runs.{ended_then, files_then}
use Rattle.std.proofs.lemmas.Result.{on_ok_weaker}
use Rattle.file_model.specs.Paths.{temporary_of}
use Rattle.safe_file.proofs.Beside.{directory_apart, temporary_apart}
use Rattle.safe_file.proofs.OnFiles.{files_rename, files_sync_dir}
use Rattle.std.specs.Prelude.{IsErr}
use Rattle.file_model.proofs.FileCalls.{directories_move, directories_sync_dir, then_keeps}
use Rattle.file_model.proofs.Runs.{now_both}
use Rattle.safe_file.proofs.publishing.publish.Goals as goal

pub returns-in_err-rename-clause-instants : goal.returns-in_err-rename-clause-instants
returns-in_err-rename-clause-instants g c bytes is =
    let moved = rename_at _ _ _ _ _ _ _ (c.as_str.ensures.value ∙ c.args.pending.now.beside) c.as_str-2.ensures.value c.rename.ensures.goes_on in
    ran_move _ _ _ _ _ bytes is moved

pub sync_dir-requires : goal.sync_dir-requires
sync_dir-requires g c =
    let path = string_bytes c.args.pending.now.path in
    let moved = rename_at (Ok c.in_ok-rename.field-0) _ _ _ _ (temporary_of path) path (c.as_str.ensures.value ∙ c.args.pending.now.beside) c.as_str-2.ensures.value c.in_ok-rename.ensures.goes_on in
    let stands = ok_move_beside (Ok c.in_ok-rename.field-0) _ _ (temporary_of path) path (parent path) (directory_apart path) (parent_apart path (in_directory (string_bytes c.args.pending.now.path) c.args.pending.now.below)) c.requires.written c.requires.room moved in
    subst (λ q. Now (g.F.Files.history c.rename.new.self) (λ w. is_directory (seen w.disk) q ≡ true)) (sym (c.as_str-3.ensures.value ∙ c.args.pending.now.within)) stands

pub returns-clause-instants : goal.returns-clause-instants
returns-clause-instants g c bytes is =
    let path = string_bytes c.args.pending.now.path in
    let moved = rename_at _ _ _ _ _ (temporary_of path) path (c.as_str.ensures.value ∙ c.args.pending.now.beside) c.as_str-2.ensures.value c.rename.ensures.goes_on in
    ran_durable path bytes _ (λ q. Unit {0}) (λ q h. tt) tt _ _ _ (ran_move _ _ _ (temporary_of path) path bytes is moved) (ran_sync_dir _ _ _ _ _ c.sync_dir.ensures.goes_on)

pub returns-clause-published : goal.returns-clause-published
returns-clause-published g c bytes is =
    let path = string_bytes c.args.pending.now.path in
    let moved = rename_at (Ok c.in_ok-rename.field-0) _ _ _ _ (temporary_of path) path (c.as_str.ensures.value ∙ c.args.pending.now.beside) c.as_str-2.ensures.value c.in_ok-rename.ensures.goes_on in
    let was = ok_move (Ok c.in_ok-rename.field-0) _ _ (temporary_of path) path bytes is moved in
    ok_settle_move _ _ _ (temporary_of path) path bytes was (sync_dir_at _ _ _ _ _ (c.as_str-3.ensures.value ∙ c.args.pending.now.within) c.sync_dir.ensures.goes_on)

pub returns-clause-gone : goal.returns-clause-gone
returns-clause-gone g c =
    let path = string_bytes c.args.pending.now.path in
    let moved = rename_at (Ok c.in_ok-rename.field-0) _ _ _ _ (temporary_of path) path (c.as_str.ensures.value ∙ c.args.pending.now.beside) c.as_str-2.ensures.value c.in_ok-rename.ensures.goes_on in
    let was = ok_move_any (Ok c.in_ok-rename.field-0) _ _ (temporary_of path) path c.requires.written moved in
    ok_gone_move _ _ _ (temporary_of path) path (temporary_apart path (in_directory (string_bytes c.args.pending.now.path) c.args.pending.now.below)) was (sync_dir_at _ _ _ _ _ (c.as_str-3.ensures.value ∙ c.args.pending.now.within) c.sync_dir.ensures.goes_on)

pub returns-clause-durable : goal.returns-clause-durable
returns-clause-durable g c =
    let path = string_bytes c.args.pending.now.path in
    let moved = rename_at (Ok c.in_ok-rename.field-0) _ _ _ _ (temporary_of path) path (c.as_str.ensures.value ∙ c.args.pending.now.beside) c.as_str-2.ensures.value c.in_ok-rename.ensures.goes_on in
    let was = ok_move_any (Ok c.in_ok-rename.field-0) _ _ (temporary_of path) path c.requires.written moved in
    ok_all_durable _ _ _ (temporary_of path) path was (sync_dir_at _ _ _ _ _ (c.as_str-3.ensures.value ∙ c.args.pending.now.within) c.sync_dir.ensures.goes_on)

pub returns-clause-sees : goal.returns-clause-sees
returns-clause-sees g c =
    let path = string_bytes c.args.pending.now.path in
    let moved = rename_at (Ok c.in_ok-rename.field-0) _ _ _ _ (temporary_of path) path (c.as_str.ensures.value ∙ c.args.pending.now.beside) c.as_str-2.ensures.value c.in_ok-rename.ensures.goes_on in
    let first = sees_ok_move (Ok c.in_ok-rename.field-0) _ _ (temporary_of path) path c.requires.written moved in
    on_ok_weaker c.sync_dir.result (λ second. ended_then _ (λ x y z p q. sees_trans _ x y z p q) _ _ _ first second)
    (sees_ok_sync_dir _ _ _ _ _ (g.met.F.Files.sound c.rename.new.self) c.sync_dir.ensures.goes_on)

pub returns-in_err-rename-clause-files : goal.returns-in_err-rename-clause-files
returns-in_err-rename-clause-files g c = files_rename _ _ _ _ _ c.rename.ensures.goes_on

pub returns-clause-files : goal.returns-clause-files
returns-clause-files g c = files_then _ _ _ (files_rename _ _ _ _ _ c.rename.ensures.goes_on) (files_sync_dir _ _ _ _ c.sync_dir.ensures.goes_on)

pub returns-in_err-rename-clause-directories : goal.returns-in_err-rename-clause-directories
returns-in_err-rename-clause-directories g c =
    let path = string_bytes c.args.pending.now.path in
    let moved = rename_at _ _ _ _ _ (temporary_of path) path (c.as_str.ensures.value ∙ c.args.pending.now.beside) c.as_str-2.ensures.value c.rename.ensures.goes_on in
    let stops = subst (λ q. Now (g.F.Files.history c.args.files.now) (λ w. is_directory (seen w.disk) q ≡ true → IsErr c.rename.result × (g.F.Files.history c.rename.new.self ≡ g.F.Files.history c.args.files.now))) c.as_str-2.ensures.value c.rename.ensures.obstructed in
    let does = directories_move c.rename.result _ _ (temporary_of path) path (now_both _ _ _ (g.met.F.Files.sound c.args.files.now) c.requires.written) stops moved in
    does

pub returns-clause-directories : goal.returns-clause-directories
returns-clause-directories g c =
    let path = string_bytes c.args.pending.now.path in
    let moved = rename_at _ _ _ _ _ (temporary_of path) path (c.as_str.ensures.value ∙ c.args.pending.now.beside) c.as_str-2.ensures.value c.rename.ensures.goes_on in
    let stops = subst (λ q. Now (g.F.Files.history c.args.files.now) (λ w. is_directory (seen w.disk) q ≡ true → IsErr c.rename.result × (g.F.Files.history c.rename.new.self ≡ g.F.Files.history c.args.files.now))) c.as_str-2.ensures.value c.rename.ensures.obstructed in
    let does = directories_move c.rename.result _ _ (temporary_of path) path (now_both _ _ _ (g.met.F.Files.sound c.args.files.now) c.requires.written) stops moved in
    then_keeps _ _ _ does (directories_sync_dir _ _ _ _ (g.met.F.Files.sound c.rename.new.self) c.sync_dir.ensures.goes_on)
