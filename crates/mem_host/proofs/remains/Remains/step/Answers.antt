use Rattle.std.proofs.Common.{sym, subst, refl, OnOk}
use Rattle.file_model.specs.Disk.{Disk, after, seen}
use Rattle.file_model.specs.Kinds.{Fits}
use Rattle.mem_host.specs.Notes.{call_of}
use Rattle.mem_host.specs.declared.record.Request.{Request}
use Rattle.mem_host.specs.declared.remains.Remains.{Remains}
use Rattle.mem_host.specs.Remains.{IsRemains, IsTidy}
use Rattle.mem_host.proofs.Mirrored.{on_ok}
use Rattle.mem_host.proofs.Remaining.{draft_leads, write_remains, cut_remains, sync_remains}
use Rattle.mem_host.proofs.remains.Remains.step.Goals as goal

-- the call is done to what remains
abbrev Steps : Remains → Remains → Request → Type 0
Steps old new request = (disk : Disk) → IsRemains old disk → IsTidy disk → IsRemains new (after (call_of request) disk)

pub edit_file-requires : goal.edit_file-requires
edit_file-requires c =
    let fit = subst (λ r. Fits (call_of r) (seen c.requires.disk)) c.in-WriteAt.is c.requires.fit in
    draft_leads c.args.self.now c.requires.disk c.in-WriteAt.path.now c.in-WriteAt.from c.requires.sound c.requires.is fit.0

pub edit_file-requires-in-Cut : goal.edit_file-requires-in-Cut
edit_file-requires-in-Cut c =
    let fit = subst (λ r. Fits (call_of r) (seen c.requires.disk)) c.in-Cut.is c.requires.fit in
    draft_leads c.args.self.now c.requires.disk c.in-Cut.path.now c.in-Cut.length c.requires.sound c.requires.is fit

pub sync_file-requires : goal.sync_file-requires
sync_file-requires c =
    let fit = subst (λ r. Fits (call_of r) (seen c.requires.disk)) c.in-Sync.is c.requires.fit in
    draft_leads c.args.self.now c.requires.disk c.in-Sync.path.now 0 c.requires.sound c.requires.is fit

pub returns-in-Make : goal.returns-in-Make
returns-in-Make c =
    subst (λ r. OnOk c.make.result (Steps c.args.self.now c.make.new.self r)) (sym c.in-Make.is)
    (on_ok c.make.result (λ steps disk is tidy. steps disk is) c.make.ensures)

pub returns-in-MakeDir : goal.returns-in-MakeDir
returns-in-MakeDir c =
    subst (λ r. OnOk c.make_dir.result (Steps c.args.self.now c.make_dir.new.self r)) (sym c.in-MakeDir.is)
    (on_ok c.make_dir.result (λ steps disk is tidy. steps disk is) c.make_dir.ensures)

pub returns-in-Remove : goal.returns-in-Remove
returns-in-Remove c =
    subst (λ r. OnOk c.remove.result (Steps c.args.self.now c.remove.new.self r)) (sym c.in-Remove.is)
    (on_ok c.remove.result (λ steps disk is tidy. steps disk is) c.remove.ensures)

pub returns-in-WriteAt : goal.returns-in-WriteAt
returns-in-WriteAt c =
    let new : Remains = record c.args.self.now { files = c.edit_file.new.files } in
    subst (λ r. OnOk c.edit_file.result (Steps c.args.self.now new r)) (sym c.in-WriteAt.is)
    (on_ok c.edit_file.result (λ drafted disk is tidy. write_remains c.args.self.now new c.in-WriteAt.path.now c.in-WriteAt.from c.in-WriteAt.bytes.now disk refl refl refl drafted is) c.edit_file.ensures)

pub returns-in-Cut : goal.returns-in-Cut
returns-in-Cut c =
    let new : Remains = record c.args.self.now { files = c.edit_file-in-Cut.new.files } in
    subst (λ r. OnOk c.edit_file-in-Cut.result (Steps c.args.self.now new r)) (sym c.in-Cut.is)
    (on_ok c.edit_file-in-Cut.result (λ drafted disk is tidy. cut_remains c.args.self.now new c.in-Cut.path.now c.in-Cut.length disk refl refl refl drafted is) c.edit_file-in-Cut.ensures)

pub returns-in-Sync : goal.returns-in-Sync
returns-in-Sync c =
    let new : Remains = record c.args.self.now { files = c.sync_file.new.files } in
    subst (λ r. OnOk c.sync_file.result (Steps c.args.self.now new r)) (sym c.in-Sync.is)
    (on_ok c.sync_file.result (λ drafted disk is tidy. sync_remains c.args.self.now new c.in-Sync.path.now disk refl refl refl drafted tidy is) c.sync_file.ensures)
