use Rattle.std.proofs.Common.{sym, subst, OnOk}
use Rattle.file_model.specs.Disk.{Disk, after, seen, make}
use Rattle.file_model.specs.Kinds.{Fits}
use Rattle.mem_host.specs.Notes.{call_of}
use Rattle.mem_host.specs.Mirrored.{Mirrors}
use Rattle.mem_host.proofs.Mirrored.{on_ok, on_both, mirrors_make, mirrors_make_dir, mirrors_same, mirrors_remove, file_leads}
use Rattle.mem_host.proofs.apply.apply.Goals as goal

pub write_content-requires : goal.write_content-requires
write_content-requires c =
    let fit = subst (λ r. Fits (call_of r) (seen c.requires.disk)) c.in-WriteAt.is c.requires.fit in
    file_leads c.in-WriteAt.path.now c.in-WriteAt.from c.args.names.now c.args.contents.now.items c.requires.disk c.requires.sound c.requires.mirrors fit.0

pub cut_content-requires : goal.cut_content-requires
cut_content-requires c =
    file_leads c.in-Cut.path.now c.in-Cut.length c.args.names.now c.args.contents.now.items c.requires.disk c.requires.sound c.requires.mirrors (subst (λ r. Fits (call_of r) (seen c.requires.disk)) c.in-Cut.is c.requires.fit)

pub returns-in-Make-clause-ok : goal.returns-in-Make-clause-ok
returns-in-Make-clause-ok c =
    subst (λ r. OnOk c.put_content.result ((disk : Disk) → Mirrors c.args.names.now c.args.contents.now.items disk → Fits (call_of r) (seen disk) → Mirrors c.put_content.new.names c.put_content.new.contents.items (after (call_of r) disk))) (sym c.in-Make.is)
    (on_ok c.put_content.result (λ facts disk m fit. subst (λ l. Mirrors c.put_content.new.names l (after (make c.in-Make.path.now) disk)) (sym facts.1)
    (mirrors_make c.args.names.now c.put_content.new.names c.args.contents.now.items c.new.result c.in-Make.path.now disk c.new.ensures.items facts.0 m)) (on_both _ _ c.put_content.result c.put_content.ensures.name c.put_content.ensures.content))

pub returns-in-MakeDir-clause-ok : goal.returns-in-MakeDir-clause-ok
returns-in-MakeDir-clause-ok c =
    subst (λ r. OnOk c.put_name.result ((disk : Disk) → Mirrors c.args.names.now c.args.contents.now.items disk → Fits (call_of r) (seen disk) → Mirrors c.put_name.new.names c.args.contents.now.items (after (call_of r) disk))) (sym c.in-MakeDir.is)
    (on_ok c.put_name.result (λ puts disk m fit. mirrors_make_dir c.args.names.now c.put_name.new.names c.args.contents.now.items c.in-MakeDir.path.now disk puts m) c.put_name.ensures.ok)

pub returns-in-SyncDir-clause-ok : goal.returns-in-SyncDir-clause-ok
returns-in-SyncDir-clause-ok c =
    subst (λ r. (disk : Disk) → Mirrors c.args.names.now c.args.contents.now.items disk → Fits (call_of r) (seen disk) → Mirrors c.args.names.now c.args.contents.now.items (after (call_of r) disk)) (sym c.in-SyncDir.is)
    (λ disk m fit. mirrors_same c.args.names.now c.args.contents.now.items disk c.in-SyncDir.field-0.now m)

pub returns-in-Remove-clause-ok : goal.returns-in-Remove-clause-ok
returns-in-Remove-clause-ok c =
    subst (λ r. (disk : Disk) → Mirrors c.args.names.now c.args.contents.now.items disk → Fits (call_of r) (seen disk) → Mirrors c.take_name.new.names c.args.contents.now.items (after (call_of r) disk)) (sym c.in-Remove.is)
    (λ disk m fit. mirrors_remove c.args.names.now c.take_name.new.names c.args.contents.now.items disk c.in-Remove.path.now c.take_name.ensures.left m)
