use Rattle.std.proofs.Common.{sym, subst, refl, OnOk}
use Rattle.file_model.specs.Disk.{done}
use Rattle.file_model.specs.Images.{Names, a_file, a_directory}
use Rattle.mem_host.specs.declared.names.Place.TheVariants.{File, Dir}
use Rattle.mem_host.specs.declared.remains.Operation.{Operation}
use Rattle.mem_host.specs.Mirrored.{Shows}
use Rattle.mem_host.specs.Remains.{operation_of}
use Rattle.mem_host.proofs.Mirrored.{Map, on_ok, put_shows, moved_shows, take_shows}
use Rattle.mem_host.proofs.remains.operate.Goals as goal

-- the names are shown after an operation
abbrev Operates : Map → Map → Operation → Type 0
Operates old new operation = (names : Names) → Shows old names → Shows new (done (operation_of operation) names)

pub returns-in-Made : goal.returns-in-Made
returns-in-Made c =
    subst (λ o. OnOk c.put_name.result (Operates c.args.names.now c.put_name.new.names o)) (sym c.in-Made.is)
    (on_ok c.put_name.result (λ puts names shows. put_shows c.args.names.now c.put_name.new.names names c.in-Made.path.now (File c.in-Made.id) (a_file c.in-Made.id) refl shows puts) c.put_name.ensures.ok)

pub returns-in-MadeDirectory : goal.returns-in-MadeDirectory
returns-in-MadeDirectory c =
    let put = c.put_name-in-MadeDirectory in
    subst (λ o. OnOk put.result (Operates c.args.names.now put.new.names o)) (sym c.in-MadeDirectory.is)
    (on_ok put.result (λ puts names shows. put_shows c.args.names.now put.new.names names c.in-MadeDirectory.path.now Dir a_directory refl shows puts) put.ensures.ok)

pub returns-in-MovedFile : goal.returns-in-MovedFile
returns-in-MovedFile c =
    let m = c.in-MovedFile in
    subst (λ o. OnOk c.move_name.result (Operates c.args.names.now c.move_name.new.names o)) (sym m.is)
    (on_ok c.move_name.result (λ moves names shows. moved_shows c.args.names.now c.move_name.new.names names m.from.now m.to.now m.id moves shows) c.move_name.ensures.ok)

pub returns-in-Removed : goal.returns-in-Removed
returns-in-Removed c =
    subst (Operates c.args.names.now c.take_name.new.names) (sym c.in-Removed.is)
    (λ names shows. take_shows c.args.names.now c.take_name.new.names names c.in-Removed.path.now shows c.take_name.ensures.left)
