use Rattle.std.proofs.Common.{◌≡◌, Some, arith}
use Rattle.std.proofs.lemmas.Grind.{common_steps}
use Rattle.std.specs.BTreeMap.{get_by_text}
use Rattle.mem_host.specs.declared.names.Place.TheVariants.{File}
use Rattle.mem_host.proofs.Mirrored.{on_ok, rename_shows}
use Rattle.mem_host.proofs.names.rename_in.Goals as goal

pub returns-in-Some-File-clause-ok : goal.returns-in-Some-File-clause-ok
returns-in-Some-File-clause-ok c =
    let leads : get_by_text c.args.names.now c.args.from.now ≡ Some (File c.in-Some-File.id) = grind (arith, common_steps, c.get.ensures.value, c.copied.ensures, c.in-Some-File.is, c.in-Some-File.field-0-is) in
    on_ok c.move_name.result (λ moves disk shows. rename_shows c.args.names.now c.move_name.new.names disk c.args.from.now c.args.to.now c.in-Some-File.id leads moves shows) c.move_name.ensures.ok
