use Rattle.std.proofs.Common.{◌≡◌, Some, arith}
use Rattle.std.proofs.lemmas.Grind.{common_steps}
use Rattle.std.specs.BTreeMap.{get_by_text}
use Rattle.mem_host.specs.declared.names.Place.TheVariants.{File}
use Rattle.mem_host.proofs.Remaining.{edited_draft}
use Rattle.mem_host.proofs.remains.edit_file.Goals as goal

pub returns : goal.returns
returns c =
    let leads : get_by_text c.args.names.now c.args.path.now ≡ Some (File c.in-Some-File.id) = grind (arith, common_steps, c.get.ensures.value, c.in-Some-File.is, c.in-Some-File.field-0-is) in
    edited_draft c.args.path.now c.args.edit c.args.names.now c.args.files.now.items c.in-Some-File.id c.index_mut.result.now _ leads c.requires c.index_mut.ensures.value c.in_ok-push-in-Some-File.ensures.items
