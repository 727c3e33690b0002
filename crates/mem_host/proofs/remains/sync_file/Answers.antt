use Rattle.std.proofs.Common.{◌≡◌, Some, arith}
use Rattle.std.proofs.lemmas.Grind.{common_steps}
use Rattle.std.specs.BTreeMap.{get_by_text}
use Rattle.mem_host.specs.declared.names.Place.TheVariants.{File}
use Rattle.mem_host.proofs.Mirrored.{on_ok, on_both}
use Rattle.mem_host.proofs.Remaining.{settled_draft}
use Rattle.mem_host.proofs.remains.sync_file.Goals as goal

pub returns : goal.returns
returns c =
    let leads : get_by_text c.args.names.now c.args.path.now ≡ Some (File c.in-Some-File.id) = grind (arith, common_steps, c.get.ensures.value, c.in-Some-File.is, c.in-Some-File.field-0-is) in
    on_ok c.settle_draft.result (λ is. settled_draft c.args.path.now c.args.names.now c.args.files.now.items c.in-Some-File.id c.index_mut.result.now c.settle_draft.new.draft leads c.requires c.index_mut.ensures.value is.0 is.1)
    (on_both _ _ c.settle_draft.result c.settle_draft.ensures.durable c.settle_draft.ensures.edits)
