use Rattle.std.proofs.Common.{◌≡◌, Some, ◌∙◌, ap, arith, refl}
use Rattle.std.proofs.lemmas.Grind.{common_steps}
use Rattle.std.specs.BTreeMap.{get_by_text}
use Rattle.file_model.specs.Disk.{written}
use Rattle.mem_host.specs.declared.names.Place.TheVariants.{File}
use Rattle.mem_host.proofs.Mirrored.{leads_below, on_ok, on_err, same_content}
use Rattle.std.proofs.lemmas.List.{get_or_default}
use Rattle.mem_host.proofs.contents.write_content.Goals as goal

pub returns-clause-ok : goal.returns-clause-ok
returns-clause-ok c =
    let leads : get_by_text c.args.names.now c.args.path.now ≡ Some (File c.in-Some-File.id) = grind (arith, common_steps, c.in-Some-File.ensures.value) in
    let below = leads_below c.args.path.now c.args.from c.args.names.now c.args.contents.now.items c.in-Some-File.id leads c.requires in
    on_ok c.write_bytes.result (λ is. record {
      id = c.in-Some-File.id;
      content = c.write_bytes.new.content;
      leads = leads;
      below = below;
      is = λ d. is ∙ ap (λ v. written c.args.from c.args.bytes.now v.items) (c.index_mut.ensures.value ∙ get_or_default c.args.contents.now.items c.in-Some-File.id c.index_mut.result.now d below);
      whole = refl;
    }) c.write_bytes.ensures.ok

pub returns-clause-err : goal.returns-clause-err
returns-clause-err c =
    let leads : get_by_text c.args.names.now c.args.path.now ≡ Some (File c.in-Some-File.id) = grind (arith, common_steps, c.in-Some-File.ensures.value) in
    let below = leads_below c.args.path.now c.args.from c.args.names.now c.args.contents.now.items c.in-Some-File.id leads c.requires in
    on_err c.write_bytes.result (λ is. same_content c.args.contents.now.items c.in-Some-File.id c.write_bytes.new.content below
    (λ d. is ∙ ap (λ v. v.items) (c.index_mut.ensures.value ∙ get_or_default c.args.contents.now.items c.in-Some-File.id c.index_mut.result.now d below))) c.write_bytes.ensures.err
