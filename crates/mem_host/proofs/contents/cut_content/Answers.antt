use Rattle.std.proofs.Common.{◌≡◌, Some, take, ◌∙◌, ap, arith, refl}
use Rattle.std.proofs.lemmas.Grind.{common_steps}
use Rattle.std.specs.BTreeMap.{get_by_text}
use Rattle.mem_host.specs.declared.names.Place.TheVariants.{File}
use Rattle.mem_host.proofs.Mirrored.{leads_below}
use Rattle.std.proofs.lemmas.List.{get_or_default}
use Rattle.mem_host.proofs.contents.cut_content.Goals as goal

pub returns : goal.returns
returns c =
    let leads : get_by_text c.args.names.now c.args.path.now ≡ Some (File c.in-Some-File.id) = grind (arith, common_steps, c.in-Some-File.ensures.value) in
    let below = leads_below c.args.path.now c.args.length c.args.names.now c.args.contents.now.items c.in-Some-File.id leads c.requires in
    record {
      id = c.in-Some-File.id;
      content = c.truncate.new.self;
      leads = leads;
      below = below;
      is = λ d. c.truncate.ensures.items ∙ ap (λ v. take c.args.length v.items) (c.index_mut.ensures.value ∙ get_or_default c.args.contents.now.items c.in-Some-File.id c.index_mut.result.now d below);
      whole = refl;
    }
