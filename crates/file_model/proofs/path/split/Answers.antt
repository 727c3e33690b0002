use Rattle.std.proofs.Common.{◌≡◌, Some, take, sym, ◌∙◌, subst, arith}
use Rattle.std.proofs.lemmas.Grind.{common_steps}
use Rattle.file_model.proofs.Splits.{Finds, found_none, found}
use Rattle.file_model.proofs.path.split.Goals as goal

pub returns-in_default : goal.returns-in_default
returns-in_default c = sym (found_none c.args.path.now (subst (Finds c.args.path.now) c.in_default.is c.rfind.ensures.cases))

pub returns : goal.returns
returns c =
    let f = found c.args.path.now c.in-Some.slash (subst (Finds c.args.path.now) c.in-Some.is c.rfind.ensures.cases) in
    let front : c.range.result.now ≡ take c.in-Some.slash c.args.path.now = grind (arith, common_steps) in
    (λ i. Some (front i, c.range_from.ensures.value i)) ∙ sym f.split
