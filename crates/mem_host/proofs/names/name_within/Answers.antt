use Rattle.std.proofs.Common.{sym, ◌∙◌, ap}
use Rattle.std.proofs.lemmas.Slice.Eq.{bytes_eq-Decides}
use Rattle.file_model.proofs.Inside.{not_both}
use Rattle.mem_host.proofs.Listed.{read_parts, names_child, names_none, other_parent, no_parts}
use Rattle.mem_host.proofs.names.name_within.Goals as goal
use Rattle.mem_host.proofs.names.name_within.Goals.{in_default-via-in-Some+else-eq, in_default-via-in_default}

pub returns-in-Some : goal.returns-in-Some
returns-in-Some c = names_child c.args.dir.now c.args.path.now c.in-Some.parent.now c.in-Some.name.now (ap read_parts (sym c.in-Some.is) ∙ c.split.ensures)
    ((bytes_eq-Decides c.in-Some.parent.now c.args.dir.now).0 (sym c.eq.ensures ∙ c.if-eq.true))

pub returns-in_default : goal.returns-in_default
returns-in_default c = names_none c.args.dir.now c.args.path.now (λ parent name is same. elim c.in_default.branch [
  | in_default-via-in-Some+else-eq w ↦ not_both w.eq.result
      (w.eq.ensures ∙ (bytes_eq-Decides w.in-Some.parent.now c.args.dir.now).1 (other_parent c.split.result w.in-Some.parent w.in-Some.name parent name w.in-Some.is (c.split.ensures ∙ is) ∙ same)) w.if-eq.false
  | in_default-via-in_default w ↦ no_parts c.split.result (parent, name) w.in_default.not-Some (c.split.ensures ∙ is)
])
