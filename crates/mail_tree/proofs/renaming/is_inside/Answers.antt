use Rattle.std.proofs.Common.{sym, ◌∙◌}
use Rattle.mail_tree.proofs.InsideTest.{inside_then, inside_else}
use Rattle.mail_tree.proofs.renaming.is_inside.Goals as goal

pub returns-then-starts_with : goal.returns-then-starts_with
returns-then-starts_with c = c.starts_with-then-starts_with.ensures.value ∙ inside_then c.args.dir.now c.args.path.now (sym c.starts_with.ensures.value ∙ c.if-starts_with.true)

pub returns-else-starts_with : goal.returns-else-starts_with
returns-else-starts_with c = c.if-starts_with.false ∙ inside_else c.args.dir.now c.args.path.now (sym c.starts_with.ensures.value ∙ c.if-starts_with.false)
