use Rattle.std.proofs.Common.{sym, subst}
use Rattle.search_eval.specs.Keys.{key_holds}
use Rattle.search_eval.specs.Needs.{IsNeedOf}
use Rattle.search_eval.proofs.Laws.{has_need}
use Rattle.search_eval.proofs.need.need_of.Goals as goal

pub returns-clause-enough : goal.returns-clause-enough
returns-clause-enough c = λ largest. subst (IsNeedOf (λ m. key_holds largest m c.args.key.now)) (sym c.need.ensures) (has_need largest c.args.key.now)
