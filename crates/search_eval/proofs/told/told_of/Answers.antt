use Rattle.std.proofs.Common.{IfSome, IsSome, sym, subst, ◌≡◌}
use Rattle.looked_message.specs.Messages.{looked_at, with_text}
use Rattle.search_eval.specs.Keys.{key_holds}
use Rattle.search_eval.proofs.Laws.{has_laws}
use Rattle.search_eval.proofs.told.told_of.Goals as goal

pub returns-clause-holds : goal.returns-clause-holds
returns-clause-holds c = λ text.
    let m = looked_at c.args.message.now in
    subst (λ told. IfSome told (λ is. key_holds c.args.largest (with_text m text) c.args.key.now ≡ is)) (sym c.told.ensures)
    ((has_laws c.args.largest m c.args.key.now).agrees text)

pub returns-clause-sure : goal.returns-clause-sure
returns-clause-sure c = λ none. subst IsSome (sym c.told.ensures) ((has_laws c.args.largest (looked_at c.args.message.now) c.args.key.now).sure none)
