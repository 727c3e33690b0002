use Rattle.std.proofs.Common.{subst, sym, ◌∙◌}
use Rattle.mail_types.specs.Drivers.{keeps_of}
use Rattle.store_trait.specs.Changes.{IsNextWords}
use Rattle.store_tests.proofs.Words.{can_run_three}
use Rattle.store_tests.proofs.sequences.three_changes.Goals as goal

pub returns : goal.returns
returns g c = can_run_three _ _ _ _ _ _ _ _ _ c.in_ok-in_order.ensures
    (subst (IsNextWords (keeps_of (g.S.Store.view c.args.store.now).driver) (g.S.Store.view c.args.store.now).summary.words) (sym c.of.ensures) c.in_ok-words.ensures)
    (c.of-2.ensures ∙ c.in_ok-same.ensures ∙ c.as_slice.ensures.value ∙ sym c.of.ensures)
    c.in_ok-new.ensures.one c.in_ok-new.ensures.clean c.in_ok-changes.ensures c.in_ok-places.ensures
