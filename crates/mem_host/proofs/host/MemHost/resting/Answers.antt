use Rattle.std.proofs.Common.{◌∷◌, sym, ◌∙◌, ap, subst}
use Rattle.mem_host.specs.Events.{found}
use Rattle.mem_host.specs.Replay.{IsUntouched, replay}
use Rattle.mem_host.proofs.Resting.{untouched}
use Rattle.mem_host.proofs.host.MemHost.resting.Goals as goal

pub returns-clause-fresh : goal.returns-clause-fresh
returns-clause-fresh c =
    let was = c.host.view_is in let is = c.in_ok-host.ensures in record {
      untouched = subst (λ events. IsUntouched (replay events)) (sym c.find.ensures) (untouched (found c.args.said.now ∷ c.put_all.new.self) (tt, c.in_ok-put_all.ensures.puts));
      coming = ap (λ state. state.coming) was ∙ is.input;
      fails = ap (λ state. state.fails) was ∙ is.fails;
      calls = ap (λ state. state.calls) was ∙ is.calls;
      faults = ap (λ state. state.faults) was ∙ is.faults;
    }
