use Rattle.std.proofs.Common.{◌≡◌, ◌+◌, List, ℕ, drop, sym, ap, subst}
use Rattle.std.proofs.lemmas.List.{drop-drop}
use Rattle.mem_host.specs.Coming.{Coming, after_turn}
use Rattle.mem_host.proofs.input.Input.skip.Goals as goal

pub returns-then-self-len : goal.returns-then-self-len
returns-then-self-len c =
    let a = c.self.inside in
    let left : List ℕ → Coming = λ cuts. record { bytes = drop a.heard a.bytes.items; cuts = cuts } in
    subst (λ old. left (drop (a.next_cut + 1) a.cuts.items) ≡ after_turn 0 old) c.self.view_is (ap left (sym (drop-drop 1 a.next_cut a.cuts.items)))
