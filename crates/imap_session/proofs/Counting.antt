-- A command is counted.
use Rattle.std.proofs.Common.{ℕ, ◌+◌, ◌-◌, ◌%◌, ◌==◌, ◌≤◌, ◌≡◌, refl, sym, ◌∙◌, ap, Bool, true, false, arith, if◌then◌else◌}
use Rattle.std.proofs.lemmas.Bool.Decides.{nat_tests}
use Rattle.file_model.specs.Disk.{Disk, seen}
use Rattle.store_trait.specs.Views.{View}
use Rattle.any_store.specs.Choice.{Formats}
use Rattle.imap_session.specs.declared.session.Session.{Session}
use Rattle.imap_session.specs.Standing.{StandsFor}
use Rattle.imap_session.specs.State.{State, fresh, next_fresh, counted}
use Rattle.imap_session.proofs.Selections.{same_selection}

next_of_rest : (k : ℕ) → next_fresh (k % 4294967295 + 1) ≡ (k + 1) % 4294967295 + 1
next_of_rest k = by_test (k % 4294967295 + 1 == 4294967295) refl
  where
    by_test : (b : Bool) → (k % 4294967295 + 1 == 4294967295) ≡ b → (if b then 1 else k % 4294967295 + 1 + 1) ≡ (k + 1) % 4294967295 + 1
    by_test true is = let at : k % 4294967295 + 1 ≡ 4294967295 = grind (arith, nat_tests) in omega (arith, at)
    by_test false is = let other : k % 4294967295 + 1 ≡ 4294967295 → ⊥ = grind (arith, nat_tests) in omega (arith, other)

rest_of : (m n : ℕ) → 1 ≤ m → m + (n + 1) - 1 ≡ m + n - 1 + 1
rest_of m n some = omega arith

fresh_next : (state : State) → 1 ≤ state.moment → next_fresh (fresh state) ≡ fresh (counted state)
fresh_next state some = next_of_rest (state.moment + state.count - 1) ∙ ap (λ k. k % 4294967295 + 1) (sym (rest_of state.moment state.count some))

pub counted_stands : {S : Type 0} (formats : Formats) (view : S → View) (session : Session S) (disk : Disk) (state : State)
    → StandsFor formats view session disk state → StandsFor formats view (record session { fresh = next_fresh session.fresh }) disk (counted state)
counted_stands formats view session disk state stands = record {
  root = stands.root;
  moment = stands.moment;
  some = stands.some;
  fresh_is = ap next_fresh stands.fresh_is ∙ fresh_next state stands.some;
  some_root = stands.some_root;
  stands = stands.stands;
  tree = stands.tree;
  selected = same_selection formats view state (counted state) (seen disk) session.selected state.selected refl refl stands.selected;
}
