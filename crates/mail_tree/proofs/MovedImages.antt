-- What a crash leaves where the directories above a name are made, and then something is moved there whole.
use Rattle.std.proofs.Common.{◌≡◌, inl, inr, ⊎_elim, ℕ, List, [], ◌∷◌, ◌++◌, drop, length, Bool, true, false, cond, Result, Ok, Err, OnOk, IsErr, refl, sym, ◌∙◌, ap, arith, append_assoc, length-append}
use Rattle.std.specs.Prelude.{IsErrOf}
use Rattle.std.proofs.lemmas.Bool.{cases_Bool}
use Rattle.file_model.specs.Disk.{Disk, seen}
use Rattle.file_model.specs.Histories.{History, Now, Ran, Ended}
use Rattle.file_model.specs.Images.{Image, nothing, node_at}
use Rattle.file_model.specs.Kept.{MovesWhole, SeesMoved, moved_node}
use Rattle.file_model.specs.Paths.{child, is_at_or_inside}
use Rattle.file_model.proofs.Inside.{under_is, under_test, drop_dir, not_both}
use Rattle.file_model.proofs.Runs.{ran_then, ran_weaker, now_all}
use Rattle.store_trait.specs.OwnPaths.{IsNoPath}
use Rattle.store_trait.specs.Touching.{AgreesBut}
use Rattle.store_trait.proofs.Replacing.{ran_both}
use Rattle.store_trait.proofs.Touched.{keeps_but_none}
use Rattle.mail_tree.specs.declared.fault.TreeFault.{TreeFault}
use Rattle.mail_tree.specs.declared.fault.TreeFault.TheVariants.{Failed}
use Rattle.mail_tree.specs.Making.{MakesAbove, SeesAbove}
use Rattle.mail_tree.specs.Promises.{IsMadeAbove, IsMovedOrNot, MayMove, LeavesMoved}
use Rattle.mail_tree.specs.Renaming.{CanRename}
use Rattle.mail_tree.proofs.Below.{one_below}
use Rattle.mail_tree.proofs.Joined.{ended_two}
use Rattle.mail_tree.proofs.MovedKeys.{Apart}
use Rattle.mail_tree.proofs.Moving.{longer, test_below}
use Rattle.mail_tree.proofs.RenamedTree.{names_apart}

-- but for directories that are made, one image has what another has once something was moved in it
pub record HasMoved (root from to : List ℕ) (start : Disk) (before image : Image) : Type 0 where
  pub each : (q : List ℕ) → (IsMadeAbove root to start q → ⊥) → node_at image q ≡ moved_node (child root from) (child root to) before q

-- reads see that at the end
abbrev pub EndsMoved : (root from to : List ℕ) → Disk → Disk → Type 0
EndsMoved root from to start end = HasMoved root from to start (seen start) (seen end)

pub agrees_made : (free : List ℕ → Type 0) (q : List ℕ) (image before : Image) → AgreesBut IsNoPath free q image before → (free q → ⊥) → node_at image q ≡ node_at before q
agrees_made free q image before (inl same) apart = same
agrees_made free q image before (inr (inl never)) apart = absurd never.0
agrees_made free q image before (inr (inr made)) apart = absurd (apart made)

above_may : (root from to : List ℕ) (a b : Disk) → MakesAbove root to a b → MayMove root from to a b
above_may root from to a b keeps = record {
  each = λ image left.
      let start = keeps.each image left in
      (start.0, start.1, record { each = inl (λ q free. agrees_made (IsMadeAbove root to a) q image start.0 (start.2 q) free) });
}

module _ (root from to : List ℕ) (apart : Apart from to) where
  -- a directory above the new name isn't under the old one
  made_outside : (start : Disk) (q : List ℕ) → IsMadeAbove root to start q → is_at_or_inside (child root from) q ≡ true → ⊥
  made_outside start q m is = ⊎_elim under (λ fails. not_both (is_at_or_inside (child root from) q) is (ap (is_at_or_inside (child root from)) m.whole ∙ test_below root from m.front false fails)) (cases_Bool (is_at_or_inside from m.front))
    where
      under : is_at_or_inside from m.front ≡ true → ⊥
      under holds =
          let u = under_is from m.front holds in
          not_both (is_at_or_inside from to) (under_test from to (record {
            rest = u.rest ++ 47 ∷ m.rest;
            whole = m.above ∙ ap (λ l. child l m.rest) u.whole ∙ append_assoc from u.rest (47 ∷ m.rest);
            slash = longer u.rest u.slash m.rest;
          })) apart.0

  -- nor under the new one
  pub made_shorter : (start : Disk) (rest : List ℕ) → IsMadeAbove root to start (child root (to ++ rest)) → ⊥
  made_shorter start rest m = absurd (omega (arith, ap length m.above, length-append m.front (47 ∷ m.rest), ap length (one_below root (to ++ rest) m.front m.whole), length-append to rest))

  -- the move of an image that is the same but for directories that are made
  moved_same : (start : Disk) (one other : Image) → ((q : List ℕ) → (IsMadeAbove root to start q → ⊥) → node_at one q ≡ node_at other q)
      → (q : List ℕ) → (IsMadeAbove root to start q → ⊥) → moved_node (child root from) (child root to) one q ≡ moved_node (child root from) (child root to) other q
  moved_same start one other agree q free = at (is_at_or_inside (child root to) q) (is_at_or_inside (child root from) q) refl
    where
      at : (b c : Bool) → is_at_or_inside (child root to) q ≡ b
          → cond (is_at_or_inside (child root to) q) (node_at one (child root from ++ drop (length (child root to)) q)) (cond (is_at_or_inside (child root from) q) nothing (node_at one q))
          ≡ cond (is_at_or_inside (child root to) q) (node_at other (child root from ++ drop (length (child root to)) q)) (cond (is_at_or_inside (child root from) q) nothing (node_at other q))
      at true c e =
          let u = under_is (child root to) q e in
          let came = under_test (child root from) (child root from ++ drop (length (child root to)) q)
          (record { rest = u.rest; whole = ap (λ z. child root from ++ drop (length (child root to)) z) u.whole ∙ ap (λ r. child root from ++ r) (drop_dir (child root to) u.rest); slash = u.slash }) in
          (λ i. cond (is_at_or_inside (child root to) q) (agree (child root from ++ drop (length (child root to)) q) (λ m. made_outside start (child root from ++ drop (length (child root to)) q) m came) i)
          (cond (is_at_or_inside (child root from) q) nothing (agree q free i)))
      at false c e =
          (ap (λ b. cond b (node_at one (child root from ++ drop (length (child root to)) q)) (cond (is_at_or_inside (child root from) q) nothing (node_at one q))) e)
          ∙ ap (λ n. cond (is_at_or_inside (child root from) q) nothing n) (agree q free)
          ∙ sym (ap (λ b. cond b (node_at other (child root from ++ drop (length (child root to)) q)) (cond (is_at_or_inside (child root from) q) nothing (node_at other q))) e)

  then_may : (a b c : Disk) → MakesAbove root to a b → MovesWhole (child root from) (child root to) b c → MayMove root from to a c
  then_may a b c keeps moves = record {
    each = λ image left.
        let mid = moves.each image left in
        let start = keeps.each mid.0 mid.1 in
        let agree : (q : List ℕ) → (IsMadeAbove root to a q → ⊥) → node_at mid.0 q ≡ node_at start.0 q = λ q free. agrees_made (IsMadeAbove root to a) q mid.0 start.0 (start.2 q) free in (
          start.0,
          start.1,
          record {
            each = ⊎_elim (λ same. inl (λ q free. same q ∙ agree q free)) (λ is. inr (λ q free. is q ∙ moved_same a mid.0 start.0 agree q free)) mid.2;
          },
        );
  }

  pub ends_moved : (a b c : Disk) → SeesAbove root to a b → SeesMoved (child root from) (child root to) b c → EndsMoved root from to a c
  ends_moved a b c sees moved = record {
    each = λ q free. moved.each q ∙ moved_same a (seen b) (seen a) (λ l other. agrees_made (IsMadeAbove root to a) l (seen b) (seen a) (sees.each l) other) q free;
  }

-- ---- On histories

-- what may be left, where something can be renamed
abbrev MayMoveThen : (root from to : List ℕ) → Disk → Disk → Type 0
MayMoveThen root from to a b = CanRename root from to (seen a) → MayMove root from to a b

module _ (root from to : List ℕ) (result : Result (Unit {0}) TreeFault) (old mid new : History) (can : Now old (λ w. CanRename root from to (seen w.disk))) (failed : IsErr result → IsErrOf result Failed) (above : Ran (MakesAbove root to) old mid) where
  pub ran_may : Ran (MovesWhole (child root from) (child root to)) mid new → Ran (MayMove root from to) old new
  ran_may moves =
      let then = ran_then {R = MakesAbove root to} {S = MovesWhole (child root from) (child root to)} {T = MayMoveThen root from to}
      (λ a. keeps_but_none IsNoPath (IsMadeAbove root to a) a) (λ a b r is. above_may root from to a b r)
      (λ a b c r s is. then_may root from to (names_apart root from to (seen a) is) a b c r s) old mid new above moves in
      ran_both (λ a. CanRename root from to (seen a)) (MayMoveThen root from to) (MayMoveThen root from to) (MayMove root from to) (λ a b is r again. r is) old new can then then

  pub all_moved : Ended (SeesAbove root to) old mid → OnOk result (Ended (SeesMoved (child root from) (child root to)) mid new) → OnOk result (Ended (EndsMoved root from to) old new)
  all_moved sees moved = at result moved
    where
      at : (r : Result (Unit {0}) TreeFault) → OnOk r (Ended (SeesMoved (child root from) (child root to)) mid new) → OnOk r (Ended (EndsMoved root from to) old new)
      at (Err fault) was = tt
      at (Ok u) was = ended_two (λ a. CanRename root from to (seen a)) (λ b. Unit {0}) (SeesAbove root to) (SeesMoved (child root from) (child root to)) (EndsMoved root from to)
          (λ a b c is any r s. ends_moved root from to (names_apart root from to (seen a) is) a b c r s) old mid new can (now_all (λ w. Unit {0}) (λ w. tt) mid) sees was

  pub leaves_moved : Ran (MovesWhole (child root from) (child root to)) mid new → Ended (SeesAbove root to) old mid → OnOk result (Ended (SeesMoved (child root from) (child root to)) mid new) → LeavesMoved root from to result old new
  leaves_moved moves sees moved = record { instants = λ none. ran_may moves; sees = at result failed (all_moved sees moved) }
    where
      not_only : (h k : History) → Ended (EndsMoved root from to) h k → Ended (λ start end. IsMovedOrNot root from to start (seen start) (seen end)) h k
      not_only [] k ended = ended
      not_only (a ∷ past) [] ended = absurd ended
      not_only (a ∷ past) (b ∷ more) ended = record { each = inr ended.each }

      at : (r : Result (Unit {0}) TreeFault) → (IsErr r → IsErrOf r Failed) → OnOk r (Ended (EndsMoved root from to) old new) → (IsErrOf r Failed → ⊥) → Ended (λ start end. IsMovedOrNot root from to start (seen start) (seen end)) old new
      at (Err fault) fails was not_failed = absurd (not_failed (fails refl))
      at (Ok u) fails was not_failed = not_only old new was

-- where already the directories above couldn't be made
pub may_above : (root from to : List ℕ) (old new : History) → Ran (MakesAbove root to) old new → Ran (MayMove root from to) old new
may_above root from to old new above = ran_weaker (above_may root from to) old new above

pub leaves_above : (root from to : List ℕ) (result : Result (Unit {0}) TreeFault) (old new : History) → IsErrOf result Failed → Ran (MakesAbove root to) old new → LeavesMoved root from to result old new
leaves_above root from to result old new failed above = record { instants = λ none. may_above root from to old new above; sees = λ not_failed. absurd (not_failed failed) }
