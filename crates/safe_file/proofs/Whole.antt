-- A prepared content that is published: the two calls as one change.
use Rattle.std.proofs.Common.{◌≡◌, ◌≢◌, inl, inr, ⊎_elim, ℕ, List, [], ◌∷◌, true, sym, ◌∙◌, ap}
use Rattle.file_model.specs.Disk.{Disk, seen}
use Rattle.file_model.specs.Images.{is_directory, directory_test}
use Rattle.file_model.specs.Kept.{Keeps, Replaces, Sees, HasOnly, IsGone, NonePending, IsBeside, Replaced}
use Rattle.file_model.specs.Histories.{History, Now, Ran, Ended}
use Rattle.file_model.specs.Paths.{temporary_of, IsInDirectory}
use Rattle.file_model.proofs.Runs.{ran_then, ran_weaker, ended_then, now_both}
use Rattle.file_model.proofs.Kept.{keeps_refl}
use Rattle.file_model.proofs.Calls.{sees_trans}
use Rattle.file_model.proofs.Leaving.{ended_ran, ended_with, ended_weaker}
use Rattle.safe_file.proofs.Beside.{temporary_apart}

module _ (path bytes : List ℕ) (inside : IsInDirectory path) where
  pub apart : path ≢ temporary_of path
  apart e = temporary_apart path inside (sym e)

  kept_first : (a b : Disk) → Keeps (λ q. q ≢ temporary_of path) a b → Replaces path bytes (IsBeside path) a b
  kept_first a b keeps = record { each = λ image left. let k = keeps.each image left in (k.0, k.1, (λ q here. k.2 q here.0), inl (k.2 path apart)) }

  replaced_then : (a b c : Disk) → Keeps (λ q. q ≢ temporary_of path) a b → Replaces path bytes (IsBeside path) b c → Replaces path bytes (IsBeside path) a c
  replaced_then a b c first second = record {
    each = λ image left.
        let m = second.each image left in
        let s = first.each m.0 m.1 in
        (s.0, s.1, (λ q here. m.2 q here ∙ s.2 q here.0), ⊎_elim (λ same. inl (same ∙ s.2 path apart)) (λ is. inr is) m.3);
  }

  pub whole_sees : (old mid new : History) → Ended (Sees (λ q. q ≢ temporary_of path)) old mid → Ended (Sees (IsBeside path)) mid new → Ended (Sees (IsBeside path)) old new
  whole_sees old mid new first second = ended_then (Sees (IsBeside path)) (λ a b c one two. sees_trans (IsBeside path) a b c one two) old mid new
      (ended_weaker (Sees (λ q. q ≢ temporary_of path)) (Sees (IsBeside path)) (λ a b s. record { each = λ q here. s.each q here.0 }) old mid first) second

  module _ (old mid new : History) (keeps : Ran (Keeps (λ q. q ≢ temporary_of path)) old mid) where
    pub prepared_instants : Ran (Replaces path bytes (IsBeside path)) old mid
    prepared_instants = ran_weaker kept_first old mid keeps

    pub whole_instants : Ran (Replaces path bytes (IsBeside path)) mid new → Ran (Replaces path bytes (IsBeside path)) old new
    whole_instants does = ran_then (λ a. keeps_refl (λ q. q ≢ temporary_of path) a) kept_first replaced_then old mid new keeps does

    pub whole_done : Ran (Replaces path bytes (IsBeside path)) mid new → Ended (Sees (λ q. q ≢ temporary_of path)) old mid → Ended (Sees (IsBeside path)) mid new
        → Now new (λ w. HasOnly path bytes w.disk) → Now new (λ w. IsGone (temporary_of path) w.disk) → Now new (λ w. NonePending w.disk) → Ended (Replaced path bytes) old new
    whole_done does first second only gone durable =
        let sees = whole_sees old mid new first second in
        let instants = whole_instants does in
        let both = ended_ran (Replaces path bytes (IsBeside path)) (Sees (IsBeside path)) (λ a. kept_first a a (keeps_refl (λ q. q ≢ temporary_of path) a)) old new instants sees in
        let facts = now_both (λ w. HasOnly path bytes w.disk) (λ w. IsGone (temporary_of path) w.disk × NonePending w.disk) new only (now_both (λ w. IsGone (temporary_of path) w.disk) (λ w. NonePending w.disk) new gone durable) in
        ended_weaker _ (Replaced path bytes) (λ a b r. record {
          rest = record { each = λ image left. let k = r.0.0.each image left in (k.0, k.1, k.2) };
          sees = r.0.1;
          only = r.1.0;
          gone = r.1.1.0;
          durable = r.1.1.1;
        }) old new (ended_with (λ a b. Replaces path bytes (IsBeside path) a b × Sees (IsBeside path) a b) (λ d. HasOnly path bytes d × (IsGone (temporary_of path) d × NonePending d)) old new both facts)

-- where a directory stands at the path at first, it does when the content is published
pub still_obstructed : (path : List ℕ) → IsInDirectory path → (P Q : Type 0) → (P → Q) → (old mid : History) → Ended (Sees (λ q. q ≢ temporary_of path)) old mid
    → Now mid (λ w. is_directory (seen w.disk) path ≡ true → P) → Now old (λ w. is_directory (seen w.disk) path ≡ true → Q)
still_obstructed path inside P Q on [] mid sees there = tt
still_obstructed path inside P Q on (start ∷ past) [] sees there = absurd sees
still_obstructed path inside P Q on (start ∷ past) (end ∷ more) sees there = λ is. on (there (ap directory_test (sees.each path (λ e. temporary_apart path inside (sym e))) ∙ is))
