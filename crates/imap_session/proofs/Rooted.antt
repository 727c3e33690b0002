-- The root stays where a call touches neither it nor what it stands in.
use Rattle.std.proofs.Common.{ℕ, List, ◌∷◌, ◌++◌, ◌≡◌, ⊎_elim, true, false, sym, ◌∙◌, ap, append_assoc}
use Rattle.std.proofs.lemmas.Bool.{false_from_ne_true}
use Rattle.file_model.specs.Disk.{Disk, seen}
use Rattle.file_model.specs.Images.{is_directory, directory_test}
use Rattle.file_model.specs.Kept.{Sees, IsBeside}
use Rattle.file_model.specs.Paths.{child, is_at_or_inside}
use Rattle.file_model.proofs.Inside.{under_is}
use Rattle.file_model.proofs.Paths.{child_apart}
use Rattle.mail_tree.specs.Promises.{IsMadeAbove, IsMovedOrNot}
use Rattle.mail_tree.specs.Trees.{list_of}
use Rattle.mail_tree.proofs.NamesWritten.{list_temporary}
use Rattle.mail_tree.proofs.StandsOn.{beside_moves}
use Rattle.store_trait.specs.Touching.{SeesBut}

true_false : true ≡ false → ⊥
true_false e = absurd (cc)

pub root_stays : (files free : List ℕ → Type 0) (root : List ℕ) (start end : Disk) → SeesBut files free start end → (free root → ⊥) → is_directory (seen start) root ≡ true → is_directory (seen end) root ≡ true
root_stays files free root start end sees no_free stands =
    ⊎_elim (λ agree. ap directory_test agree ∙ stands) (λ other. ⊎_elim (λ file. absurd (true_false (sym stands ∙ file.2))) (λ is. absurd (no_free is)) other) (sees.each root)

-- a directory that a call makes wasn't there: it isn't the root
pub root_not_made : (root name : List ℕ) (start : Disk) → is_directory (seen start) root ≡ true → IsMadeAbove root name start root → ⊥
root_not_made root name start stands made = true_false (sym stands ∙ ap directory_test made.absent)

-- where the subscribed names change
pub root_listed : (root : List ℕ) (start end : Disk) → Sees (IsBeside (list_of root)) start end → is_directory (seen start) root ≡ true → is_directory (seen end) root ≡ true
root_listed root start end sees stands = ap directory_test (sees.each root (list_temporary root, child_apart root _)) ∙ stands

-- where a name moves
pub root_moved : (root from to : List ℕ) (start end : Disk) → IsMovedOrNot root from to start (seen start) (seen end) → is_directory (seen start) root ≡ true → is_directory (seen end) root ≡ true
root_moved root from to start end moved stands =
    ⊎_elim (λ same. ap directory_test (same root (root_not_made root to start stands)) ∙ stands)
    (λ goes. ap directory_test (goes root (root_not_made root to start stands) ∙ beside_moves (child root from) (child root to) (seen start) root (no_below to) (no_below from)) ∙ stands) moved.each
  where
    no_below : (name : List ℕ) → is_at_or_inside (child root name) root ≡ false
    no_below name = false_from_ne_true (is_at_or_inside (child root name) root) (λ is.
        let u = under_is (child root name) root is in
        child_apart root (name ++ u.rest) (u.whole ∙ append_assoc root (47 ∷ name) u.rest))
