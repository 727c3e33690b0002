-- What all images that a crash may leave have in common, from call to call.
use Rattle.std.proofs.Common.{◌≡◌, ◌≢◌, ◌⊎◌, inl, inr, ⊎_elim, ℕ, List, [], ◌∷◌, ◌++◌, take, Some, sym, ◌∙◌, ap, subst, Result, append_assoc}
use Rattle.std.specs.List.{AllByRecursion}
use Rattle.file_model.specs.Images.{Image, Node, nothing, file, directory, node_at, bytes_of, bytes_at, text_at, Agree}
use Rattle.file_model.specs.Disk.{Disk, MayLeave, seen, Call, after}
use Rattle.file_model.specs.declared.files.Failed.{Failed}
use Rattle.file_model.specs.Kept.{Keeps, Replaces, Sees, IsSound, IsAlike, Leaves, HasOnly, IsGone, IsBeside, Replaced, WasPut}
use Rattle.file_model.specs.Histories.{World, History, Now, GoesOn, Ran, Ended}
use Rattle.file_model.specs.Paths.{temporary_of}
use Rattle.file_model.proofs.Names.{cases_path}
use Rattle.file_model.proofs.Seen.{seen_leaves}
use Rattle.file_model.proofs.Runs.{ran_call, all_append, all_weaker, told, none_added}

one_file : (n m : Node) (b : List ℕ) → bytes_of n ≡ Some b → bytes_of m ≡ Some b → n ≡ m
one_file n m b here there = shown n b here ∙ sym (shown m b there)
  where
    shown : (n : Node) (b : List ℕ) → bytes_of n ≡ Some b → n ≡ file b
    shown nothing b e = absurd (cc)
    shown directory b e = absurd (cc)
    shown (file c) b e = cc

-- one content, or nothing, in every image is the seen one
pub only_agrees : (path bytes : List ℕ) (disk : Disk) → IsSound disk → HasOnly path bytes disk → (image : Image) → MayLeave disk image → Agree path image (seen disk)
only_agrees path bytes disk sound only image left = one_file (node_at image path) (node_at (seen disk) path) bytes (only.each image left) (only.each (seen disk) (seen_leaves disk sound))

pub gone_agrees : (path : List ℕ) (disk : Disk) → IsSound disk → IsGone path disk → (image : Image) → MayLeave disk image → Agree path image (seen disk)
gone_agrees path disk sound gone image left = gone.each image left ∙ sym (gone.each (seen disk) (seen_leaves disk sound))

-- After a change that ends with one image at each path that it touched, all images are alike again.
pub alike_again : (at rest : List ℕ → Type 0) (old new : Disk) → IsAlike at old → Keeps rest old new → Sees rest old new
    → ((q : List ℕ) → at q → rest q ⊎ ((image : Image) → MayLeave new image → Agree q image (seen new))) → IsAlike at new
alike_again at rest old new alike keeps sees split = record {
  each = λ image left q own. ⊎_elim
      (λ beside. let k = keeps.each image left in k.2 q beside ∙ alike.each k.0 k.1 q own ∙ sym (sees.each q beside))
      (λ one. one image left) (split q own);
}

pub alike_replaced : (at : List ℕ → Type 0) (path bytes : List ℕ) (old new : Disk) → IsSound new → IsAlike at old → Replaced path bytes old new → IsAlike at new
alike_replaced at path bytes old new sound alike done = alike_again at (IsBeside path) old new alike done.rest done.sees (λ q own. elim (cases_path q path) [
  | inl is ↦ inr (λ image left. subst (λ p. Agree p image (seen new)) (sym is) (only_agrees path bytes new sound done.only image left))
  | inr apart ↦ elim (cases_path q (temporary_of path)) [
    | inl is ↦ inr (λ image left. subst (λ p. Agree p image (seen new)) (sym is) (gone_agrees (temporary_of path) new sound done.gone image left))
    | inr further ↦ inl (further, apart)
  ]
])

pub alike_put : (at : List ℕ → Type 0) (path : List ℕ) (place : ℕ) (bytes : List ℕ) (old new : Disk) → IsSound new → IsAlike at old → WasPut path place bytes old new → IsAlike at new
alike_put at path place bytes old new sound alike done = alike_again at (λ q. q ≢ path) old new alike done.rest done.sees (λ q own. elim (cases_path q path) [
  | inl is ↦ inr (λ image left. subst (λ p. Agree p image (seen new)) (sym is) (only_agrees path (take place (text_at (seen old) path) ++ bytes) new sound done.only image left))
  | inr apart ↦ inl apart
])

-- What every image has where it agrees with one that had it.
pub leaves_keeps : (P Q : Image → Type 0) (at : List ℕ → Type 0) → ((one other : Image) → ((q : List ℕ) → at q → Agree q one other) → P other → Q one)
    → (old new : Disk) → Leaves P old → Keeps at old new → Leaves Q new
leaves_keeps P Q at on old new was keeps = record { each = λ image left. let k = keeps.each image left in on image k.0 k.2 (was.each k.0 k.1) }

-- The image agrees with another at these paths, and at one path it agrees too or has these bytes.
pub leaves_replaces : (P Q : Image → Type 0) (at : List ℕ → Type 0) (path bytes : List ℕ)
    → ((one other : Image) → ((q : List ℕ) → at q → Agree q one other) → Agree path one other ⊎ (bytes_at one path ≡ Some bytes) → P other → Q one)
    → (old new : Disk) → Leaves P old → Replaces path bytes at old new → Leaves Q new
leaves_replaces P Q at path bytes on old new was does = record { each = λ image left. let k = does.each image left in on image k.0 k.2 k.3 (was.each k.0 k.1) }

pub leaves_alike : (at : List ℕ → Type 0) (disk : Disk) → IsAlike at disk → Leaves (λ image. (q : List ℕ) → at q → Agree q image (seen disk)) disk
leaves_alike at disk alike = record { each = λ image left q own. alike.each image left q own }

-- a call before and after which every image has something: also where it failed
pub ran_leaves : (P : Disk → Type 0) (Q : Image → Type 0) (call : Call) → ((d : Disk) → P d → Leaves Q d × Leaves Q (after call d))
    → (result : Result (Unit {0}) Failed) (old new : History) → Now old (λ w. P w.disk) → GoesOn call result old new → Ran (λ start instant. Leaves Q instant) old new
ran_leaves P Q call holds result old new now on = ran_call P (λ start instant. Leaves Q instant) call (λ d p. (holds d p).1)
    (λ d e p failed. record { each = λ image left. ⊎_elim (λ was. (holds d p).0.each image was) (λ is. (holds d p).1.each image is) (failed.each image left) }) result old new now on

-- ---- Chains

chained : (E : Disk → Type 0) (start : World) (past added more : List World) → AllByRecursion (λ w. (w.streams ≡ start.streams) × E w.disk) added
    → Now (added ++ start ∷ past) (λ mid. AllByRecursion (λ w. (w.streams ≡ mid.streams) × E w.disk) more)
    → AllByRecursion (λ w. (w.streams ≡ start.streams) × E w.disk) (more ++ added)
chained E start past [] more one two = all_append (λ w. (w.streams ≡ start.streams) × E w.disk) more [] two tt
chained E start past (mid ∷ added) more one two =
    all_append (λ w. (w.streams ≡ start.streams) × E w.disk) more (mid ∷ added) (all_weaker _ _ (λ w here. (here.0 ∙ one.0.0, here.1)) more two) one

-- two runs each of whose instants has something that doesn't speak of a start
pub ran_chain : (E : Disk → Type 0) (old mid new : History) → Ran (λ start instant. E instant) old mid → Ran (λ start instant. E instant) mid new → Ran (λ start instant. E instant) old new
ran_chain E [] mid new one two = record { added = two.added ++ one.added; whole = two.whole ∙ ap (λ h. two.added ++ h) one.whole ∙ sym (append_assoc two.added one.added []); each = none_added _ mid one.added two.added one.whole one.each two.each }
ran_chain E (start ∷ past) mid new one two = record {
  added = two.added ++ one.added;
  whole = two.whole ∙ ap (λ h. two.added ++ h) one.whole ∙ sym (append_assoc two.added one.added (start ∷ past));
  each = chained E start past one.added two.added one.each (subst (λ h. Now h (λ mid. AllByRecursion (λ w. (w.streams ≡ mid.streams) × E w.disk) two.added)) one.whole (told _ mid two.added two.each));
}

-- a fact of the start turns a run's relation into a fact of each of its instants
pub ran_from : (P : Disk → Type 0) (R : Disk → Disk → Type 0) (E : Disk → Type 0) → ((a b : Disk) → P a → R a b → E b) → (old new : History) → Now old (λ w. P w.disk) → Ran R old new
    → Ran (λ start instant. E instant) old new
ran_from P R E on [] new now ran = record { added = ran.added; whole = ran.whole; each = ran.each }
ran_from P R E on (w ∷ past) new now ran = record { added = ran.added; whole = ran.whole; each = all_weaker _ _ (λ world here. (here.0, on w.disk world.disk now here.1)) ran.added ran.each }

-- a run's end stands to its start as each of its instants does
pub ended_ran : (R S : Disk → Disk → Type 0) → ((a : Disk) → R a a) → (old new : History) → Ran R old new → Ended S old new → Ended (λ a b. R a b × S a b) old new
ended_ran R S same [] new ran ended = ended
ended_ran R S same (start ∷ past) [] ran ended = absurd ended
ended_ran R S same (start ∷ past) (end ∷ more) ran ended = (at ran.added ran.whole ran.each, ended)
  where
    at : (added : List World) → end ∷ more ≡ added ++ start ∷ past → AllByRecursion (λ w. (w.streams ≡ start.streams) × R start.disk w.disk) added → R start.disk end.disk
    at [] whole each = subst (λ h. Now h (λ w. R start.disk w.disk)) (sym whole) (same start.disk)
    at (w ∷ added) whole each = subst (λ h. Now h (λ w. R start.disk w.disk)) (sym whole) each.0.1

-- what holds at the end joins what the end is to the start
pub ended_with : (R : Disk → Disk → Type 0) (P : Disk → Type 0) → (old new : History) → Ended R old new → Now new (λ w. P w.disk) → Ended (λ a b. R a b × P b) old new
ended_with R P [] new ended now = ended
ended_with R P (start ∷ past) [] ended now = absurd ended
ended_with R P (start ∷ past) (end ∷ more) ended now = (ended, now)

pub ended_weaker : (R S : Disk → Disk → Type 0) → ((a b : Disk) → R a b → S a b) → (old new : History) → Ended R old new → Ended S old new
ended_weaker R S on [] new ended = ended
ended_weaker R S on (start ∷ past) [] ended = absurd ended
ended_weaker R S on (start ∷ past) (end ∷ more) ended = on start.disk end.disk ended

-- what holds at the start leads to what holds at the end
pub ended_reaches : (P Q : Disk → Type 0) (R : Disk → Disk → Type 0) → ((a b : Disk) → P a → R a b → Q b) → (old new : History) → Now old (λ w. P w.disk) → Ended R old new → Now new (λ w. Q w.disk)
ended_reaches P Q R on [] new now ended = subst (λ h. Now h (λ w. Q w.disk)) (sym ended) tt
ended_reaches P Q R on (a ∷ past) [] now ended = tt
ended_reaches P Q R on (a ∷ past) (b ∷ more) now ended = on a.disk b.disk now ended
