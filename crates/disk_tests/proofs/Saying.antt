-- A run on files, and then a reply.
use Rattle.std.proofs.Common.{◌≡◌, ◌⊎◌, inl, inr, ℕ, List, [], ◌∷◌, ◌++◌, sym, ◌∙◌, ap, subst, length, take, Result, Ok, Err}
use Rattle.std.specs.List.{AllByRecursion}
use Rattle.file_model.specs.declared.files.Failed.{Failed}
use Rattle.file_model.specs.Disk.{Disk}
use Rattle.file_model.specs.Histories.{World, History, Now, Ran, Ended, Passed, Says, saying}
use Rattle.file_model.specs.Kept.{IsAlike, IsSound, Replaced}
use Rattle.file_model.specs.Arrived.{Arrived, HasSaid}
use Rattle.file_model.proofs.Leaving.{alike_replaced}
use Rattle.file_model.proofs.Passes.{arrived_say, arrived_then, ran_arrived}
use Rattle.file_model.proofs.Runs.{ran_ended}

-- what is said was said, or the disk has P
abbrev pub Told : (Disk → Type 0) → World → World → Type 0
Told P start world = (world.streams.said ≡ start.streams.said) ⊎ P world.disk

files_say_nothing : (R : Disk → Disk → Type 0) (P : Disk → Type 0) (start : World) (added : List World)
    → AllByRecursion (λ w. (w.streams ≡ start.streams) × R start.disk w.disk) added → AllByRecursion (Told P start) added
files_say_nothing R P start [] all = tt
files_say_nothing R P start (w ∷ added) all = (inl (ap (λ s. s.said) all.0.0), files_say_nothing R P start added all.1)

pub ran_says_nothing : (R : Disk → Disk → Type 0) (P : Disk → Type 0) (old new : History) → Ran R old new → Passed (Told P) old new
ran_says_nothing R P [] new ran = record { added = ran.added; whole = ran.whole; each = ran.each }
ran_says_nothing R P (start ∷ past) new ran = record { added = ran.added; whole = ran.whole; each = files_say_nothing R P start ran.added ran.each }

two_more : (P : Disk → Type 0) (x y start : World) (past mid new : History) → P x.disk → P y.disk → Passed (Told P) (start ∷ past) mid → new ≡ x ∷ y ∷ mid → Passed (Told P) (start ∷ past) new
two_more P x y start past mid new px py run is = record { added = x ∷ y ∷ run.added; whole = is ∙ ap (λ h. x ∷ y ∷ h) run.whole; each = (inr px, (inr py, run.each)) }

untold : (w : World) (past added : History) → w ∷ past ≡ added ++ [] → added ≡ [] → ⊥
untold w past added whole none = cc

-- a reply that follows when the disk has P
pub reply_follows : (R : Disk → Disk → Type 0) (P : Disk → Type 0) (reply : List ℕ) (result : Result (Unit {0}) Failed) (old mid new : History)
    → Ran R old mid → Now mid (λ w. P w.disk) → Says reply result mid new → Passed (Told P) old new
reply_follows R P reply result old [] new ran has says = ran_says_nothing R P old new (subst (Ran R old) (sym says) ran)
reply_follows R P reply result [] (w ∷ past) new ran has says = absurd (untold w past ran.added ran.whole ran.each)
reply_follows R P reply (Ok u) (start ∷ before) (w ∷ past) new ran has says =
    two_more P (saying w reply (length (w.streams.said ++ reply))) (saying w reply (length w.streams.said)) start before (w ∷ past) new has has (ran_says_nothing R P (start ∷ before) (w ∷ past) ran) says
reply_follows R P reply (Err e) (start ∷ before) (w ∷ past) new ran has says =
    two_more P (saying w (take says.0 reply) (length (w.streams.said ++ take says.0 reply))) (saying w reply (length w.streams.said)) start before (w ∷ past) new has has (ran_says_nothing R P (start ∷ before) (w ∷ past) ran) says.1

-- what the disk has it has after a reply
pub has_after_reply : (P : Disk → Type 0) (reply : List ℕ) (u : Unit {0}) (mid new : History) → Now mid (λ w. P w.disk) → Says reply (Ok u) mid new → Now new (λ w. P w.disk)
has_after_reply P reply u [] new has says = subst (λ h. Now h (λ w. P w.disk)) (sym says) tt
has_after_reply P reply u (w ∷ past) new has says = subst (λ h. Now h (λ v. P v.disk)) (sym says) has

-- a run on files, and then a reply
pub said_after_files : (reply : List ℕ) (u : Unit {0}) (old mid new : History) → Ran (λ start instant. Unit {0}) old mid → Says reply (Ok u) mid new
    → Arrived (λ start end. end.streams.said ≡ start.streams.said ++ reply) old new
said_after_files reply u old mid new ran says =
    arrived_then (λ a b. (b.streams ≡ a.streams) × Unit {0}) (HasSaid reply) (λ a c. c.streams.said ≡ a.streams.said ++ reply)
    (λ a b c quiet said. said.said ∙ ap (λ s. s.said ++ reply) quiet.0) old mid new
    (ran_arrived (λ start instant. Unit {0}) (λ start end. Unit {0}) old mid ran (ran_ended (λ start instant. Unit {0}) (λ d. tt) old mid ran))
    (arrived_say reply u mid new says)

-- a replaced file and a reply leave the paths alike that were
pub alike_after_reply : (at : List ℕ → Type 0) (path bytes reply : List ℕ) (old mid new : History)
    → Now old (λ w. IsAlike at w.disk) → Ended (Replaced path bytes) old mid → Now mid (λ w. IsSound w.disk) → Says reply (Ok tt) mid new → Now new (λ w. IsAlike at w.disk)
alike_after_reply at path bytes reply old [] new alike done sound says = subst (λ h. Now h (λ w. IsAlike at w.disk)) (sym says) tt
alike_after_reply at path bytes reply [] (w ∷ past) new alike done sound says = absurd (some done)
  where
    some : w ∷ past ≡ [] → ⊥
    some e = cc
alike_after_reply at path bytes reply (start ∷ before) (w ∷ past) new alike done sound says =
    subst (λ h. Now h (λ v. IsAlike at v.disk)) (sym says) (alike_replaced at path bytes start.disk w.disk sound alike done)
