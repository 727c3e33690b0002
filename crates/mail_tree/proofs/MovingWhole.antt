-- What stands at a path is moved to another, and both directories are synced.
use Rattle.std.proofs.Common.{◌≡◌, ◌≢◌, inl, inr, ⊎_elim, ℕ, List, [], ◌∷◌, ◌++◌, drop, length, true, false, cond, refl, ◌∙◌, ap, arith, length-append, Result, OnOk}
use Rattle.std.proofs.lemmas.Bool.{false_from_ne_true}
use Rattle.file_model.specs.declared.files.Failed.{Failed}
use Rattle.file_model.specs.Disk.{Disk, seen, after, rename, sync_dir, left_pending_by}
use Rattle.file_model.specs.Histories.{History, Now, GoesOn, Ran, Ended}
use Rattle.file_model.specs.Images.{Image, node_at, nothing, is_directory, directory_test}
use Rattle.file_model.specs.Kept.{IsSound, NonePending, MovesWhole, SeesMoved, moved_node}
use Rattle.file_model.specs.Paths.{split_path, parent, is_top, is_at_or_inside}
use Rattle.file_model.proofs.Calls.{ran_keeps, ran_sync_dir, sees_ok_sync_dir}
use Rattle.file_model.proofs.Inside.{under_is, under_up, named, not_both}
use Rattle.file_model.proofs.MovedFile.{moves_whole_file, sees_moved_file}
use Rattle.file_model.proofs.Renamed.{moves_whole, sees_moved, failed_moves}
use Rattle.file_model.proofs.Runs.{ran_call, ran_then, ok_call, ended_call, now_both}
use Rattle.file_model.proofs.Seen.{directory_on}
use Rattle.mail_tree.specs.Renaming.{CanMoveWhole, KeepsAll, SeesAll}
use Rattle.mail_tree.proofs.Joined.{ended_two, ended_gives}

-- ---- Paths

top_is : is_top [] ≡ true
unfolding split_path
top_is = refl

some_path : (path : List ℕ) → is_top path ≡ false → path ≢ []
some_path path below none = not_both (is_top path) (ap is_top none ∙ top_is) below

-- a directory isn't in what stands in it
up_beside : (path : List ℕ) → is_top path ≡ false → is_at_or_inside path (parent path) ≡ false
up_beside path below = false_from_ne_true (is_at_or_inside path (parent path)) (λ is.
    let u = under_is path (parent path) is in
    let w = named path below in
    absurd (omega (arith, ap length w.whole, length-append (parent path) (47 ∷ w.name), ap length u.whole, length-append path u.rest)))

-- nor in what that isn't in
up_outside : (dir path : List ℕ) → is_top path ≡ false → is_at_or_inside dir path ≡ false → is_at_or_inside dir (parent path) ≡ false
up_outside dir path below outside = false_from_ne_true (is_at_or_inside dir (parent path)) (λ is. not_both (is_at_or_inside dir path) (under_up dir path below is) outside)

-- what is beside both paths stays
pub stays : (from to : List ℕ) (image : Image) (q : List ℕ) → is_at_or_inside to q ≡ false → is_at_or_inside from q ≡ false → moved_node from to image q ≡ node_at image q
stays from to image q one two =
    ap (λ b. cond b (node_at image (from ++ drop (length to) q)) (cond (is_at_or_inside from q) nothing (node_at image q))) one ∙ ap (λ b. cond b nothing (node_at image q)) two

-- ---- The syncs

pub sync_kept : (result : Result (Unit {0}) Failed) (old new : History) (dir : List ℕ) → GoesOn (sync_dir dir) result old new → Ran KeepsAll old new
sync_kept result old new dir on = ran_sync_dir result old new dir (λ (q : List ℕ). Unit {0}) on

pub sync_sees : (result : Result (Unit {0}) Failed) (old new : History) (dir : List ℕ) → Now old (λ w. IsSound w.disk) → GoesOn (sync_dir dir) result old new → OnOk result (Ended SeesAll old new)
sync_sees result old new dir sound on = sees_ok_sync_dir result old new dir (λ (q : List ℕ). Unit {0}) sound on

pub syncs_kept : (old mid new : History) → Ran KeepsAll old mid → Ran KeepsAll mid new → Ran KeepsAll old new
syncs_kept old mid new one two = ran_keeps (λ (q : List ℕ). Unit {0}) old mid new one two

pub syncs_see : (old mid new : History) → Now old (λ w. IsSound w.disk) → Now mid (λ w. IsSound w.disk) → Ended SeesAll old mid → Ended SeesAll mid new → Ended SeesAll old new
syncs_see old mid new sound sound_mid one two =
    ended_two IsSound IsSound SeesAll SeesAll SeesAll (λ a b c p m r s. record { each = λ q here. s.each q here ∙ r.each q here }) old mid new sound sound_mid one two

pub directory_stays : (old new : History) (path : List ℕ) → Ended SeesAll old new → Now old (λ w. is_directory (seen w.disk) path ≡ true) → Now new (λ w. is_directory (seen w.disk) path ≡ true)
directory_stays old new path sees stands = directory_on (λ (q : List ℕ). Unit {0}) path tt old new sees stands

-- nothing comes to be pending by a sync
pub sync_settled : (result : Result (Unit {0}) Failed) (old new : History) (dir : List ℕ) → Now old (λ w. NonePending w.disk) → GoesOn (sync_dir dir) result old new → OnOk result (Now new (λ w. NonePending w.disk))
sync_settled result old new dir none on = ok_call NonePending NonePending (sync_dir dir) (λ d p. record { none_pending = ap (left_pending_by dir) p.none_pending }) result old new none on

-- ---- The move

-- it can be made on a disk
abbrev IsMovable : List ℕ → List ℕ → Disk → Type 0
IsMovable from to disk = IsSound disk × CanMoveWhole from to (seen disk)

module _ (from to : List ℕ) (below : is_top from ≡ false) (under : is_top to ≡ false) where
  whole : (d : Disk) → IsMovable from to d → MovesWhole from to d (after (rename from to) d)
  whole d p = ⊎_elim (λ can. moves_whole_file from to (some_path from below) d p.0 can p.1.free) (λ can. moves_whole from to d p.0 can) p.1.can

  moved : (d : Disk) → IsMovable from to d → SeesMoved from to d (after (rename from to) d)
  moved d p = ⊎_elim (λ can. sees_moved_file from to (some_path from below) d p.0 can p.1.free) (λ can. sees_moved from to d p.0 can) p.1.can

  -- the two directories stand afterwards
  left_stands : (a b : Disk) → IsMovable from to a → SeesMoved from to a b → is_directory (seen b) (parent from) ≡ true
  left_stands a b p s = ap directory_test (s.each (parent from) ∙ stays from to (seen a) (parent from) (up_outside to from below p.1.beside) (up_beside from below)) ∙ p.1.room

  room_stands : (a b : Disk) → IsMovable from to a → SeesMoved from to a b → is_directory (seen b) (parent to) ≡ true
  room_stands a b p s = ap directory_test (s.each (parent to) ∙ stays from to (seen a) (parent to) (up_beside to under) (up_outside from to under p.1.outside))
      ∙ ⊎_elim (λ can. can.room) (λ can. can.target.free.room) p.1.can

  moves_none : (a : Disk) → MovesWhole from to a a
  moves_none a = record { each = λ image left. (image, left, inl (λ path. refl)) }

  moves_kept : (a b c : Disk) → MovesWhole from to a b → KeepsAll b c → MovesWhole from to a c
  moves_kept a b c moves keeps = record {
    each = λ image left.
        let mid = keeps.each image left in
        let start = moves.each mid.0 mid.1 in
        (start.0, start.1, ⊎_elim (λ same. inl (λ path. mid.2 path tt ∙ same path)) (λ is. inr (λ path. mid.2 path tt ∙ is path)) start.2);
  }

  module _ (old : History) (can : Now old (λ w. CanMoveWhole from to (seen w.disk))) (sound : Now old (λ w. IsSound w.disk)) where
    movable : Now old (λ w. IsMovable from to w.disk)
    movable = now_both (λ w. IsSound w.disk) (λ w. CanMoveWhole from to (seen w.disk)) old sound can

    pub rename_kept : (result : Result (Unit {0}) Failed) (new : History) → GoesOn (rename from to) result old new → Ran (MovesWhole from to) old new
    rename_kept result new on = ran_call (IsMovable from to) (MovesWhole from to) (rename from to) whole (λ d e p. failed_moves from to (rename from to) d e (whole d p)) result old new movable on

    pub rename_sees : (result : Result (Unit {0}) Failed) (new : History) → GoesOn (rename from to) result old new → OnOk result (Ended (SeesMoved from to) old new)
    rename_sees result new on = ended_call (IsMovable from to) (SeesMoved from to) (rename from to) moved result old new movable on

    pub left_room : (new : History) → Ended (SeesMoved from to) old new → Now new (λ w. is_directory (seen w.disk) (parent from) ≡ true)
    left_room new ended = ended_gives (IsMovable from to) (λ d. is_directory (seen d) (parent from) ≡ true) (SeesMoved from to) left_stands old new movable ended

    pub new_room : (new : History) → Ended (SeesMoved from to) old new → Now new (λ w. is_directory (seen w.disk) (parent to) ≡ true)
    new_room new ended = ended_gives (IsMovable from to) (λ d. is_directory (seen d) (parent to) ≡ true) (SeesMoved from to) room_stands old new movable ended

    pub move_kept : (mid new : History) → Ran (MovesWhole from to) old mid → Ran KeepsAll mid new → Ran (MovesWhole from to) old new
    move_kept mid new one two = ran_then {R = MovesWhole from to} {S = KeepsAll} {T = MovesWhole from to} moves_none (λ a b r. r) moves_kept old mid new one two

    pub move_sees : (mid new : History) → Now mid (λ w. IsSound w.disk) → Ended (SeesMoved from to) old mid → Ended SeesAll mid new → Ended (SeesMoved from to) old new
    move_sees mid new sound_mid one two =
        ended_two IsSound IsSound (SeesMoved from to) SeesAll (SeesMoved from to) (λ a b c p m r s. record { each = λ q. s.each q tt ∙ r.each q }) old mid new sound sound_mid one two
