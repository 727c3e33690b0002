-- A directory that is moved with all that is in it, and the sync of its new directory.
use Rattle.std.proofs.Common.{◌≡◌, ◌⊎◌, inl, inr, ⊎_elim, ℕ, List, [], ◌∷◌, ◌++◌, ◌||◌, drop, length, Bool, true, false, cond, Option, Some, None, refl, sym, ◌∙◌, ap, subst, Result, OnOk}
use Rattle.std.specs.Str.{bytes_eq}
use Rattle.std.proofs.lemmas.Slice.Eq.{bytes_eq-Decides}
use Rattle.std.specs.FinMap.{get}
use Rattle.file_model.specs.Paths.{parent, is_at_or_inside}
use Rattle.file_model.specs.Images.{Image, Entry, a_file, a_directory, Names, node_of, node_at, nothing, Agree}
use Rattle.file_model.specs.Kinds.{CanMoveDirectory}
use Rattle.file_model.specs.declared.files.Failed.{Failed}
use Rattle.file_model.specs.Disk.{moved_directory, done, MayStand, Disk, seen_names, seen, MayLeave, Call, rename, sync_dir, renamed, names_something_in, left_pending_by, after, AfterFailed}
use Rattle.file_model.specs.Kept.{IsSound, NonePending, moved_node, MovesWhole, SeesMoved}
use Rattle.file_model.specs.Histories.{History, Now, GoesOn, Ran, Ended}
use Rattle.file_model.proofs.Names.{all_may_stand}
use Rattle.file_model.proofs.Moved.{Apart, get_moved}
use Rattle.file_model.proofs.Sound.{directory_entry, free_apart}
use Rattle.file_model.proofs.Runs.{now_all, ran_call, ok_call, ended_call}

-- ---- On disks

-- what stands after the move, of the names that were seen
node_moved : (from to : List ℕ) (apart : Apart from to) (names : Names) (bytes : ℕ → List ℕ) (path : List ℕ)
    → node_of bytes (get (done (moved_directory from to) names) path) ≡ moved_node from to (record { names = names; bytes = bytes }) path
node_moved from to apart names bytes path = ap (node_of bytes) (get_moved from to apart names path) ∙ at (is_at_or_inside to path) (is_at_or_inside from path)
  where
    at : (b c : Bool) → node_of bytes (cond b (get names (from ++ drop (length to) path)) (cond c None (get names path)))
        ≡ cond b (node_of bytes (get names (from ++ drop (length to) path))) (cond c nothing (node_of bytes (get names path)))
    at true c = refl
    at false true = refl
    at false false = refl

module _ (from to : List ℕ) (disk : Disk) (sound : IsSound disk) (can : CanMoveDirectory (seen disk) from to) where
  stands : get (seen_names disk) from ≡ Some a_directory
  stands = directory_entry (seen disk).bytes (get (seen_names disk) from) can.is_there

  pub moves_whole : MovesWhole from to disk (after (rename from to) disk)
  moves_whole = record { each = λ image left. split image left (subst (λ e. MayStand disk.durable (renamed from to e ∷ disk.pending) image.names) stands left.names) }
    where
      split : (image : Image) → MayLeave (after (rename from to) disk) image → MayStand disk.durable (moved_directory from to ∷ disk.pending) image.names
          → (before : Image) × MayLeave disk before × (((path : List ℕ) → Agree path image before) ⊎ ((path : List ℕ) → node_at image path ≡ moved_node from to before path))
      split image left (inr earlier) = (image, record { names = earlier; bytes = left.bytes }, inl (λ path. refl))
      split image left (inl all) = (
        record { names = seen_names disk; bytes = image.bytes },
        record { names = all_may_stand disk.durable disk.pending; bytes = left.bytes },
        inr (λ path. ap (λ m. node_of image.bytes (get m path)) all ∙ node_moved from to (free_apart disk from to sound can) (seen_names disk) image.bytes path),
      )

  pub sees_moved : SeesMoved from to disk (after (rename from to) disk)
  sees_moved = record {
    each = λ path.
        ap (λ e. node_of (seen disk).bytes (get (done (renamed from to e) (seen_names disk)) path)) stands
        ∙ node_moved from to (free_apart disk from to sound can) (seen_names disk) (seen disk).bytes path;
  }

pub failed_moves : (from to : List ℕ) (call : Call) (d e : Disk) → MovesWhole from to d (after call d) → AfterFailed call d e → MovesWhole from to d e
failed_moves from to call d e moves failed = record { each = λ image left. ⊎_elim (λ was. (image, was, inl (λ path. refl))) (λ is. moves.each image is) (failed.each image left) }

-- something was renamed
pub record WasRenamed (from to : List ℕ) (disk : Disk) : Type 0 where
  pub before : Disk
  pub is_after : disk ≡ after (rename from to) before

or_true : (a b : Bool) → b ≡ true → (a || b) ≡ true
or_true true b e = refl
or_true false b e = e

-- what is named last stands in its directory
renamed_here : (from to : List ℕ) (e : Option Entry) → names_something_in (parent to) (renamed from to e) ≡ true
renamed_here from to None = or_true (bytes_eq (parent to) (parent from)) (bytes_eq (parent to) (parent to)) ((bytes_eq-Decides (parent to) (parent to)).1 refl)
renamed_here from to (Some a_directory) = or_true (bytes_eq (parent to) (parent from)) (bytes_eq (parent to) (parent to)) ((bytes_eq-Decides (parent to) (parent to)).1 refl)
renamed_here from to (Some (a_file id)) = or_true (bytes_eq (parent to) (parent from)) (bytes_eq (parent to) (parent to)) ((bytes_eq-Decides (parent to) (parent to)).1 refl)

-- ---- On histories

-- a directory can be moved on this disk
abbrev IsMovable : List ℕ → List ℕ → Disk → Type 0
IsMovable from to disk = IsSound disk × CanMoveDirectory (seen disk) from to

module _ (result : Result (Unit {0}) Failed) (old new : History) (from to : List ℕ) where
  pub ran_move_directory : Now old (λ w. IsSound w.disk × CanMoveDirectory (seen w.disk) from to) → GoesOn (rename from to) result old new → Ran (MovesWhole from to) old new
  ran_move_directory now on = ran_call (IsMovable from to) (MovesWhole from to) (rename from to) (λ d p. moves_whole from to d p.0 p.1) (λ d e p. failed_moves from to (rename from to) d e (moves_whole from to d p.0 p.1)) result old new now on

  pub sees_ok_move_directory : Now old (λ w. IsSound w.disk × CanMoveDirectory (seen w.disk) from to) → GoesOn (rename from to) result old new → OnOk result (Ended (SeesMoved from to) old new)
  sees_ok_move_directory now on = ended_call (IsMovable from to) (SeesMoved from to) (rename from to) (λ d p. sees_moved from to d p.0 p.1) result old new now on

  pub ok_renamed : GoesOn (rename from to) result old new → OnOk result (Now new (λ w. WasRenamed from to w.disk))
  ok_renamed on = ok_call (λ d. Unit {0}) (WasRenamed from to) (rename from to) (λ d p. record { before = d; is_after = refl }) result old new (now_all (λ w. Unit {0}) (λ w. tt) old) on

  -- once its new directory is synced nothing is pending
  pub ok_durable_renamed : Now old (λ w. WasRenamed from to w.disk) → GoesOn (sync_dir (parent to)) result old new → OnOk result (Now new (λ w. NonePending w.disk))
  ok_durable_renamed now on = ok_call (WasRenamed from to) NonePending (sync_dir (parent to))
      (λ d p. subst (λ x. NonePending (after (sync_dir (parent to)) x)) (sym p.is_after) (record {
        none_pending = ap (λ b. cond b [] (renamed from to (get (seen_names p.before) from) ∷ left_pending_by (parent to) p.before.pending)) (renamed_here from to (get (seen_names p.before) from));
      })) result old new now on
