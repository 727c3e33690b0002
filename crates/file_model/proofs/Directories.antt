-- A file that is made or removed, and the sync of its directory.
use Rattle.std.proofs.Common.{◌≡◌, ◌≢◌, inl, inr, ◌⊎◌, ℕ, List, [], ◌∷◌, true, cond, refl, sym, ◌∙◌, ap, subst, Result, OnOk}
use Rattle.std.specs.Str.{bytes_eq}
use Rattle.std.proofs.lemmas.Slice.Eq.{bytes_eq-Decides}
use Rattle.std.specs.FinMap.{get}
use Rattle.file_model.specs.Paths.{parent}
use Rattle.file_model.specs.Images.{Image, Node, a_directory, nothing, directory, node_of, node_at, is_directory, directory_test, Agree}
use Rattle.file_model.specs.declared.files.Failed.{Failed}
use Rattle.file_model.specs.Disk.{DirectoryOperation, made, made_directory, removed, done, MayStand, Disk, seen_names, seen, MayLeave, make, make_dir, remove_at, sync_dir, with_operation, names_something_in, left_pending_by, after}
use Rattle.file_model.specs.Kept.{Keeps, ChangesTo, Leaves, IsGone, NonePending, Sees}
use Rattle.file_model.specs.Histories.{History, Now, GoesOn, Ran, Ended}
use Rattle.file_model.proofs.Names.{get-insert_same, get-insert_other, get-remove_same, get-remove_other, all_may_stand}
use Rattle.file_model.proofs.Kept.{one_left}
use Rattle.file_model.proofs.Calls.{failed_keeps, failed_changes}
use Rattle.file_model.proofs.Runs.{now_all, ran_call, ok_call, ended_call}

-- ---- On disks

-- a directory operation that changes what stands at one path
changes_operation : (call : DirectoryOperation) (path : List ℕ) (node : Node) (disk : Disk) → ((q : List ℕ) → q ≢ path → get (done call (seen_names disk)) q ≡ get (seen_names disk) q)
    → ((bytes : ℕ → List ℕ) → node_of bytes (get (done call (seen_names disk)) path) ≡ node) → ChangesTo path node disk (with_operation call disk)
changes_operation call path node disk elsewhere here = record { each = λ image left. split image left left.names }
  where
    split : (image : Image) → MayLeave (with_operation call disk) image → MayStand disk.durable (call ∷ disk.pending) image.names
        → (before : Image) × MayLeave disk before × ((q : List ℕ) → q ≢ path → Agree q image before) × (Agree path image before ⊎ (node_at image path ≡ node))
    split image left (inr earlier) = (image, record { names = earlier; bytes = left.bytes }, (λ q apart. refl), inl refl)
    split image left (inl all) = (
      record { names = seen_names disk; bytes = image.bytes },
      record { names = all_may_stand disk.durable disk.pending; bytes = left.bytes },
      (λ q apart. ap (λ m. node_of image.bytes (get m q)) all ∙ ap (node_of image.bytes) (elsewhere q apart)),
      inr (ap (λ m. node_of image.bytes (get m path)) all ∙ here image.bytes),
    )

-- a removal keeps all else
pub keeps_remove : (path : List ℕ) (disk : Disk) → Keeps (λ q. q ≢ path) disk (after (remove_at path) disk)
keeps_remove path disk = record { each = λ image left. split image left left.names }
  where
    split : (image : Image) → MayLeave (after (remove_at path) disk) image → MayStand disk.durable (removed path ∷ disk.pending) image.names
        → (before : Image) × MayLeave disk before × ((q : List ℕ) → q ≢ path → Agree q image before)
    split image left (inr earlier) = (image, record { names = earlier; bytes = left.bytes }, λ q apart. refl)
    split image left (inl all) = (
      record { names = seen_names disk; bytes = image.bytes },
      record { names = all_may_stand disk.durable disk.pending; bytes = left.bytes },
      λ q apart. ap (λ m. node_of image.bytes (get m q)) all ∙ ap (node_of image.bytes) (get-remove_other (seen_names disk) path q apart),
    )

-- and nothing else comes to the path
pub changes_remove : (path : List ℕ) (disk : Disk) → ChangesTo path nothing disk (after (remove_at path) disk)
changes_remove path disk = changes_operation (removed path) path nothing disk (λ q apart. get-remove_other (seen_names disk) path q apart)
    (λ bytes. ap (node_of bytes) (get-remove_same (seen_names disk) path))

pub changes_make_dir : (path : List ℕ) (disk : Disk) → ChangesTo path directory disk (after (make_dir path) disk)
changes_make_dir path disk = changes_operation (made_directory path) path directory disk (λ q apart. get-insert_other (seen_names disk) path a_directory q apart)
    (λ bytes. ap (node_of bytes) (get-insert_same (seen_names disk) path a_directory))

pub sees_make_dir : (path : List ℕ) (disk : Disk) → Sees (λ q. q ≢ path) disk (after (make_dir path) disk)
sees_make_dir path disk = record { each = λ q apart. ap (node_of (seen disk).bytes) (get-insert_other (seen_names disk) path a_directory q apart) }

pub sees_remove : (path : List ℕ) (disk : Disk) → Sees (λ q. q ≢ path) disk (after (remove_at path) disk)
sees_remove path disk = record { each = λ q apart. ap (node_of (seen disk).bytes) (get-remove_other (seen_names disk) path q apart) }

-- the file at a path was removed, or made
pub record WasRemoved (path : List ℕ) (disk : Disk) : Type 0 where
  pub before : Disk
  pub is_after : disk ≡ after (remove_at path) before

pub record WasMade (path : List ℕ) (disk : Disk) : Type 0 where
  pub before : Disk
  pub is_after : disk ≡ after (make path) before

here : (path : List ℕ) → bytes_eq (parent path) (parent path) ≡ true
here path = (bytes_eq-Decides (parent path) (parent path)).1 refl

-- once its directory is durable, nothing stands there, whatever a crash leaves
durable_removed : (path : List ℕ) (disk : Disk) (image : Image) → MayLeave (after (sync_dir (parent path)) (after (remove_at path) disk)) image → node_at image path ≡ nothing
durable_removed path disk image left =
    ap (λ m. node_of image.bytes (get m path)) (one_left (bytes_eq (parent path) (parent path)) (removed path) disk.pending disk.durable (parent path) image.names (here path) left.names)
    ∙ ap (node_of image.bytes) (get-remove_same (seen_names disk) path)

-- and no directory operation is pending
none_left : (dir : List ℕ) (call : DirectoryOperation) (earlier : List DirectoryOperation) → names_something_in dir call ≡ true → left_pending_by dir (call ∷ earlier) ≡ []
none_left dir call earlier names = ap (λ b. cond b [] (call ∷ left_pending_by dir earlier)) names

-- a directory was made
pub record WasMadeDirectory (path : List ℕ) (disk : Disk) : Type 0 where
  pub before : Disk
  pub is_after : disk ≡ after (make_dir path) before

-- once its directory is durable, every image has it
durable_made_dir : (path : List ℕ) (disk : Disk) (image : Image) → MayLeave (after (sync_dir (parent path)) (after (make_dir path) disk)) image → is_directory image path ≡ true
durable_made_dir path disk image left =
    ap (λ m. directory_test (node_of image.bytes (get m path)))
    (one_left (bytes_eq (parent path) (parent path)) (made_directory path) disk.pending disk.durable (parent path) image.names (here path) left.names)
    ∙ ap (λ e. directory_test (node_of image.bytes e)) (get-insert_same (seen_names disk) path a_directory)

-- ---- On histories

module _ (result : Result (Unit {0}) Failed) (old new : History) (path : List ℕ) where
  any : Now old (λ w. Unit {0})
  any = now_all (λ w. Unit {0}) (λ w. tt) old

  pub ran_remove : GoesOn (remove_at path) result old new → Ran (Keeps (λ q. q ≢ path)) old new
  ran_remove on = ran_call (λ d. Unit {0}) (Keeps (λ q. q ≢ path)) (remove_at path) (λ d p. keeps_remove path d) (λ d e p. failed_keeps _ _ d e (keeps_remove path d)) result old new any on

  pub ran_changes_remove : GoesOn (remove_at path) result old new → Ran (ChangesTo path nothing) old new
  ran_changes_remove on = ran_call (λ d. Unit {0}) (ChangesTo path nothing) (remove_at path) (λ d p. changes_remove path d) (λ d e p. failed_changes path nothing _ d e (changes_remove path d)) result old new any on

  pub ran_make_dir : GoesOn (make_dir path) result old new → Ran (ChangesTo path directory) old new
  ran_make_dir on = ran_call (λ d. Unit {0}) (ChangesTo path directory) (make_dir path) (λ d p. changes_make_dir path d) (λ d e p. failed_changes path directory _ d e (changes_make_dir path d)) result old new any on

  pub sees_ok_make_dir : GoesOn (make_dir path) result old new → OnOk result (Ended (Sees (λ q. q ≢ path)) old new)
  sees_ok_make_dir on = ended_call (λ d. Unit {0}) (Sees (λ q. q ≢ path)) (make_dir path) (λ d p. sees_make_dir path d) result old new any on

  pub ok_made_dir : GoesOn (make_dir path) result old new → OnOk result (Now new (λ w. WasMadeDirectory path w.disk))
  ok_made_dir on = ok_call (λ d. Unit {0}) (WasMadeDirectory path) (make_dir path) (λ d p. record { before = d; is_after = refl }) result old new any on

  -- its directory is synced
  pub ok_durable_made_dir : Now old (λ w. WasMadeDirectory path w.disk) → GoesOn (sync_dir (parent path)) result old new
      → OnOk result (Now new (λ w. NonePending w.disk × Leaves (λ image. is_directory image path ≡ true) w.disk))
  ok_durable_made_dir now on = ok_call (WasMadeDirectory path) (λ d. NonePending d × Leaves (λ image. is_directory image path ≡ true) d) (sync_dir (parent path))
      (λ d p. subst (λ x. NonePending (after (sync_dir (parent path)) x) × Leaves (λ image. is_directory image path ≡ true) (after (sync_dir (parent path)) x)) (sym p.is_after)
      (record { none_pending = none_left (parent path) (made_directory path) p.before.pending (here path) }, record { each = durable_made_dir path p.before })) result old new now on

  pub sees_ok_remove : GoesOn (remove_at path) result old new → OnOk result (Ended (Sees (λ q. q ≢ path)) old new)
  sees_ok_remove on = ended_call (λ d. Unit {0}) (Sees (λ q. q ≢ path)) (remove_at path) (λ d p. sees_remove path d) result old new any on

  pub ok_removed : GoesOn (remove_at path) result old new → OnOk result (Now new (λ w. WasRemoved path w.disk))
  ok_removed on = ok_call (λ d. Unit {0}) (WasRemoved path) (remove_at path) (λ d p. record { before = d; is_after = refl }) result old new any on

  pub ok_made : GoesOn (make path) result old new → OnOk result (Now new (λ w. WasMade path w.disk))
  ok_made on = ok_call (λ d. Unit {0}) (WasMade path) (make path) (λ d p. record { before = d; is_after = refl }) result old new any on

  -- the directory is synced
  pub ok_gone_removed : Now old (λ w. WasRemoved path w.disk) → GoesOn (sync_dir (parent path)) result old new → OnOk result (Now new (λ w. IsGone path w.disk))
  ok_gone_removed now on = ok_call (WasRemoved path) (IsGone path) (sync_dir (parent path))
      (λ d p. subst (λ x. IsGone path (after (sync_dir (parent path)) x)) (sym p.is_after) (record { each = durable_removed path p.before })) result old new now on

  pub ok_durable_removed : Now old (λ w. WasRemoved path w.disk) → GoesOn (sync_dir (parent path)) result old new → OnOk result (Now new (λ w. NonePending w.disk))
  ok_durable_removed now on = ok_call (WasRemoved path) NonePending (sync_dir (parent path))
      (λ d p. subst (λ x. NonePending (after (sync_dir (parent path)) x)) (sym p.is_after) (record { none_pending = none_left (parent path) (removed path) p.before.pending (here path) })) result old new now on

  pub ok_durable_made : Now old (λ w. WasMade path w.disk) → GoesOn (sync_dir (parent path)) result old new → OnOk result (Now new (λ w. NonePending w.disk))
  ok_durable_made now on = ok_call (WasMade path) NonePending (sync_dir (parent path))
      (λ d p. subst (λ x. NonePending (after (sync_dir (parent path)) x)) (sym p.is_after) (record { none_pending = none_left (parent path) (made path p.before.next) p.before.pending (here path) })) result old new now on
