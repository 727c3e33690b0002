-- One directory is made, and the directory above it synced.
use Rattle.std.proofs.Common.{◌≡◌, ◌≢◌, List, [], ◌∷◌, ℕ, true, false, refl, ◌∙◌, ap, Ok}
use Rattle.file_model.specs.Disk.{seen, make_dir, sync_dir}
use Rattle.file_model.specs.Histories.{History, Now, GoesOn, Ended}
use Rattle.file_model.specs.Images.{Node, nothing, file, directory, directory_test, node_at, is_directory}
use Rattle.file_model.specs.Kept.{IsSound, Sees, NonePending, Leaves, MadeDirectory}
use Rattle.file_model.specs.Kinds.{CanMakeDirectory}
use Rattle.file_model.specs.Paths.{parent, is_top}
use Rattle.file_model.proofs.Directories.{sees_ok_make_dir, ok_made_dir, ok_durable_made_dir}
use Rattle.file_model.proofs.Calls.{sees_ok_sync_dir}
use Rattle.file_model.proofs.Inside.{in_directory}
use Rattle.file_model.proofs.Paths.{parent_apart}
use Rattle.file_model.proofs.Leaving.{ended_reaches}
use Rattle.file_model.proofs.Runs.{now_both, ended_two}
use Rattle.file_model.proofs.Seen.{seen_leaves}

pub directory_of : (node : Node) → directory_test node ≡ true → node ≡ directory
directory_of nothing is = absurd (cc)
directory_of (file bytes) is = absurd (cc)
directory_of directory is = refl

module _ (path : List ℕ) (old mid new : History) (below : is_top path ≡ false) (can : Now old (λ w. CanMakeDirectory (seen w.disk) path)) (made : GoesOn (make_dir path) (Ok tt) old mid) where
  -- the directory above it can be synced
  pub room_stays : Now mid (λ w. is_directory (seen w.disk) (parent path) ≡ true)
  room_stays = ended_reaches (λ d. CanMakeDirectory (seen d) path) (λ d. is_directory (seen d) (parent path) ≡ true) (Sees (λ q. q ≢ path))
      (λ a b now same. ap directory_test (same.each (parent path) (parent_apart path (in_directory path below))) ∙ now.free.room) old mid can (sees_ok_make_dir (Ok tt) old mid path made)

  module _ (synced : GoesOn (sync_dir (parent path)) (Ok tt) mid new) (sound_mid : Now mid (λ w. IsSound w.disk)) (sound_new : Now new (λ w. IsSound w.disk)) where
    durable_now : Now new (λ w. NonePending w.disk × Leaves (λ image. is_directory image path ≡ true) w.disk)
    durable_now = ok_durable_made_dir (Ok tt) mid new path (ok_made_dir (Ok tt) old mid path made) synced

    pub made_one : Ended (λ start end. MadeDirectory path (seen start) (seen end)) old new
    made_one = with_end old new
        (ended_two (λ d. CanMakeDirectory (seen d) path) IsSound (Sees (λ q. q ≢ path)) (Sees (λ q. q ≢ path)) (λ a c. (node_at (seen a) path ≡ nothing) × Sees (λ q. q ≢ path) a c)
        (λ a b c now sound one two. (now.free.nothing_there, record { each = λ q apart. two.each q apart ∙ one.each q apart })) old mid new can sound_mid (sees_ok_make_dir (Ok tt) old mid path made)
        (sees_ok_sync_dir (Ok tt) mid new (parent path) (λ q. q ≢ path) sound_mid synced))
        (now_both (λ w. NonePending w.disk × Leaves (λ image. is_directory image path ≡ true) w.disk) (λ w. IsSound w.disk) new durable_now sound_new)
      where
        with_end : (old new : History) → Ended (λ a c. (node_at (seen a) path ≡ nothing) × Sees (λ q. q ≢ path) a c) old new → Now new (λ w. (NonePending w.disk × Leaves (λ image. is_directory image path ≡ true) w.disk) × IsSound w.disk)
            → Ended (λ start end. MadeDirectory path (seen start) (seen end)) old new
        with_end [] new ended now = ended
        with_end (a ∷ past) [] ended now = ended
        with_end (a ∷ past) (b ∷ more) ended now = record {
          was = ended.0;
          is = directory_of (node_at (seen b.disk) path) (now.0.1.each (seen b.disk) (seen_leaves b.disk now.1));
          rest = ended.1.each;
        }
