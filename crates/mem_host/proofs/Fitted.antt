-- What fits passes the tests of a host in memory.
use Rattle.std.proofs.Common.{◌≡◌, ◌⊎◌, inl, inr, ⊎_elim, ℕ, ◌<◌, ◌≤◌, List, [], ◌∷◌, length, Bool, true, false, not, cond, ◌&&◌, ◌||◌, nat_le, nat_lt, refl, ◌∙◌, ap, arith, suc}
use Rattle.std.proofs.lemmas.Bool.Decides.{nat_tests}
use Rattle.file_model.specs.Paths.{parent, last_part, is_top, is_inside}
use Rattle.file_model.specs.Reserved.{is_reserved_name}
use Rattle.file_model.specs.Images.{Image, Node, nothing, file, directory, node_at, is_directory, directory_test, names_in}
use Rattle.file_model.specs.Kinds.{IsFile, IsFree, CanMake, CanMakeDirectory, CanMove, Fits}
use Rattle.file_model.specs.Disk.{Disk, AreBytes, seen, Call, make, make_dir, write_at, cut, sync, rename, remove_at, sync_dir, after}
use Rattle.mem_host.specs.Fitting.{reaches, is_nothing, is_empty, are_bytes, has_room, is_free, is_free_for_directory, moves_file, moves_directory, fits, can_put}
use Rattle.mem_host.specs.Replay.{after_fitting, with_put_directory, with_put_file, with_directory, with_resting_file}

pub both_hold : (a b : Bool) → a ≡ true → b ≡ true → (a && b) ≡ true
both_hold true b one other = other
both_hold false b one other = absurd (cc)

one_holds : (a b : Bool) → a ≡ true → (a || b) ≡ true
one_holds true b one = refl
one_holds false b one = absurd (cc)

other_holds : (a b : Bool) → b ≡ true → (a || b) ≡ true
other_holds true b other = refl
other_holds false b other = other

pub negated : (b : Bool) → b ≡ false → not b ≡ true
negated b is = ap not is

is_le : (k n : ℕ) → k ≤ n → nat_le k n ≡ true
is_le k n is = grind (arith, nat_tests)

is_lt : (k n : ℕ) → k < n → nat_lt k n ≡ true
is_lt k n is = grind (arith, nat_tests)

pub file_reaches : (image : Image) (path : List ℕ) (place : ℕ) → IsFile image path place → reaches place (node_at image path) ≡ true
file_reaches image path place is = ap (reaches place) is.1 ∙ is_le place (length is.0) is.2

pub all_bytes : (bytes : List ℕ) → AreBytes bytes → are_bytes bytes ≡ true
all_bytes [] are = refl
all_bytes (b ∷ bytes) are = both_hold (nat_lt b 256) (are_bytes bytes) (is_lt b 256 (are 0 (omega arith))) (all_bytes bytes (λ k below. are (suc k) (omega (arith, below))))

room_holds : (image : Image) (path : List ℕ) → is_directory image (parent path) ≡ true → is_top path ≡ false → has_room image path ≡ true
room_holds image path room below = both_hold (is_directory image (parent path)) (not (is_top path)) room (negated (is_top path) below)

free_holds : (image : Image) (path : List ℕ) → IsFree image path → is_free image path ≡ true
free_holds image path free = both_hold (is_nothing (node_at image path)) (has_room image path) (ap is_nothing free.nothing_there) (room_holds image path free.room free.below)

directory_holds : (image : Image) (path : List ℕ) → CanMakeDirectory image path → is_free_for_directory image path ≡ true
directory_holds image path can = both_hold (is_free image path) (not (is_reserved_name (last_part path))) (free_holds image path can.free) (negated (is_reserved_name (last_part path)) can.name)

pub fits_holds : (call : Call) (image : Image) → Fits call image → fits call image ≡ true
fits_holds (make path) image is = free_holds image path is
fits_holds (make_dir path) image is = directory_holds image path is
fits_holds (write_at path place bytes) image is = both_hold (reaches place (node_at image path)) (are_bytes bytes) (file_reaches image path place is.0) (all_bytes bytes is.1)
fits_holds (cut path l) image is = file_reaches image path l is
fits_holds (sync path) image is = file_reaches image path 0 is
fits_holds (rename from to) image (inl is) = one_holds (moves_file image from to) (moves_directory image from to) (both_hold (reaches 0 (node_at image from)) (not (is_directory image to) && has_room image to)
    (file_reaches image from 0 is.0.is_file) (both_hold (not (is_directory image to)) (has_room image to) (negated (is_directory image to) is.1) (room_holds image to is.0.room is.0.below)))
fits_holds (rename from to) image (inr is) = other_holds (moves_file image from to) (moves_directory image from to) (both_hold (is_directory image from) (is_free_for_directory image to && not (is_inside from to))
    is.is_there (both_hold (is_free_for_directory image to) (not (is_inside from to)) (directory_holds image to is.target) (negated (is_inside from to) is.outside)))
fits_holds (remove_at path) image (inl is) = one_holds (reaches 0 (node_at image path)) (is_directory image path && is_empty (names_in image path)) (file_reaches image path 0 is)
fits_holds (remove_at path) image (inr is) = other_holds (reaches 0 (node_at image path)) (is_directory image path && is_empty (names_in image path))
    (both_hold (is_directory image path) (is_empty (names_in image path)) is.is_there (ap is_empty is.empty))
fits_holds (sync_dir dir) image is = is

-- a call that fits is done
pub done_is : (call : Call) (disk : Disk) → Fits call (seen disk) → after_fitting call disk ≡ after call disk
done_is call disk is = ap (λ b. cond b (after call disk) disk) (fits_holds call (seen disk) is)

pub put_directory_is : (path : List ℕ) (disk : Disk) → can_put (seen disk) path ≡ true → with_put_directory path disk ≡ with_directory path disk
put_directory_is path disk is = ap (λ b. cond b (with_directory path disk) disk) is

pub put_file_is : (path bytes : List ℕ) (disk : Disk) → can_put (seen disk) path ≡ true → is_directory (seen disk) path ≡ false → AreBytes bytes → with_put_file path bytes disk ≡ with_resting_file path bytes disk
put_file_is path bytes disk room none are = ap (λ b. cond b (with_resting_file path bytes disk) disk)
    (both_hold (can_put (seen disk) path) (not (is_directory (seen disk) path) && are_bytes bytes) room (both_hold (not (is_directory (seen disk) path)) (are_bytes bytes) (negated (is_directory (seen disk) path) none) (all_bytes bytes are)))

-- what may be moved can, where no directory stands there
pub move_fits : (from to : List ℕ) (image : Image) → CanMove image from to → is_directory image to ≡ false → Fits (rename from to) image
move_fits from to image (inl can) none = inl (can, none)
move_fits from to image (inr can) none = inr can

pub make_fits : (image : Image) (path : List ℕ) → is_directory image path ≡ false → CanMake image path → Fits (make path) image
make_fits image path none can = record { nothing_there = at (node_at image path) none can.no_file; room = can.room; below = can.below }
  where
    some : (bytes : List ℕ) → file bytes ≡ nothing → ⊥
    some bytes h = cc

    apart : (bytes : List ℕ) → file bytes ≡ directory → ⊥
    apart bytes h = cc

    differ : true ≡ false → ⊥
    differ h = cc

    at : (node : Node) → directory_test node ≡ false → (node ≡ nothing) ⊎ (node ≡ directory) → node ≡ nothing
    at nothing e free = refl
    at (file bytes) e free = ⊎_elim (λ h. absurd (some bytes h)) (λ h. absurd (apart bytes h)) free
    at directory e free = absurd (differ e)
