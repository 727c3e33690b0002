-- Every history of a host in memory is sound.
use Rattle.std.specs.Prelude.{◌≡◌, ◌⊎◌, ℕ, ◌+◌, ◌<◌, ◌≤◌, ◌==◌, nat_le, nat_lt, length, slice_index, List, [], ◌∷◌, Bool, true, false, not, ◌&&◌, ◌||◌, cond, Some, None, refl}
use Rattle.std.proofs.Common.{suc, zero, sym, ◌∙◌, ap, subst, inl, inr, ⊎_elim, arith}
use Rattle.std.proofs.lemmas.Bool.Decides.{nat_tests}
use Rattle.std.specs.FinMap.{get, insert, get-empty}
use Rattle.file_model.specs.Paths.{parent, last_part, is_top, is_inside}
use Rattle.file_model.specs.Reserved.{is_reserved_name}
use Rattle.file_model.specs.Images.{Image, Node, nothing, file, directory, Entry, Names, a_file, a_directory, path_cmp, node_at, is_directory, names_in}
use Rattle.file_model.specs.Kinds.{IsFree, CanMakeDirectory, CanMoveFile, CanMoveDirectory, Fits}
use Rattle.file_model.specs.Disk.{Disk, FileState, AreBytes, IsPossible, seen, seen_names, Call, make, make_dir, write_at, cut, sync, rename, remove_at, sync_dir, after}
use Rattle.file_model.specs.Kept.{IsSound}
use Rattle.file_model.specs.Histories.{World, History, Now}
use Rattle.file_model.proofs.Sound.{directory_entry, no_directory, seen_orderly, sound_after}
use Rattle.file_model.proofs.Inside.{not_both}
use Rattle.file_model.proofs.Orderly.{Orderly, orderly_file, orderly_directory}
use Rattle.mem_host.specs.Events.{Event, put_directory, put_file, found, looked, did, refused, heard, hear_failed, said, say_failed}
use Rattle.mem_host.specs.Fitting.{reaches, is_nothing, is_empty, are_bytes, has_room, is_free, is_free_for_directory, moves_file, moves_directory, fits, can_put, can_put_file}
use Rattle.mem_host.specs.Replay.{empty_disk, resting_file, with_directory, with_resting_file, after_fitting, instants, pushed, replay}
use Rattle.mem_host.specs.State.{State, history_of}

-- ---- What the tests say

both : (a b : Bool) → (a && b) ≡ true → (a ≡ true) × (b ≡ true)
both true b h = (refl, h)
both false b h = absurd (cc)

either : (a b : Bool) → (a || b) ≡ true → (a ≡ true) ⊎ (b ≡ true)
either true b h = inl refl
either false b h = inr h

opposite : (b : Bool) → not b ≡ true → b ≡ false
opposite true h = absurd (cc)
opposite false h = refl

le_is : (k n : ℕ) → nat_le k n ≡ true → k ≤ n
le_is k n is = grind (arith, nat_tests)

lt_is : (k n : ℕ) → nat_lt k n ≡ true → k < n
lt_is k n is = grind (arith, nat_tests)

nothing_is : (node : Node) → is_nothing node ≡ true → node ≡ nothing
nothing_is nothing is = refl
nothing_is (file bytes) is = absurd (cc)
nothing_is directory is = absurd (cc)

reaches_is : (place : ℕ) (node : Node) → reaches place node ≡ true → (bytes : List ℕ) × (node ≡ file bytes) × (place ≤ length bytes)
reaches_is place nothing is = absurd (cc)
reaches_is place (file bytes) is = (bytes, refl, le_is place (length bytes) is)
reaches_is place directory is = absurd (cc)

empty_is : (names : List (List ℕ)) → is_empty names ≡ true → names ≡ []
empty_is [] is = refl
empty_is (n ∷ names) is = absurd (cc)

pub bytes_are : (bytes : List ℕ) → are_bytes bytes ≡ true → AreBytes bytes
bytes_are [] is k below = absurd (omega arith)
bytes_are (b ∷ bytes) is k below = let parts = both (nat_lt b 256) (are_bytes bytes) is in at k below parts.0 (bytes_are bytes parts.1)
  where
    at : (k : ℕ) → k < length (b ∷ bytes) → nat_lt b 256 ≡ true → AreBytes bytes → slice_index (b ∷ bytes) k < 256
    at zero below first rest = lt_is b 256 first
    at (suc k) below first rest = rest k (omega (arith, below))

room_is : (image : Image) (path : List ℕ) → has_room image path ≡ true → (is_directory image (parent path) ≡ true) × (is_top path ≡ false)
room_is image path is = let parts = both (is_directory image (parent path)) (not (is_top path)) is in (parts.0, opposite (is_top path) parts.1)

free_is : (image : Image) (path : List ℕ) → is_free image path ≡ true → IsFree image path
free_is image path is =
    let parts = both (is_nothing (node_at image path)) (has_room image path) is in
    let room = room_is image path parts.1 in
    record { nothing_there = nothing_is (node_at image path) parts.0; room = room.0; below = room.1 }

free_for_directory_is : (image : Image) (path : List ℕ) → is_free_for_directory image path ≡ true → CanMakeDirectory image path
free_for_directory_is image path is =
    let parts = both (is_free image path) (not (is_reserved_name (last_part path))) is in
    record { free = free_is image path parts.0; name = opposite (is_reserved_name (last_part path)) parts.1 }

moves_file_is : (image : Image) (from to : List ℕ) → moves_file image from to ≡ true → CanMoveFile image from to × (is_directory image to ≡ false)
moves_file_is image from to is =
    let parts = both (reaches 0 (node_at image from)) (not (is_directory image to) && has_room image to) is in
    let more = both (not (is_directory image to)) (has_room image to) parts.1 in
    let room = room_is image to more.1 in
    let none = opposite (is_directory image to) more.0 in
    (record { is_file = reaches_is 0 (node_at image from) parts.0; target = λ there. absurd (not_both (is_directory image to) there none); room = room.0; below = room.1 }, none)

moves_directory_is : (image : Image) (from to : List ℕ) → moves_directory image from to ≡ true → CanMoveDirectory image from to
moves_directory_is image from to is =
    let parts = both (is_directory image from) (is_free_for_directory image to && not (is_inside from to)) is in
    let more = both (is_free_for_directory image to) (not (is_inside from to)) parts.1 in
    record { is_there = parts.0; target = free_for_directory_is image to more.0; outside = opposite (is_inside from to) more.1 }

fits_is : (call : Call) (image : Image) → fits call image ≡ true → Fits call image
fits_is (make path) image is = free_is image path is
fits_is (make_dir path) image is = free_for_directory_is image path is
fits_is (write_at path place bytes) image is =
    let parts = both (reaches place (node_at image path)) (are_bytes bytes) is in
    let there = reaches_is place (node_at image path) parts.0 in
    (there, bytes_are bytes parts.1)
fits_is (cut path l) image is = reaches_is l (node_at image path) is
fits_is (sync path) image is = reaches_is 0 (node_at image path) is
fits_is (rename from to) image is = ⊎_elim (λ file. inl (moves_file_is image from to file)) (λ dir. inr (moves_directory_is image from to dir)) (either (moves_file image from to) (moves_directory image from to) is)
fits_is (remove_at path) image is = ⊎_elim
    (λ file. inl (reaches_is 0 (node_at image path) file))
    (λ dir. let parts = both (is_directory image path) (is_empty (names_in image path)) dir in inr (record { is_there = parts.0; empty = empty_is (names_in image path) parts.1 }))
    (either (reaches 0 (node_at image path)) (is_directory image path && is_empty (names_in image path)) is)
fits_is (sync_dir dir) image is = is

-- ---- Disks

sound_empty : IsSound empty_disk
sound_empty = record {
  fresh = λ names may path id there. absurd (nothing_there names may path (a_file id) there);
  alone = λ names may path other id there also. absurd (nothing_there names may path (a_file id) there);
  rooted = λ names may path e there below. absurd (nothing_there names may path e there);
  possible = λ id. refl;
  are_bytes = λ id k below. absurd (omega arith);
}
  where
    none_some : (e : Entry) → None ≡ Some e → ⊥
    none_some e h = cc

    nothing_there : (names : Names) → names ≡ empty_disk.durable → (path : List ℕ) (e : Entry) → get names path ≡ Some e → ⊥
    nothing_there names may path e there = none_some e (sym (get-empty path_cmp path) ∙ ap (λ m. get m path) (sym may) ∙ there)

-- a disk all of whose names are durable
at_rest : (disk : Disk) (names : Names) (next : ℕ) (files : ℕ → FileState) → Orderly next names → ((id : ℕ) → IsPossible (files id).durable (files id).edits (files id).seen) → ((id : ℕ) → AreBytes (files id).durable)
    → IsSound (record { durable = names; pending = []; files = files; next = next })
at_rest disk names next files o possible bytes = record {
  fresh = λ other may. subst (λ n. (path : List ℕ) (id : ℕ) → get n path ≡ Some (a_file id) → id < next) (sym may) o.fresh;
  alone = λ other may. (subst (Orderly next) (sym may) o).alone;
  rooted = λ other may. (subst (Orderly next) (sym may) o).rooted;
  possible = possible;
  are_bytes = bytes;
}

put_room : (disk : Disk) (path : List ℕ) → can_put (seen disk) path ≡ true → is_top path ≡ false → get (seen_names disk) (parent path) ≡ Some a_directory
put_room disk path is below = ⊎_elim (λ top. absurd (not_both (is_top path) top below)) (λ room. directory_entry (seen disk).bytes (get (seen_names disk) (parent path)) room)
    (either (is_top path) (is_directory (seen disk) (parent path)) is)

sound_directory : (path : List ℕ) (disk : Disk) → can_put (seen disk) path ≡ true → IsSound disk → IsSound (with_directory path disk)
sound_directory path disk is sound =
    at_rest disk (insert (seen_names disk) path a_directory) disk.next disk.files (orderly_directory disk.next (seen_names disk) path (put_room disk path is) (seen_orderly disk sound)) sound.possible sound.are_bytes

either_file : (P : FileState → Type 0) (f g : FileState) (b : Bool) → P f → P g → P (cond b g f)
either_file P f g true old new = new
either_file P f g false old new = old

sound_file : (path bytes : List ℕ) (disk : Disk) → can_put_file (seen disk) path bytes ≡ true → IsSound disk → IsSound (with_resting_file path bytes disk)
sound_file path bytes disk is sound =
    let parts = both (can_put (seen disk) path) (not (is_directory (seen disk) path) && are_bytes bytes) is in
    let more = both (not (is_directory (seen disk) path)) (are_bytes bytes) parts.1 in
    at_rest disk (insert (seen_names disk) path (a_file disk.next)) (disk.next + 1) (λ n. cond (n == disk.next) (resting_file bytes) (disk.files n))
    (orderly_file disk.next (seen_names disk) path (put_room disk path parts.0) (no_directory (seen disk).bytes (get (seen_names disk) path) (opposite (is_directory (seen disk) path) more.0)) (seen_orderly disk sound))
    (λ n. either_file (λ f. IsPossible f.durable f.edits f.seen) (disk.files n) (resting_file bytes) (n == disk.next) (sound.possible n) refl)
    (λ n. either_file (λ f. AreBytes f.durable) (disk.files n) (resting_file bytes) (n == disk.next) (sound.are_bytes n) (bytes_are bytes more.1))

sound_where : (test : Bool) (disk changed : Disk) → IsSound disk → (test ≡ true → IsSound changed) → IsSound (cond test changed disk)
sound_where true disk changed sound then = then refl
sound_where false disk changed sound then = sound

pub sound_call : (call : Call) (disk : Disk) → IsSound disk → IsSound (after_fitting call disk)
sound_call call disk sound = sound_where (fits call (seen disk)) disk (after call disk) sound (λ is. sound_after call disk (fits_is call (seen disk) is) sound)

abbrev pub IsSoundNow : History → Type 0
IsSoundNow history = Now history (λ world. IsSound world.disk)

sound_instants : (event : Event) (world : World) (past : History) → IsSound world.disk → IsSoundNow (instants event world past)
sound_instants (put_directory path) world past sound = sound_where (can_put (seen world.disk) path) world.disk (with_directory path world.disk) sound (λ is. sound_directory path world.disk is sound)
sound_instants (put_file path bytes) world past sound = sound_where (can_put_file (seen world.disk) path bytes) world.disk (with_resting_file path bytes world.disk) sound (λ is. sound_file path bytes world.disk is sound)
sound_instants (found bytes) world past sound = sound
sound_instants looked world past sound = sound
sound_instants (did call) world past sound = sound_call call world.disk sound
sound_instants (refused call) world past sound = sound
sound_instants (heard room piece) world past sound = sound
sound_instants hear_failed world past sound = sound
sound_instants (said bytes) world past sound = sound
sound_instants (say_failed bytes n) world past sound = sound

sound_pushed : (event : Event) (history : History) → IsSoundNow history → IsSoundNow (pushed event history)
sound_pushed event [] now = tt
sound_pushed event (world ∷ past) now = sound_instants event world past now

pub sound_replayed : (events : List Event) → IsSoundNow (replay events)
sound_replayed [] = sound_empty
sound_replayed (event ∷ earlier) = sound_pushed event (replay earlier) (sound_replayed earlier)

pub sound_state : (state : State) → Now (history_of state) (λ world. IsSound world.disk)
sound_state state = sound_replayed state.events
