-- What reads see of a file is what its edits lead to.
use Rattle.std.proofs.Common.{◌≡◌, ℕ, ◌-◌, ◌≤◌, ◌==◌, ◌&&◌, List, [], ◌∷◌, ◌++◌, length, take, Bool, true, false, cond, nat_le, refl, sym, ◌∙◌, ap, arith, replicate, append-nil, Option, Some, None}
use Rattle.std.proofs.lemmas.Bool.Decides.{nat_tests}
use Rattle.std.specs.FinMap.{get}
use Rattle.file_model.specs.Images.{Entry, a_file, a_directory, node_at, node_of}
use Rattle.file_model.specs.Disk.{Disk, FileState, seen, seen_names, after, Call, make, make_dir, write_at, cut, sync, rename, remove_at, sync_dir, with_file, written, written_file, cut_file, synced_file, empty_file}
use Rattle.mem_host.specs.Events.{Event, put_directory, put_file, found, looked, did, refused, heard, hear_failed, said, say_failed}
use Rattle.mem_host.specs.Fitting.{fits, reaches, are_bytes, can_put, can_put_file}
use Rattle.mem_host.specs.Replay.{with_directory, with_resting_file, resting_file, world_after}
use Rattle.mem_host.specs.Crashes.{laid}
use Rattle.mem_host.specs.Remains.{IsTidyFile, IsTidy}
use Rattle.mem_host.specs.Soundness.{bytes_are}

either_file : (f g : FileState) (b : Bool) → IsTidyFile f → IsTidyFile g → IsTidyFile (cond b g f)
either_file f g true old new = new
either_file f g false old new = old

either_disk : (old new : Disk) (b : Bool) → IsTidy old → (b ≡ true → IsTidy new) → IsTidy (cond b new old)
either_disk old new true tidy then = then refl
either_disk old new false tidy then = tidy

-- where the file reaches the place nothing is filled up
reached : (place : ℕ) (bytes old : List ℕ) → place ≤ length old → laid place bytes old ≡ written place bytes old
reached place bytes old within = ap (written place bytes) (ap (λ n. old ++ replicate n 0) (none place (length old) within) ∙ append-nil old)
  where
    none : (k n : ℕ) → k ≤ n → k - n ≡ 0
    none k n below = omega (arith, below)

tidy_change : (change : FileState → FileState) (disk : Disk) (e : Option Entry) → ((id : ℕ) → e ≡ Some (a_file id) → IsTidyFile (change (disk.files id))) → IsTidy disk → IsTidy (with_file change e disk)
tidy_change change disk None changed tidy id = tidy id
tidy_change change disk (Some a_directory) changed tidy id = tidy id
tidy_change change disk (Some (a_file n)) changed tidy id = at (id == n) refl
  where
    same : (k m : ℕ) → (k == m) ≡ true → k ≡ m
    same k m is = grind (arith, nat_tests)

    at : (b : Bool) → (id == n) ≡ b → IsTidyFile (cond b (change (disk.files id)) (disk.files id))
    at true is = changed id (ap (λ k. Some (a_file k)) (sym (same id n is)))
    at false is = tidy id

both : (a b : Bool) → (a && b) ≡ true → (a ≡ true) × (b ≡ true)
both true b h = (refl, h)
both false b h = absurd (cc)

le_is : (k n : ℕ) → nat_le k n ≡ true → k ≤ n
le_is k n is = grind (arith, nat_tests)

pub tidy_call : (call : Call) (disk : Disk) → fits call (seen disk) ≡ true → IsTidy disk → IsTidy (after call disk)
tidy_call (make path) disk fit tidy = λ id. either_file (disk.files id) empty_file (id == disk.next) (tidy id) (record { is_seen = refl; are_bytes = tt })
tidy_call (make_dir path) disk fit tidy = tidy
tidy_call (write_at path place bytes) disk fit tidy =
    let parts = both (reaches place (node_at (seen disk) path)) (are_bytes bytes) fit in
    tidy_change (written_file place bytes) disk (get (seen_names disk) path) (λ id is. record {
      is_seen = sym (reached place bytes (disk.files id).seen (le_is place (length (disk.files id).seen) (sym (ap (λ e. reaches place (node_of (seen disk).bytes e)) is) ∙ parts.0))) ∙ ap (laid place bytes) (tidy id).is_seen;
      are_bytes = (bytes_are bytes parts.1, (tidy id).are_bytes);
    }) tidy
tidy_call (cut path l) disk fit tidy = tidy_change (cut_file l) disk (get (seen_names disk) path) (λ id is. record { is_seen = ap (take l) (tidy id).is_seen; are_bytes = (tt, (tidy id).are_bytes) }) tidy
tidy_call (sync path) disk fit tidy = tidy_change synced_file disk (get (seen_names disk) path) (λ id is. record { is_seen = refl; are_bytes = tt }) tidy
tidy_call (rename from to) disk fit tidy = tidy
tidy_call (remove_at path) disk fit tidy = tidy
tidy_call (sync_dir dir) disk fit tidy = tidy

tidy_next : (event : Event) (earlier : List Event) → IsTidy (world_after earlier).disk → IsTidy (world_after (event ∷ earlier)).disk
tidy_next (put_directory path) earlier tidy = either_disk (world_after earlier).disk (with_directory path (world_after earlier).disk) (can_put (seen (world_after earlier).disk) path) tidy (λ is id. tidy id)
tidy_next (put_file path bytes) earlier tidy = let disk = (world_after earlier).disk in
    either_disk disk (with_resting_file path bytes disk) (can_put_file (seen disk) path bytes) tidy (λ is id. either_file (disk.files id) (resting_file bytes) (id == disk.next) (tidy id) (record { is_seen = refl; are_bytes = tt }))
tidy_next (found bytes) earlier tidy = tidy
tidy_next looked earlier tidy = tidy
tidy_next (did call) earlier tidy = let disk = (world_after earlier).disk in either_disk disk (after call disk) (fits call (seen disk)) tidy (λ is. tidy_call call disk is tidy)
tidy_next (refused call) earlier tidy = tidy
tidy_next (heard room piece) earlier tidy = tidy
tidy_next hear_failed earlier tidy = tidy
tidy_next (said bytes) earlier tidy = tidy
tidy_next (say_failed bytes n) earlier tidy = tidy

pub tidy_after : (events : List Event) → IsTidy (world_after events).disk
tidy_after [] = λ id. record { is_seen = refl; are_bytes = tt }
tidy_after (event ∷ earlier) = tidy_next event earlier (tidy_after earlier)
