-- Each call that fits leads from a sound disk to a sound one.
use Rattle.std.proofs.Common.{◌≡◌, ◌⊎◌, inl, inr, ⊎_elim, ℕ, ◌+◌, ◌-◌, ◌<◌, ◌≤◌, min, List, [], ◌∷◌, ◌++◌, length, take, drop, get_or, Bool, true, false, cond, Option, Some, None, refl, sym, ◌∙◌, ap, subst, arith, ◌==◌, ◌||◌, length-append, length-take, length-drop, get_or-take}
use Rattle.std.proofs.Math.ListN.{get_or-append}
use Rattle.std.proofs.Math.Seq.{get_or-append_right}
use Rattle.std.proofs.lemmas.List.{get_or-drop}
use Rattle.std.specs.Str.{bytes_eq}
use Rattle.std.proofs.lemmas.Slice.Eq.{bytes_eq-Decides}
use Rattle.std.proofs.lemmas.Bool.{cases_Bool}
use Rattle.std.specs.FinMap.{get}
use Rattle.file_model.specs.Paths.{split_path, parent, is_top, is_inside, is_at_or_inside}
use Rattle.file_model.specs.Images.{Entry, a_file, a_directory, Names, nothing, file, node_of, directory_test}
use Rattle.file_model.specs.Kinds.{IsFile, CanMoveDirectory, IsEmptyDirectory, Fits}
use Rattle.file_model.specs.Disk.{AreBytes, FileState, IsPossible, Torn, DirectoryOperation, made, made_directory, moved_file, moved_directory, removed, done, MayStand, Disk, seen_names, seen, Call, make, make_dir, write_at, cut, sync, rename, remove_at, sync_dir, with_file, with_operation, renamed, written, written_file, cut_file, synced_file, empty_file, after}
use Rattle.file_model.specs.Kept.{IsSound}
use Rattle.file_model.proofs.Bytes.{bytes_written, bytes_possible}
use Rattle.file_model.proofs.Inside.{inside_is, not_both}
use Rattle.file_model.proofs.Moved.{Apart}
use Rattle.file_model.proofs.Names.{all_may_stand, stood_before}
use Rattle.file_model.proofs.NamesIn.{empty_childless}
use Rattle.file_model.proofs.Orderly.{Orderly, Childless, file_childless, orderly_file, orderly_directory, orderly_remove, orderly_moved_file, above_stands, orderly_moved}

-- ---- What a node says of its entry

pub no_entry : (bytes : ℕ → List ℕ) (e : Option Entry) → node_of bytes e ≡ nothing → e ≡ None
no_entry bytes None is = refl
no_entry bytes (Some a_directory) is = absurd (cc)
no_entry bytes (Some (a_file id)) is = absurd (cc)

pub directory_entry : (bytes : ℕ → List ℕ) (e : Option Entry) → directory_test (node_of bytes e) ≡ true → e ≡ Some a_directory
directory_entry bytes None is = absurd (cc)
directory_entry bytes (Some a_directory) is = refl
directory_entry bytes (Some (a_file id)) is = absurd (cc)

pub file_at : (bytes : ℕ → List ℕ) (e : Option Entry) (b : List ℕ) → node_of bytes e ≡ file b → (id : ℕ) × (e ≡ Some (a_file id))
file_at bytes None b is = absurd (cc)
file_at bytes (Some a_directory) b is = absurd (cc)
file_at bytes (Some (a_file id)) b is = (id, refl)

pub no_directory : (bytes : ℕ → List ℕ) (e : Option Entry) → directory_test (node_of bytes e) ≡ false → e ≡ Some a_directory → ⊥
no_directory bytes e is same = not_both (directory_test (node_of bytes e)) (ap (λ x. directory_test (node_of bytes x)) same) is

-- ---- The bytes of files

length_written : (place : ℕ) (bytes old : List ℕ) → length (written place bytes old) ≡ min place (length old) + length bytes + (length old - (place + length bytes))
length_written place bytes old =
    length-append (take place old ++ bytes) (drop (place + length bytes) old)
    ∙ ap (λ n. n + length (drop (place + length bytes) old)) (length-append (take place old) bytes ∙ ap (λ n. n + length bytes) (length-take place old))
    ∙ ap (λ n. min place (length old) + length bytes + n) (length-drop (place + length bytes) old)

-- what a write may leave holds what it wrote
pub torn_written : (place : ℕ) (bytes old : List ℕ) → AreBytes bytes → Torn place (length bytes) old (written place bytes old)
torn_written place bytes old all = record {
  any = bytes_written place bytes old all;
  same = λ k below apart. ⊎_elim (early k below) (late k below) apart;
  no_shorter = omega (arith, length_written place bytes old);
  no_longer = omega (arith, length_written place bytes old);
}
  where
    front : length (take place old) ≡ min place (length old)
    front = length-take place old

    early : (k : ℕ) → k < length old → k < place → get_or (written place bytes old) k 0 ≡ get_or old k 0
    early k below l =
        get_or-append (take place old ++ bytes) (drop (place + length bytes) old) 0 k (omega (arith, front, length-append (take place old) bytes))
        ∙ get_or-append (take place old) bytes 0 k (omega (arith, front))
        ∙ get_or-take place old k 0 l

    late : (k : ℕ) → k < length old → place + length bytes ≤ k → get_or (written place bytes old) k 0 ≡ get_or old k 0
    late k below l =
        let long : length (take place old ++ bytes) ≡ place + length bytes = omega (arith, front, length-append (take place old) bytes) in
        get_or-append_right (take place old ++ bytes) (drop (place + length bytes) old) k 0 (omega (arith, long))
        ∙ get_or-drop (place + length bytes) old (k - length (take place old ++ bytes)) 0
        ∙ ap (λ n. get_or old n 0) (omega (arith, long))

edited_possible : (f g : FileState) (b : Bool) → IsPossible f.durable f.edits f.seen → IsPossible g.durable g.edits g.seen → IsPossible (cond b g f).durable (cond b g f).edits (cond b g f).seen
edited_possible f g true old new = new
edited_possible f g false old new = old

edited_bytes : (f g : FileState) (b : Bool) → AreBytes f.durable → AreBytes g.durable → AreBytes (cond b g f).durable
edited_bytes f g true old new = new
edited_bytes f g false old new = old

-- a file's content is possible, and has bytes
record IsWell (f : FileState) : Type 0 where
  possible : IsPossible f.durable f.edits f.seen
  bytes : AreBytes f.durable

changed_sound : (change : FileState → FileState) → ((f : FileState) → IsWell f → IsWell (change f)) → (e : Option Entry) (disk : Disk) → IsSound disk → IsSound (with_file change e disk)
changed_sound change keeps None disk sound = sound
changed_sound change keeps (Some a_directory) disk sound = sound
changed_sound change keeps (Some (a_file id)) disk sound = record {
  fresh = sound.fresh;
  alone = sound.alone;
  rooted = sound.rooted;
  possible = λ n. edited_possible (disk.files n) (change (disk.files n)) (n == id) (sound.possible n) (keeps (disk.files n) (well n)).possible;
  are_bytes = λ n. edited_bytes (disk.files n) (change (disk.files n)) (n == id) (sound.are_bytes n) (keeps (disk.files n) (well n)).bytes;
}
  where
    well : (n : ℕ) → IsWell (disk.files n)
    well n = record { possible = sound.possible n; bytes = sound.are_bytes n }

-- ---- The names

pub names_orderly : (disk : Disk) → IsSound disk → (names : Names) → MayStand disk.durable disk.pending names → Orderly disk.next names
names_orderly disk sound names may = record { fresh = sound.fresh names may; alone = sound.alone names may; rooted = sound.rooted names may }

pub seen_orderly : (disk : Disk) → IsSound disk → Orderly disk.next (seen_names disk)
seen_orderly disk sound = names_orderly disk sound (seen_names disk) (all_may_stand disk.durable disk.pending)

operation_sound : (call : DirectoryOperation) (disk : Disk) → Orderly disk.next (done call (seen_names disk)) → IsSound disk → IsSound (with_operation call disk)
operation_sound call disk new sound = record {
  fresh = λ names may. (all names may).fresh;
  alone = λ names may. (all names may).alone;
  rooted = λ names may. (all names may).rooted;
  possible = sound.possible;
  are_bytes = sound.are_bytes;
}
  where
    all : (names : Names) → MayStand disk.durable (call ∷ disk.pending) names → Orderly disk.next names
    all names (inl last) = subst (Orderly disk.next) (sym last) new
    all names (inr earlier) = names_orderly disk sound names earlier

-- where nothing stands, nothing stands inside
pub free_apart : (disk : Disk) (from to : List ℕ) → IsSound disk → CanMoveDirectory (seen disk) from to → Apart from to
unfolding split_path
free_apart disk from to sound can = (neither from to (bytes_eq-Decides from to).0 can.outside, neither to from (λ same. sym ((bytes_eq-Decides to from).0 same)) none_inside)
  where
    from_stands : get (seen_names disk) from ≡ Some a_directory
    from_stands = directory_entry (seen disk).bytes (get (seen_names disk) from) can.is_there

    to_free : get (seen_names disk) to ≡ None
    to_free = no_entry (seen disk).bytes (get (seen_names disk) to) can.target.free.nothing_there

    different : Some a_directory ≡ None → ⊥
    different e = cc

    neither : (one other : List ℕ) → (bytes_eq one other ≡ true → from ≡ to) → is_inside one other ≡ false → is_at_or_inside one other ≡ false
    neither one other same outside = at (bytes_eq one other) refl
      where
        at : (b : Bool) → bytes_eq one other ≡ b → (b || is_inside one other) ≡ false
        at false apart = outside
        at true is = absurd (different (sym from_stands ∙ ap (get (seen_names disk)) (same is) ∙ to_free))

    none_inside : is_inside to from ≡ false
    none_inside = ⊎_elim (λ is. absurd (inside is)) (λ fails. fails) (cases_Bool (is_inside to from))
      where
        inside : is_inside to from ≡ true → ⊥
        inside is =
            let w = inside_is to from is in
            different (sym (above_stands w.0 (seen_names disk) to w.0 a_directory (omega arith) (λ none. top none) (seen_orderly disk sound).rooted (ap (get (seen_names disk)) (sym w.1) ∙ from_stands)) ∙ to_free)
          where
            top : to ≡ [] → ⊥
            top none = not_both (is_top to) (ap is_top none) can.target.free.below

renamed_sound : (from to : List ℕ) (disk : Disk) (e : Option Entry) → get (seen_names disk) from ≡ e → Fits (rename from to) (seen disk) → IsSound disk → IsSound (with_operation (renamed from to e) disk)
renamed_sound from to disk e is (inl can) sound =
    let stands = file_at (seen disk).bytes (get (seen_names disk) from) can.0.is_file.0 can.0.is_file.1 in
    subst (λ x. IsSound (with_operation (renamed from to x) disk)) (sym stands.1 ∙ is) (operation_sound (moved_file from to stands.0) disk
    (orderly_moved_file disk.next (seen_names disk) from to stands.0 stands.1 (no_directory (seen disk).bytes (get (seen_names disk) to) can.1)
    (directory_entry (seen disk).bytes (get (seen_names disk) (parent to)) can.0.room) (seen_orderly disk sound)) sound)
renamed_sound from to disk e is (inr can) sound =
    let stands = directory_entry (seen disk).bytes (get (seen_names disk) from) can.is_there in
    subst (λ x. IsSound (with_operation (renamed from to x) disk)) (sym stands ∙ is) (operation_sound (moved_directory from to) disk
    (orderly_moved disk.next (seen_names disk) from to (free_apart disk from to sound can) (seen_orderly disk sound) stands
    (directory_entry (seen disk).bytes (get (seen_names disk) (parent to)) can.target.free.room) can.target.free.below) sound)

pub sound_after : (call : Call) (disk : Disk) → Fits call (seen disk) → IsSound disk → IsSound (after call disk)
sound_after (make path) disk fits sound = record {
  fresh = λ names may. (all names may).fresh;
  alone = λ names may. (all names may).alone;
  rooted = λ names may. (all names may).rooted;
  possible = λ n. edited_possible (disk.files n) empty_file (n == disk.next) (sound.possible n) refl;
  are_bytes = λ n. edited_bytes (disk.files n) empty_file (n == disk.next) (sound.are_bytes n) (λ k below. absurd (omega arith));
}
  where
    more : (names : Names) → Orderly disk.next names → Orderly (disk.next + 1) names
    more names o = record { fresh = λ q id there. let below = o.fresh q id there in omega arith; alone = o.alone; rooted = o.rooted }

    all : (names : Names) → MayStand disk.durable (made path disk.next ∷ disk.pending) names → Orderly (disk.next + 1) names
    all names (inr earlier) = more names (names_orderly disk sound names earlier)
    all names (inl last) = subst (Orderly (disk.next + 1)) (sym last) (orderly_file disk.next (seen_names disk) path
        (λ below. directory_entry (seen disk).bytes (get (seen_names disk) (parent path)) fits.room)
        (no_directory (seen disk).bytes (get (seen_names disk) path) (ap directory_test fits.nothing_there)) (seen_orderly disk sound))
sound_after (make_dir path) disk fits sound = operation_sound (made_directory path) disk
    (orderly_directory disk.next (seen_names disk) path (λ below. directory_entry (seen disk).bytes (get (seen_names disk) (parent path)) fits.free.room) (seen_orderly disk sound)) sound
sound_after (write_at path place bytes) disk fits sound = changed_sound (written_file place bytes) (λ f well. record { possible = (f.seen, well.possible, torn_written place bytes f.seen fits.1); bytes = well.bytes }) (get (seen_names disk) path) disk sound
sound_after (cut path l) disk fits sound = changed_sound (cut_file l) (λ f well. record { possible = (f.seen, well.possible, inr refl); bytes = well.bytes }) (get (seen_names disk) path) disk sound
sound_after (sync path) disk fits sound = changed_sound synced_file (λ f well. record { possible = refl; bytes = bytes_possible f.durable f.edits f.seen well.bytes well.possible }) (get (seen_names disk) path) disk sound
sound_after (rename from to) disk fits sound = renamed_sound from to disk (get (seen_names disk) from) refl fits sound
sound_after (remove_at path) disk fits sound = operation_sound (removed path) disk (orderly_remove disk.next (seen_names disk) path (empty fits) (seen_orderly disk sound)) sound
  where
    empty : IsFile (seen disk) path 0 ⊎ IsEmptyDirectory (seen disk) path → Childless (seen_names disk) path
    empty (inl is) = let stands = file_at (seen disk).bytes (get (seen_names disk) path) is.0 is.1 in file_childless (seen_names disk) path stands.0 stands.1 (seen_orderly disk sound).rooted
    empty (inr is) = empty_childless (seen disk) path is.empty
sound_after (sync_dir dir) disk fits sound = record {
  fresh = λ names may. sound.fresh names (stood_before dir disk.durable disk.pending names may);
  alone = λ names may. sound.alone names (stood_before dir disk.durable disk.pending names may);
  rooted = λ names may. sound.rooted names (stood_before dir disk.durable disk.pending names may);
  possible = sound.possible;
  are_bytes = sound.are_bytes;
}
