-- Calls on files make and take away no directory.
use Rattle.std.proofs.Common.{◌≡◌, ℕ, Bool, true, false, List, [], ◌∷◌, refl, sym, ◌∙◌, ap, subst, inl, inr, ⊎_elim, Option, Some, None, Result}
use Rattle.std.specs.Prelude.{IsErr}
use Rattle.std.specs.FinMap.{get, insert, remove}
use Rattle.file_model.specs.declared.files.Failed.{Failed}
use Rattle.file_model.specs.Disk.{Disk, FileState, Call, make, write_at, cut, sync, rename, remove_at, sync_dir, DirectoryOperation, made, moved_file, removed, renamed, done, MayStand, AfterFailed, after, with_file, written_file, cut_file, synced_file, seen, seen_names}
use Rattle.file_model.specs.Histories.{History, Now, GoesOn, Ran}
use Rattle.file_model.specs.Images.{Entry, a_file, a_directory, Names, node_of, is_directory, directory_test}
use Rattle.file_model.specs.Kept.{IsSound, IsWritten, HasDirectories, KeepsDirectories}
use Rattle.file_model.proofs.Names.{cases_path, get-insert_same, get-insert_other, get-remove_same, get-remove_other, all_may_stand, stood_before}
use Rattle.file_model.proofs.Runs.{ran_call, ran_then, ran_none}

-- ---- Names of directories

abbrev pub entry_test : Option Entry → Bool
entry_test None = false
entry_test (Some (a_file id)) = false
entry_test (Some a_directory) = true

pub node_test : (bytes : ℕ → List ℕ) (e : Option Entry) → directory_test (node_of bytes e) ≡ entry_test e
node_test bytes None = refl
node_test bytes (Some (a_file id)) = refl
node_test bytes (Some a_directory) = refl

-- what names a crash may leave, of a sound disk
names_have : (at : List ℕ → Bool) (disk : Disk) → IsSound disk → HasDirectories at disk → (names : Names) → MayStand disk.durable disk.pending names → (q : List ℕ) → entry_test (get names q) ≡ at q
names_have at disk sound has names stand q =
    sym (node_test (λ id. (disk.files id).seen) (get names q))
    ∙ has.each (record { names = names; bytes = λ id. (disk.files id).seen }) (record { names = stand; bytes = sound.possible }) q

-- an operation that puts no directory anywhere and takes none away
module _ (at : List ℕ → Bool) (disk : Disk) (sound : IsSound disk) (has : HasDirectories at disk) where
  seen_have : (q : List ℕ) → entry_test (get (seen_names disk) q) ≡ at q
  seen_have = names_have at disk sound has (seen_names disk) (all_may_stand disk.durable disk.pending)

  operation_has : (call : DirectoryOperation) → ((q : List ℕ) → entry_test (get (done call (seen_names disk)) q) ≡ entry_test (get (seen_names disk) q))
      → (names : Names) → MayStand disk.durable (call ∷ disk.pending) names → (q : List ℕ) → entry_test (get names q) ≡ at q
  operation_has call same names (inl is) q = ap (λ n. entry_test (get n q)) is ∙ same q ∙ seen_have q
  operation_has call same names (inr stand) q = names_have at disk sound has names stand q

of_names : (at : List ℕ → Bool) (disk : Disk) → ((names : Names) → MayStand disk.durable disk.pending names → (q : List ℕ) → entry_test (get names q) ≡ at q) → HasDirectories at disk
of_names at disk each = record { each = λ image left q. node_test image.bytes (get image.names q) ∙ each image.names left.names q }

-- ---- Each call on files

test_of : (disk : Disk) (path : List ℕ) → is_directory (seen disk) path ≡ false → entry_test (get (seen_names disk) path) ≡ false
test_of disk path none = sym (node_test (seen disk).bytes (get (seen_names disk) path)) ∙ none

pub make_keeps : (path : List ℕ) (disk : Disk) → IsSound disk → is_directory (seen disk) path ≡ false → KeepsDirectories disk (after (make path) disk)
make_keeps path disk sound none = record { each = λ at has. of_names at (after (make path) disk) (operation_has at disk sound has (made path disk.next) same) }
  where
    same : (q : List ℕ) → entry_test (get (insert (seen_names disk) path (a_file disk.next)) q) ≡ entry_test (get (seen_names disk) q)
    same q = ⊎_elim
        (λ here. ap (λ p. entry_test (get (insert (seen_names disk) path (a_file disk.next)) p)) here ∙ ap entry_test (get-insert_same (seen_names disk) path (a_file disk.next))
        ∙ sym (ap (λ p. entry_test (get (seen_names disk) p)) here ∙ test_of disk path none))
        (λ apart. ap entry_test (get-insert_other (seen_names disk) path (a_file disk.next) q apart))
        (cases_path q path)

pub move_keeps : (from to : List ℕ) (disk : Disk) (id : ℕ) → IsSound disk → get (seen_names disk) from ≡ Some (a_file id) → is_directory (seen disk) to ≡ false → KeepsDirectories disk (after (rename from to) disk)
move_keeps from to disk id sound stands none = record {
  each = λ at has. of_names at (after (rename from to) disk) (subst (λ e. (names : Names) → MayStand disk.durable (renamed from to e ∷ disk.pending) names → (q : List ℕ) → entry_test (get names q) ≡ at q) (sym stands)
      (operation_has at disk sound has (moved_file from to id) same));
}
  where
    names : Names
    names = seen_names disk

    same : (q : List ℕ) → entry_test (get (insert (remove names from) to (a_file id)) q) ≡ entry_test (get names q)
    same q = ⊎_elim
        (λ here. ap (λ p. entry_test (get (insert (remove names from) to (a_file id)) p)) here ∙ ap entry_test (get-insert_same (remove names from) to (a_file id))
        ∙ sym (ap (λ p. entry_test (get names p)) here ∙ test_of disk to none))
        (λ apart. ap entry_test (get-insert_other (remove names from) to (a_file id) q apart) ∙ ⊎_elim
        (λ here. ap (λ p. entry_test (get (remove names from) p)) here ∙ ap entry_test (get-remove_same names from) ∙ sym (ap (λ p. entry_test (get names p)) here ∙ ap entry_test stands))
        (λ other. ap entry_test (get-remove_other names from q other)) (cases_path q from))
        (cases_path q to)

pub remove_keeps : (path : List ℕ) (disk : Disk) → IsSound disk → is_directory (seen disk) path ≡ false → KeepsDirectories disk (after (remove_at path) disk)
remove_keeps path disk sound none = record { each = λ at has. of_names at (after (remove_at path) disk) (operation_has at disk sound has (removed path) same) }
  where
    same : (q : List ℕ) → entry_test (get (remove (seen_names disk) path) q) ≡ entry_test (get (seen_names disk) q)
    same q = ⊎_elim
        (λ here. ap (λ p. entry_test (get (remove (seen_names disk) path) p)) here ∙ ap entry_test (get-remove_same (seen_names disk) path)
        ∙ sym (ap (λ p. entry_test (get (seen_names disk) p)) here ∙ test_of disk path none))
        (λ apart. ap entry_test (get-remove_other (seen_names disk) path q apart))
        (cases_path q path)

pub sync_dir_keeps : (dir : List ℕ) (disk : Disk) → IsSound disk → KeepsDirectories disk (after (sync_dir dir) disk)
sync_dir_keeps dir disk sound = record {
  each = λ at has. of_names at (after (sync_dir dir) disk) (λ names stand q. names_have at disk sound has names (stood_before dir disk.durable disk.pending names stand) q);
}

-- a change of bytes alone
bytes_keep : (change : FileState → FileState) (e : Option Entry) (disk : Disk) → IsSound disk → KeepsDirectories disk (with_file change e disk)
bytes_keep change None disk sound = record { each = λ at has. has }
bytes_keep change (Some a_directory) disk sound = record { each = λ at has. has }
bytes_keep change (Some (a_file id)) disk sound = record { each = λ at has. of_names at (with_file change (Some (a_file id)) disk) (λ names stand q. names_have at disk sound has names stand q) }

pub write_keeps : (path : List ℕ) (place : ℕ) (bytes : List ℕ) (disk : Disk) → IsSound disk → KeepsDirectories disk (after (write_at path place bytes) disk)
write_keeps path place bytes disk sound = bytes_keep (written_file place bytes) (get (seen_names disk) path) disk sound

pub cut_keeps : (path : List ℕ) (l : ℕ) (disk : Disk) → IsSound disk → KeepsDirectories disk (after (cut path l) disk)
cut_keeps path l disk sound = bytes_keep (cut_file l) (get (seen_names disk) path) disk sound

pub sync_keeps : (path : List ℕ) (disk : Disk) → IsSound disk → KeepsDirectories disk (after (sync path) disk)
sync_keeps path disk sound = bytes_keep synced_file (get (seen_names disk) path) disk sound

-- ---- Calls that fail, and runs

pub failed_keeps : (call : Call) (d e : Disk) → KeepsDirectories d (after call d) → AfterFailed call d e → KeepsDirectories d e
failed_keeps call d e keeps failed = record {
  each = λ at has. record { each = λ image left q. ⊎_elim (λ was. has.each image was q) (λ is. (keeps.each at has).each image is q) (failed.each image left) };
}

-- a call on files is a run that keeps directories
pub ran_files : (P : Disk → Type 0) (call : Call) → ((d : Disk) → P d → KeepsDirectories d (after call d))
    → (result : Result (Unit {0}) Failed) (old new : History) → Now old (λ w. P w.disk) → GoesOn call result old new → Ran KeepsDirectories old new
ran_files P call keeps result old new now on = ran_call P KeepsDirectories call keeps (λ d e p failed. failed_keeps call d e (keeps d p) failed) result old new now on

pub then_keeps : (old mid new : History) → Ran KeepsDirectories old mid → Ran KeepsDirectories mid new → Ran KeepsDirectories old new
then_keeps old mid new one two =
    ran_then (λ a. record { each = λ at has. has }) (λ a b r. r) (λ a b c r s. record { each = λ at has. s.each at (r.each at has) }) old mid new one two

-- ---- On histories

module _ (result : Result (Unit {0}) Failed) (old new : History) where
  pub directories_write : (path : List ℕ) (place : ℕ) (bytes : List ℕ) → Now old (λ w. IsSound w.disk) → GoesOn (write_at path place bytes) result old new → Ran KeepsDirectories old new
  directories_write path place bytes sound on = ran_files IsSound (write_at path place bytes) (λ d is. write_keeps path place bytes d is) result old new sound on

  pub directories_cut : (path : List ℕ) (l : ℕ) → Now old (λ w. IsSound w.disk) → GoesOn (cut path l) result old new → Ran KeepsDirectories old new
  directories_cut path l sound on = ran_files IsSound (cut path l) (λ d is. cut_keeps path l d is) result old new sound on

  pub directories_sync : (path : List ℕ) → Now old (λ w. IsSound w.disk) → GoesOn (sync path) result old new → Ran KeepsDirectories old new
  directories_sync path sound on = ran_files IsSound (sync path) (λ d is. sync_keeps path d is) result old new sound on

  pub directories_sync_dir : (dir : List ℕ) → Now old (λ w. IsSound w.disk) → GoesOn (sync_dir dir) result old new → Ran KeepsDirectories old new
  directories_sync_dir dir sound on = ran_files IsSound (sync_dir dir) (λ d is. sync_dir_keeps dir d is) result old new sound on

-- a call that does nothing where a directory stands at a path
obstructed_keeps : (P : Disk → Type 0) (path : List ℕ) (call : Call) → ((d : Disk) → P d → is_directory (seen d) path ≡ false → KeepsDirectories d (after call d))
    → (result : Result (Unit {0}) Failed) (old new : History) → Now old (λ w. P w.disk) → Now old (λ w. is_directory (seen w.disk) path ≡ true → IsErr result × (new ≡ old)) → GoesOn call result old new → Ran KeepsDirectories old new
obstructed_keeps P path call keeps result [] new now stops on = record { added = []; whole = on; each = refl }
obstructed_keeps P path call keeps result (w ∷ past) new now stops on = step (is_directory (seen w.disk) path) refl
  where
    step : (b : Bool) → is_directory (seen w.disk) path ≡ b → Ran KeepsDirectories (w ∷ past) new
    step true here = subst (λ h. Ran KeepsDirectories (w ∷ past) h) (sym (stops here).1) (ran_none KeepsDirectories (w ∷ past))
    step false here = ran_files (λ d. P d × (is_directory (seen d) path ≡ false)) call (λ d is. keeps d is.0 is.1) result (w ∷ past) new (now, here) on

pub directories_make : (result : Result (Unit {0}) Failed) (old new : History) (path : List ℕ) → Now old (λ w. IsSound w.disk)
    → Now old (λ w. is_directory (seen w.disk) path ≡ true → IsErr result × (new ≡ old)) → GoesOn (make path) result old new → Ran KeepsDirectories old new
directories_make result old new path sound stops on = obstructed_keeps IsSound path (make path) (λ d is none. make_keeps path d is none) result old new sound stops on

pub directories_move : (result : Result (Unit {0}) Failed) (old new : History) (from to : List ℕ) → Now old (λ w. IsSound w.disk × ((bytes : List ℕ) × IsWritten from bytes w.disk))
    → Now old (λ w. is_directory (seen w.disk) to ≡ true → IsErr result × (new ≡ old)) → GoesOn (rename from to) result old new → Ran KeepsDirectories old new
directories_move result old new from to now stops on =
    obstructed_keeps (λ d. IsSound d × ((bytes : List ℕ) × IsWritten from bytes d)) to (rename from to) (λ d is none. move_keeps from to d is.1.1.id is.0 is.1.1.stands none) result old new now stops on
