-- What each call does to a disk, and what a crash may leave of it.
use Rattle.std.specs.Prelude.{ℕ, Bool, List, [], ◌∷◌, ◌++◌, ◌+◌, ◌<◌, ◌≤◌, ◌==◌, ◌||◌, ◌≡◌, ◌⊎◌, not, max, Option, Some, None, if◌then◌else◌, take, drop, length, map, slice_index}
use Rattle.std.specs.Str.{bytes_eq}
use Rattle.std.specs.FinMap.{FinMap, get, insert, remove, retain_keys, from_entries, entries}
use Rattle.file_model.specs.Paths.{parent, is_at_or_inside}
use Rattle.file_model.specs.Images.{path_cmp, Entry, a_file, a_directory, Names, Image}

-- ---- Contents

-- a change of a file's bytes that no sync made durable
pub data Edit : Type 0 where
  wrote : ℕ → List ℕ → Edit
  shortened : ℕ → Edit

-- what reads see of a file, what its last sync made durable, and the edits since, the newest first
pub record FileState : Type 0 where
  pub seen : List ℕ
  pub durable : List ℕ
  pub edits : List Edit

-- the list has bytes alone
abbrev pub AreBytes : List ℕ → Type 0
AreBytes bytes = (k : ℕ) → k < length bytes → slice_index bytes k < 256

-- A write of n bytes at a place, cut short: outside its range the old bytes stay, up to the old end. The others are any bytes.
pub record Torn (place n : ℕ) (old new : List ℕ) : Type 0 where
  pub same : (k : ℕ) → k < length old → (k < place) ⊎ (place + n ≤ k) → slice_index new k ≡ slice_index old k
  pub any : AreBytes old → AreBytes new
  pub no_shorter : length old ≤ length new
  pub no_longer : length new ≤ max (length old) (place + n)

-- an edit leads from one possible content to another
abbrev pub Leads : Edit → List ℕ → List ℕ → Type 0
Leads (wrote place bytes) old new = Torn place (length bytes) old new
Leads (shortened l) old new = (new ≡ old) ⊎ (new ≡ take l old)

-- a crash may leave this content of a file
abbrev pub IsPossible : List ℕ → List Edit → List ℕ → Type 0
IsPossible durable [] bytes = bytes ≡ durable
IsPossible durable (edit ∷ earlier) bytes = (old : List ℕ) × IsPossible durable earlier old × Leads edit old bytes

-- ---- Names

pub data DirectoryOperation : Type 0 where
  made : List ℕ → ℕ → DirectoryOperation
  made_directory : List ℕ → DirectoryOperation
  moved_file : List ℕ → List ℕ → ℕ → DirectoryOperation
  moved_directory : List ℕ → List ℕ → DirectoryOperation
  removed : List ℕ → DirectoryOperation

abbrev pub moved_path : List ℕ → List ℕ → List ℕ → List ℕ
moved_path from to path = if is_at_or_inside from path then to ++ drop (length from) path else path

-- a map of paths once what stood at one path, and all in it, was moved to another
abbrev pub moved_keys : {V : Type 0} → List ℕ → List ℕ → FinMap path_cmp V → FinMap path_cmp V
moved_keys from to map_of_paths = from_entries (map (λ e. (moved_path from to e.0, e.1)) (entries (retain_keys map_of_paths (λ path. not (is_at_or_inside to path)))))

abbrev pub done : DirectoryOperation → Names → Names
done (made path id) names = insert names path (a_file id)
done (made_directory path) names = insert names path a_directory
done (moved_file from to id) names = insert (remove names from) to (a_file id)
done (moved_directory from to) names = moved_keys from to names
done (removed path) names = remove names path

-- the newest stands first
abbrev pub all_done : List DirectoryOperation → Names → Names
all_done [] names = names
all_done (call ∷ earlier) names = done call (all_done earlier names)

abbrev pub names_something_in : List ℕ → DirectoryOperation → Bool
names_something_in dir (made path id) = bytes_eq dir (parent path)
names_something_in dir (made_directory path) = bytes_eq dir (parent path)
names_something_in dir (moved_file from to id) = bytes_eq dir (parent from) || bytes_eq dir (parent to)
names_something_in dir (moved_directory from to) = bytes_eq dir (parent from) || bytes_eq dir (parent to)
names_something_in dir (removed path) = bytes_eq dir (parent path)

-- the calls up to the last that names something in the directory, and those after it
abbrev pub durable_by : List ℕ → List DirectoryOperation → List DirectoryOperation
durable_by dir [] = []
durable_by dir (call ∷ earlier) = if names_something_in dir call then call ∷ earlier else durable_by dir earlier

abbrev pub left_pending_by : List ℕ → List DirectoryOperation → List DirectoryOperation
left_pending_by dir [] = []
left_pending_by dir (call ∷ earlier) = if names_something_in dir call then [] else call ∷ left_pending_by dir earlier

-- a crash may leave these names: those after some of the calls, from the first on
abbrev pub MayStand : Names → List DirectoryOperation → Names → Type 0
MayStand durable [] names = names ≡ durable
MayStand durable (call ∷ earlier) names = (names ≡ all_done (call ∷ earlier) durable) ⊎ MayStand durable earlier names

-- ---- Disks

pub record Disk : Type 0 where
  pub durable : Names
  pub pending : List DirectoryOperation
  pub files : ℕ → FileState
  -- the number of the next file that is made
  pub next : ℕ

abbrev pub seen_names : Disk → Names
seen_names disk = all_done disk.pending disk.durable

-- the image that reads see
abbrev pub seen : Disk → Image
seen disk = record { names = seen_names disk; bytes = λ id. (disk.files id).seen }

-- a crash may leave this image
pub record MayLeave (disk : Disk) (image : Image) : Type 0 where
  pub names : MayStand disk.durable disk.pending image.names
  pub bytes : (id : ℕ) → IsPossible (disk.files id).durable (disk.files id).edits (image.bytes id)

-- ---- Calls

pub data Call : Type 0 where
  make : List ℕ → Call
  make_dir : List ℕ → Call
  write_at : List ℕ → ℕ → List ℕ → Call
  cut : List ℕ → ℕ → Call
  sync : List ℕ → Call
  rename : List ℕ → List ℕ → Call
  remove_at : List ℕ → Call
  sync_dir : List ℕ → Call

abbrev pub with_operation : DirectoryOperation → Disk → Disk
with_operation call disk = record disk { pending = call ∷ disk.pending }

abbrev pub with_file : (FileState → FileState) → Option Entry → Disk → Disk
with_file change None disk = disk
with_file change (Some a_directory) disk = disk
with_file change (Some (a_file id)) disk = record disk { files = λ n. if n == id then change (disk.files n) else disk.files n }

abbrev pub written : ℕ → List ℕ → List ℕ → List ℕ
written place bytes old = take place old ++ bytes ++ drop (place + length bytes) old

-- a file with other bytes, by an edit that isn't durable
abbrev pub edited_file : List ℕ → Edit → FileState → FileState
edited_file bytes edit f = record { seen = bytes; durable = f.durable; edits = edit ∷ f.edits }

abbrev pub written_file : ℕ → List ℕ → FileState → FileState
written_file place bytes f = edited_file (written place bytes f.seen) (wrote place bytes) f

abbrev pub cut_file : ℕ → FileState → FileState
cut_file l f = edited_file (take l f.seen) (shortened l) f

abbrev pub synced_file : FileState → FileState
synced_file f = record { seen = f.seen; durable = f.seen; edits = [] }

abbrev pub renamed : List ℕ → List ℕ → Option Entry → DirectoryOperation
renamed from to None = moved_directory from to
renamed from to (Some a_directory) = moved_directory from to
renamed from to (Some (a_file id)) = moved_file from to id

-- a new file, which has no bytes
abbrev pub empty_file : FileState
empty_file = record { seen = []; durable = []; edits = [] }

-- what a call does
abbrev pub after : Call → Disk → Disk
after (make path) disk = record {
  durable = disk.durable;
  pending = made path disk.next ∷ disk.pending;
  files = λ n. if n == disk.next then empty_file else disk.files n;
  next = disk.next + 1;
}
after (make_dir path) disk = with_operation (made_directory path) disk
after (write_at path place bytes) disk =
    with_file (written_file place bytes) (get (seen_names disk) path) disk
after (cut path l) disk =
    with_file (cut_file l) (get (seen_names disk) path) disk
after (sync path) disk =
    with_file synced_file (get (seen_names disk) path) disk
after (rename from to) disk = with_operation (renamed from to (get (seen_names disk) from)) disk
after (remove_at path) disk = with_operation (removed path) disk
after (sync_dir dir) disk = record {
  durable = all_done (durable_by dir disk.pending) disk.durable;
  pending = left_pending_by dir disk.pending;
  files = disk.files;
  next = disk.next;
}

-- After a call that failed a crash leaves what it might have left before the call, or after it.
pub record AfterFailed (call : Call) (old new : Disk) : Type 0 where
  pub each : (image : Image) → MayLeave new image → MayLeave old image ⊎ MayLeave (after call old) image
