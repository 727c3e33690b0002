-- What calls keep, as the crates above say it.
use Rattle.std.specs.Prelude.{ℕ, Bool, List, [], ◌++◌, ◌≡◌, ◌≢◌, ◌⊎◌, ◌<◌, ◌≤◌, Some, take, drop, length, false, if◌then◌else◌}
use Rattle.std.specs.FinMap.{get}
use Rattle.file_model.specs.Images.{Image, Names, Entry, Node, Agree, bytes_at, text_at, a_file, a_directory, node_at, nothing, file, directory, is_directory}
use Rattle.file_model.specs.Kinds.{IsFile, CanMake}
use Rattle.file_model.specs.Paths.{parent, is_top, is_at_or_inside, temporary_of}
use Rattle.file_model.specs.Disk.{Disk, MayStand, MayLeave, IsPossible, AreBytes, left_pending_by, seen_names, seen}

-- Each image that a crash may leave of new agrees, at these paths, with one that a crash might have left of old.
pub record Keeps (at : List ℕ → Type 0) (old new : Disk) : Type 0 where
  pub each : (image : Image) → MayLeave new image → (before : Image) × MayLeave old before × ((path : List ℕ) → at path → Agree path image before)

-- The same, and at one path it agrees too or has these bytes.
pub record Replaces (place : List ℕ) (bytes : List ℕ) (at : List ℕ → Type 0) (old new : Disk) : Type 0 where
  pub each : (image : Image) → MayLeave new image → (before : Image) × MayLeave old before × ((path : List ℕ) → at path → Agree path image before)
      × (Agree place image before ⊎ (bytes_at image place ≡ Some bytes))

-- Each image that a crash may leave of new agrees, at all other paths, with one that a crash might have left of old; at this path it agrees too or has this node.
pub record ChangesTo (place : List ℕ) (node : Node) (old new : Disk) : Type 0 where
  pub each : (image : Image) → MayLeave new image → (before : Image) × MayLeave old before × ((path : List ℕ) → path ≢ place → Agree path image before)
      × (Agree place image before ⊎ (node_at image place ≡ node))

-- what stands at each path once what stood at one path, and all in it, was moved to another
abbrev pub moved_node : List ℕ → List ℕ → Image → List ℕ → Node
moved_node from to image path =
    if is_at_or_inside to path then node_at image (from ++ drop (length to) path) else if is_at_or_inside from path then nothing else node_at image path

-- Each image that a crash may leave of new agrees everywhere with one that a crash might have left of old, or with one of these after the move.
pub record MovesWhole (from to : List ℕ) (old new : Disk) : Type 0 where
  pub each : (image : Image) → MayLeave new image → (before : Image) × MayLeave old before
      × (((path : List ℕ) → Agree path image before) ⊎ ((path : List ℕ) → node_at image path ≡ moved_node from to before path))

-- reads see all at its new place
pub record SeesMoved (from to : List ℕ) (old new : Disk) : Type 0 where
  pub each : (path : List ℕ) → node_at (seen new) path ≡ moved_node from to (seen old) path

-- a directory was made where nothing stood, and all else stays
pub record MadeDirectory (path : List ℕ) (start end : Image) : Type 0 where
  pub was : node_at start path ≡ nothing
  pub is : node_at end path ≡ directory
  pub rest : (q : List ℕ) → q ≢ path → Agree q end start

-- The image agrees with one that a crash might have left of a disk; but where reads saw nothing at one path, and nothing stood there, it may have the empty file.
pub record IsLeftOrMade (place : List ℕ) (disk : Disk) (image : Image) : Type 0 where
  pub before : Image
  pub was_left : MayLeave disk before
  pub elsewhere : (path : List ℕ) → path ≢ place → Agree path image before
  pub here : Agree place image before ⊎ ((node_at (seen disk) place ≡ nothing) × (node_at before place ≡ nothing) × (node_at image place ≡ file []))

-- Each image that a crash may leave of new is such a one of old.
pub record MayMake (place : List ℕ) (old new : Disk) : Type 0 where
  pub each : (image : Image) → MayLeave new image → IsLeftOrMade place old image

-- the file at a path stands at no other path, whatever names a crash leaves
pub record IsHome (path : List ℕ) (disk : Disk) : Type 0 where
  pub only : (names : Names) → MayStand disk.durable disk.pending names → (id : ℕ) → get (seen_names disk) path ≡ Some (a_file id)
      → (other : List ℕ) → get names other ≡ Some (a_file id) → other ≡ path

-- a file with these bytes stands at a path, and they are its one possible content
pub record IsWritten (path : List ℕ) (bytes : List ℕ) (disk : Disk) : Type 0 where
  pub id : ℕ
  pub stands : get (seen_names disk) path ≡ Some (a_file id)
  pub is_seen : (disk.files id).seen ≡ bytes
  pub is_durable : (disk.files id).durable ≡ bytes
  pub no_edits : (disk.files id).edits ≡ []

-- what holds of every disk that calls lead to
pub record IsSound (disk : Disk) : Type 0 where
  pub fresh : (names : Names) → MayStand disk.durable disk.pending names → (path : List ℕ) (id : ℕ) → get names path ≡ Some (a_file id) → id < disk.next
  -- a file stands at one path
  pub alone : (names : Names) → MayStand disk.durable disk.pending names → (path other : List ℕ) (id : ℕ) → get names path ≡ Some (a_file id) → get names other ≡ Some (a_file id) → other ≡ path
  -- what stands below a top stands in a directory
  pub rooted : (names : Names) → MayStand disk.durable disk.pending names → (path : List ℕ) (e : Entry) → get names path ≡ Some e → is_top path ≡ false → get names (parent path) ≡ Some a_directory
  pub possible : (id : ℕ) → IsPossible (disk.files id).durable (disk.files id).edits (disk.files id).seen
  pub are_bytes : (id : ℕ) → AreBytes (disk.files id).durable

-- the file at a path, which stands nowhere else, has these bytes in what reads see
pub record IsOwn (path : List ℕ) (bytes : List ℕ) (disk : Disk) : Type 0 where
  pub id : ℕ
  pub stands : get (seen_names disk) path ≡ Some (a_file id)
  pub is_seen : (disk.files id).seen ≡ bytes
  pub home : IsHome path disk

-- whatever a crash leaves, a file with these bytes stands at the path
pub record HasOnly (path : List ℕ) (bytes : List ℕ) (disk : Disk) : Type 0 where
  pub each : (image : Image) → MayLeave disk image → bytes_at image path ≡ Some bytes

-- reads see the same at these paths
pub record Sees (at : List ℕ → Type 0) (old new : Disk) : Type 0 where
  pub each : (path : List ℕ) → at path → Agree path (seen new) (seen old)

-- no directory operation is pending
pub record NonePending (disk : Disk) : Type 0 where
  pub none_pending : disk.pending ≡ []

-- whatever a crash leaves, nothing stands at the path
pub record IsGone (path : List ℕ) (disk : Disk) : Type 0 where
  pub each : (image : Image) → MayLeave disk image → node_at image path ≡ nothing

-- at rest: no directory operation is pending, and each file has one possible content, the one that reads see
pub record IsAtRest (disk : Disk) : Type 0 where
  pub none_pending : disk.pending ≡ []
  pub no_edits : (id : ℕ) → (disk.files id).edits ≡ []
  pub is_seen : (id : ℕ) → (disk.files id).durable ≡ (disk.files id).seen

-- Each image that a crash may leave has this in it.
pub record Leaves (P : Image → Type 0) (disk : Disk) : Type 0 where
  pub each : (image : Image) → MayLeave disk image → P image

-- every image that a crash may leave agrees at these paths with the seen one
pub record IsAlike (at : List ℕ → Type 0) (disk : Disk) : Type 0 where
  pub each : (image : Image) → MayLeave disk image → (q : List ℕ) → at q → Agree q image (seen disk)

-- neither the path nor its temporary file
abbrev pub IsBeside : List ℕ → List ℕ → Type 0
IsBeside path q = (q ≢ temporary_of path) × (q ≢ path)

-- The whole change that replaces a content: its end, to its start.
pub record Replaced (path bytes : List ℕ) (old new : Disk) : Type 0 where
  pub rest : Keeps (IsBeside path) old new
  pub sees : Sees (IsBeside path) old new
  pub only : HasOnly path bytes new
  pub gone : IsGone (temporary_of path) new
  pub durable : NonePending new

-- The whole change that puts bytes in a file at a place, where the file then ends.
pub record WasPut (path : List ℕ) (place : ℕ) (bytes : List ℕ) (old new : Disk) : Type 0 where
  pub rest : Keeps (λ q. q ≢ path) old new
  pub sees : Sees (λ q. q ≢ path) old new
  pub only : HasOnly path (take place (text_at (seen old) path) ++ bytes) new
  pub durable : NonePending new

-- An image's file at a path begins with these bytes, and has at most so many. No file is one without bytes.
pub record BeginsWith (path front : List ℕ) (most : ℕ) (image : Image) : Type 0 where
  pub begins : take (length front) (text_at image path) ≡ front
  pub short : length (text_at image path) ≤ most

-- All else is kept; and the bytes of one file below a place stand in every image, if they did, as does a limit of its length that isn't below a bound.
pub record KeepsFront (path : List ℕ) (place bound : ℕ) (old new : Disk) : Type 0 where
  pub rest : Keeps (λ q. q ≢ path) old new
  pub front : (front : List ℕ) (most : ℕ) → length front ≤ place → bound ≤ most → Leaves (BeginsWith path front most) old → Leaves (BeginsWith path front most) new

-- A file with these seen bytes is being written: it stands nowhere else, and a sync of its directory makes all names durable.
pub record IsPutting (path bytes : List ℕ) (disk : Disk) : Type 0 where
  pub own : IsOwn path bytes disk
  pub all_durable_by_sync : left_pending_by (parent path) disk.pending ≡ []

-- the same once the file is synced
pub record IsSynced (path bytes : List ℕ) (disk : Disk) : Type 0 where
  pub written : IsWritten path bytes disk
  pub all_durable_by_sync : left_pending_by (parent path) disk.pending ≡ []

-- Bytes can be put at the place: a file reaches so far, or one can be made there and it is the start.
abbrev pub CanPut : List ℕ → ℕ → Image → Type 0
CanPut path place image = IsFile image path place ⊎ (CanMake image path × (place ≡ 0))

-- In each image that a crash may leave, directories stand at exactly these paths.
pub record HasDirectories (at : List ℕ → Bool) (disk : Disk) : Type 0 where
  pub each : (image : Image) → MayLeave disk image → (q : List ℕ) → is_directory image q ≡ at q

-- Calls on files make and take away no directory, whatever a crash leaves.
pub record KeepsDirectories (old new : Disk) : Type 0 where
  pub each : (at : List ℕ → Bool) → HasDirectories at old → HasDirectories at new
