-- What a crash is found with, in memory.
use Rattle.std.specs.Prelude.{ℕ, false, List, ◌≡◌, ◌<◌, length, map, reverse, slice_index_or, None, Some, String, Vec}
use Rattle.std.specs.declared.alloc.Global.{Global}
use Rattle.std.specs.BTreeMap.{BTreeMap}
use Rattle.std.specs.FinMap.{get}
use Rattle.file_model.specs.Paths.{parent, is_top}
use Rattle.file_model.specs.Images.{Image, Entry, a_file, a_directory, Node, file, directory, node_at, bytes_of, directory_test}
use Rattle.mem_host.specs.Events.{Event}
use Rattle.mem_host.specs.Deeds.{event_of_deed}
use Rattle.mem_host.specs.Replay.{world_after, seen_after, AllPut}
use Rattle.mem_host.specs.Putting.{NoFileAbove}
use Rattle.mem_host.specs.Fitted.{FitsAt}
use Rattle.mem_host.specs.Mirrored.{Shows}
use Rattle.mem_host.specs.Remains.{IsRemains}
use Rattle.mem_host.specs.Crashes.{Crash, between_calls}
use Rattle.mem_host.specs.declared.names.Place.{Place}
use Rattle.mem_host.specs.declared.names.Place.TheVariants.{File, Dir}
use Rattle.mem_host.specs.declared.log.Deed.{Deed}
use Rattle.mem_host.specs.declared.crash.Crash.{Crash as CrashData}

-- the newest first
abbrev pub events_of : List Deed → List Event
events_of deeds = reverse (map event_of_deed deeds)

-- It is this crash.
pub record Finds (found : CrashData) (crash : Crash) : Type 0 where
  pub remains : IsRemains found.remains crash.disk
  pub said : found.said.items ≡ crash.said
  pub pick : found.pick ≡ crash.pick

-- after these events, in no call
abbrev pub FindsAfter : CrashData → List Event → Type 0
FindsAfter found events = Finds found (between_calls (world_after events) found.pick)

-- It is found after some events, which this one fits.
pub record CanGoOn (event : Event) (found : CrashData) : Type 0 where
  pub earlier : List Event
  pub fit : FitsAt event earlier
  pub finds : FindsAfter found earlier

-- Each content is that of its number.
pub record AreContents (contents : List (Vec ℕ Global)) (many : ℕ) (bytes : ℕ → List ℕ) : Type 0 where
  pub count : length contents ≡ many
  pub each : (id : ℕ) → id < length contents → (d : Vec ℕ Global) → (slice_index_or contents id d).items ≡ bytes id

-- Names and contents are those of an image.
pub record Holds (names : BTreeMap (String Global) Place) (contents : List (Vec ℕ Global)) (image : Image) : Type 0 where
  pub shows : Shows names image.names
  pub below : (path : List ℕ) (id : ℕ) → get image.names path ≡ Some (a_file id) → id < length contents
  pub bytes : (id : ℕ) → id < length contents → (d : Vec ℕ Global) → (slice_index_or contents id d).items ≡ image.bytes id

-- What stands below a top stands in a directory.
abbrev pub IsRooted : Image → Type 0
IsRooted image = (path : List ℕ) (e : Entry) → get image.names path ≡ Some e → is_top path ≡ false → get image.names (parent path) ≡ Some a_directory

-- They can be put where nothing stands.
pub record CanRest (names : BTreeMap (String Global) Place) (contents : List (Vec ℕ Global)) : Type 0 where
  pub image : Image
  pub holds : Holds names contents image
  pub rooted : IsRooted image

-- what may stand where a directory is put, or a file
abbrev pub HasRoomFor : Place → List (Vec ℕ Global) → Node → Type 0
HasRoomFor Dir contents node = bytes_of node ≡ None
HasRoomFor (File id) contents node = (directory_test node ≡ false) × (id < length contents)

abbrev pub IsNodeOf : Place → List (Vec ℕ Global) → Node → Type 0
IsNodeOf Dir contents node = node ≡ directory
IsNodeOf (File id) contents node = (d : Vec ℕ Global) → node ≡ file (slice_index_or contents id d).items

-- What a place has can be put at a path.
pub record CanPutNext (path : List ℕ) (place : Place) (contents : List (Vec ℕ Global)) (events : List Event) : Type 0 where
  pub puts : AllPut events
  pub clear : NoFileAbove (seen_after events) path
  pub room : HasRoomFor place contents (node_at (seen_after events) path)
