-- The history of a host in memory: its events, replayed from a disk with nothing on it.
use Rattle.std.specs.Prelude.{ℕ, List, [], ◌∷◌, ◌++◌, ◌≡◌, ◌+◌, ◌==◌, ◌||◌, ◌&&◌, nat_lt, length, take, if◌then◌else◌, false}
use Rattle.std.specs.List.{AllByRecursion}
use Rattle.std.specs.FinMap.{insert, empty}
use Rattle.file_model.specs.Images.{Image, a_file, a_directory}
use Rattle.file_model.specs.Disk.{Disk, FileState, empty_file, seen_names, seen, Call, after}
use Rattle.file_model.specs.Kept.{IsAtRest}
use Rattle.file_model.specs.Histories.{Streams, World, History, with_disk, with_streams, with_turn, saying}
use Rattle.mem_host.specs.Fitting.{fits, can_put, can_put_file}
use Rattle.mem_host.specs.Events.{Event, put_directory, put_file, found, looked, did, refused, heard, hear_failed, said, say_failed}

-- nothing was heard, and these bytes are said
abbrev pub resting_streams : List ℕ → Streams
resting_streams bytes = record { heard = []; ended = false; said = bytes; surely_said = length bytes; turns = [] }

-- nothing was heard or said
abbrev pub silent : Streams
silent = resting_streams []

-- nothing stands anywhere
abbrev pub empty_disk : Disk
empty_disk = record { durable = empty; pending = []; files = λ n. empty_file; next = 0 }

abbrev pub first_world : World
first_world = record { disk = empty_disk; streams = silent }

-- a file at rest: its bytes are durable
abbrev pub resting_file : List ℕ → FileState
resting_file bytes = record { seen = bytes; durable = bytes; edits = [] }

-- a directory is put on a disk, all of whose names are durable then
abbrev pub with_directory : List ℕ → Disk → Disk
with_directory path disk = record { durable = insert (seen_names disk) path a_directory; pending = []; files = disk.files; next = disk.next }

-- so is a file, under a new number
abbrev pub with_resting_file : List ℕ → List ℕ → Disk → Disk
with_resting_file path bytes disk = record {
  durable = insert (seen_names disk) path (a_file disk.next);
  pending = [];
  files = λ n. if n == disk.next then resting_file bytes else disk.files n;
  next = disk.next + 1;
}

-- a call is done where it fits
abbrev pub after_fitting : Call → Disk → Disk
after_fitting call disk = if fits call (seen disk) then after call disk else disk

abbrev pub with_put_directory : List ℕ → Disk → Disk
with_put_directory path disk = if can_put (seen disk) path then with_directory path disk else disk

abbrev pub with_put_file : List ℕ → List ℕ → Disk → Disk
with_put_file path bytes disk = if can_put_file (seen disk) path bytes then with_resting_file path bytes disk else disk

-- the world after an event
abbrev pub next_world : Event → World → World
next_world (put_directory path) world = with_disk world (with_put_directory path world.disk)
next_world (put_file path bytes) world = with_disk world (with_put_file path bytes world.disk)
next_world (found bytes) world = with_streams world (resting_streams bytes)
next_world looked world = world
next_world (did call) world = with_disk world (after_fitting call world.disk)
next_world (refused call) world = world
next_world (heard room piece) world = with_streams world (record {
  heard = world.streams.heard ++ piece;
  ended = world.streams.ended || (length piece == 0 && nat_lt 0 room);
  said = world.streams.said;
  surely_said = world.streams.surely_said;
  turns = with_turn world.streams;
})
next_world hear_failed world = with_streams world (record {
  heard = world.streams.heard;
  ended = world.streams.ended;
  said = world.streams.said;
  surely_said = world.streams.surely_said;
  turns = with_turn world.streams;
})
next_world (said bytes) world = saying world bytes (length (world.streams.said ++ bytes))
next_world (say_failed bytes n) world = saying world (take n bytes) (length (world.streams.said ++ take n bytes))

-- The history after an event: what is put changes the world itself, inside a call that was refused a crash may find it done, and inside `say` it finds some of it said.
abbrev pub instants : Event → World → History → History
instants (put_directory path) world past = next_world (put_directory path) world ∷ past
instants (put_file path bytes) world past = next_world (put_file path bytes) world ∷ past
instants (found bytes) world past = next_world (found bytes) world ∷ past
instants looked world past = world ∷ past
instants (did call) world past = next_world (did call) world ∷ world ∷ past
instants (refused call) world past = with_disk world world.disk ∷ with_disk world (after_fitting call world.disk) ∷ world ∷ past
instants (heard room piece) world past = next_world (heard room piece) world ∷ world ∷ past
instants hear_failed world past = next_world hear_failed world ∷ world ∷ past
instants (said bytes) world past = next_world (said bytes) world ∷ saying world bytes (length world.streams.said) ∷ world ∷ past
instants (say_failed bytes n) world past = next_world (say_failed bytes n) world ∷ saying world bytes (length world.streams.said) ∷ world ∷ past

-- the same of a whole history
abbrev pub pushed : Event → History → History
pushed event [] = []
pushed event (world ∷ past) = instants event world past

-- the history after all events, the newest of which stands first
abbrev pub replay : List Event → History
replay [] = first_world ∷ []
replay (event ∷ earlier) = pushed event (replay earlier)

-- the world after all events
abbrev pub world_after : List Event → World
world_after [] = first_world
world_after (event ∷ earlier) = next_world event (world_after earlier)

-- what reads see then
abbrev pub seen_after : List Event → Image
seen_after events = seen (world_after events).disk

-- the bytes said then
abbrev pub said_after : List Event → List ℕ
said_after events = (world_after events).streams.said

-- the event is no call
abbrev pub IsPut : Event → Type 0
IsPut (put_directory path) = Unit {0}
IsPut (put_file path bytes) = Unit {0}
IsPut (found bytes) = Unit {0}
IsPut looked = ⊥
IsPut (did call) = ⊥
IsPut (refused call) = ⊥
IsPut (heard room piece) = ⊥
IsPut hear_failed = ⊥
IsPut (said bytes) = ⊥
IsPut (say_failed bytes n) = ⊥

-- no call was made yet
abbrev pub AllPut : List Event → Type 0
AllPut events = AllByRecursion IsPut events

-- A history of one world, at rest, with nothing heard.
pub record IsUntouched (history : History) : Type 0 where
  pub disk : Disk
  pub said : List ℕ
  pub one : history ≡ record { disk = disk; streams = resting_streams said } ∷ []
  pub at_rest : IsAtRest disk
