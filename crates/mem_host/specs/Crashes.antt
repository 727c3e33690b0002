-- What a crash leaves of a host in memory. The digits of a pick choose it.
use Rattle.std.specs.Prelude.{ℕ, suc, zero, Bool, true, false, List, [], ◌∷◌, ◌++◌, ◌+◌, ◌-◌, ◌/◌, ◌%◌, ◌==◌, ◌&&◌, nat_lt, length, take, drop, replicate, if◌then◌else◌}
use Rattle.file_model.specs.Images.{Image, Names}
use Rattle.file_model.specs.Disk.{Edit, wrote, shortened, FileState, Disk, Call, make, make_dir, write_at, cut, sync, rename, remove_at, sync_dir, written, all_done}
use Rattle.file_model.specs.Histories.{World}
use Rattle.mem_host.specs.Events.{Event, put_directory, put_file, found, looked, did, refused, heard, hear_failed, said, say_failed}
use Rattle.mem_host.specs.Replay.{first_world, after_fitting, world_after}

-- ---- The bytes of a file

-- with zeros up to a place
abbrev pub filled : ℕ → List ℕ → List ℕ
filled place old = old ++ replicate (place - length old) 0

-- bytes stand at a place, also where an earlier edit is lost and the file ends before it
abbrev pub laid : ℕ → List ℕ → List ℕ → List ℕ
laid place bytes old = written place bytes (filled place old)

-- the first byte is another
abbrev pub marred : List ℕ → List ℕ
marred [] = []
marred (b ∷ bytes) = (255 - b) ∷ bytes

-- what is left of a write: all bytes, the first half of them, or all of which one differs
abbrev pub part_of_write : ℕ → List ℕ → List ℕ
part_of_write digit bytes = if digit == 1 then bytes else (if digit == 2 then take (length bytes / 2) bytes else marred bytes)

-- An edit is lost, or it is done; a write may be done in part.
abbrev pub left_of_edit : ℕ → Edit → List ℕ → List ℕ
left_of_edit digit (wrote place bytes) old = if digit == 0 then old else laid place (part_of_write digit bytes) old
left_of_edit digit (shortened l) old = if digit % 2 == 0 then old else take l old

-- all edits are done, the newest of which stands first
abbrev pub edited : List Edit → List ℕ → List ℕ
edited [] durable = durable
edited (edit ∷ earlier) durable = left_of_edit 1 edit (edited earlier durable)

-- the content of a file, and what is left of the pick: the oldest edit takes the lowest of its digits to the base of four
abbrev pub content_left : List Edit → List ℕ → ℕ → List ℕ × ℕ
content_left [] durable pick = (durable, pick)
content_left (edit ∷ earlier) durable pick =
    let before = content_left earlier durable pick in
    (left_of_edit (before.1 % 4) edit before.0, before.1 / 4)

-- the pick as it comes to a file, each file of a smaller number having taken its digits
abbrev pub pick_before : (ℕ → FileState) → ℕ → ℕ → ℕ
pick_before files pick zero = pick
pick_before files pick (suc id) = (content_left (files id).edits (files id).durable (pick_before files pick id)).1

abbrev pub bytes_left : (ℕ → FileState) → ℕ → ℕ → List ℕ
bytes_left files pick id = (content_left (files id).edits (files id).durable (pick_before files pick id)).0

-- ---- Names

-- the names after the first n pending operations
abbrev pub names_left : Disk → ℕ → Names
names_left disk n = all_done (drop (length disk.pending - n) disk.pending) disk.durable

-- the lowest digit tells how many operations are done, the others the bytes of each file
abbrev pub image_left : Disk → ℕ → Image
image_left disk pick =
    let choices = length disk.pending + 1 in
    record { names = names_left disk (pick % choices); bytes = bytes_left disk.files (pick / choices) }

-- ---- A crash in a call

-- the disk that a crash finds, the bytes said, and what is left of the pick
pub record Crash : Type 0 where
  pub disk : Disk
  pub said : List ℕ
  pub pick : ℕ

abbrev pub between_calls : World → ℕ → Crash
between_calls world pick = record { disk = world.disk; said = world.streams.said; pick = pick }

-- a sync takes images away; every other call leaves those from before it too
abbrev pub is_sync : Call → Bool
is_sync (make path) = false
is_sync (make_dir path) = false
is_sync (write_at path place bytes) = false
is_sync (cut path l) = false
is_sync (sync path) = true
is_sync (rename from to) = false
is_sync (remove_at path) = false
is_sync (sync_dir dir) = true

-- a call on the files is found on that side of it which has the images of both, whether it failed or not
abbrev pub in_call : Call → World → ℕ → Crash
in_call call world pick = record { disk = if is_sync call then world.disk else after_fitting call world.disk; said = world.streams.said; pick = pick }

-- some of the bytes are said
abbrev pub in_say : List ℕ → World → ℕ → Crash
in_say bytes world pick =
    let choices = length bytes + 1 in
    record { disk = world.disk; said = world.streams.said ++ take (pick % choices) bytes; pick = pick / choices }

-- a crash in the call of an event, at which the world was this
abbrev pub in_event : Event → World → ℕ → Crash
in_event (put_directory path) world pick = between_calls world pick
in_event (put_file path bytes) world pick = between_calls world pick
in_event (found bytes) world pick = between_calls world pick
in_event looked world pick = between_calls world pick
in_event (did call) world pick = in_call call world pick
in_event (refused call) world pick = in_call call world pick
in_event (heard room piece) world pick = between_calls world pick
in_event hear_failed world pick = between_calls world pick
in_event (said bytes) world pick = in_say bytes world pick
in_event (say_failed bytes n) world pick = in_say bytes world pick

-- whether the event is a call
abbrev pub is_call : Event → Bool
is_call (put_directory path) = false
is_call (put_file path bytes) = false
is_call (found bytes) = false
is_call looked = true
is_call (did call) = true
is_call (refused call) = true
is_call (heard room piece) = true
is_call hear_failed = true
is_call (said bytes) = true
is_call (say_failed bytes n) = true

abbrev pub calls_in : List Event → ℕ
calls_in [] = 0
calls_in (event ∷ earlier) = calls_in earlier + (if is_call event then 1 else 0)

-- a crash in the call of a number, or now if there was none
abbrev pub crash_in : ℕ → List Event → ℕ → Crash
crash_in n [] pick = between_calls first_world pick
crash_in n (event ∷ earlier) pick =
    if nat_lt n (calls_in earlier) then crash_in n earlier pick
    else (if is_call event && (n == calls_in earlier) then in_event event (world_after earlier) pick
    else between_calls (world_after (event ∷ earlier)) pick)
