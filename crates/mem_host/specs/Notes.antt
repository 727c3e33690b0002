-- The events that notes stand for.
use Rattle.file_model.specs.Disk.{Call, make, make_dir, write_at, cut, sync, sync_dir, rename, remove_at}
use Rattle.mem_host.specs.Events.{Event, put_directory, put_file, found, looked, did, refused, heard, hear_failed, said, say_failed}
use Rattle.mem_host.specs.declared.record.Request.{Request}
use Rattle.mem_host.specs.declared.record.Request.TheVariants.{Make, MakeDir, WriteAt, Cut, Sync, SyncDir, Rename, Remove}
use Rattle.mem_host.specs.declared.record.Note.{Note}
use Rattle.mem_host.specs.declared.record.Note.TheVariants.{PutDirectory, PutFile, Found, Looked, Did, Refused, Heard, HearFailed, Said, SayFailed}

-- the call that a request makes
abbrev pub call_of : Request → Call
call_of (Make path) = make path.now
call_of (MakeDir path) = make_dir path.now
call_of (WriteAt path place bytes) = write_at path.now place bytes.now
call_of (Cut path length) = cut path.now length
call_of (Sync path) = sync path.now
call_of (SyncDir path) = sync_dir path.now
call_of (Rename from to) = rename from.now to.now
call_of (Remove path) = remove_at path.now

-- the event that a note is about
abbrev pub event_of : Note → Event
event_of (PutDirectory path) = put_directory path.now
event_of (PutFile path bytes) = put_file path.now bytes.now
event_of (Found bytes) = found bytes.now
event_of Looked = looked
event_of (Did request) = did (call_of request)
event_of (Refused request) = refused (call_of request)
event_of (Heard room piece) = heard room piece.now
event_of HearFailed = hear_failed
event_of (Said bytes) = said bytes.now
event_of (SayFailed bytes count) = say_failed bytes.now count
