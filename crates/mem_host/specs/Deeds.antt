-- The events that deeds stand for.
use Rattle.std.specs.Prelude.{string_bytes}
use Rattle.file_model.specs.Disk.{Call, make, make_dir, write_at, cut, sync, sync_dir, rename, remove_at}
use Rattle.mem_host.specs.Events.{Event, put_directory, put_file, found, looked, did, refused, heard, hear_failed, said, say_failed}
use Rattle.mem_host.specs.declared.log.Step.{Step}
use Rattle.mem_host.specs.declared.log.Step.TheVariants.{Make, MakeDir, WriteAt, Cut, Sync, SyncDir, Rename, Remove}
use Rattle.mem_host.specs.declared.log.Deed.{Deed}
use Rattle.mem_host.specs.declared.log.Deed.TheVariants.{PutDirectory, PutFile, Found, Looked, Did, Refused, Heard, HearFailed, Said, SayFailed}

abbrev pub call_of_step : Step → Call
call_of_step (Make path) = make (string_bytes path)
call_of_step (MakeDir path) = make_dir (string_bytes path)
call_of_step (WriteAt path place bytes) = write_at (string_bytes path) place bytes.items
call_of_step (Cut path length) = cut (string_bytes path) length
call_of_step (Sync path) = sync (string_bytes path)
call_of_step (SyncDir path) = sync_dir (string_bytes path)
call_of_step (Rename from to) = rename (string_bytes from) (string_bytes to)
call_of_step (Remove path) = remove_at (string_bytes path)

abbrev pub event_of_deed : Deed → Event
event_of_deed (PutDirectory path) = put_directory (string_bytes path)
event_of_deed (PutFile path bytes) = put_file (string_bytes path) bytes.items
event_of_deed (Found bytes) = found bytes.items
event_of_deed Looked = looked
event_of_deed (Did step) = did (call_of_step step)
event_of_deed (Refused step) = refused (call_of_step step)
event_of_deed (Heard room piece) = heard room piece.items
event_of_deed HearFailed = hear_failed
event_of_deed (Said bytes) = said bytes.items
event_of_deed (SayFailed bytes count) = say_failed bytes.items count
