-- What a host in memory was asked, and what came of it.
use Rattle.std.specs.Prelude.{ℕ, List}
use Rattle.file_model.specs.Disk.{Call}

pub data Event : Type 0 where
  -- put on the disk at rest, before any call
  put_directory : List ℕ → Event
  put_file : List ℕ → List ℕ → Event
  -- what a crash found said, before any call
  found : List ℕ → Event
  -- a call that only reads, whatever came of it
  looked : Event
  -- a call that changes the files, which was done or failed
  did : Call → Event
  refused : Call → Event
  -- what a `hear` gave where there was room for so many bytes
  heard : ℕ → List ℕ → Event
  hear_failed : Event
  said : List ℕ → Event
  -- so many of the bytes were said
  say_failed : List ℕ → ℕ → Event
