-- Events that fit what reads see: what is put comes before any call, and each call has what it needs.
use Rattle.std.specs.Prelude.{ℕ, true, false, List, [], ◌∷◌, ◌≡◌}
use Rattle.file_model.specs.Images.{is_directory}
use Rattle.file_model.specs.Disk.{AreBytes}
use Rattle.file_model.specs.Kinds.{Fits}
use Rattle.mem_host.specs.Events.{Event, put_directory, put_file, found, looked, did, refused, heard, hear_failed, said, say_failed}
use Rattle.mem_host.specs.Fitting.{can_put}
use Rattle.mem_host.specs.Replay.{seen_after, AllPut}

-- What is put has room.
pub record CanPutFile (path bytes : List ℕ) (earlier : List Event) : Type 0 where
  pub puts : AllPut earlier
  pub room : can_put (seen_after earlier) path ≡ true
  pub no_directory : is_directory (seen_after earlier) path ≡ false
  pub are_bytes : AreBytes bytes

abbrev pub FitsAt : Event → List Event → Type 0
FitsAt (put_directory path) earlier = AllPut earlier × (can_put (seen_after earlier) path ≡ true)
FitsAt (put_file path bytes) earlier = CanPutFile path bytes earlier
FitsAt (found bytes) earlier = AllPut earlier
FitsAt looked earlier = Unit {0}
FitsAt (did call) earlier = Fits call (seen_after earlier)
FitsAt (refused call) earlier = Fits call (seen_after earlier)
FitsAt (heard room piece) earlier = Unit {0}
FitsAt hear_failed earlier = Unit {0}
FitsAt (said bytes) earlier = Unit {0}
FitsAt (say_failed bytes n) earlier = Unit {0}

abbrev pub AllFit : List Event → Type 0
AllFit [] = Unit {0}
AllFit (event ∷ earlier) = FitsAt event earlier × AllFit earlier
