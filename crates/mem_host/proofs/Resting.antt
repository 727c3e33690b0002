-- What is put before any call leaves the disk at rest.
use Rattle.std.proofs.Common.{◌≡◌, ◌==◌, ℕ, List, [], ◌∷◌, Bool, true, false, cond, refl, ◌∙◌, ap}
use Rattle.file_model.specs.Disk.{Disk, FileState, seen}
use Rattle.file_model.specs.Kept.{IsAtRest}
use Rattle.file_model.specs.Histories.{World}
use Rattle.mem_host.specs.Events.{Event, put_directory, put_file, found, looked, did, refused, heard, hear_failed, said, say_failed}
use Rattle.mem_host.specs.Fitting.{can_put, can_put_file}
use Rattle.mem_host.specs.Replay.{resting_streams, resting_file, with_directory, with_resting_file, next_world, pushed, replay, world_after, AllPut, IsPut, IsUntouched}

abbrev IsResting : FileState → Type 0
IsResting f = (f.edits ≡ []) × (f.durable ≡ f.seen)

resting_either : (b : Bool) (f g : FileState) → IsResting f → IsResting g → IsResting (cond b f g)
resting_either true f g one other = one
resting_either false f g one other = other

at_rest_file : (path bytes : List ℕ) (disk : Disk) → IsAtRest disk → IsAtRest (with_resting_file path bytes disk)
at_rest_file path bytes disk rest = record {
  none_pending = refl;
  no_edits = λ id. (file id).0;
  is_seen = λ id. (file id).1;
}
  where
    file : (id : ℕ) → IsResting (cond (id == disk.next) (resting_file bytes) (disk.files id))
    file id = resting_either (id == disk.next) (resting_file bytes) (disk.files id) (refl, refl) (rest.no_edits id, rest.is_seen id)

at_rest_where : (test : Bool) (disk changed : Disk) → IsAtRest disk → IsAtRest changed → IsAtRest (cond test changed disk)
at_rest_where true disk changed rest then = then
at_rest_where false disk changed rest then = rest

-- nothing was heard
abbrev IsQuiet : World → Type 0
IsQuiet world = world.streams ≡ resting_streams world.streams.said

-- the history has the one world
next_put : (event : Event) (world : World) → IsPut event → IsAtRest world.disk → IsQuiet world → (pushed event (world ∷ []) ≡ next_world event world ∷ []) × IsAtRest (next_world event world).disk × IsQuiet (next_world event world)
next_put (put_directory path) world put rest quiet = (refl, at_rest_where (can_put (seen world.disk) path) world.disk (with_directory path world.disk) rest (record { none_pending = refl; no_edits = rest.no_edits; is_seen = rest.is_seen }), quiet)
next_put (put_file path bytes) world put rest quiet = (refl, at_rest_where (can_put_file (seen world.disk) path bytes) world.disk (with_resting_file path bytes world.disk) rest (at_rest_file path bytes world.disk rest), quiet)
next_put (found bytes) world put rest quiet = (refl, rest, refl)
next_put looked world put rest quiet = absurd put
next_put (did call) world put rest quiet = absurd put
next_put (refused call) world put rest quiet = absurd put
next_put (heard room piece) world put rest quiet = absurd put
next_put hear_failed world put rest quiet = absurd put
next_put (said bytes) world put rest quiet = absurd put
next_put (say_failed bytes n) world put rest quiet = absurd put

record Rests (events : List Event) : Type 0 where
  one : replay events ≡ world_after events ∷ []
  at_rest : IsAtRest (world_after events).disk
  quiet : IsQuiet (world_after events)

rests : (events : List Event) → AllPut events → Rests events
rests [] all = record { one = refl; at_rest = record { none_pending = refl; no_edits = λ id. refl; is_seen = λ id. refl }; quiet = refl }
rests (event ∷ earlier) all =
    let before = rests earlier all.1 in
    let next = next_put event (world_after earlier) all.0 before.at_rest before.quiet in
    record { one = ap (pushed event) before.one ∙ next.0; at_rest = next.1; quiet = next.2 }

pub untouched : (events : List Event) → AllPut events → IsUntouched (replay events)
untouched events all =
    let it = rests events all in
    let disk = (world_after events).disk in
    record { disk = disk; said = (world_after events).streams.said; one = it.one ∙ (λ i. record { disk = disk; streams = it.quiet i } ∷ []); at_rest = it.at_rest }

pub rest_after : (events : List Event) → AllPut events → IsAtRest (world_after events).disk
rest_after events all = (rests events all).at_rest
