-- What a crash finds is the world of an instant.
use Rattle.std.proofs.Common.{◌≡◌, ℕ, ◌+◌, ◌-◌, ◌<◌, ◌≤◌, ◌%◌, ◌==◌, ◌&&◌, nat_lt, List, [], ◌∷◌, ◌++◌, length, take, Bool, true, false, cond, suc, refl, sym, ◌∙◌, ap, subst, arith, Contains}
use Rattle.std.proofs.lemmas.List.{take_all}
use Rattle.std.proofs.lemmas.Bool.Decides.{nat_tests}
use Rattle.file_model.specs.Disk.{Disk, Call, MayLeave, seen, after}
use Rattle.file_model.specs.Kept.{IsSound}
use Rattle.file_model.specs.Histories.{World, History, LeftSince, with_disk, saying}
use Rattle.mem_host.specs.Events.{Event, put_directory, put_file, found, looked, did, refused, heard, hear_failed, said, say_failed}
use Rattle.mem_host.specs.Fitting.{fits}
use Rattle.mem_host.specs.Fitted.{FitsAt, AllFit}
use Rattle.mem_host.specs.Replay.{after_fitting, next_world, instants, pushed, replay, world_after, AllPut}
use Rattle.mem_host.specs.Crashes.{is_sync, between_calls, in_event, is_call, calls_in, crash_in, image_left}
use Rattle.mem_host.specs.Soundness.{sound_call}
use Rattle.mem_host.specs.Remains.{IsTidy}
use Rattle.mem_host.proofs.Replayed.{newest, sound_world}
use Rattle.mem_host.proofs.Tidy.{tidy_call, tidy_after}
use Rattle.mem_host.proofs.Leaving.{left_may_be}

-- ---- The disk that a crash finds

either : (P : Disk → Type 0) (b : Bool) (one other : Disk) → P one → P other → P (cond b one other)
either P true one other p q = p
either P false one other p q = q

-- what holds after all events, and of each call done, holds of the disk that a crash finds
module _ (P : Disk → Type 0) (all : (events : List Event) → P (world_after events).disk) (step : (call : Call) (disk : Disk) → P disk → P (after_fitting call disk)) where
  in_event_holds : (event : Event) (earlier : List Event) (pick : ℕ) → P (in_event event (world_after earlier) pick).disk
  in_event_holds (put_directory path) earlier pick = all earlier
  in_event_holds (put_file path bytes) earlier pick = all earlier
  in_event_holds (found bytes) earlier pick = all earlier
  in_event_holds looked earlier pick = all earlier
  in_event_holds (did call) earlier pick = let disk = (world_after earlier).disk in either P (is_sync call) disk (after_fitting call disk) (all earlier) (step call disk (all earlier))
  in_event_holds (refused call) earlier pick = let disk = (world_after earlier).disk in either P (is_sync call) disk (after_fitting call disk) (all earlier) (step call disk (all earlier))
  in_event_holds (heard room piece) earlier pick = all earlier
  in_event_holds hear_failed earlier pick = all earlier
  in_event_holds (said bytes) earlier pick = all earlier
  in_event_holds (say_failed bytes n) earlier pick = all earlier

  pub crash_holds : (n : ℕ) (events : List Event) (pick : ℕ) → P (crash_in n events pick).disk
  crash_holds n [] pick = all []
  crash_holds n (event ∷ earlier) pick = at (nat_lt n (calls_in earlier)) (is_call event && (n == calls_in earlier)) (crash_holds n earlier pick)
    where
      at : (b c : Bool) → P (crash_in n earlier pick).disk → P (cond b (crash_in n earlier pick) (cond c (in_event event (world_after earlier) pick) (between_calls (world_after (event ∷ earlier)) pick))).disk
      at true c before = before
      at false true before = in_event_holds event earlier pick
      at false false before = all (event ∷ earlier)

pub crash_sound : (n : ℕ) (events : List Event) (pick : ℕ) → IsSound (crash_in n events pick).disk
crash_sound n events pick = crash_holds IsSound sound_world (λ call disk sound. sound_call call disk sound) n events pick

crash_tidy : (n : ℕ) (events : List Event) (pick : ℕ) → IsTidy (crash_in n events pick).disk
crash_tidy n events pick = crash_holds IsTidy tidy_after (λ call disk tidy. step call disk tidy (fits call (seen disk)) refl) n events pick
  where
    step : (call : Call) (disk : Disk) → IsTidy disk → (b : Bool) → fits call (seen disk) ≡ b → IsTidy (cond b (after call disk) disk)
    step call disk tidy true is = tidy_call call disk is tidy
    step call disk tidy false is = tidy

-- ---- Its instant

here : {X : Type 0} (x : X) (l : List X) → Contains (x ∷ l) x
here x l = (0, omega arith, refl)

there : {X : Type 0} (y : X) (l : List X) (x : X) → Contains l x → Contains (y ∷ l) x
there y l x among = (suc among.0, omega (arith, among.1), among.2)

-- a crash at a world of the history finds this disk, and these bytes said
pub record IsInstant (history : History) (disk : Disk) (words : List ℕ) : Type 0 where
  pub world : World
  pub among : Contains history world
  pub is : world.disk ≡ disk
  pub count : ℕ
  pub surely : world.streams.surely_said ≤ count
  pub are : words ≡ take count world.streams.said

surely_all : (events : List Event) → (world_after events).streams.surely_said ≡ length (world_after events).streams.said
surely_all [] = refl
surely_all (put_directory path ∷ earlier) = surely_all earlier
surely_all (put_file path bytes ∷ earlier) = surely_all earlier
surely_all (found bytes ∷ earlier) = refl
surely_all (looked ∷ earlier) = surely_all earlier
surely_all (did call ∷ earlier) = surely_all earlier
surely_all (refused call ∷ earlier) = surely_all earlier
surely_all (heard room piece ∷ earlier) = surely_all earlier
surely_all (hear_failed ∷ earlier) = surely_all earlier
surely_all (said bytes ∷ earlier) = refl
surely_all (say_failed bytes n ∷ earlier) = refl

-- between two calls
now_instant : (events : List Event) → IsInstant (replay events) (world_after events).disk (world_after events).streams.said
now_instant events =
    let world = world_after events in record {
      world = world;
      among = subst (λ h. Contains h world) (sym (newest events).whole) (here world (newest events).past);
      is = refl;
      count = length world.streams.said;
      surely = omega (arith, surely_all events);
      are = sym (take_all (length world.streams.said) world.streams.said (omega arith));
    }

-- in a call the instants of before it stand behind
earlier_instant : (event : Event) (history : History) (disk : Disk) (words : List ℕ) → is_call event ≡ true → IsInstant history disk words → IsInstant (pushed event history) disk words
earlier_instant event history disk words call it = record { world = it.world; among = behind event history call it.world it.among; is = it.is; count = it.count; surely = it.surely; are = it.are }
  where
    behind : (event : Event) (history : History) → is_call event ≡ true → (world : World) → Contains history world → Contains (pushed event history) world
    behind event [] call world among = among
    behind (put_directory path) (now ∷ past) call world among = absurd (cc)
    behind (put_file path bytes) (now ∷ past) call world among = absurd (cc)
    behind (found bytes) (now ∷ past) call world among = absurd (cc)
    behind looked (now ∷ past) call world among = among
    behind (did k) (now ∷ past) call world among = there (next_world (did k) now) (now ∷ past) world among
    behind (refused k) (now ∷ past) call world among =
        let done = with_disk now (after_fitting k now.disk) in there (with_disk now now.disk) (done ∷ now ∷ past) world (there done (now ∷ past) world among)
    behind (heard room piece) (now ∷ past) call world among = there (next_world (heard room piece) now) (now ∷ past) world among
    behind hear_failed (now ∷ past) call world among = there (next_world hear_failed now) (now ∷ past) world among
    behind (said bytes) (now ∷ past) call world among =
        let inside = saying now bytes (length now.streams.said) in there (next_world (said bytes) now) (inside ∷ now ∷ past) world (there inside (now ∷ past) world among)
    behind (say_failed bytes n) (now ∷ past) call world among =
        let inside = saying now bytes (length now.streams.said) in there (next_world (say_failed bytes n) now) (inside ∷ now ∷ past) world (there inside (now ∷ past) world among)

no_more : (n : ℕ) → 0 + n ≡ n
no_more n = omega arith

one_further : (l n : ℕ) → suc l + n ≡ suc (l + n)
one_further l n = omega arith

-- a part of what stands behind a list
part_behind : (l m : List ℕ) (n : ℕ) → take (length l + n) (l ++ m) ≡ l ++ take n m
part_behind [] m n = ap (λ k. take k m) (no_more n)
part_behind (x ∷ l) m n = ap (λ k. take k (x ∷ l ++ m)) (one_further (length l) n) ∙ ap (λ r. x ∷ r) (part_behind l m n)

-- inside `say`
in_say_instant : (bytes : List ℕ) (events : List Event) (history : History) (k : ℕ) → Contains history (saying (world_after events) bytes (length (world_after events).streams.said))
    → IsInstant history (world_after events).disk ((world_after events).streams.said ++ take k bytes)
in_say_instant bytes events history k among =
    let before = (world_after events).streams.said in record {
      world = saying (world_after events) bytes (length before);
      among = among;
      is = refl;
      count = length before + k;
      surely = omega arith;
      are = sym (part_behind before bytes k);
    }

-- an instant of an event
instant_of : (event : Event) (earlier : List Event) (world : World) → ((past : History) → Contains (instants event (world_after earlier) past) world) → Contains (replay (event ∷ earlier)) world
instant_of event earlier world among =
    let now = newest earlier in subst (λ h. Contains (pushed event h) world) (sym now.whole) (among now.past)

in_event_instant : (event : Event) (earlier : List Event) (pick : ℕ) → is_call event ≡ true → IsInstant (replay (event ∷ earlier)) (in_event event (world_after earlier) pick).disk (in_event event (world_after earlier) pick).said
in_event_instant (put_directory path) earlier pick call = absurd (cc)
in_event_instant (put_file path bytes) earlier pick call = absurd (cc)
in_event_instant (found bytes) earlier pick call = absurd (cc)
in_event_instant looked earlier pick call = earlier_instant looked (replay earlier) _ _ call (now_instant earlier)
in_event_instant (did k) earlier pick call = at (is_sync k)
  where
    world : World
    world = world_after earlier

    at : (b : Bool) → IsInstant (replay (did k ∷ earlier)) (cond b world.disk (after_fitting k world.disk)) world.streams.said
    at true = earlier_instant (did k) (replay earlier) world.disk world.streams.said call (now_instant earlier)
    at false = now_instant (did k ∷ earlier)
in_event_instant (refused k) earlier pick call = at (is_sync k)
  where
    world : World
    world = world_after earlier

    done : World
    done = with_disk world (after_fitting k world.disk)

    at : (b : Bool) → IsInstant (replay (refused k ∷ earlier)) (cond b world.disk (after_fitting k world.disk)) world.streams.said
    at true = earlier_instant (refused k) (replay earlier) world.disk world.streams.said call (now_instant earlier)
    at false =
        let before = now_instant earlier in record {
          world = done;
          among = instant_of (refused k) earlier done (λ past. there (with_disk world world.disk) (done ∷ world ∷ past) done (here done (world ∷ past)));
          is = refl;
          count = length world.streams.said;
          surely = omega (arith, surely_all earlier);
          are = sym (take_all (length world.streams.said) world.streams.said (omega arith));
        }
in_event_instant (heard room piece) earlier pick call = earlier_instant (heard room piece) (replay earlier) _ _ call (now_instant earlier)
in_event_instant hear_failed earlier pick call = earlier_instant hear_failed (replay earlier) _ _ call (now_instant earlier)
in_event_instant (said bytes) earlier pick call =
    let inside = saying (world_after earlier) bytes (length (world_after earlier).streams.said) in
    in_say_instant bytes earlier (replay (said bytes ∷ earlier)) (pick % (length bytes + 1)) (instant_of (said bytes) earlier inside (λ past. there (next_world (said bytes) (world_after earlier)) (inside ∷ world_after earlier ∷ past) inside (here inside (world_after earlier ∷ past))))
in_event_instant (say_failed bytes n) earlier pick call =
    let inside = saying (world_after earlier) bytes (length (world_after earlier).streams.said) in
    in_say_instant bytes earlier (replay (say_failed bytes n ∷ earlier)) (pick % (length bytes + 1)) (instant_of (say_failed bytes n) earlier inside (λ past. there (next_world (say_failed bytes n) (world_after earlier)) (inside ∷ world_after earlier ∷ past) inside (here inside (world_after earlier ∷ past))))

-- what is put is no call, and comes before any
puts_first : (events : List Event) → AllPut events → calls_in events ≡ 0
puts_first [] puts = refl
puts_first (put_directory path ∷ earlier) puts = omega (arith, puts_first earlier puts.1)
puts_first (put_file path bytes ∷ earlier) puts = omega (arith, puts_first earlier puts.1)
puts_first (found bytes ∷ earlier) puts = omega (arith, puts_first earlier puts.1)
puts_first (looked ∷ earlier) puts = absurd puts.0
puts_first (did call ∷ earlier) puts = absurd puts.0
puts_first (refused call ∷ earlier) puts = absurd puts.0
puts_first (heard room piece ∷ earlier) puts = absurd puts.0
puts_first (hear_failed ∷ earlier) puts = absurd puts.0
puts_first (said bytes ∷ earlier) puts = absurd puts.0
puts_first (say_failed bytes n ∷ earlier) puts = absurd puts.0

is_late : (event : Event) (earlier : List Event) → FitsAt event earlier → 0 < calls_in earlier → is_call event ≡ true
is_late (put_directory path) earlier fit some = absurd (omega (arith, some, puts_first earlier fit.0))
is_late (put_file path bytes) earlier fit some = absurd (omega (arith, some, puts_first earlier fit.puts))
is_late (found bytes) earlier fit some = absurd (omega (arith, some, puts_first earlier fit))
is_late looked earlier fit some = refl
is_late (did call) earlier fit some = refl
is_late (refused call) earlier fit some = refl
is_late (heard room piece) earlier fit some = refl
is_late hear_failed earlier fit some = refl
is_late (said bytes) earlier fit some = refl
is_late (say_failed bytes n) earlier fit some = refl

crash_instant : (n : ℕ) (events : List Event) (pick : ℕ) → AllFit events → IsInstant (replay events) (crash_in n events pick).disk (crash_in n events pick).said
crash_instant n [] pick fit = now_instant []
crash_instant n (event ∷ earlier) pick fit = at (nat_lt n (calls_in earlier)) refl (is_call event && (n == calls_in earlier)) refl (crash_instant n earlier pick fit.1)
  where
    some : nat_lt n (calls_in earlier) ≡ true → 0 < calls_in earlier
    some is = grind (arith, nat_tests)

    first : (b c : Bool) → (b && c) ≡ true → b ≡ true
    first true c is = refl
    first false c is = absurd (cc)

    at : (b : Bool) → nat_lt n (calls_in earlier) ≡ b → (c : Bool) → (is_call event && (n == calls_in earlier)) ≡ c → IsInstant (replay earlier) (crash_in n earlier pick).disk (crash_in n earlier pick).said
        → IsInstant (replay (event ∷ earlier)) (cond b (crash_in n earlier pick) (cond c (in_event event (world_after earlier) pick) (between_calls (world_after (event ∷ earlier)) pick))).disk
        (cond b (crash_in n earlier pick) (cond c (in_event event (world_after earlier) pick) (between_calls (world_after (event ∷ earlier)) pick))).said
    at true early c is before = earlier_instant event (replay earlier) (crash_in n earlier pick).disk (crash_in n earlier pick).said (is_late event earlier fit.0 (some early)) before
    at false late true is before = in_event_instant event earlier pick (first (is_call event) (n == calls_in earlier) is)
    at false late false is before = now_instant (event ∷ earlier)

-- a crash since the start might have left what the pick leaves
pub crash_left : (n : ℕ) (events : List Event) (pick : ℕ) → AllFit events → LeftSince 0 (replay events) (image_left (crash_in n events pick).disk (crash_in n events pick).pick) (crash_in n events pick).said
crash_left n events pick fit =
    let it = crash_instant n events pick fit in let crash = crash_in n events pick in
    let whole : take (length (replay events) + 1 - 0) (replay events) ≡ replay events = take_all (length (replay events) + 1 - 0) (replay events) (omega arith) in
    (it.world, subst (λ h. Contains h it.world) (sym whole) it.among, subst (λ d. MayLeave d (image_left crash.disk crash.pick)) (sym it.is) (left_may_be crash.disk crash.pick (crash_tidy n events pick)), (it.count, it.surely, it.are))
