-- A replayed history and its newest world.
use Rattle.std.proofs.Common.{◌≡◌, ◌≤◌, ℕ, inl, inr, List, [], ◌∷◌, ◌++◌, ◌||◌, ◌&&◌, ◌==◌, nat_lt, length, take, refl, sym, ◌∙◌, ap, subst, arith, Result, Ok, Err, OnOk, OnErr, true, false, length-take}
use Rattle.std.specs.Prelude.{is_ok}
use Rattle.file_model.specs.declared.files.Failed.{Failed}
use Rattle.file_model.specs.Disk.{Call, seen}
use Rattle.file_model.specs.Kinds.{Fits}
use Rattle.file_model.specs.Histories.{World, History, Now, GoesOn, Hears, Says, with_disk, with_streams, with_turn}
use Rattle.mem_host.specs.State.{State, history_of}
use Rattle.mem_host.specs.Soundness.{sound_replayed}
use Rattle.file_model.specs.Kept.{IsSound}
use Rattle.mem_host.specs.Events.{Event, put_directory, put_file, found, looked, did, refused, heard, hear_failed, said, say_failed}
use Rattle.mem_host.proofs.Fitted.{done_is}
use Rattle.mem_host.specs.Replay.{next_world, instants, pushed, replay, world_after}

-- a history has a world, the newest
pub record Newest (history : History) (world : World) : Type 0 where
  pub past : History
  pub whole : history ≡ world ∷ past

newest_instant : (event : Event) (world : World) (past : History) → Newest (instants event world past) (next_world event world)
newest_instant (put_directory path) world past = record { past = _; whole = refl }
newest_instant (put_file path bytes) world past = record { past = _; whole = refl }
newest_instant (found bytes) world past = record { past = _; whole = refl }
newest_instant looked world past = record { past = _; whole = refl }
newest_instant (did call) world past = record { past = _; whole = refl }
newest_instant (refused call) world past = record { past = _; whole = refl }
newest_instant (heard room piece) world past = record { past = _; whole = refl }
newest_instant hear_failed world past = record { past = _; whole = refl }
newest_instant (said bytes) world past = record { past = _; whole = refl }
newest_instant (say_failed bytes n) world past = record { past = _; whole = refl }

pub newest : (events : List Event) → Newest (replay events) (world_after events)
newest [] = record { past = []; whole = refl }
newest (event ∷ earlier) =
    let before = newest earlier in
    let now = newest_instant event (world_after earlier) before.past in
    record { past = now.past; whole = ap (pushed event) before.whole ∙ now.whole }

pub now_after : (events : List Event) (P : World → Type 0) → P (world_after events) → Now (replay events) P
now_after events P p = subst (λ h. Now h P) (sym (newest events).whole) p

pub after_now : (events : List Event) (P : World → Type 0) → Now (replay events) P → P (world_after events)
after_now events P now = subst (λ h. Now h P) (newest events).whole now

pub goes_on_done : (call : Call) (u : Unit {0}) (history : History) → Now history (λ w. Fits call (seen w.disk)) → GoesOn call (Ok u) history (pushed (did call) history)
goes_on_done call u [] fit = refl
goes_on_done call u (world ∷ past) fit = ap (λ d. with_disk world d ∷ world ∷ past) (done_is call world.disk fit)

-- inside a refused call a crash may find it done
pub goes_on_refused : (call : Call) (e : Failed) (history : History) → Now history (λ w. Fits call (seen w.disk)) → GoesOn call (Err e) history (pushed (refused call) history)
goes_on_refused call e [] fit = refl
goes_on_refused call e (world ∷ past) fit = inr (world.disk, record { each = λ image left. inl left }, ap (λ d. with_disk world world.disk ∷ with_disk world d ∷ world ∷ past) (done_is call world.disk fit))

-- what failed with nothing changed
pub goes_on_not : (call : Call) (e : Failed) (history : History) → GoesOn call (Err e) history history
goes_on_not call e [] = refl
goes_on_not call e (world ∷ past) = inl refl

-- a call that looks adds no instant
pub looked_same : (history : History) → pushed looked history ≡ history
looked_same [] = refl
looked_same (world ∷ past) = refl

pub hears_piece : (room n : ℕ) (given : List ℕ) (history : History) → n ≤ length given → Hears room given (Ok n) history (pushed (heard room (take n given)) history)
hears_piece room n given [] within = refl
hears_piece room n given (world ∷ past) within = ap (λ k. with_streams world (record {
  heard = world.streams.heard ++ take n given;
  ended = world.streams.ended || (k == 0 && nat_lt 0 room);
  said = world.streams.said;
  surely_said = world.streams.surely_said;
  turns = with_turn world.streams;
}) ∷ world ∷ past) (omega (arith, length-take n given))

pub hears_nothing : (room : ℕ) (given : List ℕ) (e : Failed) (history : History) → Hears room given (Err e) history (pushed hear_failed history)
hears_nothing room given e [] = refl
hears_nothing room given e (world ∷ past) = refl

pub says_all : (bytes : List ℕ) (u : Unit {0}) (history : History) → Says bytes (Ok u) history (pushed (said bytes) history)
says_all bytes u [] = refl
says_all bytes u (world ∷ past) = refl

pub says_part : (bytes : List ℕ) (n : ℕ) (e : Failed) (history : History) → Says bytes (Err e) history (pushed (say_failed bytes n) history)
says_part bytes n e [] = refl
says_part bytes n e (world ∷ past) = (n, refl)

-- what holds never leads to anything
pub never : (events : List Event) (state : State) (Q P : World → Type 0) → events ≡ state.events → (Q (world_after events) → ⊥) → Now (history_of state) (λ w. Q w → P w)
never events state Q P same none = subst (λ e. Now (replay e) (λ w. Q w → P w)) same (now_after events (λ w. Q w → P w) (λ q. absurd (none q)))

-- what reads see comes from a sound disk
pub sound_world : (events : List Event) → IsSound (world_after events).disk
sound_world events = after_now events (λ w. IsSound w.disk) (sound_replayed events)

-- ---- What holds at an answer

pub on_ok_true : (result : Result (Unit {0}) Failed) (P : Type 0) → is_ok result ≡ true → OnOk result P → P
on_ok_true (Ok u) P is here = here
on_ok_true (Err e) P is here = absurd (cc)

pub on_err_false : (result : Result (Unit {0}) Failed) (P : Type 0) → is_ok result ≡ false → OnErr result P → P
on_err_false (Ok u) P is here = absurd (cc)
on_err_false (Err e) P is here = here
