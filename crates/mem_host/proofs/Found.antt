-- What a crash finds, deed by deed.
use Rattle.std.proofs.Common.{◌≡◌, ℕ, ◌+◌, ◌<◌, ◌≤◌, ◌==◌, ◌&&◌, List, [], ◌∷◌, ◌++◌, length, map, reverse, take, drop, get_or, Bool, true, false, cond, nat_lt, Result, Ok, Err, IfOk, refl, sym, ◌∙◌, ap, subst, arith, take-append-drop}
use Rattle.std.proofs.lemmas.List.{map-append, reverse-append, take_more}
use Rattle.std.proofs.lemmas.Bool.Decides.{nat_tests}
use Rattle.file_model.specs.Disk.{Disk, after, Call}
use Rattle.file_model.specs.Kinds.{Fits}
use Rattle.mem_host.specs.Events.{Event, put_directory, put_file, did}
use Rattle.mem_host.specs.Deeds.{event_of_deed}
use Rattle.mem_host.specs.Replay.{after_fitting, world_after, seen_after, with_directory, with_resting_file}
use Rattle.mem_host.specs.Fitted.{FitsAt, AllFit}
use Rattle.mem_host.specs.Remains.{IsRemains, IsTidy, CanStep}
use Rattle.mem_host.specs.Crashes.{between_calls, is_sync, in_call, in_event, is_call, calls_in, crash_in}
use Rattle.mem_host.specs.Finding.{events_of, Finds, FindsAfter, CanGoOn}
use Rattle.mem_host.specs.declared.log.Deed.{Deed}
use Rattle.mem_host.specs.declared.crash.Crash.{Crash as CrashData}
use Rattle.mem_host.specs.declared.remains.Remains.{Remains}
use Rattle.mem_host.proofs.Fitted.{done_is, put_directory_is, put_file_is}
use Rattle.mem_host.proofs.Resting.{rest_after}
use Rattle.mem_host.proofs.Tidy.{tidy_after}
use Rattle.mem_host.proofs.Replayed.{sound_world}

-- ---- A deed more

pub can_step : (call : Call) (crash : CrashData) → CanGoOn (did call) crash → CanStep call crash.remains
can_step call crash can = record { disk = (world_after can.earlier).disk; sound = sound_world can.earlier; is = can.finds.remains; fit = can.fit }

-- a call was done to what remains
pub finds_done : (call : Call) (old : CrashData) (remains : Remains) (earlier : List Event) → ((disk : Disk) → IsRemains old.remains disk → IsTidy disk → IsRemains remains (after call disk))
    → Fits call (seen_after earlier) → FindsAfter old earlier → FindsAfter (record { remains = remains; said = old.said; pick = old.pick }) (did call ∷ earlier)
finds_done call old remains earlier steps fit finds = record {
  remains = subst (IsRemains remains) (sym (done_is call (world_after earlier).disk fit)) (steps (world_after earlier).disk finds.remains (tidy_after earlier));
  said = finds.said;
  pick = refl;
}

pub finds_directory : (path : List ℕ) (old : CrashData) (remains : Remains) (earlier : List Event) → ((disk : Disk) → disk.pending ≡ [] → IsRemains old.remains disk → IsRemains remains (with_directory path disk))
    → FitsAt (put_directory path) earlier → FindsAfter old earlier → FindsAfter (record { remains = remains; said = old.said; pick = old.pick }) (put_directory path ∷ earlier)
finds_directory path old remains earlier puts fit finds = record {
  remains = subst (IsRemains remains) (sym (put_directory_is path (world_after earlier).disk fit.1)) (puts (world_after earlier).disk (rest_after earlier fit.0).none_pending finds.remains);
  said = finds.said;
  pick = refl;
}

pub finds_file : (path bytes : List ℕ) (old : CrashData) (remains : Remains) (earlier : List Event) → ((disk : Disk) → disk.pending ≡ [] → IsRemains old.remains disk → IsRemains remains (with_resting_file path bytes disk))
    → FitsAt (put_file path bytes) earlier → FindsAfter old earlier → FindsAfter (record { remains = remains; said = old.said; pick = old.pick }) (put_file path bytes ∷ earlier)
finds_file path bytes old remains earlier puts fit finds = record {
  remains = subst (IsRemains remains) (sym (put_file_is path bytes (world_after earlier).disk fit.room fit.no_directory fit.are_bytes)) (puts (world_after earlier).disk (rest_after earlier fit.puts).none_pending finds.remains);
  said = finds.said;
  pick = refl;
}

-- ---- A crash in a call

-- the call is found undone or done
pub finds_undone : (call : Call) (old : CrashData) (earlier : List Event) → is_sync call ≡ true → FindsAfter old earlier → Finds old (in_call call (world_after earlier) old.pick)
finds_undone call old earlier is finds = record {
  remains = subst (IsRemains old.remains) (sym (undone (is_sync call) is)) finds.remains;
  said = finds.said;
  pick = refl;
}
  where
    undone : (b : Bool) → b ≡ true → cond b (world_after earlier).disk (after_fitting call (world_after earlier).disk) ≡ (world_after earlier).disk
    undone true is = refl
    undone false is = absurd (cc)

pub finds_in_call : (call : Call) (old : CrashData) (remains : Remains) (earlier : List Event) → ((disk : Disk) → IsRemains old.remains disk → IsTidy disk → IsRemains remains (after call disk)) → is_sync call ≡ false
    → Fits call (seen_after earlier) → FindsAfter old earlier → Finds (record { remains = remains; said = old.said; pick = old.pick }) (in_call call (world_after earlier) old.pick)
finds_in_call call old remains earlier steps other fit finds = record {
  remains = subst (IsRemains remains) (sym (done (is_sync call) other)) (finds_done call old remains earlier steps fit finds).remains;
  said = finds.said;
  pick = refl;
}
  where
    done : (b : Bool) → b ≡ false → cond b (world_after earlier).disk (after_fitting call (world_after earlier).disk) ≡ after_fitting call (world_after earlier).disk
    done true is = absurd (cc)
    done false is = refl

-- ---- The events of deeds

pub next_event : (deeds : List Deed) (k : ℕ) (d : Deed) → k < length deeds → events_of (take (k + 1) deeds) ≡ event_of_deed (get_or deeds k d) ∷ events_of (take k deeds)
next_event deeds k d below =
    ap events_of (take_more deeds k d below) ∙ ap reverse (map-append event_of_deed (take k deeds) (get_or deeds k d ∷ [])) ∙ reverse-append (map event_of_deed (take k deeds)) (event_of_deed (get_or deeds k d) ∷ [])

events_parts : (deeds : List Deed) (k : ℕ) → events_of deeds ≡ events_of (drop k deeds) ++ events_of (take k deeds)
events_parts deeds k =
    ap events_of (sym (take-append-drop k deeds)) ∙ ap reverse (map-append event_of_deed (take k deeds) (drop k deeds)) ∙ reverse-append (map event_of_deed (take k deeds)) (map event_of_deed (drop k deeds))

fit_behind : (later earlier : List Event) → AllFit (later ++ earlier) → AllFit earlier
fit_behind [] earlier fit = fit
fit_behind (event ∷ later) earlier fit = fit_behind later earlier fit.1

-- the first deeds fit where all do
pub first_fit : (deeds : List Deed) (k : ℕ) → AllFit (events_of deeds) → AllFit (events_of (take k deeds))
first_fit deeds k fit = fit_behind (events_of (drop k deeds)) (events_of (take k deeds)) (subst AllFit (events_parts deeds k) fit)

-- and so does the next
pub next_fits : (deeds : List Deed) (k : ℕ) (d : Deed) → k < length deeds → AllFit (events_of deeds) → FitsAt (event_of_deed (get_or deeds k d)) (events_of (take k deeds))
next_fits deeds k d below fit = (subst AllFit (next_event deeds k d below) (first_fit deeds (k + 1) fit)).0

-- ---- Where a call stands

lt_is : (k n : ℕ) → k < n → nat_lt k n ≡ true
lt_is k n below = grind (arith, nat_tests)

lt_not : (k n : ℕ) → n ≤ k → nat_lt k n ≡ false
lt_not k n above = grind (arith, nat_tests)

same_is : (k n : ℕ) → k ≡ n → (k == n) ≡ true
same_is k n same = grind arith

same_not : (k n : ℕ) → (k ≡ n → ⊥) → (k == n) ≡ false
same_not k n apart = grind arith

calls_behind : (later earlier : List Event) → calls_in earlier ≤ calls_in (later ++ earlier)
calls_behind [] earlier = omega arith
calls_behind (event ∷ later) earlier = omega (arith, calls_behind later earlier)

one_call : (event : Event) (earlier : List Event) → is_call event ≡ true → calls_in (event ∷ earlier) ≡ calls_in earlier + 1
one_call event earlier is = ap (λ b. calls_in earlier + cond b 1 0) is

-- in the call of a number
pub crash_found : (n : ℕ) (later : List Event) (event : Event) (earlier : List Event) (pick : ℕ) → is_call event ≡ true → n ≡ calls_in earlier
    → crash_in n (later ++ event ∷ earlier) pick ≡ in_event event (world_after earlier) pick
crash_found n [] event earlier pick is number =
    ap (λ b. cond b (crash_in n earlier pick) (cond (is_call event && (n == calls_in earlier)) (in_event event (world_after earlier) pick) (between_calls (world_after (event ∷ earlier)) pick))) (lt_not n (calls_in earlier) (omega (arith, number)))
    ∙ ap (λ b. cond b (in_event event (world_after earlier) pick) (between_calls (world_after (event ∷ earlier)) pick)) ((λ i. is i && (same_is n (calls_in earlier) number) i))
crash_found n (next ∷ later) event earlier pick is number =
    let all = later ++ event ∷ earlier in
    let below : n < calls_in all = omega (arith, number, one_call event earlier is, calls_behind later (event ∷ earlier)) in
    ap (λ b. cond b (crash_in n all pick) (cond (is_call next && (n == calls_in all)) (in_event next (world_after all) pick) (between_calls (world_after (next ∷ all)) pick))) (lt_is n (calls_in all) below)
    ∙ crash_found n later event earlier pick is number

-- in a call that wasn't reached
pub crash_now : (n : ℕ) (events : List Event) (pick : ℕ) → calls_in events ≤ n → crash_in n events pick ≡ between_calls (world_after events) pick
crash_now n [] pick few = refl
crash_now n (event ∷ earlier) pick few =
    ap (λ b. cond b (crash_in n earlier pick) (cond (is_call event && (n == calls_in earlier)) (in_event event (world_after earlier) pick) (between_calls (world_after (event ∷ earlier)) pick)))
    (lt_not n (calls_in earlier) (omega (arith, few, calls_behind (event ∷ []) earlier)))
    ∙ ap (λ b. cond b (in_event event (world_after earlier) pick) (between_calls (world_after (event ∷ earlier)) pick)) (at (is_call event) refl)
  where
    at : (b : Bool) → is_call event ≡ b → (b && (n == calls_in earlier)) ≡ false
    at true is = same_not n (calls_in earlier) (λ same. absurd (omega (arith, few, same, one_call event earlier is)))
    at false is = refl

-- the call of a deed
pub crash_at : (n : ℕ) (deeds : List Deed) (k : ℕ) (d : Deed) (pick : ℕ) → k < length deeds → is_call (event_of_deed (get_or deeds k d)) ≡ true → n ≡ calls_in (events_of (take k deeds))
    → crash_in n (events_of deeds) pick ≡ in_event (event_of_deed (get_or deeds k d)) (world_after (events_of (take k deeds))) pick
crash_at n deeds k d pick below is number =
    ap (λ events. crash_in n events pick) (events_parts deeds (k + 1) ∙ ap (λ l. events_of (drop (k + 1) deeds) ++ l) (next_event deeds k d below))
    ∙ crash_found n (events_of (drop (k + 1) deeds)) (event_of_deed (get_or deeds k d)) (events_of (take k deeds)) pick is number

pub on_result : {T E : Type 0} (result : Result T E) (P Q : T → Type 0) → ((x : T) → P x → Q x) → IfOk result P → IfOk result Q
on_result (Ok x) P Q on is = on x is
on_result (Err e) P Q on is = is

pub on_both_results : {T E : Type 0} (result : Result T E) (P Q R : T → Type 0) → ((x : T) → P x → Q x → R x) → IfOk result P → IfOk result Q → IfOk result R
on_both_results (Ok x) P Q R on p q = on x p q
on_both_results (Err e) P Q R on p q = p
