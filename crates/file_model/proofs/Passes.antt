-- Runs that also hear and say.
use Rattle.std.proofs.Common.{◌≡◌, ◌+◌, ◌-◌, length-append, arith, ℕ, Bool, true, false, ◌||◌, List, [], ◌∷◌, ◌++◌, refl, sym, ◌∙◌, ap, subst, append_assoc, length, take, drop, Result, Ok, Err}
use Rattle.std.specs.List.{AllByRecursion}
use Rattle.std.proofs.lemmas.List.{append-nil, take-append-drop}
use Rattle.file_model.specs.declared.files.Failed.{Failed}
use Rattle.file_model.specs.Disk.{Disk}
use Rattle.file_model.specs.Images.{Image}
use Rattle.file_model.specs.Histories.{World, History, Now, instant, LeftSince, Ran, Ended, Passed, Says, saying, Hears, with_streams, with_turn}
use Rattle.std.proofs.Math.Seq.{take-append-add}
use Rattle.std.proofs.lemmas.List.Elements.{All-contains, All-from_recursion}
use Rattle.std.specs.List.{Contains}
use Rattle.file_model.specs.Arrived.{worlds_since, LeftBy, Arrived, Begins, IsSaying, HasSaid, HasHeard, given_bytes, gives_end}
use Rattle.file_model.proofs.Runs.{all_append, all_weaker, none_added}

pub passed_none : (R : World → World → Type 0) (history : History) → Passed R history history
passed_none R [] = record { added = []; whole = refl; each = refl }
passed_none R (w ∷ past) = record { added = []; whole = refl; each = tt }

pub passed_weaker : (R S : World → World → Type 0) → ((a b : World) → R a b → S a b) → (old new : History) → Passed R old new → Passed S old new
passed_weaker R S weaker [] new run = record { added = run.added; whole = run.whole; each = run.each }
passed_weaker R S weaker (w ∷ past) new run = record { added = run.added; whole = run.whole; each = all_weaker (R w) (S w) (weaker w) run.added run.each }

-- a run, and then another from where the first one leads
pub passed_then : (R E S T : World → World → Type 0) → ((a b : World) → R a b → T a b) → ((a b c : World) → E a b → S b c → T a c)
    → (old mid new : History) → Passed R old mid → Arrived E old mid → Passed S mid new → Passed T old new
passed_then R E S T first then [] mid new one at two = record {
  added = two.added ++ one.added;
  whole = two.whole ∙ ap (λ h. two.added ++ h) one.whole ∙ sym (append_assoc two.added one.added []);
  each = none_added _ mid one.added two.added one.whole one.each two.each;
}
passed_then R E S T first then (start ∷ past) [] new one at two = absurd at
passed_then R E S T first then (start ∷ past) (mid ∷ more) new one at two = record {
  added = two.added ++ one.added;
  whole = two.whole ∙ ap (λ h. two.added ++ h) one.whole ∙ sym (append_assoc two.added one.added (start ∷ past));
  each = all_append (T start) two.added one.added (all_weaker (S mid) (T start) (λ c. then start mid c at) two.added two.each) (all_weaker (R start) (T start) (first start) one.added one.each);
}

pub arrived_none : (R : World → World → Type 0) → (history : History) → Now history (λ w. R w w) → Arrived R history history
arrived_none R [] now = refl
arrived_none R (w ∷ past) now = now

pub arrived_weaker : (R S : World → World → Type 0) → ((a b : World) → R a b → S a b) → (old new : History) → Arrived R old new → Arrived S old new
arrived_weaker R S weaker [] new at = at
arrived_weaker R S weaker (a ∷ past) [] at = at
arrived_weaker R S weaker (a ∷ past) (b ∷ more) at = weaker a b at

pub arrived_then : (R S T : World → World → Type 0) → ((a b c : World) → R a b → S b c → T a c)
    → (old mid new : History) → Arrived R old mid → Arrived S mid new → Arrived T old new
arrived_then R S T then [] [] new one two = two
arrived_then R S T then [] (b ∷ more) new one two = absurd (cc)
arrived_then R S T then (a ∷ past) [] new one two = absurd one
arrived_then R S T then (a ∷ past) (b ∷ more) [] one two = two
arrived_then R S T then (a ∷ past) (b ∷ more) (c ∷ rest) one two = then a b c one two

-- what holds where a run leads
pub arrived_now : (R : World → World → Type 0) (P : World → Type 0) → ((a b : World) → R a b → P b) → (old new : History) → Arrived R old new → Now new P
arrived_now R P holds [] [] at = tt
arrived_now R P holds [] (b ∷ more) at = absurd (cc)
arrived_now R P holds (a ∷ past) [] at = tt
arrived_now R P holds (a ∷ past) (b ∷ more) at = holds a b at

-- what holds at the start, by where the run leads
pub arrived_with : (P : World → Type 0) (R S : World → World → Type 0) → ((a b : World) → P a → R a b → S a b) → (old new : History) → Now old P → Arrived R old new → Arrived S old new
arrived_with P R S weaker [] new now at = at
arrived_with P R S weaker (a ∷ past) [] now at = at
arrived_with P R S weaker (a ∷ past) (b ∷ more) now at = weaker a b now at

-- ---- `say` and `hear`

all_of : (bytes : List ℕ) → Begins bytes bytes
all_of bytes = record { rest = []; is_whole = append-nil bytes }

said_part : (bytes : List ℕ) (w : World) (part : List ℕ) (surely : ℕ) → Begins part bytes → IsSaying bytes w (saying w part surely)
said_part bytes w part surely begins = record { disk = refl; heard = refl; ended = refl; turns = refl; part = part; is_said = refl; is_part = begins }

pub passed_say : (bytes : List ℕ) (result : Result (Unit {0}) Failed) (old new : History) → Says bytes result old new → Passed (IsSaying bytes) old new
passed_say bytes result [] new says = record { added = []; whole = says; each = refl }
passed_say bytes (Ok u) (w ∷ past) new says = record {
  added = saying w bytes (length (w.streams.said ++ bytes)) ∷ saying w bytes (length w.streams.said) ∷ [];
  whole = says;
  each = (said_part bytes w bytes (length (w.streams.said ++ bytes)) (all_of bytes), (said_part bytes w bytes (length w.streams.said) (all_of bytes), tt));
}
passed_say bytes (Err e) (w ∷ past) new says = record {
  added = saying w (take says.0 bytes) (length (w.streams.said ++ take says.0 bytes)) ∷ saying w bytes (length w.streams.said) ∷ [];
  whole = says.1;
  each = (
    said_part bytes w (take says.0 bytes) (length (w.streams.said ++ take says.0 bytes)) (record { rest = drop says.0 bytes; is_whole = take-append-drop says.0 bytes }),
    (said_part bytes w bytes (length w.streams.said) (all_of bytes), tt),
  );
}

pub arrived_say : (bytes : List ℕ) (u : Unit {0}) (old new : History) → Says bytes (Ok u) old new → Arrived (HasSaid bytes) old new
arrived_say bytes u [] new says = says
arrived_say bytes u (w ∷ past) new says = subst (λ h. Arrived (HasSaid bytes) (w ∷ past) h) (sym says) (record { disk = refl; heard = refl; ended = refl; turns = refl; said = refl })

-- the world after a `hear`
abbrev heard_world : ℕ → List ℕ → Result ℕ Failed → World → World
heard_world room given result w = with_streams w (record {
  heard = w.streams.heard ++ given_bytes result given;
  ended = w.streams.ended || gives_end result room;
  said = w.streams.said;
  surely_said = w.streams.surely_said;
  turns = with_turn w.streams;
})

heard_now : (room : ℕ) (given : List ℕ) (result : Result ℕ Failed) (w : World) → HasHeard (given_bytes result given) (gives_end result room) w (heard_world room given result w)
heard_now room given result w = record { disk = refl; heard = refl; ended = refl; turns = refl; said = refl }

abbrev unheard_world : World → World
unheard_world w = with_streams w (record {
  heard = w.streams.heard;
  ended = w.streams.ended;
  said = w.streams.said;
  surely_said = w.streams.surely_said;
  turns = with_turn w.streams;
})

or_false : (b : Bool) → b ≡ b || false
or_false true = refl
or_false false = refl

unheard_now : (w : World) → HasHeard [] false w (unheard_world w)
unheard_now w = record { disk = refl; heard = sym (append-nil w.streams.heard); ended = or_false w.streams.ended; turns = refl; said = refl }

pub passed_hear : (room : ℕ) (given : List ℕ) (result : Result ℕ Failed) (old new : History) → Hears room given result old new → Passed (HasHeard (given_bytes result given) (gives_end result room)) old new
passed_hear room given result [] new hears = record { added = []; whole = hears; each = refl }
passed_hear room given (Ok n) (w ∷ past) new hears = record { added = heard_world room given (Ok n) w ∷ []; whole = hears; each = (heard_now room given (Ok n) w, tt) }
passed_hear room given (Err e) (w ∷ past) new hears = record { added = unheard_world w ∷ []; whole = hears; each = (unheard_now w, tt) }

pub arrived_hear : (room : ℕ) (given : List ℕ) (result : Result ℕ Failed) (old new : History) → Hears room given result old new → Arrived (HasHeard (given_bytes result given) (gives_end result room)) old new
arrived_hear room given result [] new hears = hears
arrived_hear room given (Ok n) (w ∷ past) new hears = subst (λ h. Arrived (HasHeard (take n given) (gives_end (Ok n) room)) (w ∷ past) h) (sym hears) (heard_now room given (Ok n) w)
arrived_hear room given (Err e) (w ∷ past) new hears = subst (λ h. Arrived (HasHeard [] false) (w ∷ past) h) (sym hears) (unheard_now w)

-- what holds at the start, at each instant of the run
pub passed_now : (P : World → Type 0) (R S : World → World → Type 0) → ((a b : World) → P a → R a b → S a b) → (old new : History) → Now old P → Passed R old new → Passed S old new
passed_now P R S weaker [] new now run = record { added = run.added; whole = run.whole; each = run.each }
passed_now P R S weaker (w ∷ past) new now run = record { added = run.added; whole = run.whole; each = all_weaker (R w) (S w) (λ b. weaker w b now) run.added run.each }

-- the worlds that a run adds, and its start
front : (added : List World) (start : World) (past new : List World) → new ≡ added ++ start ∷ past → worlds_since (length (start ∷ past)) new ≡ added ++ start ∷ []
front added start past new is =
    let e = ap length is ∙ length-append added (start ∷ past) in
    let n : length new + 1 - length (start ∷ past) ≡ length added + 1 = omega (arith, e) in
    ap (λ k. take k new) n ∙ ap (take (length added + 1)) is ∙ take-append-add added (start ∷ past) 1

pub each_since : (R : World → World → Type 0) (start : World) (past new : List World) → R start start → Passed R (start ∷ past) new
    → (world : World) → Contains (worlds_since (length (start ∷ past)) new) world → R start world
each_since R start past new same run world among =
    All-contains (R start) (run.added ++ start ∷ []) world
    (All-from_recursion (R start) (run.added ++ start ∷ []) (all_append (R start) run.added (start ∷ []) run.each (same, tt)))
    (subst (λ l. Contains l world) (front run.added start past new run.whole) among)

pub left_since : (R : World → World → Type 0) (start : World) (past new : List World) → R start start → Passed R (start ∷ past) new
    → (image : Image) (said : List ℕ) → LeftSince (instant (start ∷ past)) new image said → LeftBy (R start) image said
left_since R start past new same run image said left = record {
  world = left.0;
  holds = each_since R start past new same run left.0 left.1;
  may_leave = left.2;
  count = left.3.0;
  surely = left.3.1;
  is_said = left.3.2;
}

-- ---- Runs on files alone

here_after : (R T : Disk → Disk → Type 0) (a : World) (past added : List World) → AllByRecursion (λ w. (w.streams ≡ a.streams) × R a.disk w.disk) added → Ended T (a ∷ past) (added ++ a ∷ past)
    → Arrived (λ x y. (y.streams ≡ x.streams) × T x.disk y.disk) (a ∷ past) (added ++ a ∷ past)
here_after R T a past [] each ended = (refl, ended)
here_after R T a past (w ∷ added) each ended = (each.0.0, ended)

-- where a run on files alone leads
pub ran_arrived : (R T : Disk → Disk → Type 0) (old new : History) → Ran R old new → Ended T old new → Arrived (λ a b. (b.streams ≡ a.streams) × T a.disk b.disk) old new
ran_arrived R T [] new run ended = ended
ran_arrived R T (a ∷ past) new run ended =
    subst (λ h. Arrived (λ x y. (y.streams ≡ x.streams) × T x.disk y.disk) (a ∷ past) h) (sym run.whole) (here_after R T a past run.added run.each (subst (λ h. Ended T (a ∷ past) h) run.whole ended))

ran_each : (R : Disk → Disk → Type 0) (Q : World → World → Type 0) (a : World) → ((w : World) → w.streams ≡ a.streams → R a.disk w.disk → Q a w) → (added : List World) → AllByRecursion (λ w. (w.streams ≡ a.streams) × R a.disk w.disk) added → AllByRecursion (Q a) added
ran_each R Q a holds [] all = tt
ran_each R Q a holds (w ∷ added) all = (holds w all.0.0 all.0.1, ran_each R Q a holds added all.1)

-- a run on files alone says nothing
pub ran_passed : (P : World → Type 0) (R : Disk → Disk → Type 0) (Q : World → World → Type 0) → ((a w : World) → P a → w.streams ≡ a.streams → R a.disk w.disk → Q a w) → (old new : History) → Now old P → Ran R old new → Passed Q old new
ran_passed P R Q holds [] new now run = record { added = run.added; whole = run.whole; each = run.each }
ran_passed P R Q holds (a ∷ past) new now run = record { added = run.added; whole = run.whole; each = ran_each R Q a (λ w. holds a w now) run.added run.each }
