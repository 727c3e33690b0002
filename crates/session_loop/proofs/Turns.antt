-- Turns, on histories.
use Rattle.std.proofs.Common.{ℕ, ◌<◌, ◌≤◌, length, Bool, false, List, [], ◌∷◌, ◌++◌, ◌≡◌, refl, sym, ◌∙◌, ap, subst, Result, Ok, Err}
use Rattle.std.proofs.lemmas.List.{append-nil}
use Rattle.std.specs.Result.{is_err, OnOk}
use Rattle.unit_reader.specs.Units.{Adds, UnitsFirst}
use Rattle.file_model.specs.declared.files.Failed.{Failed}
use Rattle.file_model.specs.Disk.{Disk}
use Rattle.file_model.specs.Histories.{History, Now, Passed, Hears, Says}
use Rattle.file_model.specs.Arrived.{Arrived, Begins, HasHeard, IsSaying, HasSaid, given_bytes, gives_end}
use Rattle.file_model.proofs.Passes.{passed_none, passed_then, passed_weaker, arrived_none, arrived_then, arrived_now, arrived_with, passed_hear, arrived_hear, passed_say, arrived_say}
use Rattle.file_model.proofs.Runs.{now_weaker}
use Rattle.session_loop.specs.Machine.{Protocol, IsKept, state_after, answered, has_last, commands_in, is_over}
use Rattle.session_loop.specs.Instants.{Answering, HasAnswered, Serving, HasServed, Opened, most_heard}
use Rattle.session_loop.specs.Outcome.{IsLong}
use Rattle.session_loop.specs.declared.end.End.{End}
use Rattle.session_loop.specs.declared.end.End.TheVariants.{Done, Cut, Long, HearFault, SayFault, FileFault, Memory}
use Rattle.session_loop.proofs.Machine.{answered_append, answered_all, has_last_append}
use Rattle.session_loop.proofs.Instants.{has_answered_none, served_heard, heard_instant, served_answering, served_answered, opening_instant, greeting_instant, greeting_said}

-- the units of a longer stream
pub longer : {U : Type 0} (is_last : U → Bool) (units more all : List U) → has_last is_last units ≡ false → all ≡ units ++ more → answered is_last units ++ answered is_last more ≡ answered is_last all
longer is_last units more all none are =
    ap (λ us. us ++ answered is_last more) (answered_all is_last units none) ∙ sym (answered_append is_last units more none) ∙ ap (answered is_last) (sym are)

pub longer_first : {U : Type 0} (is_last : U → Bool) (units more all : List U) → has_last is_last units ≡ false → all ≡ units ++ more → Begins (answered is_last units) (answered is_last all)
longer_first is_last units more all none are = record { rest = answered is_last more; is_whole = longer is_last units more all none are }

pub last_behind : {U : Type 0} (is_last : U → Bool) (units more all : List U) → has_last is_last units ≡ false → all ≡ units ++ more → has_last is_last all ≡ has_last is_last more
last_behind is_last units more all none are = ap (has_last is_last) are ∙ has_last_append is_last units more none

-- a `hear` leaves the disk
pub now_heard : (P : Disk → Type 0) (room : ℕ) (given : List ℕ) (result : Result ℕ Failed) (old new : History) → Hears room given result old new → Now old (λ w. P w.disk) → Now new (λ w. P w.disk)
now_heard P room given result old new hears now =
    arrived_now (λ a b. P b.disk) (λ w. P w.disk) (λ a b is. is) old new
    (arrived_with (λ w. P w.disk) (HasHeard (given_bytes result given) (gives_end result room)) (λ a b. P b.disk) (λ a b is heard. subst P (sym heard.disk) is) old new now (arrived_hear room given result old new hears))

-- a `hear` in a session all of whose units were answered
pub hear_arrived : {S U : Type 0} (p : Protocol S U) (stands : Disk → S → Type 0) (state : S) (heard piece : List ℕ) (ends : Bool)
    (room : ℕ) (given : List ℕ) (result : Result ℕ Failed) (first old new : History)
    → is_over p heard ≡ false → length (heard ++ piece) ≤ most_heard → (ends ≡ false → 0 < length piece)
    → given_bytes result given ≡ piece → gives_end result room ≡ ends → Hears room given result old new
    → Arrived (HasServed p stands state heard (commands_in p heard) false) first old
    → Arrived (HasServed p stands state (heard ++ piece) (commands_in p heard) ends) first new
hear_arrived p stands state heard piece ends room given result first old new none few some are end hears at =
    arrived_then (HasServed p stands state heard (commands_in p heard) false) (HasHeard piece ends)
    (HasServed p stands state (heard ++ piece) (commands_in p heard) ends)
    (λ a b c. served_heard p stands state heard piece ends a b c none few some) first old new at
    (subst (λ e. Arrived (HasHeard piece e) old new) end (subst (λ p. Arrived (HasHeard p (gives_end result room)) old new) are (arrived_hear room given result old new hears)))

pub hear_passed : {S U : Type 0} (p : Protocol S U) (stands : Disk → S → Type 0) (state : S) (heard piece : List ℕ)
    (room : ℕ) (given : List ℕ) (result : Result ℕ Failed) (first old new : History)
    → IsKept p
    → is_over p heard ≡ false → length (heard ++ piece) ≤ most_heard
    → given_bytes result given ≡ piece → Begins (commands_in p heard) (commands_in p (heard ++ piece)) → Hears room given result old new
    → Passed (Serving p state) first old
    → Arrived (HasServed p stands state heard (commands_in p heard) false) first old
    → Passed (Serving p state) first new
hear_passed p stands state heard piece room given result first old new law none few are begins hears one at =
    passed_then (Serving p state) (HasServed p stands state heard (commands_in p heard) false)
    (HasHeard piece (gives_end result room)) (Serving p state) (λ a b is. is)
    (λ a b c served is. heard_instant p stands state heard piece (gives_end result room) a b c law none few begins served is)
    first old new one at (subst (λ p. Passed (HasHeard p (gives_end result room)) old new) are (passed_hear room given result old new hears))

-- more units are answered
pub answers_passed : {S U : Type 0} (p : Protocol S U) (stands : Disk → S → Type 0) (state : S) (heard : List ℕ) (units more : List U) (over : Bool) (first old new : History)
    → Begins (units ++ more) (commands_in p heard)
    → Passed (Serving p state) first old
    → Arrived (HasServed p stands state heard units over) first old
    → Passed (Answering p (state_after p.step state units) more) old new
    → Passed (Serving p state) first new
answers_passed p stands state heard units more over first old new begins one at two =
    passed_then (Serving p state) (HasServed p stands state heard units over)
    (Answering p (state_after p.step state units) more) (Serving p state) (λ a b is. is)
    (λ a b c served is. served_answering p stands state heard units more over a b c begins served is) first old new one at two

pub answers_arrived : {S U : Type 0} (p : Protocol S U) (before stands : Disk → S → Type 0) (state : S) (heard : List ℕ) (units more all : List U) (over : Bool) (first old new : History)
    → units ++ more ≡ all
    → Arrived (HasServed p before state heard units over) first old
    → Arrived (HasAnswered p stands (state_after p.step state units) more) old new
    → Arrived (HasServed p stands state heard all over) first new
answers_arrived p before stands state heard units more all over first old new whole one two =
    arrived_then (HasServed p before state heard units over) (HasAnswered p stands (state_after p.step state units) more)
    (HasServed p stands state heard all over)
    (λ a b c. served_answered p before stands state heard units more all over a b c whole) first old new one two

-- what a session that was served stands for
pub served_now : {S U : Type 0} (p : Protocol S U) (stands : Disk → S → Type 0) (state : S) (heard : List ℕ) (units : List U) (over : Bool) (first now : History)
    → Arrived (HasServed p stands state heard units over) first now → Now now (λ w. stands w.disk (state_after p.step state units))
served_now p stands state heard units over first now at = arrived_now _ _ (λ a b is. is.is_state) first now at

-- ---- The greeting

-- a session that stands for a state is open
pub opened_here : {S U : Type 0} (p : Protocol S U) (stands : Disk → S → Type 0) (state : S) (now : History)
    → Now now (λ w. stands w.disk state) → Opened {S = S} {U = U} p stands state now now
opened_here {U = U} p stands state now is = record {
  instants = passed_none (Answering {U = U} p state []) now;
  here = arrived_none (HasAnswered {U = U} p stands state []) now (now_weaker (λ w. stands w.disk state) (λ w. HasAnswered {U = U} p stands state [] w w) (λ w here. has_answered_none {U = U} p stands state w here) now is);
}

-- the session is open, and the bytes are its greeting
opened_greeting : {S U : Type 0} (p : Protocol S U) (stands : Disk → S → Type 0) (state : S) (bytes : List ℕ) (first old : History)
    → Arrived (HasAnswered {S = S} {U = U} p stands state []) first old → Now old (λ w. (s : S) → stands w.disk s → p.says (p.greeting s) bytes)
    → Arrived (λ a b. HasAnswered {S = S} {U = U} p stands state [] a b × p.says (p.greeting state) bytes) first old
opened_greeting p stands state bytes [] old is given = is
opened_greeting p stands state bytes (start ∷ past) [] is given = is
opened_greeting p stands state bytes (start ∷ past) (end ∷ more) is given = (is, given state is.is_state)

pub say_passed : {S U : Type 0} (p : Protocol S U) (stands : Disk → S → Type 0) (state : S) (bytes : List ℕ) (result : Result (Unit {0}) Failed) (first old new : History)
    → IsKept p
    → Opened {S = S} {U = U} p stands state first old → Now old (λ w. (s : S) → stands w.disk s → p.says (p.greeting s) bytes)
    → Says bytes result old new → Passed (Serving p state) first new
say_passed {U = U} p stands state bytes result first old new law is given says =
    passed_then (Serving p state) (λ a b. HasAnswered {U = U} p stands state [] a b × p.says (p.greeting state) bytes) (IsSaying bytes) (Serving p state) (λ a b here. here)
    (λ a b c open_here said. greeting_instant p stands state bytes a b c law open_here said) first old new
    (passed_weaker (Answering {U = U} p state []) (Serving p state) (opening_instant p state) first old is.instants)
    (opened_greeting p stands state bytes first old is.here given) (passed_say bytes result old new says)

pub say_arrived : {S U : Type 0} (p : Protocol S U) (stands : Disk → S → Type 0) (state : S) (bytes : List ℕ) (u : Unit {0}) (first old new : History)
    → p.units_of [] ≡ [] → Opened {S = S} {U = U} p stands state first old → Now old (λ w. (s : S) → stands w.disk s → p.says (p.greeting s) bytes)
    → Says bytes (Ok u) old new → Arrived (HasServed p stands state [] (commands_in p []) false) first new
say_arrived {U = U} p stands state bytes u first old new none is given says =
    arrived_then (λ a b. HasAnswered {U = U} p stands state [] a b × p.says (p.greeting state) bytes) (HasSaid bytes) (HasServed p stands state [] (commands_in p []) false)
    (λ a b c open_here said. greeting_said p stands state bytes a b c none open_here said) first old new (opened_greeting p stands state bytes first old is.here given) (arrived_say bytes u old new says)

-- ---- The units of a piece

pub begins_is : {A : Type 0} {xs ys : List A} → xs ≡ ys → Begins xs ys
begins_is {xs = xs} is = record { rest = []; is_whole = append-nil xs ∙ is }

-- those that a feed added to none
pub cut_units : {U : Type 0} (units_of reader_units : List ℕ → List U) (heard piece : List ℕ) (old new units : List U) → units_of ≡ reader_units → Adds reader_units heard piece old new → old ≡ [] → units ≡ new
    → units_of (heard ++ piece) ≡ units_of heard ++ units
cut_units units_of reader_units heard piece old new units same adds none are =
    subst (λ u. u (heard ++ piece) ≡ u heard ++ units) (sym same)
    (adds.are_units ∙ ap (λ l. reader_units heard ++ l) (sym (are ∙ adds.added ∙ ap (λ l. l ++ adds.more) none)))

-- the units of a stream come first in those of a longer one
pub first_units : {U : Type 0} (units_of reader_units : List ℕ → List U) (stream piece : List ℕ) → units_of ≡ reader_units
    → UnitsFirst reader_units stream piece → (more : List U) × (units_of (stream ++ piece) ≡ units_of stream ++ more)
first_units {U = U} units_of reader_units stream piece same first = subst (λ u. (more : List U) × (u (stream ++ piece) ≡ u stream ++ more)) (sym same) (first.more, first.are_units)

pub ok_here : {E : Type 0} {P : Type 0} (result : Result (Unit {0}) E) (test : Bool) → test ≡ is_err result → test ≡ false → OnOk result P → P
ok_here (Ok u) test is none p = p
ok_here (Err e) test is none p = absurd (cc)

pub no_long : (end : End) (heard : List ℕ) → (end ≡ Long → ⊥) → IsLong end heard
no_long Done heard other = tt
no_long Cut heard other = tt
no_long Long heard other = absurd (other refl)
no_long HearFault heard other = tt
no_long SayFault heard other = tt
no_long FileFault heard other = tt
no_long Memory heard other = tt
