-- Runs of calls, one after the other.
use Rattle.std.proofs.Common.{◌≡◌, inl, inr, List, [], ◌∷◌, ◌++◌, refl, sym, ◌∙◌, ap, subst, append_assoc, Result, Ok, Err, OnOk}
use Rattle.std.specs.List.{AllByRecursion}
use Rattle.file_model.specs.declared.files.Failed.{Failed}
use Rattle.file_model.specs.Disk.{Disk, Call, after, AfterFailed}
use Rattle.file_model.specs.Histories.{World, History, Now, FromStart, with_disk, GoesOn, Ran, Ended}

pub all_append : (P : World → Type 0) (xs ys : List World) → AllByRecursion P xs → AllByRecursion P ys → AllByRecursion P (xs ++ ys)
all_append P [] ys first second = second
all_append P (x ∷ xs) ys first second = (first.0, all_append P xs ys first.1 second)

pub all_weaker : (P Q : World → Type 0) → ((w : World) → P w → Q w) → (xs : List World) → AllByRecursion P xs → AllByRecursion Q xs
all_weaker P Q weaker [] all = all
all_weaker P Q weaker (x ∷ xs) all = (weaker x all.0, all_weaker P Q weaker xs all.1)

-- what holds now in every world where another fact does
pub now_weaker : (P Q : World → Type 0) → ((w : World) → P w → Q w) → (history : History) → Now history P → Now history Q
now_weaker P Q weaker [] now = now
now_weaker P Q weaker (w ∷ past) now = weaker w now

-- what holds of every world
pub now_all : (P : World → Type 0) → ((w : World) → P w) → (history : History) → Now history P
now_all P holds [] = tt
now_all P holds (w ∷ past) = holds w

pub now_both : (P Q : World → Type 0) (history : History) → Now history P → Now history Q → Now history (λ w. P w × Q w)
now_both P Q [] p q = tt
now_both P Q (w ∷ past) p q = (p, q)

-- no call
pub ran_none : (R : Disk → Disk → Type 0) (history : History) → Ran R history history
ran_none R [] = record { added = []; whole = refl; each = refl }
ran_none R (w ∷ past) = record { added = []; whole = refl; each = tt }

pub ran_weaker : {R S : Disk → Disk → Type 0} → ((a b : Disk) → R a b → S a b) → (old new : History) → Ran R old new → Ran S old new
ran_weaker weaker [] new ran = record { added = ran.added; whole = ran.whole; each = ran.each }
ran_weaker weaker (w ∷ past) new ran = record { added = ran.added; whole = ran.whole; each = all_weaker _ _ (λ world here. (here.0, weaker w.disk world.disk here.1)) ran.added ran.each }

-- what is said of the start where it is told
pub told : (P : World → Type 0) (history : History) (added : List World) → FromStart history added P → Now history P
told P [] added from = tt
told P (w ∷ past) added from = from

-- where nothing is told two runs added nothing
pub none_added : (P : World → Type 0) (mid : History) (one two : List World) → mid ≡ one ++ [] → one ≡ [] → FromStart mid two P → two ++ one ≡ []
none_added P [] one two whole none from = ap (λ l. two ++ l) none ∙ ap (λ l. l ++ []) from
none_added P (w ∷ past) one two whole none from = absurd (some (whole ∙ ap (λ l. l ++ []) none))
  where
    some : w ∷ past ≡ [] → ⊥
    some e = cc

-- a run and then another, whose instants stand in S to the first one's end
joined : (R S T : Disk → Disk → Type 0) → ((a : Disk) → R a a) → ((a b : Disk) → R a b → T a b) → ((a b c : Disk) → R a b → S b c → T a c)
    → (start : World) (past added more : List World) → AllByRecursion (λ w. (w.streams ≡ start.streams) × R start.disk w.disk) added
    → Now (added ++ start ∷ past) (λ mid. AllByRecursion (λ w. (w.streams ≡ mid.streams) × S mid.disk w.disk) more)
    → AllByRecursion (λ w. (w.streams ≡ start.streams) × T start.disk w.disk) (more ++ added)
joined R S T same first then start past [] more one two = all_append (λ w. (w.streams ≡ start.streams) × T start.disk w.disk) more [] (all_weaker _ _ (λ w here. (here.0, then start.disk start.disk w.disk (same start.disk) here.1)) more two) tt
joined R S T same first then start past (mid ∷ added) more one two =
    all_append (λ w. (w.streams ≡ start.streams) × T start.disk w.disk) more (mid ∷ added)
    (all_weaker _ _ (λ w here. (here.0 ∙ one.0.0, then start.disk mid.disk w.disk one.0.1 here.1)) more two)
    (all_weaker _ _ (λ w here. (here.0, first start.disk w.disk here.1)) (mid ∷ added) one)

pub ran_then : {R S T : Disk → Disk → Type 0} → ((a : Disk) → R a a) → ((a b : Disk) → R a b → T a b) → ((a b c : Disk) → R a b → S b c → T a c)
    → (old mid new : History) → Ran R old mid → Ran S mid new → Ran T old new
ran_then same first then [] mid new one two = record { added = two.added ++ one.added; whole = two.whole ∙ ap (λ h. two.added ++ h) one.whole ∙ sym (append_assoc two.added one.added []); each = none_added _ mid one.added two.added one.whole one.each two.each }
ran_then {R = R} {S = S} {T = T} same first then (start ∷ past) mid new one two = record {
  added = two.added ++ one.added;
  whole = two.whole ∙ ap (λ h. two.added ++ h) one.whole ∙ sym (append_assoc two.added one.added (start ∷ past));
  each = joined R S T same first then start past one.added two.added one.each (subst (λ h. Now h (λ mid. AllByRecursion (λ w. (w.streams ≡ mid.streams) × S mid.disk w.disk) two.added)) one.whole (told _ mid two.added two.each));
}

-- two runs that change files alone, whatever they change
pub files_then : (old mid new : History) → Ran (λ start instant. Unit {0}) old mid → Ran (λ start instant. Unit {0}) mid new → Ran (λ start instant. Unit {0}) old new
files_then old mid new one two = ran_then (λ a. tt) (λ a b r. r) (λ a b c r s. s) old mid new one two

-- what follows from what a call that answered Ok gives
pub ok_map : {T E : Type 0} {P Q : Type 0} (result : Result T E) → (P → Q) → OnOk result P → OnOk result Q
ok_map (Ok value) on holds = on holds
ok_map (Err e) on holds = tt

-- a call is a run of one instant, or where it failed of two or none
pub ran_call : (P : Disk → Type 0) (R : Disk → Disk → Type 0) (call : Call)
    → ((d : Disk) → P d → R d (after call d)) → ((d e : Disk) → P d → AfterFailed call d e → R d e)
    → (result : Result (Unit {0}) Failed) (old new : History) → Now old (λ w. P w.disk) → GoesOn call result old new → Ran R old new
ran_call P R call ok err result [] new now on = record { added = []; whole = on; each = refl }
ran_call P R call ok err (Ok u) (w ∷ past) new now on = record { added = with_disk w (after call w.disk) ∷ []; whole = on; each = ((refl, ok w.disk now), tt) }
ran_call P R call ok err (Err e) (w ∷ past) new now (inl none) = record { added = []; whole = none; each = tt }
ran_call P R call ok err (Err e) (w ∷ past) new now (inr on) = record {
  added = with_disk w on.0 ∷ with_disk w (after call w.disk) ∷ [];
  whole = on.2;
  each = ((refl, err w.disk on.0 now on.1), ((refl, ok w.disk now), tt));
}

-- what stands after a call that answered Ok
pub now_call : (P Q : Disk → Type 0) (call : Call) → ((d : Disk) → P d → Q (after call d))
    → (u : Unit {0}) (old new : History) → Now old (λ w. P w.disk) → GoesOn call (Ok u) old new → Now new (λ w. Q w.disk)
now_call P Q call ok u [] new now on = subst (λ h. Now h (λ w. Q w.disk)) (sym on) tt
now_call P Q call ok u (w ∷ past) new now on = subst (λ h. Now h (λ w. Q w.disk)) (sym on) (ok w.disk now)

pub ok_call : (P Q : Disk → Type 0) (call : Call) → ((d : Disk) → P d → Q (after call d))
    → (result : Result (Unit {0}) Failed) (old new : History) → Now old (λ w. P w.disk) → GoesOn call result old new → OnOk result (Now new (λ w. Q w.disk))
ok_call P Q call ok (Ok u) old new now on = now_call P Q call ok u old new now on
ok_call P Q call ok (Err e) old new now on = tt

pub ended_call : (P : Disk → Type 0) (R : Disk → Disk → Type 0) (call : Call) → ((d : Disk) → P d → R d (after call d))
    → (result : Result (Unit {0}) Failed) (old new : History) → Now old (λ w. P w.disk) → GoesOn call result old new → OnOk result (Ended R old new)
ended_call P R call ok (Err e) old new now on = tt
ended_call P R call ok (Ok u) [] new now on = on
ended_call P R call ok (Ok u) (w ∷ past) new now on = subst (λ h. Ended R (w ∷ past) h) (sym on) (ok w.disk now)

pub ended_then : (R : Disk → Disk → Type 0) → ((a b c : Disk) → R a b → R b c → R a c) → (old mid new : History) → Ended R old mid → Ended R mid new → Ended R old new
ended_then R further [] mid new one two = subst (λ h. Ended R h new) one two
ended_then R further (a ∷ past) [] new one two = absurd one
ended_then R further (a ∷ past) (b ∷ more) [] one two = two
ended_then R further (a ∷ past) (b ∷ more) (c ∷ rest) one two = further a.disk b.disk c.disk one two

-- a run and then another, with what is known at the start and between them
pub ended_two : (P M : Disk → Type 0) (R S T : Disk → Disk → Type 0) → ((a b c : Disk) → P a → M b → R a b → S b c → T a c)
    → (old mid new : History) → Now old (λ w. P w.disk) → Now mid (λ w. M w.disk) → Ended R old mid → Ended S mid new → Ended T old new
ended_two P M R S T join [] mid new now m one two = subst (λ h. Ended S h new) one two
ended_two P M R S T join (a ∷ past) [] new now m one two = absurd one
ended_two P M R S T join (a ∷ past) (b ∷ more) [] now m one two = two
ended_two P M R S T join (a ∷ past) (b ∷ more) (c ∷ rest) now m one two = join a.disk b.disk c.disk now m one two

-- what a run's end is to its start, by what is known at both
pub ended_known : (P M : Disk → Type 0) (R T : Disk → Disk → Type 0) → ((a b : Disk) → P a → M b → R a b → T a b)
    → (old new : History) → Now old (λ w. P w.disk) → Now new (λ w. M w.disk) → Ended R old new → Ended T old new
ended_known P M R T on [] new now m ended = ended
ended_known P M R T on (a ∷ past) [] now m ended = ended
ended_known P M R T on (a ∷ past) (b ∷ more) now m ended = on a.disk b.disk now m ended

-- what holds at a run's end by what held at its start, and by what else is known at its end
pub known_gives : (P M Q : Disk → Type 0) (R : Disk → Disk → Type 0) → ((a b : Disk) → P a → M b → R a b → Q b)
    → (old new : History) → Now old (λ w. P w.disk) → Now new (λ w. M w.disk) → Ended R old new → Now new (λ w. Q w.disk)
known_gives P M Q R on [] new now m ended = subst (λ h. Now h (λ w. Q w.disk)) (sym ended) tt
known_gives P M Q R on (a ∷ past) [] now m ended = tt
known_gives P M Q R on (a ∷ past) (b ∷ more) now m ended = on a.disk b.disk now m ended

-- what holds at the start and passes on holds at the end
pub ended_now : (P : Disk → Type 0) (R : Disk → Disk → Type 0) → ((a b : Disk) → P a → R a b → P b) → (old new : History) → Now old (λ w. P w.disk) → Ended R old new → Now new (λ w. P w.disk)
ended_now P R on [] new now ended = subst (λ h. Now h (λ w. P w.disk)) (sym ended) tt
ended_now P R on (a ∷ past) [] now ended = tt
ended_now P R on (a ∷ past) (b ∷ more) now ended = on a.disk b.disk now ended

-- What holds at each instant where it held at the start: so a fact about what a crash may leave goes on from call to call.
pub ran_holds : (P : Disk → Type 0) (old mid new : History) → Ran (λ a b. P a → P b) old mid → Ran (λ a b. P a → P b) mid new → Ran (λ a b. P a → P b) old new
ran_holds P old mid new one two = ran_then (λ a p. p) (λ a b f. f) (λ a b c f g p. g (f p)) old mid new one two

pub ran_known : (P Q : Disk → Type 0) (old new : History) → Now old (λ w. P w.disk) → Ran (λ a b. P a → Q b) old new → Ran (λ a b. Q b) old new
ran_known P Q [] new now ran = record { added = ran.added; whole = ran.whole; each = ran.each }
ran_known P Q (w ∷ past) new now ran = record { added = ran.added; whole = ran.whole; each = all_weaker _ _ (λ world here. (here.0, here.1 now)) ran.added ran.each }

-- a run's end stands to its start as each of its instants does
pub ran_ended : (R : Disk → Disk → Type 0) → ((a : Disk) → R a a) → (old new : History) → Ran R old new → Ended R old new
ran_ended R same [] new ran = ran.whole ∙ ap (λ l. l ++ []) ran.each
ran_ended R same (start ∷ past) new ran = subst (Ended R (start ∷ past)) (sym ran.whole) (at ran.added ran.each)
  where
    at : (added : List World) → AllByRecursion (λ w. (w.streams ≡ start.streams) × R start.disk w.disk) added → Ended R (start ∷ past) (added ++ start ∷ past)
    at [] each = same start.disk
    at (w ∷ added) each = each.0.1
