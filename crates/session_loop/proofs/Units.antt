-- A unit behind others, on lists and on histories.
use Rattle.std.proofs.Common.{ℕ, Bool, true, false, List, [], ◌∷◌, ◌++◌, ◌≡◌, ◌<◌, ◌≤◌, ◌+◌, refl, sym, ◌∙◌, ap, subst, take, drop, length, get_or}
use Rattle.std.proofs.lemmas.List.{take-append-drop, take_more, drop_more, take_all}
use Rattle.file_model.specs.Disk.{Disk}
use Rattle.file_model.specs.Histories.{History, Now, Passed}
use Rattle.file_model.proofs.Passes.{passed_then, arrived_then, arrived_now}
use Rattle.session_loop.specs.Machine.{Protocol, state_after, answered, has_last}
use Rattle.file_model.specs.Arrived.{Arrived, Begins}
use Rattle.session_loop.specs.Instants.{Answering, HasAnswered}
use Rattle.session_loop.specs.Outcome.{next_of}
use Rattle.session_loop.specs.declared.answers.Next.TheVariants.{Go, Bye}
use Rattle.session_loop.proofs.Machine.{begins_trans, begins_append, begins_behind, answered_append, answered_all, has_last_append}
use Rattle.session_loop.proofs.Instants.{answering_then, answering_more, has_answered_then}

pub is_go : (last : Bool) → Go ≡ next_of last → last ≡ false
is_go true go = absurd (cc)
is_go false go = refl

pub is_bye : (last : Bool) → Bye ≡ next_of last → last ≡ true
is_bye true bye = refl
is_bye false bye = absurd (cc)

-- the units around one of them
pub around : {U : Type 0} (units : List U) (i : ℕ) (unit : U) → i < length units → unit ≡ get_or units i unit → take i units ++ unit ∷ drop (i + 1) units ≡ units
around units i unit within is =
    ap (λ l. take i units ++ l) (ap (λ u. u ∷ drop (i + 1) units) is ∙ sym (drop_more units i unit within)) ∙ take-append-drop i units

pub up_to : {U : Type 0} (units : List U) (i : ℕ) (unit : U) → i < length units → unit ≡ get_or units i unit → take (i + 1) units ≡ take i units ++ unit ∷ []
up_to units i unit within is = take_more units i unit within ∙ ap (λ u. take i units ++ u ∷ []) (sym is)

-- a unit that none before it keeps from being answered
pub is_answered : {U : Type 0} (is_last : U → Bool) (units : List U) (i : ℕ) (unit : U) → i < length units → unit ≡ get_or units i unit → has_last is_last (take i units) ≡ false
    → Begins (take i units ++ unit ∷ []) (answered is_last units)
is_answered {U = U} is_last units i unit within is none =
    subst (λ l. Begins (take i units ++ unit ∷ []) l)
    (sym (answered_append is_last (take i units) (unit ∷ drop (i + 1) units) none) ∙ ap (answered is_last) (around units i unit within is))
    (begins_behind (take i units) (record { rest = elim (is_last unit) as (λ _. List U) [ true ↦ [] | false ↦ answered is_last (drop (i + 1) units) ]; is_whole = refl }))

pub is_end : {U : Type 0} (is_last : U → Bool) (units : List U) (i : ℕ) (unit : U) → i < length units → unit ≡ get_or units i unit → has_last is_last (take i units) ≡ false → is_last unit ≡ true
    → take i units ++ unit ∷ [] ≡ answered is_last units
is_end {U = U} is_last units i unit within is none last =
    ap (λ l. take i units ++ unit ∷ l) (ap (λ b. elim b as (λ _. List U) [ true ↦ [] | false ↦ answered is_last (drop (i + 1) units) ]) (sym last))
    ∙ sym (answered_append is_last (take i units) (unit ∷ drop (i + 1) units) none) ∙ ap (answered is_last) (around units i unit within is)

pub ends : {U : Type 0} (is_last : U → Bool) (units : List U) (i : ℕ) (unit : U) → i < length units → unit ≡ get_or units i unit → has_last is_last (take i units) ≡ false → is_last unit ≡ true
    → has_last is_last units ≡ true
ends is_last units i unit within is none last =
    ap (has_last is_last) (sym (around units i unit within is)) ∙ has_last_append is_last (take i units) (unit ∷ drop (i + 1) units) none
    ∙ ap (λ b. elim b as (λ _. Bool) [ true ↦ true | false ↦ has_last is_last (drop (i + 1) units) ]) last

-- at the end of units none of which ends the session
pub at_end : {U : Type 0} (is_last : U → Bool) (units : List U) (i : ℕ) → length units ≤ i → has_last is_last (take i units) ≡ false → take i units ≡ answered is_last units
at_end is_last units i passed none =
    let all = take_all i units passed in
    all ∙ sym (answered_all is_last units (ap (has_last is_last) (sym all) ∙ none))

-- ---- On histories

pub passed_units : {S U : Type 0} (p : Protocol S U) (stands : Disk → S → Type 0) (state : S) (first second units : List U) (old mid new : History)
    → Begins (first ++ second) units → Passed (Answering p state first) old mid → Arrived (HasAnswered p stands state first) old mid
    → Passed (Answering p (state_after p.step state first) second) mid new → Passed (Answering p state units) old new
passed_units p stands state first second units old mid new begins one at two =
    passed_then (Answering p state first) (HasAnswered p stands state first) (Answering p (state_after p.step state first) second) (Answering p state units)
    (λ a b. answering_more p state first units a b (begins_trans (begins_append first second) begins))
    (λ a b c. answering_then p stands state first second units a b c begins) old mid new one at two

pub arrived_units : {S U : Type 0} (p : Protocol S U) (before stands : Disk → S → Type 0) (state : S) (first second units : List U) (old mid new : History)
    → first ++ second ≡ units → Arrived (HasAnswered p before state first) old mid
    → Arrived (HasAnswered p stands (state_after p.step state first) second) mid new → Arrived (HasAnswered p stands state units) old new
arrived_units p before stands state first second units old mid new whole one two =
    arrived_then _ _ _ (λ a b c. has_answered_then p before stands state first second units a b c whole) old mid new one two

pub state_now : {S U : Type 0} (p : Protocol S U) (stands : Disk → S → Type 0) (state : S) (units : List U) (old new : History)
    → Arrived (HasAnswered p stands state units) old new → Now new (λ w. stands w.disk (state_after p.step state units))
state_now p stands state units old new at = arrived_now _ _ (λ a b is. is.is_state) old new at
