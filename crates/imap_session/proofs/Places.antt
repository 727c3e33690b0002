-- The messages that a store tells, one by one.
use Rattle.std.proofs.Common.{ℕ, zero, suc, List, [], ◌∷◌, ◌++◌, ◌+◌, ◌≤◌, ◌≡◌, Some, sym, ◌∙◌, ap, subst, take, drop, length, slice_get, arith, if◌then◌else◌, Bool, true, false}
use Rattle.store_trait.specs.declared.store.Info.{Info}
use Rattle.mail_types.specs.Lists.{RiseBelow}
use Rattle.mail_types.specs.declared.flags.Flags.{Flags}
use Rattle.mail_types.specs.declared.message.FlagChange.{FlagChange}
use Rattle.mail_types.specs.Lists.{places_of}
use Rattle.imap_session.specs.Expunge.{deleted_from}
use Rattle.imap_session.specs.Select.{told_from}

pub one_more : {A : Type 0} (xs : List A) (i : ℕ) (x : A) → slice_get xs i ≡ Some x → take (i + 1) xs ≡ take i xs ++ x ∷ []
one_more [] i x is = absurd (cc)
one_more (y ∷ xs) zero x is = cc
one_more (y ∷ xs) (suc i) x is = ap (λ n. take n (y ∷ xs)) (plus i) ∙ ap (λ l. y ∷ l) (one_more xs i x is)
  where
    plus : (i : ℕ) → suc i + 1 ≡ suc (i + 1)
    plus i = omega arith

later : (least more bound : ℕ) (places : List ℕ) → least ≤ more → RiseBelow more bound places → RiseBelow least bound places
later least more bound [] fits rise = tt
later least more bound (place ∷ places) fits rise = (omega (arith, rise.0), rise.1, rise.2)

bound : (place n : ℕ) → place + 1 + n ≡ place + suc n
bound place n = omega arith

one_step : (place n : ℕ) (rest : List ℕ) → RiseBelow (place + 1) (place + suc n) rest → (b : Bool) → RiseBelow place (place + suc n) (if b then place ∷ rest else rest)
one_step place n rest below true = (omega arith, omega arith, below)
one_step place n rest below false = later place (place + 1) (place + suc n) rest (omega arith) below

-- the places of deleted messages rise
pub deleted_rise : (place : ℕ) (infos : List Info) → RiseBelow place (place + length infos) (deleted_from place infos)
deleted_rise place [] = tt
deleted_rise place (info ∷ rest) =
    one_step place (length rest) (deleted_from (place + 1) rest)
    (subst (λ n. RiseBelow (place + 1) n (deleted_from (place + 1) rest)) (bound place (length rest)) (deleted_rise (place + 1) rest)) info.flags.deleted

all_of : (n : ℕ) → 0 + n ≡ n
all_of n = omega arith

pub all_rise : (infos : List Info) → RiseBelow 0 (length infos) (deleted_from 0 infos)
all_rise infos = subst (λ n. RiseBelow 0 n (deleted_from 0 infos)) (all_of (length infos)) (deleted_rise 0 infos)

told_step : (place n : ℕ) (flags : Flags) (words : ℕ) (rest : List FlagChange) → RiseBelow (place + 1) (place + suc n) (places_of rest) → (b : Bool)
    → RiseBelow place (place + suc n) (places_of (if b then rest else record { place = place; flags = flags; words = words } ∷ rest))
told_step place n flags words rest below true = later place (place + 1) (place + suc n) (places_of rest) (omega arith) below
told_step place n flags words rest below false = (omega arith, omega arith, below)

-- the places of messages that no session was told of rise
told_rise_from : (place : ℕ) (infos : List Info) → RiseBelow place (place + length infos) (places_of (told_from place infos))
told_rise_from place [] = tt
told_rise_from place (info ∷ rest) =
    told_step place (length rest) (record info.flags { old = true }) info.words (told_from (place + 1) rest)
    (subst (λ n. RiseBelow (place + 1) n (places_of (told_from (place + 1) rest))) (bound place (length rest)) (told_rise_from (place + 1) rest)) info.flags.old

pub told_rise : (infos : List Info) → RiseBelow 0 (length infos) (places_of (told_from 0 infos))
told_rise infos = subst (λ n. RiseBelow 0 n (places_of (told_from 0 infos))) (all_of (length infos)) (told_rise_from 0 infos)

-- what a list has from a place on
pub rest_from : {A : Type 0} (xs : List A) (i : ℕ) (x : A) → slice_get xs i ≡ Some x → drop i xs ≡ x ∷ drop (i + 1) xs
rest_from [] i x is = absurd (cc)
rest_from (y ∷ xs) zero x is = cc
rest_from (y ∷ xs) (suc i) x is = rest_from xs i x is ∙ ap (λ n. x ∷ drop n (y ∷ xs)) (after_suc i)
  where
    after_suc : (i : ℕ) → suc (i + 1) ≡ suc i + 1
    after_suc i = omega arith

pub split_at : {A : Type 0} (xs : List A) (i : ℕ) (x : A) → slice_get xs i ≡ Some x → take i xs ++ x ∷ drop (i + 1) xs ≡ xs
split_at [] i x is = absurd (cc)
split_at (y ∷ xs) zero x is = cc
split_at (y ∷ xs) (suc i) x is = ap (λ n. y ∷ take i xs ++ x ∷ drop n (y ∷ xs)) (sym (after_suc i)) ∙ ap (λ l. y ∷ l) (split_at xs i x is)
  where
    after_suc : (i : ℕ) → suc (i + 1) ≡ suc i + 1
    after_suc i = omega arith
