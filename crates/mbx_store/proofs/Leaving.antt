-- Places that a change leaves.
use Rattle.std.proofs.Common.{◌≡◌, ◌≤◌, ◌<◌, ◌+◌, ◌||◌, ℕ, Bool, true, false, not, cond, nat_eq, List, [], ◌∷◌, ◌++◌, length, drop, get_or, refl, sym, ap, ◌∙◌, subst, arith, append_assoc}
use Rattle.std.specs.List.{AllByRecursion, list_any}
use Rattle.std.proofs.lemmas.Bool.{false≢true}
use Rattle.std.proofs.lemmas.Bool.Decides.{nat_tests}
use Rattle.std.proofs.lemmas.List.{drop_more}
use Rattle.mail_types.specs.Flags.{has_bit}
use Rattle.mail_types.specs.Lists.{RiseBelow}
use Rattle.store_trait.specs.declared.change.Change.{Change}
use Rattle.store_trait.specs.declared.change.Change.TheVariants.{Append, SetFlags, Expunge}
use Rattle.mbx_store.specs.declared.place.MbxPlace.{MbxPlace}
use Rattle.mbx_store.specs.Plans.{is_dropped, is_kept, undropped_places, unmarked_places, left_places}

-- ---- Rising places

not_there : (i least bound : ℕ) (places : List ℕ) → RiseBelow least bound places → i < least → list_any (nat_eq i) places ≡ false
not_there i least bound [] rise below = refl
not_there i least bound (p ∷ rest) rise below =
    let apart : nat_eq i p ≡ false = let l : least ≤ p = rise.0 in grind (arith, nat_tests, l, below) in
    ap (λ b. b || list_any (nat_eq i) rest) apart ∙ not_there i (p + 1) bound rest rise.2 (omega (arith, below, rise.0))

first_only : (i bound : ℕ) (places : List ℕ) → RiseBelow i bound places → list_any (nat_eq i) places ≡ is_dropped i places
first_only i bound [] rise = refl
first_only i bound (p ∷ rest) rise = ap (λ b. nat_eq i p || b) (not_there i (p + 1) bound rest rise.2 (omega (arith, rise.0))) ∙ or_false (nat_eq i p)
  where
    or_false : (b : Bool) → (b || false) ≡ b
    or_false true = refl
    or_false false = refl

passed : (i p : ℕ) (rest : List ℕ) (ps : List MbxPlace) → p < i → undropped_places i (p ∷ rest) ps ≡ undropped_places i rest ps
passed i p rest [] below = refl
passed i p rest (q ∷ ps) below =
    let apart : nat_eq i p ≡ false = grind (arith, nat_tests, below) in
    λ k. cond (has_bit 32768 q.bits) (q ∷ passed i p rest ps below k) (cond (apart k || list_any (nat_eq i) rest) (passed (i + 1) p rest ps (omega (arith, below)) k) (q ∷ passed (i + 1) p rest ps (omega (arith, below)) k))

rise_more : (i bound : ℕ) (places : List ℕ) → RiseBelow i bound places → is_dropped i places ≡ false → RiseBelow (i + 1) bound places
rise_more i bound [] rise is = tt
rise_more i bound (p ∷ rest) rise is = let l : i ≤ p = rise.0 in let more : i + 1 ≤ p = grind (arith, nat_tests, l, is) in (more, rise.1, rise.2)

-- one record more
one_left : (i bound : ℕ) (places : List ℕ) (p : MbxPlace) (ps : List MbxPlace) → RiseBelow i bound places
    → undropped_places i places (p ∷ ps)
    ≡ cond (is_kept p i places) (p ∷ []) [] ++ undropped_places (cond (has_bit 32768 p.bits) i (i + 1)) (cond (is_kept p i places) places (drop 1 places)) ps
one_left i bound places p ps rise = step (has_bit 32768 p.bits) places rise (is_dropped i places) refl
  where
    step : (b : Bool) (places : List ℕ) → RiseBelow i bound places → (d : Bool) → is_dropped i places ≡ d
        → cond b (p ∷ undropped_places i places ps) (cond (list_any (nat_eq i) places) (undropped_places (i + 1) places ps) (p ∷ undropped_places (i + 1) places ps))
        ≡ cond (b || not (is_dropped i places)) (p ∷ []) [] ++ undropped_places (cond b i (i + 1)) (cond (b || not (is_dropped i places)) places (drop 1 places)) ps
    step true places rise d is = refl
    step false places rise false is =
        ap (λ t. cond t (undropped_places (i + 1) places ps) (p ∷ undropped_places (i + 1) places ps)) (first_only i bound places rise ∙ is)
        ∙ sym (ap (λ t. cond (not t) (p ∷ []) [] ++ undropped_places (i + 1) (cond (not t) places (drop 1 places)) ps) is)
    step false [] rise true is = absurd (false≢true is)
    step false (q ∷ rest) rise true is =
        let here : i ≡ q = grind (arith, nat_tests, is) in
        ap (λ t. cond t (undropped_places (i + 1) (q ∷ rest) ps) (p ∷ undropped_places (i + 1) (q ∷ rest) ps)) (first_only i bound (q ∷ rest) rise ∙ is)
        ∙ passed (i + 1) q rest ps (omega (arith, here))
        ∙ sym (ap (λ t. cond (not t) (p ∷ []) [] ++ undropped_places (i + 1) (cond (not t) (q ∷ rest) rest) ps) is)

rise_behind : (i bound : ℕ) (places : List ℕ) (p : MbxPlace) → RiseBelow i bound places → RiseBelow (cond (has_bit 32768 p.bits) i (i + 1)) bound (cond (is_kept p i places) places (drop 1 places))
rise_behind i bound places p rise = step (has_bit 32768 p.bits) places rise (is_dropped i places) refl
  where
    step : (b : Bool) (places : List ℕ) → RiseBelow i bound places → (d : Bool) → is_dropped i places ≡ d → RiseBelow (cond b i (i + 1)) bound (cond (b || not (is_dropped i places)) places (drop 1 places))
    step true places rise d is = rise
    step false places rise false is = subst (λ t. RiseBelow (i + 1) bound (cond (not t) places (drop 1 places))) (sym is) (rise_more i bound places rise is)
    step false [] rise true is = absurd (false≢true is)
    step false (q ∷ rest) rise true is =
        let here : i ≡ q = grind (arith, nat_tests, is) in
        subst (λ t. RiseBelow (i + 1) bound (cond (not t) (q ∷ rest) rest)) (sym is) (subst (λ n. RiseBelow (n + 1) bound rest) (sym here) rise.2)

pub undropped_made : (all now made olds : List MbxPlace) (i number next bound : ℕ) (other : MbxPlace) (rest behind_rest : List ℕ) (kept : Bool) → i < length olds → RiseBelow number bound rest
    → kept ≡ is_kept (get_or olds i other) number rest → made ≡ now ++ cond kept (get_or olds i other ∷ []) [] → behind_rest ≡ cond (is_kept (get_or olds i other) number rest) rest (drop 1 rest)
    → next ≡ cond (has_bit 32768 (get_or olds i other).bits) number (number + 1)
    → now ++ undropped_places number rest (drop i olds) ≡ all → made ++ undropped_places next behind_rest (drop (i + 1) olds) ≡ all
undropped_made all now made olds i number next bound other rest behind_rest test below rise test_is made_is behind_is next_is before =
    let p = get_or olds i other in
    let kept = cond (is_kept p number rest) (p ∷ []) [] in
    let more : made ≡ now ++ kept = made_is ∙ ap (λ b. now ++ cond b (p ∷ []) []) test_is in
    let later = undropped_places (cond (has_bit 32768 p.bits) number (number + 1)) (cond (is_kept p number rest) rest (drop 1 rest)) (drop (i + 1) olds) in
    ap (λ n. made ++ undropped_places n behind_rest (drop (i + 1) olds)) next_is
    ∙ ap (λ r. made ++ undropped_places (cond (has_bit 32768 p.bits) number (number + 1)) r (drop (i + 1) olds)) behind_is
    ∙ ap (λ l. l ++ later) more ∙ append_assoc now kept later
    ∙ sym (ap (λ l. now ++ undropped_places number rest l) (drop_more olds i other below) ∙ ap (λ l. now ++ l) (one_left number bound rest p (drop (i + 1) olds) rise)) ∙ before

pub rise_made : (olds : List MbxPlace) (i number next bound : ℕ) (other : MbxPlace) (rest behind_rest : List ℕ) → RiseBelow number bound rest → behind_rest ≡ cond (is_kept (get_or olds i other) number rest) rest (drop 1 rest)
    → next ≡ cond (has_bit 32768 (get_or olds i other).bits) number (number + 1) → RiseBelow next bound behind_rest
rise_made olds i number next bound other rest behind_rest rise behind_is next_is =
    subst (λ n. RiseBelow n bound behind_rest) (sym next_is) (subst (RiseBelow (cond (has_bit 32768 (get_or olds i other).bits) number (number + 1)) bound) (sym behind_is) (rise_behind number bound rest (get_or olds i other) rise))

pub few_made : (b : Bool) (i number next : ℕ) → next ≡ cond b number (number + 1) → number ≤ i → next ≤ i + 1
few_made true i number next is few = omega (arith, is, few)
few_made false i number next is few = omega (arith, is, few)

pub unmarked_made : (all now made olds : List MbxPlace) (i : ℕ) (other : MbxPlace) (kept : Bool) → i < length olds → kept ≡ not (has_bit 32768 (get_or olds i other).bits) → made ≡ now ++ cond kept (get_or olds i other ∷ []) []
    → now ++ unmarked_places (drop i olds) ≡ all → made ++ unmarked_places (drop (i + 1) olds) ≡ all
unmarked_made all now made olds i other kept below is more before =
    let p = get_or olds i other in
    ap (λ l. l ++ unmarked_places (drop (i + 1) olds)) (more ∙ ap (λ b. now ++ cond b (p ∷ []) []) is)
    ∙ append_assoc now (cond (not (has_bit 32768 p.bits)) (p ∷ []) []) (unmarked_places (drop (i + 1) olds))
    ∙ sym (ap (λ l. now ++ unmarked_places l) (drop_more olds i other below) ∙ ap (λ l. now ++ l) (one (has_bit 32768 p.bits) p (unmarked_places (drop (i + 1) olds)))) ∙ before
  where
    one : (b : Bool) (p : MbxPlace) (later : List MbxPlace) → cond b later (p ∷ later) ≡ cond (not b) (p ∷ []) [] ++ later
    one true p later = refl
    one false p later = refl

-- ---- What places have, those have that are left

pub undropped_have : (P : MbxPlace → Type 0) (place : ℕ) (places : List ℕ) (ps : List MbxPlace) → AllByRecursion P ps → AllByRecursion P (undropped_places place places ps)
undropped_have P place places [] all = tt
undropped_have P place places (p ∷ ps) all = step (has_bit 32768 p.bits) (list_any (nat_eq place) places) (undropped_have P place places ps all.1) (undropped_have P (place + 1) places ps all.1)
  where
    step : (a b : Bool) → AllByRecursion P (undropped_places place places ps) → AllByRecursion P (undropped_places (place + 1) places ps)
        → AllByRecursion P (cond a (p ∷ undropped_places place places ps) (cond b (undropped_places (place + 1) places ps) (p ∷ undropped_places (place + 1) places ps)))
    step true b here later = (all.0, here)
    step false true here later = later
    step false false here later = (all.0, later)

pub unmarked_have : (P : MbxPlace → Type 0) (ps : List MbxPlace) → AllByRecursion P ps → AllByRecursion P (unmarked_places ps)
unmarked_have P [] all = tt
unmarked_have P (p ∷ ps) all = step (has_bit 32768 p.bits) (unmarked_have P ps all.1)
  where
    step : (b : Bool) → AllByRecursion P (unmarked_places ps) → AllByRecursion P (cond b (unmarked_places ps) (p ∷ unmarked_places ps))
    step true later = later
    step false later = (all.0, later)

pub left_have : (P : MbxPlace → Type 0) (change : Change) (ps : List MbxPlace) → AllByRecursion P ps → AllByRecursion P (left_places change ps)
left_have P (Append new words) ps all = all
left_have P (SetFlags changes words) ps all = all
left_have P (Expunge places) ps all = undropped_have P 0 places ps all
