-- Messages are dropped: one at a time from the last place on, and how many are left.
use Rattle.std.proofs.Common.{◌≡◌, ℕ, zero, suc, ◌+◌, ◌-◌, ◌<◌, ◌≤◌, Bool, true, false, ◌||◌, ◌&&◌, List, [], ◌∷◌, length, drop, map, get_or, refl, sym, ◌∙◌, ap, subst, arith, nat_eq, cond, remove}
use Rattle.std.specs.List.{list_any, list_all}
use Rattle.std.proofs.lemmas.Bool.{and_parts}
use Rattle.std.proofs.lemmas.List.{drop_more}
use Rattle.mail_types.specs.Lists.{RiseBelow, undropped}

-- no place below the first
not_among : (i least bound : ℕ) (places : List ℕ) → RiseBelow least bound places → i < least → list_any (nat_eq i) places ≡ false
not_among i least bound [] rise below = refl
not_among i least bound (p ∷ rest) rise below =
    let apart : nat_eq i p ≡ false = let l : least ≤ p = rise.0 in grind arith in
    ap (λ b. b || list_any (nat_eq i) rest) apart ∙ not_among i (p + 1) bound rest rise.2 (omega (arith, below, rise.0))

-- places below where the count stands drop nothing more
passed : {A : Type 0} (i p : ℕ) (rest : List ℕ) (rs : List A) → p < i → undropped i (p ∷ rest) rs ≡ undropped i rest rs
passed i p rest [] below = refl
passed i p rest (r ∷ rs) below =
    let apart : nat_eq i p ≡ false = grind arith in
    (λ k. cond (apart k || list_any (nat_eq i) rest) (passed (i + 1) p rest rs (omega (arith, below)) k) (r ∷ passed (i + 1) p rest rs (omega (arith, below)) k))

-- the first place of a list is dropped last
pub dropped_first : {A : Type 0} (n i p bound : ℕ) (rest : List ℕ) (rs : List A) → i + n ≡ p → RiseBelow (p + 1) bound rest → n < length rs
    → undropped i (p ∷ rest) rs ≡ remove (undropped i rest rs) n
dropped_first n i p bound rest [] at rise below = absurd (omega (arith, below))
dropped_first zero i p bound rest (r ∷ rs) at rise below =
    let here : i ≡ p = omega (arith, at) in
    let hit : nat_eq i p ≡ true = grind arith in
    ap (λ b. cond (b || list_any (nat_eq i) rest) (undropped (i + 1) (p ∷ rest) rs) (r ∷ undropped (i + 1) (p ∷ rest) rs)) hit
    ∙ passed (i + 1) p rest rs (omega (arith, here))
    ∙ sym (ap (λ b. remove (cond b (undropped (i + 1) rest rs) (r ∷ undropped (i + 1) rest rs)) 0) (not_among i (p + 1) bound rest rise (omega (arith, here))))
dropped_first (suc n) i p bound rest (r ∷ rs) at rise below =
    let miss : nat_eq i p ≡ false = grind arith in
    let none = not_among i (p + 1) bound rest rise (omega (arith, at)) in
    let later = dropped_first n (i + 1) p bound rest rs (omega (arith, at)) rise (omega (arith, below)) in
    ap (λ b. cond (b || list_any (nat_eq i) rest) (undropped (i + 1) (p ∷ rest) rs) (r ∷ undropped (i + 1) (p ∷ rest) rs)) miss
    ∙ ap (λ b. cond b (undropped (i + 1) (p ∷ rest) rs) (r ∷ undropped (i + 1) (p ∷ rest) rs)) none
    ∙ ap (λ l. r ∷ l) later
    ∙ sym (ap (λ b. remove (cond b (undropped (i + 1) rest rs) (r ∷ undropped (i + 1) rest rs)) (suc n)) none)

pub undropped_none : {A : Type 0} (i : ℕ) (rs : List A) → undropped i [] rs ≡ rs
undropped_none i [] = refl
undropped_none i (r ∷ rs) = ap (λ l. r ∷ l) (undropped_none (i + 1) rs)

-- how many are left, where all places stand below the bound of the list
pub left_count : {A : Type 0} (i bound : ℕ) (places : List ℕ) (rs : List A) → RiseBelow i bound places → i + length rs ≡ bound → length (undropped i places rs) + length places ≡ length rs
left_count i bound [] rs rise at = ap (λ l. length l + 0) (undropped_none i rs) ∙ omega arith
left_count i bound (p ∷ places) [] rise at = absurd (omega (arith, at, rise.0, rise.1))
left_count i bound (p ∷ places) (r ∷ rs) rise at = step (nat_eq i p) refl (λ same. left_count (i + 1) bound places rs same (omega (arith, at))) (λ later. left_count (i + 1) bound (p ∷ places) rs later (omega (arith, at)))
  where
    step : (b : Bool) → nat_eq i p ≡ b → (RiseBelow (i + 1) bound places → length (undropped (i + 1) places rs) + length places ≡ length rs)
        → (RiseBelow (i + 1) bound (p ∷ places) → length (undropped (i + 1) (p ∷ places) rs) + length (p ∷ places) ≡ length rs)
        → length (undropped i (p ∷ places) (r ∷ rs)) + length (p ∷ places) ≡ length (r ∷ rs)
    step true is here later =
        let same : i ≡ p = grind arith in
        let hit = ap (λ b. cond (b || list_any (nat_eq i) places) (undropped (i + 1) (p ∷ places) rs) (r ∷ undropped (i + 1) (p ∷ places) rs)) is ∙ passed (i + 1) p places rs (omega (arith, same)) in
        let rest = here (subst (λ n. RiseBelow (n + 1) bound places) (sym same) rise.2) in
        omega (arith, ap length hit, rest)
    step false is here later =
        let below : i < p = let l : i ≤ p = rise.0 in grind arith in
        let none = not_among i (p + 1) bound places rise.2 (omega (arith, below)) in
        let miss = ap (λ b. cond (b || list_any (nat_eq i) places) (undropped (i + 1) (p ∷ places) rs) (r ∷ undropped (i + 1) (p ∷ places) rs)) is
        ∙ ap (λ b. cond b (undropped (i + 1) (p ∷ places) rs) (r ∷ undropped (i + 1) (p ∷ places) rs)) none in
        omega (arith, ap length miss, later (omega (arith, below), rise.1, rise.2))

-- what each message has, each one that is left has
pub all_left : {A : Type 0} (test : A → Bool) (i : ℕ) (places : List ℕ) (rs : List A) → list_all test rs ≡ true → list_all test (undropped i places rs) ≡ true
all_left test i places [] all = refl
all_left test i places (r ∷ rs) all =
    let parts = and_parts (test r) (list_all test rs) all in
    step (list_any (nat_eq i) places) parts.0 (all_left test (i + 1) places rs parts.1)
  where
    step : (b : Bool) → test r ≡ true → list_all test (undropped (i + 1) places rs) ≡ true → list_all test (cond b (undropped (i + 1) places rs) (r ∷ undropped (i + 1) places rs)) ≡ true
    step true is rest = rest
    step false is rest = ap (λ b. b && list_all test (undropped (i + 1) places rs)) is ∙ rest

pub none_left_any : {A : Type 0} (test : A → Bool) (i : ℕ) (places : List ℕ) (rs : List A) → list_any test rs ≡ false → list_any test (undropped i places rs) ≡ false
none_left_any test i places [] none = refl
none_left_any test i places (r ∷ rs) none = step (list_any (nat_eq i) places) (test r) (list_any test rs) refl refl none (λ rest. none_left_any test (i + 1) places rs rest)
  where
    step : (b here later : Bool) → test r ≡ here → list_any test rs ≡ later → (here || later) ≡ false → (list_any test rs ≡ false → list_any test (undropped (i + 1) places rs) ≡ false)
        → list_any test (cond b (undropped (i + 1) places rs) (r ∷ undropped (i + 1) places rs)) ≡ false
    step b true later is rest e on = absurd (cc)
    step b false true is rest e on = absurd (cc)
    step true false false is rest e on = on rest
    step false false false is rest e on = ap (λ l. l || list_any test (undropped (i + 1) places rs)) is ∙ on rest

-- dropping goes through a change of each element, as from a driver's own records to messages
pub undropped_map : {A B : Type 0} (f : A → B) (i : ℕ) (places : List ℕ) (rs : List A) → undropped i places (map f rs) ≡ map f (undropped i places rs)
undropped_map f i places [] = refl
undropped_map f i places (r ∷ rs) = step (list_any (nat_eq i) places) (undropped_map f (i + 1) places rs)
  where
    step : (b : Bool) → undropped (i + 1) places (map f rs) ≡ map f (undropped (i + 1) places rs)
        → cond b (undropped (i + 1) places (map f rs)) (f r ∷ undropped (i + 1) places (map f rs)) ≡ map f (cond b (undropped (i + 1) places rs) (r ∷ undropped (i + 1) places rs))
    step true e = e
    step false e = ap (λ l. f r ∷ l) e

-- what stands before the places that were dropped is there
still_there : {A : Type 0} (n i bound : ℕ) (places : List ℕ) (rs : List A) → RiseBelow (i + n + 1) bound places → n < length rs → n < length (undropped i places rs)
still_there n i bound places [] rise below = absurd (omega (arith, below))
still_there zero i bound places (r ∷ rs) rise below =
    let none = not_among i (i + 0 + 1) bound places rise (omega arith) in
    let kept = ap (λ b. cond b (undropped (i + 1) places rs) (r ∷ undropped (i + 1) places rs)) none in
    omega (arith, ap length kept)
still_there (suc n) i bound places (r ∷ rs) rise below =
    let none = not_among i (i + suc n + 1) bound places rise (omega arith) in
    let kept = ap (λ b. cond b (undropped (i + 1) places rs) (r ∷ undropped (i + 1) places rs)) none in
    let same : i + suc n + 1 ≡ i + 1 + n + 1 = omega arith in
    let later = still_there n (i + 1) bound places rs (subst (λ m. RiseBelow m bound places) same rise) (omega (arith, below)) in
    omega (arith, ap length kept, later)

-- the places behind one
rise_from : (k least bound : ℕ) (places : List ℕ) → RiseBelow least bound places → k < length places → (get_or places k 0 < bound) × RiseBelow (get_or places k 0 + 1) bound (drop (k + 1) places)
rise_from k least bound [] rise below = absurd (omega (arith, below))
rise_from zero least bound (p ∷ places) rise below = (rise.1, rise.2)
rise_from (suc k) least bound (p ∷ places) rise below =
    let same : suc (k + 1) ≡ suc k + 1 = omega arith in
    let later = rise_from k (p + 1) bound places rise.2 (omega (arith, below)) in
    (later.0, subst (λ n. RiseBelow (get_or places k 0 + 1) bound (drop n (p ∷ places))) same later.1)

-- one place more is dropped, from the end of the list of places on
module _ {A : Type 0} (places : List ℕ) (rs left : List A) (done : ℕ) (rise : RiseBelow 0 (length rs) places) (more : done < length places)
    (is : left ≡ undropped 0 (drop (length places - done) places) rs) where
  facts : (get_or places (length places - 1 - done) 0 < length rs) × RiseBelow (get_or places (length places - 1 - done) 0 + 1) (length rs) (drop (length places - 1 - done + 1) places)
  facts = rise_from (length places - 1 - done) 0 (length rs) places rise (omega (arith, more))

  behind : length places - 1 - done + 1 ≡ length places - done
  behind = omega (arith, more)

  rest : RiseBelow (get_or places (length places - 1 - done) 0 + 1) (length rs) (drop (length places - done) places)
  rest = subst (λ n. RiseBelow (get_or places (length places - 1 - done) 0 + 1) (length rs) (drop n places)) behind facts.1

  pub place_there : get_or places (length places - 1 - done) 0 < length left
  place_there = subst (λ l. get_or places (length places - 1 - done) 0 < length l) (sym is)
      (still_there (get_or places (length places - 1 - done) 0) 0 (length rs) (drop (length places - done) places) rs
      (subst (λ n. RiseBelow n (length rs) (drop (length places - done) places)) (omega arith) rest) facts.0)

  pub dropped_one : remove left (get_or places (length places - 1 - done) 0) ≡ undropped 0 (drop (length places - (done + 1)) places) rs
  dropped_one =
      let at : length places - 1 - done ≡ length places - (done + 1) = omega arith in
      let split : drop (length places - 1 - done) places ≡ get_or places (length places - 1 - done) 0 ∷ drop (length places - done) places =
      drop_more places (length places - 1 - done) 0 (omega (arith, more)) ∙ ap (λ n. get_or places (length places - 1 - done) 0 ∷ drop n places) behind in
      ap (λ l. remove l (get_or places (length places - 1 - done) 0)) is
      ∙ sym (dropped_first (get_or places (length places - 1 - done) 0) 0 (get_or places (length places - 1 - done) 0) (length rs) (drop (length places - done) places) rs (omega arith) rest facts.0)
      ∙ ap (λ l. undropped 0 l rs) (sym split) ∙ ap (λ n. undropped 0 (drop n places) rs) at

drop_end : (xs : List ℕ) → drop (length xs) xs ≡ []
drop_end [] = refl
drop_end (x ∷ xs) = drop_end xs

pub none_yet : (places : List ℕ) → [] ≡ drop (length places - 0) places
none_yet places = let same : length places ≡ length places - 0 = omega arith in sym (drop_end places) ∙ ap (λ n. drop n places) same

pub all_done : (places : List ℕ) (done : ℕ) → length places ≤ done → drop (length places - done) places ≡ places
all_done places done end = let same : length places - done ≡ 0 = omega (arith, end) in ap (λ n. drop n places) same
