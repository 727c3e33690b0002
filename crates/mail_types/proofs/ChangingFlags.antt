-- Flags are changed: one change after the other, and what stays.
use Rattle.std.proofs.Common.{◌≡◌, ℕ, zero, suc, ◌+◌, ◌<◌, ◌≤◌, ◌==◌, Bool, true, false, List, [], ◌∷◌, ◌++◌, length, take, map, set, get_or, refl, sym, ◌∙◌, ap, subst, arith, cond}
use Rattle.std.specs.List.{AllByRecursion}
use Rattle.std.proofs.lemmas.List.{take_more}
use Rattle.mail_types.specs.declared.message.FlagChange.{FlagChange}
use Rattle.mail_types.specs.declared.message.Record.{Record}
use Rattle.mail_types.specs.Lists.{RiseBelow, places_of, changed_record, changed_records, named, differs, with_number, with_numbers}

-- no change of a list is at a place
abbrev Untouched : ℕ → List FlagChange → Type 0
Untouched place [] = Unit {0}
Untouched place (c ∷ cs) = ((place == c.place) ≡ false) × Untouched place cs

-- places that rise: those before one are others, and it stands below the bound
rise_at : (least bound : ℕ) (cs : List FlagChange) (i : ℕ) (d : FlagChange) → RiseBelow least bound (places_of cs) → i < length cs
    → (least ≤ (get_or cs i d).place) × ((get_or cs i d).place < bound) × Untouched (get_or cs i d).place (take i cs)
rise_at least bound [] i d rise below = absurd (omega (arith, below))
rise_at least bound (c ∷ cs) zero d rise below = (rise.0, rise.1, tt)
rise_at least bound (c ∷ cs) (suc i) d rise below =
    let later = rise_at (c.place + 1) bound cs i d rise.2 (omega (arith, below)) in
    let apart : ((get_or cs i d).place == c.place) ≡ false = let l : c.place + 1 ≤ (get_or cs i d).place = later.0 in grind arith in
    (omega (arith, later.0, rise.0), later.1, (apart, later.2))

-- what one change makes of a message
abbrev set_record : ℕ → FlagChange → Record → Record
set_record names c r = named names (record r { flags = c.flags; words = c.words })

untouched_record : (names place : ℕ) (cs : List FlagChange) (r : Record) → Untouched place cs → changed_record names place cs r ≡ r
untouched_record names place [] r none = refl
untouched_record names place (c ∷ cs) r none =
    ap (λ b. cond b (set_record names c r) (changed_record names place cs r)) none.0 ∙ untouched_record names place cs r none.1

last_here : (names place : ℕ) (cs : List FlagChange) (c : FlagChange) (r : Record) → place ≡ c.place → Untouched place cs → changed_record names place (cs ++ c ∷ []) r ≡ set_record names c r
last_here names place [] c r at none = let hit : (place == c.place) ≡ true = grind arith in ap (λ b. cond b (set_record names c r) r) hit
last_here names place (x ∷ cs) c r at none =
    ap (λ b. cond b (set_record names x r) (changed_record names place (cs ++ c ∷ []) r)) none.0 ∙ last_here names place cs c r at none.1

last_elsewhere : (names place : ℕ) (cs : List FlagChange) (c : FlagChange) (r : Record) → (place == c.place) ≡ false → changed_record names place (cs ++ c ∷ []) r ≡ changed_record names place cs r
last_elsewhere names place [] c r apart = ap (λ b. cond b (set_record names c r) r) apart
last_elsewhere names place (x ∷ cs) c r apart = ap (λ l. cond (place == x.place) (set_record names x r) l) (last_elsewhere names place cs c r apart)

last_passed : (names k : ℕ) (cs : List FlagChange) (c : FlagChange) (rs : List Record) → c.place < k → changed_records names k (cs ++ c ∷ []) rs ≡ changed_records names k cs rs
last_passed names k cs c [] below = refl
last_passed names k cs c (r ∷ rs) below =
    let apart : (k == c.place) ≡ false = grind arith in
    (λ j. last_elsewhere names k cs c r apart j ∷ last_passed names (k + 1) cs c rs (omega (arith, below)) j)

last_set : (names n k : ℕ) (cs : List FlagChange) (c : FlagChange) (rs : List Record) (x : Record) → k + n ≡ c.place → n < length rs → Untouched c.place cs
    → set (changed_records names k cs rs) n (set_record names c (get_or (changed_records names k cs rs) n x)) ≡ changed_records names k (cs ++ c ∷ []) rs
last_set names n k cs c [] x at below none = absurd (omega (arith, below))
last_set names zero k cs c (r ∷ rs) x at below none =
    let here : k ≡ c.place = omega (arith, at) in
    let clear : Untouched k cs = subst (λ p. Untouched p cs) (sym here) none in
    ap (λ y. set_record names c y ∷ changed_records names (k + 1) cs rs) (untouched_record names k cs r clear)
    ∙ sym (λ j. last_here names k cs c r here clear j ∷ last_passed names (k + 1) cs c rs (omega (arith, here)) j)
last_set names (suc n) k cs c (r ∷ rs) x at below none =
    let apart : (k == c.place) ≡ false = let e : k + suc n ≡ c.place = at in grind arith in
    (λ j. sym (last_elsewhere names k cs c r apart) j ∷ last_set names n (k + 1) cs c rs x (omega (arith, at)) (omega (arith, below)) none j)

-- one change more, in a list in which the first ones were made
pub changed_one : (names : ℕ) (cs : List FlagChange) (rs now : List Record) (i : ℕ) (d : FlagChange) (x : Record) → RiseBelow 0 (length rs) (places_of cs) → i < length cs
    → now ≡ changed_records names 0 (take i cs) rs
    → set now (get_or cs i d).place (set_record names (get_or cs i d) (get_or now (get_or cs i d).place x)) ≡ changed_records names 0 (take (i + 1) cs) rs
changed_one names cs rs now i d x rise below is =
    let at = rise_at 0 (length rs) cs i d rise below in
    ap (λ l. set l (get_or cs i d).place (set_record names (get_or cs i d) (get_or l (get_or cs i d).place x))) is
    ∙ last_set names (get_or cs i d).place 0 (take i cs) (get_or cs i d) rs x (omega arith) at.1 at.2
    ∙ ap (λ l. changed_records names 0 l rs) (sym (take_more cs i d below))

pub changed_count : (names k : ℕ) (cs : List FlagChange) (rs : List Record) → length (changed_records names k cs rs) ≡ length rs
changed_count names k cs [] = refl
changed_count names k cs (r ∷ rs) = ap (λ n. suc n) (changed_count names (k + 1) cs rs)

-- a fact that is blind to flags and keywords stays
module _ {B : Type 0} (f : Record → B) (blind : (r : Record) (c : FlagChange) (names : ℕ) → f (set_record names c r) ≡ f r) where
  one_stays : (names place : ℕ) (cs : List FlagChange) (r : Record) → f (changed_record names place cs r) ≡ f r
  one_stays names place [] r = refl
  one_stays names place (c ∷ cs) r = step (place == c.place) (one_stays names place cs r)
    where
      step : (b : Bool) → f (changed_record names place cs r) ≡ f r → f (cond b (set_record names c r) (changed_record names place cs r)) ≡ f r
      step true e = blind r c names
      step false e = e

  pub changed_stays : (names k : ℕ) (cs : List FlagChange) (rs : List Record) → map f (changed_records names k cs rs) ≡ map f rs
  changed_stays names k cs [] = refl
  changed_stays names k cs (r ∷ rs) = λ j. one_stays names k cs r j ∷ changed_stays names (k + 1) cs rs j

-- UIDs, texts and modification numbers are such
pub changed_uids : (names k : ℕ) (cs : List FlagChange) (rs : List Record) → map (λ r. r.uid) (changed_records names k cs rs) ≡ map (λ r. r.uid) rs
changed_uids = changed_stays (λ r. r.uid) (λ r c names. refl)

pub changed_texts : (names k : ℕ) (cs : List FlagChange) (rs : List Record) → map (λ r. r.text) (changed_records names k cs rs) ≡ map (λ r. r.text) rs
changed_texts = changed_stays (λ r. r.text) (λ r c names. refl)

pub changed_numbers : (names k : ℕ) (cs : List FlagChange) (rs : List Record) → map (λ r. r.number) (changed_records names k cs rs) ≡ map (λ r. r.number) rs
changed_numbers = changed_stays (λ r. r.number) (λ r c names. refl)

-- a part that is no modification number stays
pub with_numbers_same : {B : Type 0} (part : Record → B) → ((n : ℕ) (r : Record) → part (record r { number = n }) ≡ part r) → (number : ℕ) (before after : List Record)
    → map part (with_numbers number before after) ≡ map part after
with_numbers_same part blind number before [] = refl
with_numbers_same part blind number [] (r ∷ rest) = refl
with_numbers_same part blind number (old ∷ before) (r ∷ rest) = λ j. one (differs old r) j ∷ with_numbers_same part blind number before rest j
  where
    one : (b : Bool) → part (cond b (record r { number = number }) r) ≡ part r
    one true = blind number r
    one false = refl

pub with_numbers_count : (number : ℕ) (before after : List Record) → length (with_numbers number before after) ≡ length after
with_numbers_count number before [] = refl
with_numbers_count number [] (r ∷ rest) = refl
with_numbers_count number (old ∷ before) (r ∷ rest) = ap (λ n. suc n) (with_numbers_count number before rest)

-- what holds of messages holds of them under the number
pub with_numbers_have : (P : Record → Type 0) (number : ℕ) → ((r : Record) → P r → P (record r { number = number })) → (before after : List Record) → AllByRecursion P after → AllByRecursion P (with_numbers number before after)
with_numbers_have P number on before [] all = tt
with_numbers_have P number on [] (r ∷ rest) all = all
with_numbers_have P number on (old ∷ before) (r ∷ rest) all = (one (differs old r) all.0, with_numbers_have P number on before rest all.1)
  where
    one : (b : Bool) → P r → P (cond b (record r { number = number }) r)
    one true is = on r is
    one false is = is
