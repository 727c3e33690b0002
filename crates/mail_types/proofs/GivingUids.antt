-- Numbers of a list are written anew, one after the other.
use Rattle.std.proofs.Common.{◌≡◌, ℕ, zero, suc, ◌+◌, ◌<◌, ◌≤◌, ◌==◌, Bool, true, false, cond, List, [], ◌∷◌, ◌++◌, length, take, drop, set, get_or, refl, sym, ◌∙◌, ap, arith, append_assoc}
use Rattle.std.proofs.Math.Seq.{set-append_seam, get_or-append_seam}
use Rattle.std.proofs.lemmas.List.{take_more, drop_more}
use Rattle.mail_types.specs.Opening.{missing, given_uids, numbers_from, with_uids}
use Rattle.mail_types.specs.declared.message.Record.{Record}

-- a list whose first elements were written anew, and one more of them
module _ {A : Type 0} (xs now done : List A) (i : ℕ) (x : A) (below : i < length xs) (count : length done ≡ i) (is : now ≡ done ++ drop i xs) where
  split : now ≡ done ++ get_or xs i x ∷ drop (i + 1) xs
  split = is ∙ ap (λ l. done ++ l) (drop_more xs i x below)

  pub unwritten : get_or now i x ≡ get_or xs i x
  unwritten = ap (λ l. get_or l i x) split ∙ ap (λ n. get_or (done ++ get_or xs i x ∷ drop (i + 1) xs) n x) (sym count) ∙ get_or-append_seam done (get_or xs i x) (drop (i + 1) xs) x

  pub write_on : (new : A) → set now i new ≡ (done ++ new ∷ []) ++ drop (i + 1) xs
  write_on new = ap (λ l. set l i new) split ∙ ap (λ n. set (done ++ get_or xs i x ∷ drop (i + 1) xs) n new) (sym count)
      ∙ set-append_seam done (get_or xs i x) (drop (i + 1) xs) new ∙ sym (append_assoc done (new ∷ []) (drop (i + 1) xs))

pub took : {A : Type 0} (xs : List A) (i : ℕ) → i < length xs → length (take i xs) ≡ i
took [] i below = absurd (omega (arith, below))
took (x ∷ xs) zero below = refl
took (x ∷ xs) (suc i) below = ap (λ n. suc n) (took xs i (omega (arith, below)))

numbers_length : (k n : ℕ) → length (numbers_from k n) ≡ n
numbers_length k zero = refl
numbers_length k (suc n) = ap (λ m. suc m) (numbers_length (k + 1) n)

numbers_more : (k n : ℕ) → numbers_from k (n + 1) ≡ numbers_from k n ++ (k + n) ∷ []
numbers_more k zero = let e : k ≡ k + 0 = omega arith in ap (λ n. n ∷ []) e
numbers_more k (suc n) = let e : k + 1 + n ≡ k + suc n = omega arith in let s : suc n + 1 ≡ suc (n + 1) = omega arith in
    ap (numbers_from k) s ∙ ap (λ l. k ∷ l) (numbers_more (k + 1) n ∙ ap (λ m. numbers_from (k + 1) n ++ m ∷ []) e)

pub number_on : (xs now : List ℕ) (i last : ℕ) → i < length xs → now ≡ numbers_from 1 i ++ drop i xs → last ≡ i
    → set now i (last + 1) ≡ numbers_from 1 (i + 1) ++ drop (i + 1) xs
number_on xs now i last below is at =
    let uid : last + 1 ≡ 1 + i = omega (arith, at) in
    write_on xs now (numbers_from 1 i) i 0 below (numbers_length 1 i) is (last + 1)
    ∙ ap (λ l. l ++ drop (i + 1) xs) (ap (λ n. numbers_from 1 i ++ n ∷ []) uid ∙ sym (numbers_more 1 i))

given_length : (k : ℕ) (xs : List ℕ) → length (given_uids k xs) ≡ length xs
given_length k [] = refl
given_length k (x ∷ xs) = step (x == 0) (given_length (k + 1) xs) (given_length k xs)
  where
    step : (b : Bool) → length (given_uids (k + 1) xs) ≡ length xs → length (given_uids k xs) ≡ length xs → length (cond b (k ∷ given_uids (k + 1) xs) (x ∷ given_uids k xs)) ≡ suc (length xs)
    step true one two = ap (λ n. suc n) one
    step false one two = ap (λ n. suc n) two

given_more : (k : ℕ) (xs : List ℕ) (x : ℕ) → given_uids k (xs ++ x ∷ []) ≡ given_uids k xs ++ given_uids (k + missing xs) (x ∷ [])
given_more k [] x = let e : k ≡ k + 0 = omega arith in ap (λ n. given_uids n (x ∷ [])) e
given_more k (y ∷ xs) x = step (y == 0) (given_more (k + 1) xs x) (given_more k xs x)
  where
    step : (b : Bool) → given_uids (k + 1) (xs ++ x ∷ []) ≡ given_uids (k + 1) xs ++ given_uids (k + 1 + missing xs) (x ∷ []) → given_uids k (xs ++ x ∷ []) ≡ given_uids k xs ++ given_uids (k + missing xs) (x ∷ [])
        → cond b (k ∷ given_uids (k + 1) (xs ++ x ∷ [])) (y ∷ given_uids k (xs ++ x ∷ []))
        ≡ cond b (k ∷ given_uids (k + 1) xs) (y ∷ given_uids k xs) ++ given_uids (k + cond b (1 + missing xs) (missing xs)) (x ∷ [])
    step true one two = let e : k + 1 + missing xs ≡ k + (1 + missing xs) = omega arith in
        ap (λ l. k ∷ l) (one ∙ ap (λ n. given_uids (k + 1) xs ++ given_uids n (x ∷ [])) e)
    step false one two = ap (λ l. y ∷ l) two

missing_more : (xs : List ℕ) (x : ℕ) → missing (xs ++ x ∷ []) ≡ missing xs + missing (x ∷ [])
missing_more [] x = omega arith
missing_more (y ∷ xs) x = step (y == 0) (missing_more xs x)
  where
    step : (b : Bool) → missing (xs ++ x ∷ []) ≡ missing xs + missing (x ∷ [])
        → cond b (1 + missing (xs ++ x ∷ [])) (missing (xs ++ x ∷ [])) ≡ cond b (1 + missing xs) (missing xs) + missing (x ∷ [])
    step true e = omega (arith, e)
    step false e = e

fewer : (i : ℕ) (xs : List ℕ) → missing (take i xs) ≤ missing xs
fewer zero xs = omega arith
fewer (suc i) [] = omega arith
fewer (suc i) (x ∷ xs) = step (x == 0) (fewer i xs)
  where
    step : (b : Bool) → missing (take i xs) ≤ missing xs → cond b (1 + missing (take i xs)) (missing (take i xs)) ≤ cond b (1 + missing xs) (missing xs)
    step true e = omega (arith, e)
    step false e = e

-- the first numbers have found their UIDs, and the next one
module _ (xs now : List ℕ) (i highest last : ℕ) (below : i < length xs)
    (is : (now ≡ given_uids (highest + 1) (take i xs) ++ drop i xs) × (last ≡ highest + missing (take i xs))) where
  abbrev done : List ℕ
  done = given_uids (highest + 1) (take i xs)

  count : length done ≡ i
  count = given_length (highest + 1) (take i xs) ∙ took xs i below

  same : get_or now i 0 ≡ get_or xs i 0
  same = unwritten xs now done i 0 below count is.0

  more : take i xs ++ get_or now i 0 ∷ [] ≡ take (i + 1) xs
  more = ap (λ y. take i xs ++ y ∷ []) same ∙ sym (take_more xs i 0 below)

  pub room_on : highest + missing xs < 4294967296 → last + missing (get_or now i 0 ∷ []) < 4294967296
  room_on room = omega (arith, room, is.1, missing_more (take i xs) (get_or now i 0), ap missing more, fewer (i + 1) xs)

  pub give_on : (new next : ℕ) → new ∷ [] ≡ given_uids (last + 1) (get_or now i 0 ∷ []) → next ≡ last + missing (get_or now i 0 ∷ [])
      → (set now i new ≡ given_uids (highest + 1) (take (i + 1) xs) ++ drop (i + 1) xs) × (next ≡ highest + missing (take (i + 1) xs))
  give_on new next given rises =
      let uid : last + 1 ≡ highest + 1 + missing (take i xs) = omega (arith, is.1) in (
        write_on xs now done i 0 below count is.0 new
            ∙ ap (λ l. l ++ drop (i + 1) xs) (ap (λ l. done ++ l) (given ∙ ap (λ n. given_uids n (get_or now i 0 ∷ [])) uid) ∙ sym (given_more (highest + 1) (take i xs) (get_or now i 0)) ∙ ap (given_uids (highest + 1)) more),
        omega (arith, rises, is.1, missing_more (take i xs) (get_or now i 0), ap missing more),
      )

-- records with the UIDs of a list
with_count : (us : List ℕ) (rs : List Record) → length us ≡ length rs → length (with_uids us rs) ≡ length rs
with_count us [] same = refl
with_count [] (r ∷ rs) same = absurd (omega (arith, same))
with_count (u ∷ us) (r ∷ rs) same = ap (λ n. suc n) (with_count us rs (omega (arith, same)))

with_more : (us : List ℕ) (rs : List Record) (i : ℕ) (x : Record) → i < length rs → length us ≡ length rs
    → with_uids (take (i + 1) us) (take (i + 1) rs) ≡ with_uids (take i us) (take i rs) ++ record (get_or rs i x) { uid = get_or us i 0 } ∷ []
with_more us [] i x below same = absurd (omega (arith, below))
with_more [] (r ∷ rs) i x below same = absurd (omega (arith, same))
with_more (u ∷ us) (r ∷ rs) zero x below same = refl
with_more (u ∷ us) (r ∷ rs) (suc i) x below same = let s : suc i + 1 ≡ suc (i + 1) = omega arith in
    ap (λ n. with_uids (take n (u ∷ us)) (take n (r ∷ rs))) s ∙ ap (λ l. record r { uid = u } ∷ l) (with_more us rs i x (omega (arith, below)) (omega (arith, same)))

pub uids_on : (us : List ℕ) (rs now : List Record) (i : ℕ) (x : Record) → i < length rs → length us ≡ length rs → now ≡ with_uids (take i us) (take i rs) ++ drop i rs
    → set now i (record (get_or now i x) { uid = get_or us i 0 }) ≡ with_uids (take (i + 1) us) (take (i + 1) rs) ++ drop (i + 1) rs
uids_on us rs now i x below same is =
    let below_us : i < length us = omega (arith, below, same) in
    let count : length (with_uids (take i us) (take i rs)) ≡ i = with_count (take i us) (take i rs) (took us i below_us ∙ sym (took rs i below)) ∙ took rs i below in
    let old = unwritten rs now (with_uids (take i us) (take i rs)) i x below count is in
    write_on rs now (with_uids (take i us) (take i rs)) i x below count is (record (get_or now i x) { uid = get_or us i 0 })
    ∙ ap (λ l. l ++ drop (i + 1) rs) (ap (λ r. with_uids (take i us) (take i rs) ++ record r { uid = get_or us i 0 } ∷ []) old ∙ sym (with_more us rs i x below same))
