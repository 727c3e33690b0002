-- The rows by which a pattern is matched, against what matching means.
use Rattle.std.proofs.Common.{◌≡◌, ℕ, zero, suc, ◌+◌, ◌<◌, ◌≤◌, cond, List, [], ◌∷◌, ◌++◌, take, drop, length, get_or, Bool, true, false, ◌&&◌, ◌||◌, ◌==◌, not, refl, sym, ◌∙◌, ap, arith, length-drop}
use Rattle.std.specs.Prelude.{slice_set}
use Rattle.std.specs.List.{AllByRecursion}
use Rattle.std.proofs.lemmas.List.{append_assoc, drop_more, take_more_set, drop-set-lt}
use Rattle.mail_tree.specs.Listing.{some_then, one_then, is_end, fits}
use Rattle.mail_tree.specs.Matching.{any_passes, any_row, byte_row, row_after, first_passes, goes_on}

-- ---- One place more

drop_one : (n : ℕ) (name : List ℕ) → drop 1 (drop n name) ≡ drop (n + 1) name
drop_one zero name = refl
drop_one (suc n) [] = let e : suc n + 1 ≡ suc (n + 1) = omega arith in rw e refl
drop_one (suc n) (x ∷ name) = let e : suc n + 1 ≡ suc (n + 1) = omega arith in rw e (drop_one n name)

any_here : (goes : ℕ → Bool) (carry : Bool) (row : List Bool) (name : List ℕ) (place : ℕ) → place < length row → (here next : Bool)
    → here ≡ (get_or row place false || carry) → next ≡ ((get_or row place false || carry) && first_passes goes (drop place name))
    → here ∷ any_row goes next (drop (place + 1) row) (drop (place + 1) name) ≡ any_row goes carry (drop place row) (drop place name)
any_here goes carry row name place below here next is_here is_next =
    rw (is_here, is_next, sym (drop_one place name)) (ap (λ r. any_row goes carry r (drop place name)) (sym (drop_more row place false below)))

pub any_step : (goes : ℕ → Bool) (carry : Bool) (row : List Bool) (name : List ℕ) (place : ℕ) → place < length row → (here next : Bool)
    → here ≡ (get_or row place false || carry) → next ≡ ((get_or row place false || carry) && first_passes goes (drop place name))
    → take (place + 1) (slice_set row place here) ++ any_row goes next (drop (place + 1) (slice_set row place here)) (drop (place + 1) name)
    ≡ take place row ++ any_row goes carry (drop place row) (drop place name)
any_step goes carry row name place below here next is_here is_next =
    ap (λ l. l ++ any_row goes next (drop (place + 1) (slice_set row place here)) (drop (place + 1) name)) (take_more_set row place here below)
    ∙ append_assoc (take place row) (here ∷ []) (any_row goes next (drop (place + 1) (slice_set row place here)) (drop (place + 1) name))
    ∙ ap (λ r. take place row ++ here ∷ any_row goes next r (drop (place + 1) name)) (drop-set-lt (place + 1) row place here (omega arith))
    ∙ ap (λ l. take place row ++ l) (any_here goes carry row name place below here next is_here is_next)

byte_here : (wanted : ℕ) (carry : Bool) (row : List Bool) (name : List ℕ) (place : ℕ) → place < length row → (next : Bool)
    → next ≡ (get_or row place false && first_passes (λ byte. byte == wanted) (drop place name))
    → carry ∷ byte_row wanted next (drop (place + 1) row) (drop (place + 1) name) ≡ byte_row wanted carry (drop place row) (drop place name)
byte_here wanted carry row name place below next is_next =
    rw (is_next, sym (drop_one place name)) (ap (λ r. byte_row wanted carry r (drop place name)) (sym (drop_more row place false below)))

pub byte_step : (wanted : ℕ) (carry : Bool) (row : List Bool) (name : List ℕ) (place : ℕ) → place < length row → (next : Bool)
    → next ≡ (get_or row place false && first_passes (λ byte. byte == wanted) (drop place name))
    → take (place + 1) (slice_set row place carry) ++ byte_row wanted next (drop (place + 1) (slice_set row place carry)) (drop (place + 1) name)
    ≡ take place row ++ byte_row wanted carry (drop place row) (drop place name)
byte_step wanted carry row name place below next is_next =
    ap (λ l. l ++ byte_row wanted next (drop (place + 1) (slice_set row place carry)) (drop (place + 1) name)) (take_more_set row place carry below)
    ∙ append_assoc (take place row) (carry ∷ []) (byte_row wanted next (drop (place + 1) (slice_set row place carry)) (drop (place + 1) name))
    ∙ ap (λ r. take place row ++ carry ∷ byte_row wanted next r (drop (place + 1) name)) (drop-set-lt (place + 1) row place carry (omega arith))
    ∙ ap (λ l. take place row ++ l) (byte_here wanted carry row name place below next is_next)

-- ---- What the rows mean

-- a row has a place for each byte and one for the end
joins : (s c t p u a : Bool) → (((s || c) && t) || (a || (((s || c) && p) && u))) ≡ (((s && (t || (p && u))) || a) || (c && (t || (p && u))))
joins true true true p u a = refl
joins true true false true true true = refl
joins true true false true true false = refl
joins true true false true false true = refl
joins true true false true false false = refl
joins true true false false u true = refl
joins true true false false u false = refl
joins true false true p u a = refl
joins true false false true true true = refl
joins true false false true true false = refl
joins true false false true false true = refl
joins true false false true false false = refl
joins true false false false u true = refl
joins true false false false u false = refl
joins false true true p u true = refl
joins false true true p u false = refl
joins false true false true true true = refl
joins false true false true true false = refl
joins false true false true false true = refl
joins false true false true false false = refl
joins false true false false u true = refl
joins false true false false u false = refl
joins false false t p u true = refl
joins false false t p u false = refl

last_any : (s c t : Bool) → (((s || c) && t) || false) ≡ (((s && t) || false) || (c && t))
last_any true true true = refl
last_any true true false = refl
last_any true false true = refl
last_any true false false = refl
last_any false true true = refl
last_any false true false = refl
last_any false false t = refl

no_name : (l : List ℕ) → length l ≡ 0 → l ≡ []
no_name [] e = refl
no_name (x ∷ l) e = absurd (omega (arith, e))

no_row : (l : List Bool) → length l ≡ 0 → l ≡ []
no_row [] e = refl
no_row (x ∷ l) e = absurd (omega (arith, e))

pub any_after : (stops : ℕ → Bool) (test : List ℕ → Bool) (carry : Bool) (row : List Bool) (name : List ℕ) → length row ≡ length name + 1
    → any_passes (any_row (λ byte. not (stops byte)) carry row name) test name ≡ (any_passes row (some_then stops test) name || (carry && some_then stops test name))
any_after stops test carry [] name short = absurd (omega (arith, short))
any_after stops test carry (here ∷ row) [] short = rw (no_row row (omega (arith, short))) (last_any here carry (test []))
any_after stops test carry (here ∷ row) (byte ∷ rest) short =
    ap (λ b. ((here || carry) && test (byte ∷ rest)) || b) (any_after stops test ((here || carry) && not (stops byte)) row rest (omega (arith, short)))
    ∙ joins here carry (test (byte ∷ rest)) (not (stops byte)) (some_then stops test rest) (any_passes row (some_then stops test) rest)

regroup : (c t h e u a : Bool) → ((c && t) || (((h && e) && u) || a)) ≡ ((c && t) || ((h && (e && u)) || a))
regroup c t true e u a = refl
regroup c t false e u a = refl

last_byte : (c t h : Bool) → ((c && t) || false) ≡ ((c && t) || ((h && false) || false))
last_byte c t true = refl
last_byte c t false = refl

pub byte_after : (wanted : ℕ) (test : List ℕ → Bool) (carry : Bool) (row : List Bool) (name : List ℕ) → length row ≡ length name + 1
    → any_passes (byte_row wanted carry row name) test name ≡ ((carry && test name) || any_passes row (one_then wanted test) name)
byte_after wanted test carry [] name short = absurd (omega (arith, short))
byte_after wanted test carry (here ∷ row) [] short = rw (no_row row (omega (arith, short))) (last_byte carry (test []) here)
byte_after wanted test carry (here ∷ row) (byte ∷ rest) short =
    ap (λ b. (carry && test (byte ∷ rest)) || b) (byte_after wanted test (here && (byte == wanted)) row rest (omega (arith, short)))
    ∙ regroup carry (test (byte ∷ rest)) here (byte == wanted) (test rest) (any_passes row (one_then wanted test) rest)

-- ---- Whole patterns

pub end_passes : (row : List Bool) (name : List ℕ) → length row ≡ length name + 1 → any_passes row is_end name ≡ get_or row (length name) false
end_passes [] name short = absurd (omega (arith, short))
end_passes (here ∷ row) [] short = rw (no_row row (omega (arith, short))) (at here)
  where
    at : (b : Bool) → ((b && true) || false) ≡ b
    at true = refl
    at false = refl
end_passes (here ∷ row) (byte ∷ rest) short = at here ∙ end_passes row rest (omega (arith, short))
  where
    at : (b : Bool) → ((b && false) || any_passes row is_end rest) ≡ any_passes row is_end rest
    at true = refl
    at false = refl

-- the first place alone
none_pass : (row : List Bool) (test : List ℕ → Bool) (name : List ℕ) → AllByRecursion (λ here. here ≡ false) row → any_passes row test name ≡ false
none_pass [] test name none = refl
none_pass (here ∷ row) test name none = rw none.0 (none_pass row test (drop 1 name) none.1)

pub start_passes : (row : List Bool) (test : List ℕ → Bool) (name : List ℕ) → AllByRecursion (λ here. here ≡ false) row → any_passes (true ∷ row) test name ≡ test name
start_passes row test name none = ap (λ b. test name || b) (none_pass row test (drop 1 name) none) ∙ at (test name)
  where
    at : (b : Bool) → (b || false) ≡ b
    at true = refl
    at false = refl

or_false : (b : Bool) → (b || false) ≡ b
or_false true = refl
or_false false = refl

row_fits : (byte : ℕ) (pattern : List ℕ) (row : List Bool) (name : List ℕ) → length row ≡ length name + 1 → any_passes (row_after byte row name) (fits pattern) name ≡ any_passes row (fits (byte ∷ pattern)) name
row_fits byte pattern row name short = at (byte == 42) (byte == 37)
  where
    at : (star percent : Bool) → any_passes (cond star (any_row (goes_on false) false row name) (cond percent (any_row (goes_on true) false row name) (byte_row byte false row name))) (fits pattern) name
        ≡ any_passes row (cond star (some_then (λ b. false) (fits pattern)) (cond percent (some_then (λ b. b == 47) (fits pattern)) (one_then byte (fits pattern)))) name
    at true percent = any_after (λ b. false) (fits pattern) false row name short ∙ or_false (any_passes row (some_then (λ b. false) (fits pattern)) name)
    at false true = any_after (λ b. b == 47) (fits pattern) false row name short ∙ or_false (any_passes row (some_then (λ b. b == 47) (fits pattern)) name)
    at false false = byte_after byte (fits pattern) false row name short

pub pattern_step : (pattern : List ℕ) (i : ℕ) (row : List Bool) (name : List ℕ) → length row ≡ length name + 1 → i < length pattern
    → any_passes (row_after (get_or pattern i 0) row name) (fits (drop (i + 1) pattern)) name ≡ any_passes row (fits (drop i pattern)) name
pattern_step pattern i row name short below =
    row_fits (get_or pattern i 0) (drop (i + 1) pattern) row name short ∙ ap (λ p. any_passes row (fits p) name) (sym (drop_more pattern i 0 below))

pub pattern_end : (pattern : List ℕ) (i : ℕ) (row : List Bool) (name : List ℕ) → length row ≡ length name + 1 → length pattern ≤ i → any_passes row (fits (drop i pattern)) name ≡ get_or row (length name) false
pattern_end pattern i row name short end = ap (λ p. any_passes row (fits p) name) (no_name (drop i pattern) (omega (arith, length-drop i pattern, end))) ∙ end_passes row name short

pub row_starts : (row : List Bool) (test : List ℕ → Bool) (name : List ℕ) → length row ≡ length name + 1 → AllByRecursion (λ here. here ≡ false) row → any_passes (slice_set row 0 true) test name ≡ test name
row_starts [] test name short none = absurd (omega (arith, short))
row_starts (here ∷ row) test name short none = start_passes row test name none.1

pub none_take : (n : ℕ) (row : List Bool) → AllByRecursion (λ here. here ≡ false) row → AllByRecursion (λ here. here ≡ false) (take n row)
none_take zero row none = tt
none_take (suc n) [] none = tt
none_take (suc n) (here ∷ row) none = (none.0, none_take n row none.1)

abbrev pub copies : ℕ → List Bool
copies zero = []
copies (suc n) = false ∷ copies n

pub none_copied : (n : ℕ) → AllByRecursion (λ here. here ≡ false) (copies n)
none_copied zero = tt
none_copied (suc n) = (refl, none_copied n)
