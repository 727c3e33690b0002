-- Which names a pattern may still match.
use Rattle.std.proofs.Common.{◌≡◌, ◌⊎◌, inl, inr, ⊎_elim, ℕ, ◌+◌, ◌<◌, ◌≤◌, ◌-◌, List, [], ◌∷◌, ◌++◌, map, drop, length, get_or, Bool, true, false, cond, not, ◌&&◌, ◌||◌, ◌==◌, nat_le, refl, sym, ◌∙◌, ap, arith, append_assoc, length-drop, Option, Some, None}
use Rattle.std.specs.Prelude.{bytes_eq}
use Rattle.std.specs.List.{list_any}
use Rattle.std.proofs.lemmas.Bool.{and_parts, and_from, or_parts, or_left, or_right, or_from, false_from_ne_true, false≢true}
use Rattle.std.proofs.lemmas.List.{drop_more, map-append}
use Rattle.std.proofs.lemmas.Slice.Eq.{bytes_eq-Decides}
use Rattle.file_model.specs.Paths.{child, HasNoSlash}
use Rattle.file_model.proofs.Inside.{not_both}
use Rattle.file_model.proofs.NamesIn.{plain_is}
use Rattle.mail_tree.specs.Listing.{is_end, some_then, one_then, fits, fits_name, upper}
use Rattle.mail_tree.specs.Matching.{any_passes, any_row, byte_row, row_after, goes_on}
use Rattle.mail_tree.specs.Names.{inbox}
use Rattle.mail_tree.specs.Walks.{leads, is_wild, front_with, fixed_front}
use Rattle.mail_tree.proofs.Above.{slash_in}
use Rattle.mail_tree.proofs.Matched.{any_after, byte_after, end_passes}

-- ---- The rows

or_false : (b : Bool) → (b || false) ≡ b
or_false true = refl
or_false false = refl

-- what a byte of a pattern asks before a test
abbrev stepped : ℕ → (List ℕ → Bool) → List ℕ → Bool
stepped byte test = cond (byte == 42) (some_then (λ b. false) test) (cond (byte == 37) (some_then (λ b. b == 47) test) (one_then byte test))

row_test : (byte : ℕ) (test : List ℕ → Bool) (row : List Bool) (name : List ℕ) → length row ≡ length name + 1 → any_passes (row_after byte row name) test name ≡ any_passes row (stepped byte test) name
row_test byte test row name short = at (byte == 42) (byte == 37)
  where
    at : (star percent : Bool) → any_passes (cond star (any_row (goes_on false) false row name) (cond percent (any_row (goes_on true) false row name) (byte_row byte false row name))) test name
        ≡ any_passes row (cond star (some_then (λ b. false) test) (cond percent (some_then (λ b. b == 47) test) (one_then byte test))) name
    at true percent = any_after (λ b. false) test false row name short ∙ or_false (any_passes row (some_then (λ b. false) test) name)
    at false true = any_after (λ b. b == 47) test false row name short ∙ or_false (any_passes row (some_then (λ b. b == 47) test) name)
    at false false = byte_after byte test false row name short

turned : (h f g a b : Bool) → ((h && (f || g)) || (a || b)) ≡ (((h && f) || a) || ((h && g) || b))
turned true true g a b = refl
turned true false true true b = refl
turned true false true false b = refl
turned true false false a b = refl
turned false f g a b = refl

either_passes : (f g : List ℕ → Bool) (row : List Bool) (name : List ℕ) → any_passes row (λ t. f t || g t) name ≡ (any_passes row f name || any_passes row g name)
either_passes f g [] name = refl
either_passes f g (here ∷ row) name = ap (λ b. (here && (f name || g name)) || b) (either_passes f g row (drop 1 name)) ∙ turned here (f name) (g name) (any_passes row f (drop 1 name)) (any_passes row g (drop 1 name))

grouped : (f e x : Bool) → ((f || e) || x) ≡ (f || (e || x))
grouped true e x = refl
grouped false e x = refl

leads_row : (byte : ℕ) (pattern : List ℕ) (found : Bool) (row : List Bool) (text : List ℕ) → length row ≡ length text + 1
    → ((found || get_or row (length text) false) || any_passes (row_after byte row text) (leads pattern) text) ≡ (found || any_passes row (leads (byte ∷ pattern)) text)
leads_row byte pattern found row text short =
    (λ i. (found || sym (end_passes row text short) i) || row_test byte (leads pattern) row text short i)
    ∙ grouped found (any_passes row is_end text) (any_passes row (stepped byte (leads pattern)) text)
    ∙ ap (λ b. found || b) (sym (either_passes is_end (stepped byte (leads pattern)) row text))

pub leads_step : (pattern : List ℕ) (i : ℕ) (found : Bool) (row : List Bool) (text : List ℕ) → length row ≡ length text + 1 → i < length pattern
    → ((found || get_or row (length text) false) || any_passes (row_after (get_or pattern i 0) row text) (leads (drop (i + 1) pattern)) text) ≡ (found || any_passes row (leads (drop i pattern)) text)
leads_step pattern i found row text short below =
    leads_row (get_or pattern i 0) (drop (i + 1) pattern) found row text short ∙ ap (λ p. found || any_passes row (leads p) text) (sym (drop_more pattern i 0 below))

none_left : (l : List ℕ) → length l ≡ 0 → l ≡ []
none_left [] e = refl
none_left (x ∷ l) e = absurd (omega (arith, e))

pub leads_end : (pattern : List ℕ) (i : ℕ) (found : Bool) (row : List Bool) (text : List ℕ) → length row ≡ length text + 1 → length pattern ≤ i
    → (found || any_passes row (leads (drop i pattern)) text) ≡ (found || get_or row (length text) false)
leads_end pattern i found row text short end = ap (λ p. found || any_passes row (leads p) text) (none_left (drop i pattern) (omega (arith, length-drop i pattern, end))) ∙ ap (λ b. found || b) (end_passes row text short)

-- ---- What matches was led to

or_case : (a b : Bool) → (a || b) ≡ true → (a ≡ true) ⊎ (b ≡ true)
or_case true b h = inl refl
or_case false b h = inr h

end_front : (text rest : List ℕ) → is_end (text ++ rest) ≡ true → is_end text ≡ true
end_front [] rest is = refl
end_front (x ∷ text) rest is = absurd (cc)

some_led : (stops : ℕ → Bool) (f g : List ℕ → Bool) → ((text rest : List ℕ) → f (text ++ rest) ≡ true → g text ≡ true) → g [] ≡ true → (text rest : List ℕ) → some_then stops f (text ++ rest) ≡ true → some_then stops g text ≡ true
some_led stops f g led none [] rest h = none
some_led stops f g led none (x ∷ text) rest h = at (or_case (f (x ∷ text ++ rest)) (not (stops x) && some_then stops f (text ++ rest)) h) (some_led stops f g led none text rest)
  where
    at : (f (x ∷ text ++ rest) ≡ true) ⊎ ((not (stops x) && some_then stops f (text ++ rest)) ≡ true) → (some_then stops f (text ++ rest) ≡ true → some_then stops g text ≡ true) → (g (x ∷ text) || (not (stops x) && some_then stops g text)) ≡ true
    at (inl here) more = or_left (g (x ∷ text)) (not (stops x) && some_then stops g text) (led (x ∷ text) rest here)
    at (inr later) more =
        let p = and_parts (not (stops x)) (some_then stops f (text ++ rest)) later in
        or_right (g (x ∷ text)) (not (stops x) && some_then stops g text) (and_from (not (stops x)) (some_then stops g text) p.0 (more p.1))

none_leads : (pattern : List ℕ) → leads pattern [] ≡ true
none_leads [] = refl
none_leads (b ∷ pattern) = refl

pub led : (pattern text rest : List ℕ) → fits pattern (text ++ rest) ≡ true → leads pattern text ≡ true
led [] text rest h = end_front text rest h
led (b ∷ pattern) [] rest h = refl
led (b ∷ pattern) (x ∷ text) rest h = at (b == 42) (b == 37) h (led pattern)
  where
    at : (star percent : Bool) → (cond star (some_then (λ b. false) (fits pattern)) (cond percent (some_then (λ b. b == 47) (fits pattern)) (one_then b (fits pattern)))) (x ∷ text ++ rest) ≡ true
        → ((t r : List ℕ) → fits pattern (t ++ r) ≡ true → leads pattern t ≡ true)
        → (cond star (some_then (λ b. false) (leads pattern)) (cond percent (some_then (λ b. b == 47) (leads pattern)) (one_then b (leads pattern)))) (x ∷ text) ≡ true
    at true percent h more = some_led (λ b. false) (fits pattern) (leads pattern) more (none_leads pattern) (x ∷ text) rest h
    at false true h more = some_led (λ b. b == 47) (fits pattern) (leads pattern) more (none_leads pattern) (x ∷ text) rest h
    at false false h more = let p = and_parts (x == b) (fits pattern (text ++ rest)) h in and_from (x == b) (leads pattern text) p.0 (more text rest p.1)

inbox_plain : HasNoSlash inbox
inbox_plain = plain_is inbox refl

-- INBOX is in no directory
no_inbox : (dir rest : List ℕ) → bytes_eq (child dir rest) inbox ≡ true → ⊥
no_inbox dir rest is = slash_in dir rest inbox (sym ((bytes_eq-Decides (child dir rest) inbox).0 is)) inbox_plain

pub not_led : (pattern dir : List ℕ) → leads pattern (dir ++ 47 ∷ []) ≡ false → (rest : List ℕ) → fits_name pattern (child dir rest) ≡ false
not_led pattern dir fails rest = false_from_ne_true (fits_name pattern (child dir rest)) (λ h. ⊎_elim
    (λ fit. not_both (leads pattern (dir ++ 47 ∷ [])) (led pattern (dir ++ 47 ∷ []) rest (ap (fits pattern) (append_assoc dir (47 ∷ []) rest) ∙ fit)) fails)
    (λ same. no_inbox dir rest (and_parts (bytes_eq (child dir rest) inbox) (fits (map upper pattern) inbox) same).0)
    (or_case (fits pattern (child dir rest)) (bytes_eq (child dir rest) inbox && fits (map upper pattern) inbox) h))

-- ---- What all matches begin with

byte_is : (x b : ℕ) → (x == b) ≡ true → x ≡ b
byte_is x b e = grind arith

fixed_begins : (front rest name : List ℕ) → list_any is_wild front ≡ false → fits (front ++ 47 ∷ rest) name ≡ true → (tail : List ℕ) × (name ≡ front ++ 47 ∷ tail)
fixed_begins [] rest [] fixed h = absurd (false≢true h)
fixed_begins [] rest (x ∷ name) fixed h = let p = and_parts (x == 47) (fits rest name) h in (name, ap (λ b. b ∷ name) (byte_is x 47 p.0))
fixed_begins (b ∷ front) rest name fixed h =
    let p = or_parts (is_wild b) (list_any is_wild front) fixed in
    let w = or_parts (b == 42) (b == 37) p.0 in
    at name ((λ i. (cond (sym w.0 i) (some_then (λ b. false) (fits (front ++ 47 ∷ rest))) (cond (sym w.1 i) (some_then (λ b. b == 47) (fits (front ++ 47 ∷ rest))) (one_then b (fits (front ++ 47 ∷ rest))))) name) ∙ h)
    (λ n fit. fixed_begins front rest n p.1 fit)
  where
    at : (name : List ℕ) → one_then b (fits (front ++ 47 ∷ rest)) name ≡ true → ((n : List ℕ) → fits (front ++ 47 ∷ rest) n ≡ true → (tail : List ℕ) × (n ≡ front ++ 47 ∷ tail)) → (tail : List ℕ) × (name ≡ b ∷ front ++ 47 ∷ tail)
    at [] h more = absurd (false≢true h)
    at (x ∷ name) h more =
        let p = and_parts (x == b) (fits (front ++ 47 ∷ rest) name) h in
        let m = more name p.1 in
        (m.0, (λ i. byte_is x b p.0 i ∷ m.1 i))

upper_fixed : (front : List ℕ) → list_any is_wild front ≡ false → list_any is_wild (map upper front) ≡ false
upper_fixed [] fixed = refl
upper_fixed (b ∷ front) fixed =
    let p = or_parts (is_wild b) (list_any is_wild front) fixed in
    or_from (is_wild (upper b)) (list_any is_wild (map upper front)) (at (nat_le 97 b && nat_le b 122) refl p.0) (upper_fixed front p.1)
  where
    low : (b : ℕ) → nat_le 97 b ≡ true → is_wild (b - 32) ≡ false
    low b is = or_from ((b - 32) == 42) ((b - 32) == 37) (false_from_ne_true ((b - 32) == 42) (λ e. absurd (grind arith))) (false_from_ne_true ((b - 32) == 37) (λ e. absurd (grind arith)))

    at : (t : Bool) → (nat_le 97 b && nat_le b 122) ≡ t → is_wild b ≡ false → is_wild (cond (nat_le 97 b && nat_le b 122) (b - 32) b) ≡ false
    at true e plain = ap (λ t. is_wild (cond t (b - 32) b)) e ∙ low b (and_parts (nat_le 97 b) (nat_le b 122) e).0
    at false e plain = ap (λ t. is_wild (cond t (b - 32) b)) e ∙ plain

-- what the front of a pattern is
pub record Fronts (pattern front : List ℕ) : Type 0 where
  pub rest : List ℕ
  pub whole : pattern ≡ front ++ 47 ∷ rest
  pub fixed : list_any is_wild front ≡ false

pub fronts : (pattern front : List ℕ) → fixed_front pattern ≡ Some front → Fronts pattern front
fronts [] front e = absurd (cc)
fronts (b ∷ pattern) front e = at (is_wild b) refl e (fronts pattern)
  where
    one : (x y : List ℕ) → Some x ≡ Some y → x ≡ y
    one x y h = cc

    with_one : (o : Option (List ℕ)) → fixed_front pattern ≡ o → is_wild b ≡ false → front_with b o ≡ Some front → ((f : List ℕ) → fixed_front pattern ≡ Some f → Fronts pattern f) → Fronts (b ∷ pattern) front
    with_one None is plain h rest = slash (b == 47) refl h
      where
        slash : (t : Bool) → (b == 47) ≡ t → cond t (Some []) None ≡ Some front → Fronts (b ∷ pattern) front
        slash false e h = absurd (cc)
        slash true e h = let none : [] ≡ front = one [] front h in record { rest = pattern; whole = (λ i. byte_is b 47 e i ∷ pattern) ∙ ap (λ f. f ++ 47 ∷ pattern) none; fixed = ap (list_any is_wild) (sym none) }
    with_one (Some f) is plain h rest =
        let w = rest f is in
        let same : b ∷ f ≡ front = one (b ∷ f) front h in
        record { rest = w.rest; whole = ap (λ l. b ∷ l) w.whole ∙ ap (λ l. l ++ 47 ∷ w.rest) same; fixed = ap (list_any is_wild) (sym same) ∙ or_from (is_wild b) (list_any is_wild f) plain w.fixed }

    at : (t : Bool) → is_wild b ≡ t → cond t None (front_with b (fixed_front pattern)) ≡ Some front → ((f : List ℕ) → fixed_front pattern ≡ Some f → Fronts pattern f) → Fronts (b ∷ pattern) front
    at true e h rest = absurd (cc)
    at false e h rest = with_one (fixed_front pattern) refl e h rest

pub front_begins : (pattern front : List ℕ) → fixed_front pattern ≡ Some front → (name : List ℕ) → fits_name pattern name ≡ true → (tail : List ℕ) × (name ≡ child front tail)
front_begins pattern front is name h = ⊎_elim
    (λ fit. fixed_begins front w.rest name w.fixed (ap (λ p. fits p name) (sym w.whole) ∙ fit))
    (λ same. absurd (no_capitals (and_parts (bytes_eq name inbox) (fits (map upper pattern) inbox) same).1))
    (or_case (fits pattern name) (bytes_eq name inbox && fits (map upper pattern) inbox) h)
  where
    w : Fronts pattern front
    w = fronts pattern front is

    no_capitals : fits (map upper pattern) inbox ≡ true → ⊥
    no_capitals fit =
        let m = fixed_begins (map upper front) (map upper w.rest) inbox (upper_fixed front w.fixed) (ap (λ p. fits p inbox) (sym (ap (map upper) w.whole ∙ map-append upper front (47 ∷ w.rest))) ∙ fit) in
        slash_in (map upper front) m.0 inbox m.1 inbox_plain

-- ---- The front, place by place

-- what was found so far, or more of what is left
abbrev pub joined : (before : List ℕ) (found : Option (List ℕ)) → Option (List ℕ) → Option (List ℕ)
joined before found None = found
joined before found (Some front) = Some (before ++ front)
