-- A needle in a text and in the windows of it.
use Rattle.std.proofs.Common.{◌≡◌, ℕ, zero, suc, ◌+◌, ◌-◌, take_all, ◌≤◌, true, false, ◌||◌, ◌&&◌, ◌==◌, List, [], ◌∷◌, Option, Some, None, is_some, length, slice_index, take, drop, length-drop, refl, sym, ap, subst, ◌∙◌, ⊎_elim, arith}
use Rattle.std.proofs.lemmas.Bool.{false≢true, and_from, and_parts, or_cases, or_parts, or_left, or_right, eq-eqb, eqb-true, false_from_ne_true}
use Rattle.std.proofs.lemmas.List.{length-map, take-map, drop-map}
use Rattle.memchr.specs.Find.{OccursAt, FindsNeedle}
use Rattle.memchr.proofs.lemmas.MatchLemmas.{OccursAt-part, OccursAt-from_part}
use Rattle.std.specs.Char.{to_ascii_lowercase}
use Rattle.text_search.specs.Needles.{lowered, begins_with, stands_in}

-- a text begins with its own first bytes
front-begins : (n : ℕ) (text : List ℕ) → begins_with (take n text) text ≡ true
front-begins zero text = refl
front-begins (suc n) [] = refl
front-begins (suc n) (byte ∷ rest) = and_from _ _ (eq-eqb byte byte refl) (front-begins n rest)

-- what a front of a text begins with, the text begins with
begins-front : (needle text : List ℕ) (k : ℕ) → begins_with needle (take k text) ≡ true → begins_with needle text ≡ true
begins-front [] text k is = refl
begins-front (byte ∷ needle) text zero is = absurd (false≢true is)
begins-front (byte ∷ needle) [] (suc k) is = absurd (false≢true is)
begins-front (byte ∷ needle) (first ∷ rest) (suc k) is =
    let parts = and_parts (byte == first) _ is in
    and_from _ _ parts.0 (begins-front needle rest k parts.1)

-- a front that has room for the needle tells whether the text begins with it
begins-within : (needle text : List ℕ) (width : ℕ) → length needle ≤ width → begins_with needle (take width text) ≡ begins_with needle text
begins-within [] text width fits = refl
begins-within (byte ∷ needle) text zero fits = absurd (omega (arith, fits))
begins-within (byte ∷ needle) [] (suc width) fits = refl
begins-within (byte ∷ needle) (first ∷ rest) (suc width) fits =
    ap (λ is. (byte == first) && is) (begins-within needle rest width (omega (arith, fits)))

nothing-begins : (needle : List ℕ) (text : List ℕ) → begins_with needle [] ≡ true → begins_with needle text ≡ true
nothing-begins [] text is = refl
nothing-begins (byte ∷ needle) text is = absurd (false≢true is)

stands-first : (needle text : List ℕ) → begins_with needle text ≡ true → stands_in needle text ≡ true
stands-first needle [] is = is
stands-first needle (byte ∷ rest) is = or_left _ _ is

-- what stands in a front of a text stands in the text
pub stands-front : (needle text : List ℕ) (k : ℕ) → stands_in needle (take k text) ≡ true → stands_in needle text ≡ true
stands-front needle text zero is = stands-first needle text (nothing-begins needle text is)
stands-front needle [] (suc k) is = is
stands-front needle (byte ∷ rest) (suc k) is = ⊎_elim
    (λ here. or_left _ _ (begins-front needle (byte ∷ rest) (suc k) here))
    (λ later. or_right _ _ (stands-front needle rest k later))
    (or_cases _ _ is)

-- what doesn't stand in a front of a text stands in the text exactly where it stands behind the places that the front has room for
pub stands-behind : (needle text : List ℕ) (step width : ℕ) → step + length needle ≤ width → stands_in needle (take width text) ≡ false → stands_in needle text ≡ stands_in needle (drop step text)
stands-behind needle text zero width fits misses = refl
stands-behind needle [] (suc step) width fits misses = refl
stands-behind needle (byte ∷ rest) (suc step) zero fits misses = absurd (omega (arith, fits))
stands-behind needle (byte ∷ rest) (suc step) (suc width) fits misses =
    let parts = or_parts _ _ misses in
    let here : begins_with needle (byte ∷ rest) ≡ false = sym (begins-within needle (byte ∷ rest) (suc width) (omega (arith, fits))) ∙ parts.0 in
    ap (λ first. first || stands_in needle rest) here ∙ stands-behind needle rest step width (omega (arith, fits)) parts.1

stands-at : (needle text : List ℕ) (k : ℕ) → begins_with needle (drop k text) ≡ true → stands_in needle text ≡ true
stands-at needle text zero is = stands-first needle text is
stands-at needle [] (suc k) is = is
stands-at needle (byte ∷ rest) (suc k) is = or_right _ _ (stands-at needle rest k is)

begins-part : (needle text : List ℕ) → begins_with needle text ≡ true → (length needle ≤ length text) × (take (length needle) text ≡ needle)
begins-part [] text is = (omega arith, refl)
begins-part (byte ∷ needle) [] is = absurd (false≢true is)
begins-part (byte ∷ needle) (first ∷ rest) is =
    let parts = and_parts (byte == first) _ is in
    let later = begins-part needle rest parts.1 in
    let same : byte ≡ first = eqb-true byte first parts.0 in
    (omega (arith, later.0), ap (λ b. b ∷ take (length needle) rest) (sym same) ∙ ap (λ l. byte ∷ l) later.1)

stands-where : (needle text : List ℕ) → stands_in needle text ≡ true → (k : ℕ) × (k ≤ length text) × (begins_with needle (drop k text) ≡ true)
stands-where needle [] is = (0, omega arith, is)
stands-where needle (byte ∷ rest) is = ⊎_elim
    (λ here. (0, omega arith, here))
    (λ later. let found = stands-where needle rest later in (suc found.0, omega (arith, found.1), found.2))
    (or_cases _ _ is)

occurs-stands : (needle text : List ℕ) (k : ℕ) → OccursAt text needle k → stands_in needle text ≡ true
occurs-stands needle text k occurs =
    stands-at needle text k (subst (λ part. begins_with part (drop k text) ≡ true) (OccursAt-part text needle k occurs) (front-begins (length needle) (drop k text)))

stands-occurs : (needle text : List ℕ) → stands_in needle text ≡ true → (k : ℕ) × OccursAt text needle k
stands-occurs needle text is =
    let found = stands-where needle text is in
    let part = begins-part needle (drop found.0 text) found.2 in
    let left = length-drop found.0 text in
    (found.0, OccursAt-from_part text needle found.0 (omega (arith, part.0, found.1)) part.1)

-- what a search finds tells whether the needle stands in the text
pub found-is : (needle text : List ℕ) (result : Option ℕ) → FindsNeedle text needle 0 result → is_some result ≡ stands_in needle text
found-is needle text None finds =
    sym (false_from_ne_true (stands_in needle text) (λ is.
    let found = stands-occurs needle text is in
    let fits = found.1.fits in
    finds found.0 (omega arith) (omega arith) found.1))
found-is needle text (Some k) finds = sym (occurs-stands needle text k finds.1)

-- what stands in a window of a text stands in the text
pub inside_front : (needle text : List ℕ) (width : ℕ) → stands_in (lowered needle) (lowered (take width text)) ≡ true → stands_in (lowered needle) (lowered text) ≡ true
inside_front needle text width is =
    stands-front (lowered needle) (lowered text) width (ap (stands_in (lowered needle)) (take-map to_ascii_lowercase width text) ∙ is)

-- where it doesn't stand in a window, it stands in the text exactly where it stands behind the places of the window
pub inside_behind : (needle text : List ℕ) (step width : ℕ) → step + length needle ≤ width → stands_in (lowered needle) (lowered (take width text)) ≡ false
    → stands_in (lowered needle) (lowered (drop step text)) ≡ stands_in (lowered needle) (lowered text)
inside_behind needle text step width fits misses =
    let same = length-map needle to_ascii_lowercase in
    ap (stands_in (lowered needle)) (sym (drop-map to_ascii_lowercase step text))
    ∙ sym (stands-behind (lowered needle) (lowered text) step width (omega arith) (ap (stands_in (lowered needle)) (take-map to_ascii_lowercase width text) ∙ misses))

-- the same of the bytes behind the places, as a slice has them
pub go_on : (needle rest : List ℕ) (step width : ℕ) → step + length needle ≤ width → stands_in (lowered needle) (lowered (take width rest)) ≡ false
    → stands_in (lowered needle) (lowered (take (length rest - step) (drop step rest))) ≡ stands_in (lowered needle) (lowered rest)
go_on needle rest step width fits misses =
    let left = length-drop step rest in
    ap (λ behind. stands_in (lowered needle) (lowered behind)) (take_all (length rest - step) (drop step rest) (omega (arith, left)))
    ∙ inside_behind needle rest step width fits misses

-- a part of the needle stands in it, as a slice has the part
pub part_stands : (needle : List ℕ) (from width : ℕ) → stands_in (take width (drop from needle)) needle ≡ true
part_stands needle from width = stands-at (take width (drop from needle)) needle from (front-begins width (drop from needle))

-- a text that lacks a part of the needle doesn't have the needle
pub lacks-part : (part needle text : List ℕ) → stands_in part needle ≡ true → stands_in part text ≡ false → stands_in needle text ≡ false
lacks-part part needle text is none =
    false_from_ne_true (stands_in needle text) (λ stands.
    let inner = stands-occurs part needle is in
    let outer = stands-occurs needle text stands in
    let inside = inner.1.fits in
    let within = outer.1.fits in
    false≢true (sym none ∙ occurs-stands part text (outer.0 + inner.0) (record {
      fits = omega (arith, inside, within);
      reads = λ j below. ap (slice_index text) (omega arith) ∙ outer.1.reads (inner.0 + j) (omega (arith, inside, below)) ∙ inner.1.reads j below;
    })))
