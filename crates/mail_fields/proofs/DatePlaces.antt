-- Where a from date can stand at the end of a text.
use Rattle.std.proofs.Common.{◌≡◌, ℕ, suc, ◌+◌, ◌-◌, ◌<◌, ◌≤◌, ◌⊎◌, inl, inr, ⊎_elim, Bool, true, false, cond, List, [], ◌∷◌, ◌==◌, ◌&&◌, nat_lt, length, drop, slice_index, Option, None, refl, ap, sym, ◌∙◌, arith}
use Rattle.std.specs.Option.{option_or}
use Rattle.std.proofs.lemmas.Bool.{cases_order, ne_eqb, lt-ltb, le-ltb, or_from}
use Rattle.mail_fields.specs.Stamps.{StampParts}
use Rattle.mail_fields.specs.FromDate.{from_date_of}
use Rattle.mail_fields.specs.DelimiterLine.{date_at_end, date_behind_space}
use Rattle.mail_fields.proofs.DateLengths.{date_lengths, is_date_length, date-lengths}

-- the first date at the end of a text, by lengths in their order
abbrev pub date_of_lengths : List ℕ → List ℕ → Option StampParts
date_of_lengths text [] = None
date_of_lengths text (width ∷ widths) = option_or (date_at_end text width) (date_of_lengths text widths)

-- the from date behind the space at a place
abbrev date_behind : List ℕ → ℕ → Option StampParts
date_behind text at = cond (slice_index text at == 32) (from_date_of (drop (suc at) text)) None

at-end : (text : List ℕ) (width at : ℕ) → at + width + 1 ≡ length text → date_at_end text width ≡ date_behind text at
unfolding date_at_end
at-end text width at is =
    let inside : nat_lt width (length text) ≡ true = lt-ltb width (length text) (omega arith) in
    let space : length text - width - 1 ≡ at = omega arith in
    let start : length text - width ≡ suc at = omega arith in
    ap (λ test. cond (test && (slice_index text (length text - width - 1) == 32)) (from_date_of (drop (length text - width) text)) None) inside
    ∙ ap (λ i. cond (slice_index text i == 32) (from_date_of (drop (length text - width) text)) None) space
    ∙ ap (λ i. cond (slice_index text at == 32) (from_date_of (drop i text)) None) start

past-end : (text : List ℕ) (width : ℕ) → length text ≤ width → date_at_end text width ≡ None
unfolding date_at_end
past-end text width long =
    ap (λ test. cond (test && (slice_index text (length text - width - 1) == 32)) (from_date_of (drop (length text - width) text)) None)
    (le-ltb width (length text) long)

-- a byte more at the front changes nothing, where the rest has not this length
at-end-more : (byte : ℕ) (rest : List ℕ) (width : ℕ) → (width < length rest) ⊎ (length rest < width) → date_at_end (byte ∷ rest) width ≡ date_at_end rest width
at-end-more byte rest width (inl inside) =
    let at = length rest - width - 1 in
    at-end (byte ∷ rest) width (suc at) (omega arith) ∙ sym (at-end rest width at (omega arith))
at-end-more byte rest width (inr outside) =
    past-end (byte ∷ rest) width (omega arith) ∙ sym (past-end rest width (omega arith))

-- lengths that fall, all below a number
IsFalling : ℕ → List ℕ → Type 0
IsFalling below [] = Unit {0}
IsFalling below (width ∷ widths) = (width < below) × IsFalling width widths

module _ (byte : ℕ) (rest : List ℕ) where
  shorter-lengths : (below : ℕ) (widths : List ℕ) → IsFalling below widths → below ≤ length rest → date_of_lengths (byte ∷ rest) widths ≡ date_of_lengths rest widths
  unfolding IsFalling
  shorter-lengths below [] falling high = refl
  shorter-lengths below (width ∷ widths) falling high =
      let same = at-end-more byte rest width (inl (omega arith)) in
      let more = shorter-lengths width widths falling.1 (omega arith) in
      ap (λ first. option_or first (date_of_lengths (byte ∷ rest) widths)) same ∙ ap (option_or (date_at_end rest width)) more

  none-so-long : (below : ℕ) (widths : List ℕ) → IsFalling below widths → below ≤ length rest → is_date_length (length rest) widths ≡ false
  unfolding IsFalling
  none-so-long below [] falling high = refl
  none-so-long below (width ∷ widths) falling high =
      or_from (width == length rest) _ (ne_eqb width (length rest) (λ is. omega arith)) (none-so-long width widths falling.1 (omega arith))

  -- a date behind the first byte comes before all others
  first-date : (below : ℕ) (widths : List ℕ) → IsFalling below widths → (is_date_length (length rest) widths ≡ false → date_behind (byte ∷ rest) 0 ≡ None)
      → date_of_lengths (byte ∷ rest) widths ≡ option_or (date_behind (byte ∷ rest) 0) (date_of_lengths rest widths)
  unfolding IsFalling
  first-date below [] falling none = ap (λ first. option_or first None) (sym (none refl))
  first-date below (width ∷ widths) falling none = ⊎_elim
      (λ same.
      ap (λ first. option_or first (date_of_lengths (byte ∷ rest) widths)) (at-end (byte ∷ rest) width 0 (omega arith))
      ∙ ap (option_or (date_behind (byte ∷ rest) 0)) (shorter-lengths width widths falling.1 (omega arith))
      ∙ ap (λ second. option_or (date_behind (byte ∷ rest) 0) (option_or second (date_of_lengths rest widths))) (sym (past-end rest width (omega arith))))
      (λ apart. ⊎_elim
      (λ short.
      shorter-lengths (suc width) (width ∷ widths) (omega arith, falling.1) short
      ∙ ap (λ first. option_or first (date_of_lengths rest (width ∷ widths))) (sym (none (none-so-long (suc width) (width ∷ widths) (omega arith, falling.1) short))))
      (λ long.
      ap (λ first. option_or first (date_of_lengths (byte ∷ rest) widths)) (past-end (byte ∷ rest) width (omega arith))
      ∙ first-date width widths falling.1 (λ other. none (or_from (width == length rest) _ (ne_eqb width (length rest) (λ is. omega arith)) other))
      ∙ ap (λ second. option_or (date_behind (byte ∷ rest) 0) (option_or second (date_of_lengths rest widths))) (sym (past-end rest width (omega arith))))
      apart)
      (cases_order width (length rest))

dates-fall : IsFalling 31 date_lengths
unfolding IsFalling
dates-fall = (omega arith, (omega arith, (omega arith, (omega arith, (omega arith, (omega arith, tt))))))

space-first : (test : Bool) (first second : Option StampParts) → cond test (option_or first second) second ≡ option_or (cond test first None) second
space-first true first second = refl
space-first false first second = refl

no-date-behind : (byte : ℕ) (rest : List ℕ) → from_date_of rest ≡ None → date_behind (byte ∷ rest) 0 ≡ None
no-date-behind byte rest none = elim (byte == 32) as (λ test. cond test (from_date_of rest) None ≡ None) [ true ↦ none | false ↦ refl ]

-- the first space with a from date behind it stands before the longest date at the end
pub date_behind_space-lengths : (text : List ℕ) → date_behind_space text ≡ date_of_lengths text date_lengths
unfolding date_behind_space
date_behind_space-lengths [] = sym (past-all date_lengths)
  where
    past-all : (widths : List ℕ) → date_of_lengths [] widths ≡ None
    past-all [] = refl
    past-all (width ∷ widths) = ap (λ first. option_or first (date_of_lengths [] widths)) (past-end [] width (omega arith)) ∙ past-all widths
date_behind_space-lengths (byte ∷ rest) =
    space-first (byte == 32) (from_date_of rest) (date_behind_space rest)
    ∙ ap (option_or (date_behind (byte ∷ rest) 0)) (date_behind_space-lengths rest)
    ∙ sym (first-date byte rest 31 date_lengths dates-fall (λ other. no-date-behind byte rest (date-lengths rest other)))
