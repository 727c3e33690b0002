-- Keyword numbers that are cleared, and what an append needs.
use Rattle.std.proofs.Common.{◌≡◌, ℕ, zero, suc, ◌+◌, ◌*◌, ◌-◌, ◌/◌, ◌%◌, ◌^◌, ◌<◌, ◌≤◌, ◌&&◌, Bool, true, false, nat_lt, None, List, [], ◌∷◌, length, length-append, refl, sym, ◌∙◌, ap, arith}
use Rattle.std.proofs.lemmas.Bool.Decides.{nat_tests}
use Rattle.std.proofs.Math.Nat.{mod-add-div, pow-le-pow_right}
use Rattle.std.proofs.lemmas.Nat.{mod-pow-add}
use Rattle.mail_types.specs.declared.driver.Keeps.{Keeps}
use Rattle.mail_types.specs.declared.driver.Limit.TheVariants.{File, Text}
use Rattle.mail_types.specs.declared.message.NewMessage.{NewMessage}
use Rattle.mail_types.specs.Limits.{record_limit, file_limit, has_large_text, given_length}
use Rattle.mail_types.specs.Lists.{added_records}
use Rattle.mail_types.specs.Opening.{greatest_given}
use Rattle.store_trait.specs.declared.change.Change.TheVariants.{Append}
use Rattle.store_trait.specs.declared.faults.StoreFault.TheVariants.{NoUid, TooMany, TooLarge}
use Rattle.store_trait.specs.Changes.{IsNextWords, first_due}
use Rattle.store_index.specs.States.{ToldState}
use Rattle.store_index.specs.Steps.{told_due}

pub cleared_small : (old new words : ℕ) → old ≤ new → words % 2 ^ old + 2 ^ new * (words / 2 ^ new) ≤ words
cleared_small old new words order =
    let split : new - old + old ≡ new = omega (arith, order) in
    let parts : words % 2 ^ new ≡ (words / 2 ^ old % 2 ^ (new - old)) * 2 ^ old + words % 2 ^ old = ap (λ n. words % 2 ^ n) (sym split) ∙ mod-pow-add words (new - old) old in
    omega (arith, parts, mod-add-div words (2 ^ new))

pub shift_is : (n : ℕ) → n ≤ 30 → 1 * 2 ^ n % 4294967296 ≡ 2 ^ n
shift_is n small = let below : 2 ^ n ≤ 2 ^ 30 = pow-le-pow_right (omega arith) small in omega (arith, below)

pub longer : (keeps : Keeps) (old words : List (List ℕ)) → IsNextWords keeps old words → length old ≤ length words
longer keeps old words is = omega (arith, ap length is.begins, length-append old is.more)

not_due : (keeps : Keeps) (a b c d : Bool) → first_due ((a, NoUid) ∷ (b, TooMany) ∷ (c, TooLarge Text) ∷ (d, TooLarge File) ∷ []) ≡ None → (a ≡ false) × (c ≡ false)
not_due keeps true b c d none = absurd (cc)
not_due keeps false true c d none = absurd (cc)
not_due keeps false false true d none = absurd (cc)
not_due keeps false false false d none = (refl, refl)

last_fits : (last count : ℕ) → last < 2 ^ 32 → (nat_lt 0 count && nat_lt greatest_given (last + count)) ≡ false → last + count < 2 ^ 32
last_fits last zero small none = omega (arith, small)
last_fits last (suc count) small none = grind (arith, nat_tests)

module _ (keeps : Keeps) (s : ToldState) (new : List NewMessage) (words : List (List ℕ)) (none : told_due keeps s (Append new words) ≡ None) where
  tests : ((nat_lt 0 (length new) && nat_lt greatest_given (s.last + length new)) ≡ false) × (has_large_text (added_records keeps (length words) 0 (s.last + 1) new) ≡ false)
  tests =
      not_due keeps (nat_lt 0 (length new) && nat_lt greatest_given (s.last + length new)) (nat_lt record_limit (length s.infos + length new)) (has_large_text (added_records keeps (length words) 0 (s.last + 1) new))
      (nat_lt file_limit (given_length new)) none

  pub told_room : s.last < 2 ^ 32 → s.last + length new < 2 ^ 32
  told_room small = last_fits s.last (length new) small tests.0

  pub told_short : has_large_text (added_records keeps (length words) 0 (s.last + 1) new) ≡ false
  told_short = tests.1
