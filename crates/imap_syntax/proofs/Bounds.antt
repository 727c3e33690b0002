-- A stamp is the one of its three numbers.
use Rattle.std.proofs.Common.{◌≡◌, ◌≤ℤ◌, ◌<◌, ℤ, ℕ, pos, neg_ℤ, Bool, true, false, Option, Some, None, MatchOption, int_lt, nat_lt, arith, refl, ap}
use Rattle.std.proofs.lemmas.Bool.Decides.{nat_tests}
use Rattle.std.proofs.lemmas.Int.{ints}
use Rattle.mail_fields.specs.declared.stamp.Stamp.{Stamp}
use Rattle.mail_fields.specs.Stamps.{parts_of, StampParts}
use Rattle.mail_types.specs.Stamps.{IsStamp}
use Rattle.mail_types.proofs.Stamps.{same_stamp}
use Rattle.imap_syntax.specs.Stamps.{bounded, bounded_if}

not_less : (a b : ℤ) → b ≤ℤ a → int_lt a b ≡ true → ⊥
not_less a b low is = omega (arith, ints)

not_least : (n : ℕ) → n < 86400 → nat_lt n 86400 ≡ false → ⊥
not_least n less is = grind (arith, nat_tests)

-- the stamp that is found has these numbers
abbrev IsBounded : StampParts → Option Stamp → Type 0
IsBounded parts found = MatchOption found ⊥ (λ stamp. parts_of stamp ≡ parts)

in_bounds : (parts : StampParts) (is : IsStamp parts) (early late small west east : Bool) (first : int_lt parts.day (neg_ℤ (pos 719528)) ≡ early) (last : int_lt (pos 2932896) parts.day ≡ late)
    (second : nat_lt parts.second 86400 ≡ small) (low : int_lt parts.zone_minutes (neg_ℤ (pos 1439)) ≡ west) (high : int_lt (pos 1439) parts.zone_minutes ≡ east)
    → IsBounded parts (bounded_if parts early late small west east first last second low high)
in_bounds parts is true late small west east first last second low high = absurd (not_less _ _ is.day_in.0 first)
in_bounds parts is false true small west east first last second low high = absurd (not_less _ _ is.day_in.1 last)
in_bounds parts is false false false west east first last second low high = absurd (not_least _ is.second_in second)
in_bounds parts is false false true true east first last second low high = absurd (not_less _ _ is.zone_in.0 low)
in_bounds parts is false false true false true first last second low high = absurd (not_less _ _ is.zone_in.1 high)
in_bounds parts is false false true false false first last second low high = refl

found_is : (stamp : Stamp) (found : Option Stamp) → IsBounded (parts_of stamp) found → found ≡ Some stamp
found_is stamp None is = absurd is
found_is stamp (Some other) is = ap Some (same_stamp other stamp is)

pub meant_stamp : (stamp : Stamp) → bounded (parts_of stamp) ≡ Some stamp
meant_stamp stamp =
    found_is stamp (bounded (parts_of stamp))
    (in_bounds (parts_of stamp) (record { day_in = stamp.day_in; second_in = stamp.second_in; zone_in = stamp.zone_in }) _ _ _ _ _ refl refl refl refl refl)
