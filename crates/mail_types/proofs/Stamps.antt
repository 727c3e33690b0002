-- Stamps are equal by their numbers.
use Rattle.std.proofs.Common.{◌≡◌, ◌≤ℤ◌, ◌<◌, ℤ, ℕ, pos, neg_ℤ, Bool, true, false, int_lt, nat_lt, Some, sym, ◌∙◌, ap, subst, refl, arith}
use Rattle.std.proofs.lemmas.Bool.{false≢true}
use Rattle.std.proofs.lemmas.Bool.Decides.{nat_tests}
use Rattle.std.proofs.Props.{props}
use Rattle.mail_fields.specs.declared.stamp.Stamp.{Stamp}
use Rattle.mail_fields.specs.Stamps.{parts_of, StampParts}
use Rattle.mail_types.specs.Stamps.{IsStamp, stamp_of, is_within, is_stamp, is_stamp_is, stamp_if, read_stamp}

one_within : (low high n : ℤ) (p q : (low ≤ℤ n) × (n ≤ℤ high)) → p ≡ q
one_within low high n = Prim.hlevel props

one_below : (n bound : ℕ) (p q : n < bound) → p ≡ q
one_below n bound = Prim.hlevel props

of_parts : (one : Stamp) (is : IsStamp (parts_of one)) → one ≡ stamp_of (parts_of one) is
of_parts one is = λ k. record {
  day = one.day;
  second = one.second;
  zone_minutes = one.zone_minutes;
  day_in = one_within _ _ one.day one.day_in is.day_in k;
  second_in = one_below one.second _ one.second_in is.second_in k;
  zone_in = one_within _ _ one.zone_minutes one.zone_in is.zone_in k;
}

pub same_stamp : (one other : Stamp) → parts_of one ≡ parts_of other → one ≡ other
same_stamp one other same = subst (λ (parts : StampParts). (is : IsStamp parts) → one ≡ stamp_of parts is) same (of_parts one)
    (record { day_in = other.day_in; second_in = other.second_in; zone_in = other.zone_in })

within_back : (low high number : ℤ) → low ≤ℤ number → number ≤ℤ high → is_within low high number ≡ true
within_back low high number from to =
    let one : int_lt number low ≡ false = grind arith in
    let other : int_lt high number ≡ false = grind arith in
    rw (one, other) refl

-- the numbers of a stamp are read as that stamp
pub stamp_back : (s : Stamp) → read_stamp (parts_of s) ≡ Some s
stamp_back s = step (is_stamp (parts_of s)) refl
  where
    all : is_stamp (parts_of s) ≡ true
    all =
        let day = within_back (neg_ℤ (pos 719528)) (pos 2932896) s.day s.day_in.0 s.day_in.1 in
        let second : nat_lt s.second 86400 ≡ true = let e = s.second_in in grind (arith, nat_tests, e) in
        let zone = within_back (neg_ℤ (pos 1439)) (pos 1439) s.zone_minutes s.zone_in.0 s.zone_in.1 in
        rw (day, second, zone) refl

    step : (test : Bool) (is : is_stamp (parts_of s) ≡ test) → stamp_if (parts_of s) test is ≡ Some s
    step true is = ap (λ q. Some q) (same_stamp (stamp_of (parts_of s) (is_stamp_is (parts_of s) is)) s refl)
    step false is = absurd (false≢true (sym is ∙ all))
