-- Stamps as drivers keep dates. Three numbers make a stamp where they are in its bounds.
use Rattle.std.specs.Prelude.{◌≡◌, ◌≤ℤ◌, ◌<◌, ◌&&◌, ℤ, ℕ, pos, negsuc, neg_ℤ, Bool, true, false, not, int_lt, nat_lt, T, Option, Some, None, if◌then◌else◌}
use Rattle.std.specs.Int.Signed.{le_z_yes, lt_z_no}
use Rattle.std.proofs.Common.{refl, sym, subst, lit<, arith}
use Rattle.std.proofs.lemmas.Bool.{and_parts}
use Rattle.std.proofs.lemmas.Bool.Decides.{nat_tests}
use Rattle.std.proofs.Math.Nat.{mod-lt}
use Rattle.mail_fields.specs.declared.stamp.Stamp.{Stamp}
use Rattle.mail_fields.specs.Stamps.{StampParts, parts_of, stamp_at, first_stamp, last_stamp, clamped, utc, seconds_into}

-- a day of the years 0000 to 9999, a second of a day, and a zone of less than a day
pub record IsStamp (parts : StampParts) : Type 0 where
  pub day_in : (neg_ℤ (pos 719528) ≤ℤ parts.day) × (parts.day ≤ℤ pos 2932896)
  pub second_in : parts.second < 86400
  pub zone_in : (neg_ℤ (pos 1439) ≤ℤ parts.zone_minutes) × (parts.zone_minutes ≤ℤ pos 1439)

-- the stamp of three numbers in its bounds
abbrev pub stamp_of : (parts : StampParts) → IsStamp parts → Stamp
stamp_of parts is = record {
  day = parts.day;
  second = parts.second;
  zone_minutes = parts.zone_minutes;
  day_in = is.day_in;
  second_in = is.second_in;
  zone_in = is.zone_in;
}

clamped_is : (day : ℤ) (second : ℕ) → second < 86400 → IsStamp (clamped (record { day = day; second = second; zone_minutes = pos 0 }))
unfolding clamped
clamped_is day second small = step (int_lt day (negsuc 719527)) (int_lt (pos 2932896) day) refl refl
  where
    step : (early late : Bool) → int_lt day (negsuc 719527) ≡ early → int_lt (pos 2932896) day ≡ late
        → IsStamp (if early then first_stamp else (if late then last_stamp else record { day = day; second = second; zone_minutes = pos 0 }))
    step true late is at = record { day_in = (le_z_yes tt, le_z_yes tt); second_in = lit< tt; zone_in = (le_z_yes tt, le_z_yes tt) }
    step false true is at = record { day_in = (le_z_yes tt, le_z_yes tt); second_in = lit< tt; zone_in = (le_z_yes tt, le_z_yes tt) }
    step false false is at = record {
      day_in = (lt_z_no (subst (λ b. T (not b)) (sym is) tt), lt_z_no (subst (λ b. T (not b)) (sym at) tt));
      second_in = small;
      zone_in = (le_z_yes tt, le_z_yes tt);
    }

-- what is in UTC is a stamp again
pub utc_is : (parts : StampParts) → IsStamp (utc parts)
unfolding utc
utc_is parts = clamped_is _ _ (mod-lt (seconds_into parts.second parts.zone_minutes) (lit< tt))

-- the same instant in UTC
abbrev pub utc_stamp : Stamp → Stamp
utc_stamp stamp = stamp_of (utc (parts_of stamp)) (utc_is (parts_of stamp))

-- 1-Jan-1970 00:00:00 +0000
abbrev pub epoch : Stamp
epoch = stamp_of (stamp_at 0) (record { day_in = (le_z_yes tt, le_z_yes tt); second_in = lit< tt; zone_in = (le_z_yes tt, le_z_yes tt) })

-- the stamp of a moment, so many seconds since 1970, in UTC
abbrev pub moment_stamp : ℕ → Stamp
moment_stamp moment = stamp_of (utc (stamp_at moment)) (utc_is (stamp_at moment))

-- ---- Numbers that are read

abbrev pub is_within : (low high number : ℤ) → Bool
is_within low high number = not (int_lt number low) && not (int_lt high number)

-- whether three numbers are in the bounds of a stamp
abbrev pub is_stamp : StampParts → Bool
is_stamp parts =
    is_within (neg_ℤ (pos 719528)) (pos 2932896) parts.day && (nat_lt parts.second 86400 && is_within (neg_ℤ (pos 1439)) (pos 1439) parts.zone_minutes)

is_within_is : (low high number : ℤ) → is_within low high number ≡ true → (low ≤ℤ number) × (number ≤ℤ high)
is_within_is low high number is =
    let parts = and_parts (not (int_lt number low)) (not (int_lt high number)) is in
    (grind (arith, parts.0), grind (arith, parts.1))

pub is_stamp_is : (parts : StampParts) → is_stamp parts ≡ true → IsStamp parts
is_stamp_is parts is =
    let day = and_parts (is_within (neg_ℤ (pos 719528)) (pos 2932896) parts.day) (nat_lt parts.second 86400 && is_within (neg_ℤ (pos 1439)) (pos 1439) parts.zone_minutes) is in
    let rest = and_parts (nat_lt parts.second 86400) (is_within (neg_ℤ (pos 1439)) (pos 1439) parts.zone_minutes) day.1 in
    record {
      day_in = is_within_is (neg_ℤ (pos 719528)) (pos 2932896) parts.day day.0;
      second_in = grind (arith, nat_tests, rest.0);
      zone_in = is_within_is (neg_ℤ (pos 1439)) (pos 1439) parts.zone_minutes rest.1;
    }

abbrev pub stamp_if : (parts : StampParts) (test : Bool) → is_stamp parts ≡ test → Option Stamp
stamp_if parts true is = Some (stamp_of parts (is_stamp_is parts is))
stamp_if parts false is = None

-- the stamp of three numbers, if they are in its bounds
abbrev pub read_stamp : StampParts → Option Stamp
read_stamp parts = stamp_if parts (is_stamp parts) refl
