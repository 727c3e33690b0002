-- Stamps: when a message came.
use Rattle.std.specs.Prelude.{◌≡◌, ℕ, ◌+◌, ◌-◌, ◌*◌, ◌/◌, ◌%◌, pos, negsuc, ◌+ℤ◌, ◌-ℤ◌, ℤ, Option, Some, None, MatchOption, if◌then◌else◌, int_lt}
use Rattle.mail_fields.specs.declared.stamp.Stamp.{Stamp}

-- the three numbers of a stamp: a civil day counted from 1-Jan-1970, a second of it, and a zone in minutes
pub record StampParts : Type 0 where
  pub day : ℤ
  pub second : ℕ
  pub zone_minutes : ℤ

abbrev pub parts_of : Stamp → StampParts
parts_of stamp = record { day = stamp.day; second = stamp.second; zone_minutes = stamp.zone_minutes }

-- a reader answers the stamp that a text means, and none exactly where it means none
abbrev pub ReadsAs : Option Stamp → Option StampParts → Type 0
ReadsAs result meant = MatchOption result (meant ≡ None) (λ stamp. meant ≡ Some (parts_of stamp))

-- the stamp of so many seconds since 1-Jan-1970, in UTC
abbrev pub stamp_at : ℕ → StampParts
stamp_at moment = record { day = pos (moment / 86400); second = moment % 86400; zone_minutes = pos 0 }

-- the seconds from the midnight before a stamp's local day to the stamp, in UTC
unfoldable pub seconds_into : ℕ → ℤ → ℕ
seconds_into second (pos zone) = 86400 + second - 60 * zone
seconds_into second (negsuc zone) = 86400 + second + 60 * (zone + 1)

-- the first and the last second of the years 0000 to 9999
abbrev pub first_stamp : StampParts
first_stamp = record { day = negsuc 719527; second = 0; zone_minutes = pos 0 }

abbrev pub last_stamp : StampParts
last_stamp = record { day = pos 2932896; second = 86399; zone_minutes = pos 0 }

-- an instant outside the years 0000 to 9999 becomes the first or the last of them
unfoldable pub clamped : StampParts → StampParts
clamped stamp =
    if int_lt stamp.day first_stamp.day then first_stamp
    else (if int_lt last_stamp.day stamp.day then last_stamp else stamp)

-- the same instant in zone 0
unfoldable pub utc : StampParts → StampParts
utc stamp =
    let t = seconds_into stamp.second stamp.zone_minutes in
    clamped (record { day = stamp.day -ℤ pos 1 +ℤ pos (t / 86400); second = t % 86400; zone_minutes = pos 0 })
