-- The date of APPEND (RFC 3501, section 9, date-time).
use Rattle.std.specs.Prelude.{◌≡◌, ℕ, ℤ, pos, neg_ℤ, Bool, true, false, List, Option, Some, None, Ok, Err, nat_lt, int_lt, not, T}
use Rattle.std.specs.Int.Signed.{lt_z_no}
use Rattle.std.proofs.Common.{refl, sym, subst}
use Rattle.std.proofs.lemmas.Bool.{ltb-true}
use Rattle.mail_fields.specs.Stamps.{StampParts}
use Rattle.mail_fields.specs.declared.stamp.Stamp.{Stamp}
use Rattle.mail_types.specs.Stamps.{stamp_of}
use Rattle.imap_arguments.specs.Readings.{Read, ◌>>=◌}
use Rattle.imap_arguments.specs.Dates.{date_time_at}
use Rattle.imap_arguments.specs.declared.reason.Reason.TheVariants.{NotUnderstood}

pub no_less : (a b : ℤ) → int_lt a b ≡ false → T (not (int_lt a b))
no_less a b is = subst (λ x. T (not x)) (sym is) tt

-- the stamp of three numbers, where they are in its bounds, which the numbers of a date always are
abbrev pub bounded_if : (parts : StampParts) (early late small west east : Bool) → int_lt parts.day (neg_ℤ (pos 719528)) ≡ early → int_lt (pos 2932896) parts.day ≡ late
    → nat_lt parts.second 86400 ≡ small → int_lt parts.zone_minutes (neg_ℤ (pos 1439)) ≡ west → int_lt (pos 1439) parts.zone_minutes ≡ east → Option Stamp
bounded_if parts false false true false false first last second low high = Some (stamp_of parts (record {
  day_in = (lt_z_no (no_less parts.day (neg_ℤ (pos 719528)) first), lt_z_no (no_less (pos 2932896) parts.day last));
  second_in = ltb-true parts.second 86400 second;
  zone_in = (lt_z_no (no_less parts.zone_minutes (neg_ℤ (pos 1439)) low), lt_z_no (no_less (pos 1439) parts.zone_minutes high));
}))
bounded_if parts _ _ _ _ _ first last second low high = None

abbrev pub bounded : StampParts → Option Stamp
bounded parts = bounded_if parts (int_lt parts.day (neg_ℤ (pos 719528))) (int_lt (pos 2932896) parts.day) (nat_lt parts.second 86400)
    (int_lt parts.zone_minutes (neg_ℤ (pos 1439))) (int_lt (pos 1439) parts.zone_minutes) refl refl refl refl refl

abbrev pub some_stamp : Option Stamp → List ℕ → Read (Stamp × List ℕ)
some_stamp None rest = Err NotUnderstood
some_stamp (Some stamp) rest = Ok (stamp, rest)

abbrev pub stamp_text_at : List ℕ → Read (Stamp × List ℕ)
stamp_text_at bytes = date_time_at bytes >>= λ date. some_stamp (bounded date.0) date.1
