-- A delimiter line, computed.
use Rattle.std.proofs.Common.{◌≡◌, [], ◌∷◌, ◌++◌, Some, None, pos, negsuc, true, false, refl, codes}
use Rattle.jiff_core.specs.Calendar.{days_from_civil, day_count, days_of_years, days_of_months}
use Rattle.text_lines.specs.Lines.{line_len, lines_from}
use Rattle.mail_fields.specs.CivilDays.{month_of, day_of, civil_day_of}
use Rattle.mail_fields.specs.Clock.{sixtieth_of, seconds_of, clock_of, offset_of}
use Rattle.mail_fields.specs.FromDate.{zone_of, end_of, stamp_of_fields, stamp_in_frame, from_date_of}
use Rattle.mail_fields.specs.Numbers.{number_in}
use Rattle.mail_fields.specs.DelimiterLine.{date_behind_space, delimiter_stamp, is_delimiter_line}

date-example : from_date_of (codes "Mon Apr  1 12:00:00 2024") ≡ Some (record { day = pos 19814; second = 43200; zone_minutes = pos 0 })
unfolding from_date_of stamp_in_frame stamp_of_fields month_of day_of clock_of sixtieth_of seconds_of offset_of end_of civil_day_of number_in days_from_civil day_count days_of_years days_of_months
date-example = refl

-- no seconds, and a zone behind the year
zone-example : from_date_of (codes "mon aPR 01 12:34 2024 -0130") ≡ Some (record { day = pos 19814; second = 45240; zone_minutes = negsuc 89 })
unfolding from_date_of stamp_in_frame stamp_of_fields month_of day_of clock_of sixtieth_of seconds_of offset_of end_of civil_day_of number_in days_from_civil day_count days_of_years days_of_months
zone-example = refl

zones-example : (offset_of (codes "-0000") ≡ Some (pos 0)) × (zone_of (codes " EST") ≡ Some (pos 0)) × (zone_of (codes " +2400") ≡ None)
unfolding number_in offset_of
zones-example = (refl, refl, refl)

february-example : from_date_of (codes "Sat Feb 31 12:00:00 2024") ≡ None
unfolding from_date_of stamp_in_frame stamp_of_fields month_of day_of clock_of sixtieth_of seconds_of offset_of end_of civil_day_of number_in
february-example = refl

-- the space of `From ` may be the one before the date; one at the end makes the line none
line-example : (is_delimiter_line (codes "From Mon Apr  1 12:00:00 2024" ++ 13 ∷ 10 ∷ []) ≡ true) × (is_delimiter_line (codes "From Mon Apr  1 12:00:00 2024 " ++ 10 ∷ []) ≡ false)
unfolding delimiter_stamp date_behind_space from_date_of stamp_in_frame stamp_of_fields month_of day_of clock_of sixtieth_of seconds_of offset_of end_of civil_day_of number_in line_len lines_from
line-example = (refl, refl)
