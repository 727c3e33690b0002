-- The delimiter line of the message that holds a base.
use Rattle.std.proofs.Common.{◌≡◌, List, ℕ, ◌∷◌, ◌++◌, Some, pos, refl, ap, ◌∙◌}
use Rattle.jiff_core.specs.Calendar.{days_from_civil, day_count, days_of_years, days_of_months}
use Rattle.text_lines.specs.Lines.{lines_of, line_len, lines_from}
use Rattle.text_lines.proofs.Texts.{closed-first}
use Rattle.mail_fields.specs.CivilDays.{month_of, day_of, civil_day_of}
use Rattle.mail_fields.specs.Clock.{clock_of, sixtieth_of, seconds_of, offset_of}
use Rattle.mail_fields.specs.DelimiterLine.{date_behind_space, delimiter_stamp}
use Rattle.mail_fields.specs.FromDate.{from_date_of, stamp_in_frame, stamp_of_fields, end_of}
use Rattle.mail_fields.specs.Numbers.{number_in}
use Rattle.status_heads.specs.PseudoTexts.{pseudo_line}

-- it has the first second of 1970
pub line-stamp : delimiter_stamp pseudo_line ≡ Some (record { day = pos 0; second = 0; zone_minutes = pos 0 })
unfolding delimiter_stamp date_behind_space from_date_of stamp_in_frame stamp_of_fields month_of day_of clock_of sixtieth_of seconds_of offset_of end_of civil_day_of number_in days_from_civil day_count days_of_years days_of_months line_len lines_from
line-stamp = refl

-- it is the first line of a text that it begins
pub line-first : (text message : List ℕ) → text ≡ pseudo_line ++ message → lines_of text ≡ pseudo_line ∷ lines_of message
line-first text message is = ap lines_of is ∙ closed-first pseudo_line message refl
