-- Dates of a command (RFC 3501, section 9, date and date-time).
use Rattle.std.specs.Prelude.{ℕ, ℤ, List, if◌then◌else◌, Option, Some, None, Ok, Err, drop}
use Rattle.mail_fields.specs.SearchDate.{search_date_of}
use Rattle.mail_fields.specs.ImapDate.{imap_date_of}
use Rattle.mail_fields.specs.Stamps.{StampParts}
use Rattle.imap_arguments.specs.Readings.{Read, ◌>>=◌}
use Rattle.imap_arguments.specs.Tokens.{begins, byte_at, token_at}
use Rattle.imap_arguments.specs.Strings.{quoted_at}
use Rattle.imap_arguments.specs.declared.reason.Reason.TheVariants.{NotUnderstood}

-- a text that has to mean something
abbrev pub meant : {A : Type 0} → Option A → Read A
meant None = Err NotUnderstood
meant (Some value) = Ok value

abbrev pub day_of : List ℕ → Read ℤ
day_of text = meant (search_date_of text)

abbrev pub stamp_in : List ℕ → Read StampParts
stamp_in text = meant (imap_date_of text)

-- the day number of a date that SEARCH compares with: in quotes, or an atom
unfoldable pub date_at : List ℕ → Read (ℤ × List ℕ)
date_at bytes =
    if begins 34 bytes
    then (do
      text ← quoted_at (drop 1 bytes)
      day ← day_of text.0
      Ok (day, text.1))
    else (do
      text ← token_at bytes
      day ← day_of text.0
      Ok (day, text.1))

-- a date with a time, in quotes
unfoldable pub date_time_at : List ℕ → Read (StampParts × List ℕ)
date_time_at bytes = do
  behind ← byte_at 34 bytes
  text ← quoted_at behind
  stamp ← stamp_in text.0
  Ok (stamp, text.1)
