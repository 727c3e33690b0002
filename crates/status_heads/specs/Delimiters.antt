-- The delimiter line of a message as it is written.
use Rattle.std.specs.Prelude.{ℕ, ℤ, List, ◌++◌, codes}
use Rattle.mail_fields.specs.FromDate.{from_date_text}

-- the line before a message with that day and second in UTC; its sender is always the same
unfoldable pub delimiter_text : ℤ → ℕ → List ℕ
delimiter_text day second = codes "From MAILER-DAEMON " ++ (from_date_text day second ++ codes "\n")
