-- The limits, as functions of the mailbox.
use Rattle.std.specs.Prelude.{ℕ, Bool, List, [], ◌∷◌, ◌+◌, ◌*◌, ◌&&◌, ◌||◌, nat_lt, false, length, max}
use Rattle.std.specs.List.{list_any}
use Rattle.mail_types.specs.declared.contents.Placing.{Placing}
use Rattle.mail_types.specs.declared.contents.Placing.TheVariants.{InPlace, Numbered}
use Rattle.mail_types.specs.declared.driver.Driver.{Driver}
use Rattle.mail_types.specs.declared.driver.Driver.TheVariants.{Mh, Mix}
use Rattle.mail_types.specs.declared.mailbox.Mailbox.{Mailbox}
use Rattle.mail_types.specs.declared.message.NewMessage.{NewMessage}
use Rattle.mail_types.specs.declared.message.Record.{Record}
use Rattle.mail_types.specs.Opening.{greatest, greatest_given}

-- 512 MiB, of one file and of the texts of one append
abbrev pub file_limit : ℕ
file_limit = 536870912

-- 16 MiB, of one text as the store keeps it
abbrev pub text_limit : ℕ
text_limit = 16777216

-- so many messages of one mailbox
abbrev pub record_limit : ℕ
record_limit = 1048576

-- the greatest file number of mh
abbrev pub number_limit : ℕ
number_limit = 999999999

-- so many new messages find no UID
abbrev pub lacks_uids : Mailbox → ℕ → Bool
lacks_uids m count = nat_lt 0 count && nat_lt greatest_given (m.last + count)

-- so many new messages find no file number
abbrev pub lacks_numbers : Placing → ℕ → Bool
lacks_numbers InPlace count = false
lacks_numbers (Numbered numbers directory) count = nat_lt 0 count && nat_lt number_limit (max (greatest numbers) directory + count)

abbrev pub has_many : List Record → Bool
has_many records = nat_lt record_limit (length records)

abbrev pub has_large_text : List Record → Bool
has_large_text records = list_any (λ r. nat_lt text_limit (length r.text)) records

-- the bytes of the new texts, as they are given
abbrev pub given_length : List NewMessage → ℕ
given_length [] = 0
given_length (new ∷ rest) = length new.text + given_length rest

-- What the limit of a file speaks of: the one file that a change leaves, by `written_length`, or for mix the new records, each behind a head of 45 bytes.
abbrev pub file_length : (written_length : Mailbox → ℕ) → Driver → (now : Mailbox) → List NewMessage → ℕ
file_length written_length Mh now new = 0
file_length written_length Mix now new = 45 * length new + given_length new
file_length written_length driver now new = written_length now

-- the new texts, or the file after an append, pass 512 MiB
abbrev pub is_too_long : (written_length : Mailbox → ℕ) → Driver → (now : Mailbox) → List NewMessage → Bool
is_too_long written_length driver now new = nat_lt file_limit (given_length new) || nat_lt file_limit (file_length written_length driver now new)
