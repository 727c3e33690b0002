-- The numbers of the reasons against a command.
use Rattle.std.specs.Prelude.{ℕ}
use Rattle.imap_arguments.specs.declared.reason.Reason.{Reason}
use Rattle.imap_arguments.specs.declared.reason.Reason.TheVariants.{NoTag, TooLong, NoCommand, UnknownCommand, Missing, NotUnderstood, TextBehind, Nul, OutOfRange}

abbrev pub reason_number : Reason → ℕ
reason_number NoTag = 1
reason_number TooLong = 2
reason_number NoCommand = 3
reason_number UnknownCommand = 4
reason_number Missing = 5
reason_number NotUnderstood = 6
reason_number TextBehind = 7
reason_number Nul = 8
reason_number OutOfRange = 9
