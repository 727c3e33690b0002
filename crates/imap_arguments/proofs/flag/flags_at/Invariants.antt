use Rattle.std.proofs.Common.{◌≡◌, ◌-◌, [], length}
use Rattle.imap_arguments.specs.Tokens.{separated}
use Rattle.imap_arguments.specs.Flags.{flag_at}
use Rattle.mail_types.specs.Flags.{no_flags}
use Rattle.imap_arguments.proofs.flag.flags_at.Given as goal

abbrev pub invariant-loop : goal.invariant-loop
invariant-loop l = separated 32 flag_at (length l.bytes - l.counter) (record { flags = l.flags; words = l.words.items }) l.rest ≡ separated 32 flag_at (length l.bytes) (record { flags = no_flags; words = [] }) l.bytes
