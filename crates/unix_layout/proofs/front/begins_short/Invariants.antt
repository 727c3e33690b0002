use Rattle.std.proofs.Common.{◌≡◌, ◌<◌, ℕ, false, take}
use Rattle.mail_fields.specs.DelimiterLine.{is_delimiter_line}
use Rattle.unix_layout.proofs.front.begins_short.Given as goal

abbrev pub invariant-loop-long : goal.invariant-loop-long
invariant-loop-long l = (k : ℕ) → k < l.long → is_delimiter_line (take k l.line) ≡ false
