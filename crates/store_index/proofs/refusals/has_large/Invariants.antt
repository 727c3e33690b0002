use Rattle.std.proofs.Common.{◌≡◌, ◌+◌, ℕ, drop}
use Rattle.mail_types.specs.Limits.{has_large_text}
use Rattle.mail_types.specs.Lists.{added_records}
use Rattle.store_index.proofs.refusals.has_large.Given as goal

abbrev pub invariant-loop-message : goal.invariant-loop-message
invariant-loop-message l = (names number next : ℕ) → has_large_text (added_records l.keeps names number (next + l.message-index) (drop l.message-index l.new)) ≡ has_large_text (added_records l.keeps names number next l.new)
