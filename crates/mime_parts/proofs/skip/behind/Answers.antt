use Rattle.std.proofs.Common.{arith}
use Rattle.mime_parts.proofs.Skips.{byte-none}
use Rattle.mime_parts.proofs.skip.behind.Goals as goal
use Rattle.mime_parts.proofs.skip.behind.Goals.{else-from-text-via-then-from-text+else-text-from, else-from-text-via-else-from-text}

pub returns-else-from-text : goal.returns-else-from-text
returns-else-from-text c =
    byte-none c.args.byte c.requires c.args.text.now c.skip_length-from.result c.skip_length-from.ensures.skipped c.skip_length-from.ensures.ends
    (elim c.else-from-text.branch [
      | else-from-text-via-then-from-text+else-text-from w ↦ λ inside is. w.if-text-from.false is
      | else-from-text-via-else-from-text w ↦ λ inside is. let out = w.if-from-text.false in absurd (omega arith)
    ])
