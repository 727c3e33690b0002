use Rattle.std.proofs.Common.{arith}
use Rattle.addr_list.proofs.Widths.{comment-escaped, comment-backslash, comment-opened, comment-closed, comment-byte}
use Rattle.addr_list.proofs.span.comment_length.Goals as goal
use Rattle.addr_list.proofs.span.comment_length.Goals.{then-escaped, else-escaped+then-byte-eq92, else-escaped+else-byte-eq92+then-byte-eq40, else-escaped+else-byte-eq92+else-byte-eq40+then-byte-eq41+else-depth-eq0, else-escaped+else-byte-eq92+else-byte-eq40+else-byte-eq41}

pub loop-at-preserved : goal.loop-at-preserved
loop-at-preserved c =
    let text = c.args.text.now in
    let at = c.loop-at.at in
    let depth = c.loop-at.depth in
    let inside = c.loop-at-test.true in
    elim c.if-escaped.branch [
      | then-escaped w ↦ let step = comment-escaped text at depth inside in record { width = cc; small = omega arith }
      | else-escaped+then-byte-eq92 w ↦ let step = comment-backslash text at depth inside w.if-byte-eq92.true in record { width = cc; small = omega arith }
      | else-escaped+else-byte-eq92+then-byte-eq40 w ↦ let step = comment-opened text at depth inside w.if-byte-eq40.true in record { width = cc; small = omega arith }
      | else-escaped+else-byte-eq92+else-byte-eq40+then-byte-eq41+else-depth-eq0 w ↦
          let step = comment-closed text at depth inside w.if-byte-eq41.true w.if-depth-eq0.false in record { width = cc; small = omega arith }
      | else-escaped+else-byte-eq92+else-byte-eq40+else-byte-eq41 w ↦
          let step = comment-byte text at depth inside w.if-byte-eq92.false w.if-byte-eq40.false w.if-byte-eq41.false in record { width = cc; small = omega arith }
    ]
