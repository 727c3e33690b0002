use Rattle.addr_list.proofs.Widths.{quotes-escaped, quotes-byte}
use Rattle.addr_list.proofs.span.quotes_length.Goals as goal
use Rattle.addr_list.proofs.span.quotes_length.Goals.{then-escaped, else-escaped+else-byte-eq34}

pub loop-at-preserved : goal.loop-at-preserved
loop-at-preserved c =
    let text = c.args.text.now in
    let at = c.loop-at.at in
    let inside = c.loop-at-test.true in
    elim c.if-escaped.branch [
      | then-escaped w ↦ let step = quotes-escaped text at inside in cc
      | else-escaped+else-byte-eq34 w ↦ let step = quotes-byte text at inside w.if-byte-eq34.false in cc
    ]
