use Rattle.std.proofs.Common.{◌<◌, ◌∙◌, length, sym, arith}
use Rattle.std.proofs.lemmas.Bool.{eqb-true}
use Rattle.std.proofs.lemmas.Bool.Decides.{nat_tests}
use Rattle.mix_files.proofs.MetaLines.{loop-kept, loop-skipped, loop-done}
use Rattle.mix_files.proofs.line.next_line.Goals as goal

pub returns-then-not-is_further : goal.returns-then-not-is_further
returns-then-not-is_further c =
    let some : 0 < length c.loop-rest.rest.now = grind (arith, nat_tests, c.loop-rest-test.ensures) in
    loop-kept c.args.text.now c.loop-rest.rest.now c.split_at.result.0.now c.split_at.result.1.now c.line_length.result c.loop-rest.invariant some c.line_length.ensures.value
    c.split_at.ensures.front c.split_at.ensures.back (sym c.is_further.ensures ∙ c.if-not-is_further.true)

pub loop-rest-preserved : goal.loop-rest-preserved
loop-rest-preserved c =
    let some : 0 < length c.loop-rest.rest.now = grind (arith, nat_tests, c.loop-rest-test.ensures) in
    loop-skipped c.args.text.now c.loop-rest.rest.now c.split_at.result.0.now c.split_at.result.1.now c.line_length.result c.loop-rest.invariant some c.line_length.ensures.value
    c.split_at.ensures.front c.split_at.ensures.back (sym c.is_further.ensures ∙ c.if-not-is_further.false)

pub returns : goal.returns
returns c = loop-done c.args.text.now c.loop-rest.rest.now c.loop-rest.invariant (eqb-true (length c.loop-rest.rest.now) 0 (sym c.loop-rest-test.ensures))
