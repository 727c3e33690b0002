use Rattle.std.proofs.Common.{◌∙◌, sym, refl}
use Rattle.mime_parts.proofs.Tails.{passed-more, passed-ends, passed-text, passed-all}
use Rattle.mime_parts.proofs.delimiter.next_section.Goals as goal

pub cut-requires-clause-ends : goal.cut-requires-clause-ends
cut-requires-clause-ends c =
    passed-ends c.args.boundary.now c.args.text.now c.args.tail.now c.loop-next.left c.loop-next.invariant c.in-Some.next c.in-Some.ensures _ refl

pub returns-then-is_delimiter-clause-place : goal.returns-then-is_delimiter-clause-place
returns-then-is_delimiter-clause-place c =
    let is = sym c.is_delimiter.ensures ∙ c.if-is_delimiter.true in
    let text = c.cut.ensures.part ∙ passed-text c.args.boundary.now c.args.text.now c.args.tail.now c.loop-next.left c.loop-next.invariant c.in-Some.next c.in-Some.ensures is in
    (λ i. (c.cut.ensures.from i, text i))

pub loop-next-preserved : goal.loop-next-preserved
loop-next-preserved c =
    passed-more c.args.boundary.now c.args.text.now c.args.tail.now c.loop-next.left c.loop-next.invariant c.in-Some.next c.in-Some.ensures (sym c.is_delimiter.ensures ∙ c.if-is_delimiter.false)

pub returns-clause-place : goal.returns-clause-place
returns-clause-place c =
    let text = passed-all c.args.boundary.now c.args.text.now c.args.tail.now c.loop-next.left c.loop-next.invariant c.in_default.ensures in
    (λ i. (c.args.tail.now.from, text i))
