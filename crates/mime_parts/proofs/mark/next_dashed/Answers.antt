use Rattle.std.proofs.Common.{arith, refl}
use Rattle.mime_parts.proofs.Tails.{mark-inside, mark-few, next-is, next-none}
use Rattle.mime_parts.proofs.mark.next_dashed.Goals as goal

pub returns-in_default : goal.returns-in_default
returns-in_default c = next-none c.args.text.now c.args.tail.now c.requires c.in_default.ensures

pub line_at-line-requires : goal.line_at-line-requires
line_at-line-requires c = mark-inside c.args.text.now c.args.tail.now c.requires c.in-Some.mark c.in-Some.marks.now c.in-Some.ensures

pub overflow_add-result-2 : goal.overflow_add-result-2
overflow_add-result-2 c =
    let few = mark-few c.args.text.now c.args.tail.now c.requires c.in-Some.mark c.in-Some.marks.now c.in-Some.ensures in
    let inside = mark-inside c.args.text.now c.args.tail.now c.requires c.in-Some.mark c.in-Some.marks.now c.in-Some.ensures in
    omega arith

pub returns : goal.returns
returns c = next-is c.args.text.now c.args.tail.now c.requires _ c.in-Some.ensures c.line_at-line.ensures refl refl refl
