use Rattle.std.proofs.Common.{◌∙◌, ◌+◌, ap, arith, refl, length, take, drop}
use Rattle.text_lines.specs.Lines.{lines_of}
use Rattle.mime_parts.proofs.Tails.{body-within, body-few, body-is}
use Rattle.mime_parts.proofs.mark.body_tail.Goals as goal

pub overflow_add-from : goal.overflow_add-from
overflow_add-from c = let width = c.header_width-width.ensures in let within = body-within c.args.text.now c.args.tail.now c.requires in omega arith

pub lines_within-requires : goal.lines_within-requires
lines_within-requires c = let width = c.header_width-width.ensures in let within = body-within c.args.text.now c.args.tail.now c.requires in omega arith

pub overflow_add-result : goal.overflow_add-result
overflow_add-result c =
    let tail = c.args.tail.now in
    let width = c.header_width-width.ensures in
    let count = c.lines_within.ensures ∙ ap (λ n. length (lines_of (take n (drop tail.from c.args.text.now)))) width in
    let few = body-few c.args.text.now tail c.requires in
    let first = c.requires.few in
    let within = body-within c.args.text.now tail c.requires in
    omega arith

pub returns-clause-tail : goal.returns-clause-tail
returns-clause-tail c =
    let text = c.args.text.now in
    let tail = c.args.tail.now in
    let width = c.header_width-width.ensures in
    let count = c.lines_within.ensures ∙ ap (λ n. length (lines_of (take n (drop tail.from text)))) width in
    body-is text tail c.requires _ _ (ap (λ n. tail.from + n) width) (ap (λ n. tail.before + n) count) refl refl c.marks_behind.ensures
