use Rattle.std.proofs.Common.{◌≡◌, ◌∙◌, ◌+◌, arith, length, length-drop, drop}
use Rattle.mime_parts.proofs.Trees.{part-lines}
use Rattle.mime_parts.proofs.tree.part_at.Goals as goal

pub returns : goal.returns
returns c =
    let text = c.args.text.now in
    let from = c.args.from in
    let lines = c.count_of.ensures ∙ part-lines text from c.args.body.now c.requires.tail c.requires.place in
    let place = c.requires.place in
    let left = length-drop from text in
    let within = c.requires.within in
    let long : length text ≡ from + length (drop from text) = omega arith in
    (λ i. record {
      head = record { from = from; to = place i };
      body = record { from = place i; to = long i };
      lines = lines i;
      content = c.args.content;
      inner = c.args.inner;
    })
