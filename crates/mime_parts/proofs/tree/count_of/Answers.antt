use Rattle.std.proofs.Common.{arith, length-drop, drop}
use Rattle.mime_parts.proofs.Tails.{lines-at_most}
use Rattle.mime_parts.proofs.tree.count_of.Goals as goal

pub overflow_cast-result : goal.overflow_cast-result
overflow_cast-result c =
    let text = c.args.text.now in
    let from = c.args.tail.now.from in
    let count = c.requires.tail.lines in
    let most = lines-at_most (drop from text) in
    let left = length-drop from text in
    let size = c.requires.size in
    omega arith
