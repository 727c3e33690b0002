use Rattle.std.proofs.Common.{◌≡◌, drop}
use Rattle.body_sections.specs.PartNumbers.{part_of, part_behind}
use Rattle.body_sections.proofs.numbers.part_of.Given as goal

abbrev pub invariant-loop-number : goal.invariant-loop-number
invariant-loop-number l = part_behind (drop l.number-index l.numbers) l.parts l.part ≡ part_of l.fn.numbers l.fn.message
