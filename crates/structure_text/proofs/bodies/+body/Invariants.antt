use Rattle.std.proofs.Common.{take}
use Rattle.structure_text.specs.Appending.{Appends}
use Rattle.structure_text.specs.Bodies.{AreBodies}
use Rattle.structure_text.proofs.bodies.+body.Given as goal

abbrev pub invariant-put_parts-loop-part : goal.invariant-put_parts-loop-part
invariant-put_parts-loop-part l = Appends (AreBodies l.text l.extended (take l.part-index l.parts)) l.fn.out.items l.out.items
