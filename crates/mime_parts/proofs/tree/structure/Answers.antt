use Rattle.std.proofs.Common.{false}
use Rattle.mime_parts.specs.Parts.{IsPart, IsStructure}
use Rattle.mime_parts.proofs.Choices.{ok-map}
use Rattle.mime_parts.proofs.Only.{structure-only}
use Rattle.mime_parts.proofs.tree.structure.Goals as goal

pub returns-clause-is : goal.returns-clause-is
unfolding IsStructure
returns-clause-is c = c.part.ensures

pub returns-clause-only : goal.returns-clause-only
unfolding IsStructure
returns-clause-only c = ok-map (IsPart 50 false 0 c.args.text.now) _ c.part.result (λ part is. structure-only c.args.text.now part is) c.part.ensures
