use Rattle.std.proofs.Common.{◌+◌, take, map}
use Rattle.mime_parts.specs.Marks.{section_in}
use Rattle.mime_parts.specs.Parts.{Each, IsPart}
use Rattle.mime_parts.proofs.tree.+tree.Given as goal

abbrev pub decreases-part : goal.decreases-part
decreases-part l = l.levels + l.levels

abbrev pub decreases-parts : goal.decreases-parts
decreases-parts l = l.levels + l.levels + 1

abbrev pub invariant-parts-loop-section : goal.invariant-parts-loop-section
invariant-parts-loop-section l = Each (IsPart l.levels l.digest) (map (section_in l.text) (take l.section-index l.sections)) l.parts
