use Rattle.std.proofs.Common.{◌≡◌, drop, codes}
use Rattle.mime_parts.specs.Contents.{first_value}
use Rattle.mime_parts.proofs.division.boundary.Given as goal

abbrev pub invariant-loop-param : goal.invariant-loop-param
invariant-loop-param l = first_value (codes "boundary") (drop l.param-index l.content.params) ≡ first_value (codes "boundary") l.content.params
