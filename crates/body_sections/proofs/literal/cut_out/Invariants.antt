use Rattle.std.proofs.Common.{◌≡◌, ◌++◌, drop}
use Rattle.body_sections.specs.Sections.{cut_out}
use Rattle.body_sections.proofs.literal.cut_out.Given as goal

abbrev pub invariant-loop-span : goal.invariant-loop-span
invariant-loop-span l = l.bytes.items ++ cut_out l.text (drop l.span-index l.spans) ≡ cut_out l.text l.spans
