use Rattle.std.proofs.Common.{◌≡◌, ◌+◌, cond, length}
use Rattle.mix_files.specs.Names.{names_of}
use Rattle.mix_files.proofs.NameTexts.{names_after, names_left}
use Rattle.mix_files.proofs.names.read_names.Given as goal

abbrev pub invariant-loop-is_more : goal.invariant-loop-is_more
invariant-loop-is_more l = names_after l.names.items (names_left l.is_more l.rest) ≡ names_of l.text

abbrev pub decreases-loop-is_more : goal.decreases-loop-is_more
decreases-loop-is_more l = cond l.is_more (length l.rest + 1) 0
