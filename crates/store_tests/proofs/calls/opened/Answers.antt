use Rattle.store_tests.proofs.Words.{below_top}
use Rattle.store_tests.proofs.calls.opened.Goals as goal

pub open-requires-clause-below : goal.open-requires-clause-below
open-requires-clause-below c c' = below_top
