use Rattle.store_tests.proofs.Words.{below_top, free_name}
use Rattle.store_tests.proofs.calls.made.Goals as goal

pub create-requires-clause-below : goal.create-requires-clause-below
create-requires-clause-below c c' = below_top

pub create-requires-clause-name : goal.create-requires-clause-name
create-requires-clause-name c c' = λ _. free_name
