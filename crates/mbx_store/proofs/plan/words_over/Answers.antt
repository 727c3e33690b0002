use Rattle.std.proofs.Common.{rules}
use Rattle.store_index.proofs.Words.{shift_is}
use Rattle.mbx_store.proofs.Planning.{words_fit}
use Rattle.mbx_store.proofs.plan.words_over.Goals as goal

pub overflow_add-result : goal.overflow_add-result
overflow_add-result c = let fits = words_fit c.args.names c.args.words c.args.old c.requires c.ranges.old.fits in rw (shift_is c.args.names c.requires) (search rules)
