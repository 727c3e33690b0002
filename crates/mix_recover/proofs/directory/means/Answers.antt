use Rattle.mix_recover.proofs.Together.{passed_on}
use Rattle.mix_recover.proofs.Meant.{refuse_data}
use Rattle.mix_recover.proofs.directory.means.Goals as goal

pub returns-in_err-numbers-clause-refused : goal.returns-in_err-numbers-clause-refused
returns-in_err-numbers-clause-refused g c =
    passed_on c.from_residual.result c.in_err-numbers.field-0.0 _ c.from_residual.ensures.1 (refuse_data c.args.dir.now _ _ c.in_err-numbers.ensures.refused)
