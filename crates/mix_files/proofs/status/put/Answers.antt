use Rattle.std.proofs.Common.{arith}
use Rattle.mix_records.proofs.FieldTexts.{on_ok}
use Rattle.mix_files.proofs.StatusTexts.{status-again}
use Rattle.mix_files.proofs.status.put.Goals as goal

pub returns-clause-read : goal.returns-clause-read
returns-clause-read c = on_ok c.put_record_end.result (status-again c.args.status (omega arith) (omega arith) (omega arith) (omega arith))
