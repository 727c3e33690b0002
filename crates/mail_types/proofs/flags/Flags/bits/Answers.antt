use Rattle.std.proofs.Common.{rules}
use Rattle.mail_types.proofs.FlagBits.{bits_read_back}
use Rattle.mail_types.proofs.flags.Flags.bits.Goals as goal

pub returns-clause-read : goal.returns-clause-read
returns-clause-read c = bits_read_back c.args.self _ (search rules)
