use Rattle.std.proofs.Common.{rules}
use Rattle.mail_types.proofs.Twice.{taken_stays, kept_taken}
use Rattle.mail_types.proofs.keeping.take.Goals as goal

pub returns-clause-twice : goal.returns-clause-twice
returns-clause-twice c = taken_stays c.args.keeps c.args.message.now _ (search rules)

pub returns-clause-kept : goal.returns-clause-kept
returns-clause-kept c = kept_taken c.args.keeps c.args.message.now _ (search rules)
