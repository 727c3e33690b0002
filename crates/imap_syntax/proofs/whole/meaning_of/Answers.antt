use Rattle.std.proofs.Common.{arith, sym, subst}
use Rattle.std.proofs.lemmas.Grind.{common_steps}
use Rattle.imap_syntax.specs.Commands.{meaning_of}
use Rattle.imap_syntax.specs.Laws.{OnCommand}
use Rattle.imap_syntax.proofs.CommandLaws.{CommandGood, meaning_good}
use Rattle.imap_syntax.proofs.whole.meaning_of.Goals as goal

pub returns-in-Ok-clause-value : goal.returns-in-Ok-clause-value
unfolding meaning_of
returns-in-Ok-clause-value c = grind (arith, common_steps)

pub returns-in-Ok-clause-shallow : goal.returns-in-Ok-clause-shallow
returns-in-Ok-clause-shallow c = (subst (λ m. OnCommand m CommandGood) (sym (returns-in-Ok-clause-value c)) (meaning_good c.args.text.now c.args.literals.now.items)).0

pub returns-in-Ok-clause-numbers : goal.returns-in-Ok-clause-numbers
returns-in-Ok-clause-numbers c = (subst (λ m. OnCommand m CommandGood) (sym (returns-in-Ok-clause-value c)) (meaning_good c.args.text.now c.args.literals.now.items)).1

pub returns-in-Ok-clause-texts : goal.returns-in-Ok-clause-texts
returns-in-Ok-clause-texts c = (subst (λ m. OnCommand m CommandGood) (sym (returns-in-Ok-clause-value c)) (meaning_good c.args.text.now c.args.literals.now.items)).2
