use Rattle.std.proofs.Common.{arith, sym, subst, IfSome}
use Rattle.std.proofs.lemmas.Grind.{common_steps}
use Rattle.imap_syntax.specs.Keys.{keys_of}
use Rattle.imap_syntax.specs.Laws.{key_parts}
use Rattle.imap_syntax.proofs.Laws.{PartsGood}
use Rattle.imap_syntax.proofs.CommandLaws.{keys_good}
use Rattle.imap_syntax.proofs.search.read_keys.Goals as goal

pub returns-in-Ok-default-empty-clause-value : goal.returns-in-Ok-default-empty-clause-value
unfolding keys_of
returns-in-Ok-default-empty-clause-value c = grind (arith, common_steps)

pub returns-in-Ok-default-empty-clause-shallow : goal.returns-in-Ok-default-empty-clause-shallow
returns-in-Ok-default-empty-clause-shallow c = (subst (λ o. IfSome o (λ key. PartsGood 101 (key_parts key))) (sym (returns-in-Ok-default-empty-clause-value c)) (keys_good c.args.text.now)).0

pub returns-in-Ok-default-empty-clause-numbers : goal.returns-in-Ok-default-empty-clause-numbers
returns-in-Ok-default-empty-clause-numbers c = (subst (λ o. IfSome o (λ key. PartsGood 101 (key_parts key))) (sym (returns-in-Ok-default-empty-clause-value c)) (keys_good c.args.text.now)).1

pub returns-in-Ok-default-empty-clause-texts : goal.returns-in-Ok-default-empty-clause-texts
returns-in-Ok-default-empty-clause-texts c = (subst (λ o. IfSome o (λ key. PartsGood 101 (key_parts key))) (sym (returns-in-Ok-default-empty-clause-value c)) (keys_good c.args.text.now)).2
