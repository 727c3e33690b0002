use Rattle.std.proofs.Common.{sym, ◌∙◌}
use Rattle.mail_tree.proofs.Found.{none_above, all_above}
use Rattle.mail_tree.proofs.finding.found_above.Goals as goal

pub returns-then-not-ends_in_percent : goal.returns-then-not-ends_in_percent
returns-then-not-ends_in_percent c = none_above c.args.pattern.now c.args.names.now c.new-found.result.entries c.new-found.ensures.empty (sym c.ends_in_percent.ensures ∙ c.if-not-ends_in_percent.true)

pub returns : goal.returns
returns c = all_above c.args.pattern.now c.args.names.now c.new-found.result.entries c.put_all_above.new.found.entries c.new-found.ensures.empty (sym c.ends_in_percent.ensures ∙ c.if-not-ends_in_percent.false) (λ m same. c.in_ok-put_all_above.ensures m same)
