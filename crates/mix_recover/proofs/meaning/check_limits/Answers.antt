use Rattle.std.proofs.Common.{rules, tests, ◌∙◌, sym, arith, nat_lt}
use Rattle.std.proofs.lemmas.Iterator.{YieldsList-from_slice}
use Rattle.std.proofs.lemmas.Iterator.Search.{any_from_yields_List}
use Rattle.std.proofs.lemmas.Bool.Decides.{nat_tests}
use Rattle.mail_types.specs.Limits.{text_limit}
use Rattle.mix_index.specs.declared.entry.Entry.{Entry}
use Rattle.mix_recover.proofs.meaning.check_limits.Goals as goal

pub returns : goal.returns
returns c = (
  grind (arith, nat_tests, c.if-entries-gt1048576.false),
  sym (any_from_yields_List (λ (e : Entry). nat_lt text_limit e.size) _ _ c.any.result c.any.ensures.ran (YieldsList-from_slice c.args.entries.now cc) (λ x r q. search (rules, tests))) ∙ c.if-any.false,
)
