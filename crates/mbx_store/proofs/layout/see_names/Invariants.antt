use Rattle.std.proofs.Common.{take}
use Rattle.std.specs.List.{AllByRecursion}
use Rattle.mail_fields.specs.Keyword.{IsKeyword}
use Rattle.mbx_store.proofs.layout.see_names.Given as goal

abbrev pub invariant-loop-word : goal.invariant-loop-word
invariant-loop-word l = AllByRecursion IsKeyword (take l.word-index l.words)
