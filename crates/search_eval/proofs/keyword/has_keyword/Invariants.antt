use Rattle.std.proofs.Common.{◌≡◌, drop}
use Rattle.std.specs.List.{list_any}
use Rattle.mail_fields.specs.Keyword.{same_keyword}
use Rattle.looked_message.specs.Messages.{names_of}
use Rattle.search_eval.proofs.keyword.has_keyword.Given as goal

abbrev pub invariant-loop-word : goal.invariant-loop-word
invariant-loop-word l = list_any (same_keyword l.name) (names_of l.left (drop l.word-index l.words)) ≡ list_any (same_keyword l.name) (names_of l.bits l.words)
