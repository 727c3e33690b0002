use Rattle.std.proofs.Common.{◌≡◌, take}
use Rattle.std.specs.List.{AllByRecursion}
use Rattle.mail_fields.specs.Keyword.{IsKeyword}
use Rattle.unix_layout.proofs.writing.copied.Given as goal

abbrev pub invariant-loop-name : goal.invariant-loop-name
invariant-loop-name l = (l.copies.items ≡ take l.name-index l.names) × AllByRecursion IsKeyword (take l.name-index l.names)
