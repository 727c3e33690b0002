use Rattle.std.proofs.Common.{◌≡◌, ◌++◌, drop}
use Rattle.unix_form.specs.Form.{names_by}
use Rattle.unix_layout.proofs.writing.names_by.Given as goal

abbrev pub invariant-loop-name : goal.invariant-loop-name
invariant-loop-name l = l.found.items ++ names_by l.left (drop l.name-index l.names) ≡ names_by l.words l.names
