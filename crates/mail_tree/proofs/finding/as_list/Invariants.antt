use Rattle.std.proofs.Common.{◌≡◌, ◌++◌, map}
use Rattle.mail_tree.specs.declared.finding.Listed.{Listed as ListedEntry}
use Rattle.mail_tree.specs.Listing.{as_listed}
use Rattle.mail_tree.proofs.finding.as_list.Given as goal

abbrev pub invariant-loop-name : goal.invariant-loop-name
invariant-loop-name l = map (λ (entry : ListedEntry). record { name = entry.name; directory = entry.directory }) l.list.items ++ as_listed l.name-iterator ≡ as_listed l.fn.found.entries
