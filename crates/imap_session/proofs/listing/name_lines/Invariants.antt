use Rattle.std.proofs.Common.{◌≡◌, map, take}
use Rattle.mail_tree.specs.declared.finding.Listed.{Listed as ListedEntry}
use Rattle.imap_session.specs.Listed.{name_line}
use Rattle.imap_session.proofs.listing.name_lines.Given as goal

abbrev pub invariant-loop-entry : goal.invariant-loop-entry
invariant-loop-entry l = l.lines.items ≡ map (λ (entry : ListedEntry). name_line l.subscribed (record { name = entry.name; directory = entry.directory })) (take l.entry-index l.names)
