use Rattle.std.proofs.Common.{◌≡◌, ◌++◌, map, drop}
use Rattle.imap_arguments.specs.declared.item.StatusItem.{StatusItem}
use Rattle.imap_session.specs.Asking.{told_count}
use Rattle.imap_session.proofs.commands.status.counts_of.Given as goal

-- the counts so far, and those of the rest
abbrev pub invariant-loop-item : goal.invariant-loop-item
invariant-loop-item g l = l.counts.items ++ map (λ (item : StatusItem). (item, told_count l.open.recent (g.S.Store.view l.open.store).summary item)) (drop l.item-index l.items)
    ≡ map (λ (item : StatusItem). (item, told_count l.open.recent (g.S.Store.view l.open.store).summary item)) l.items
