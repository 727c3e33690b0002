use Rattle.std.specs.Vec.Iter.{into_iter_items}
use Rattle.imap_grammar.proofs.Feeds.{Reached}
use Rattle.imap_grammar.proofs.feed.add_units.Given as goal

abbrev pub invariant-loop-raw : goal.invariant-loop-raw
invariant-loop-raw l = Reached l.fn.raw_units.items (into_iter_items l.raw-iterator) l.fn.units.items l.units.items
