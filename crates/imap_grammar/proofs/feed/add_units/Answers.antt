use Rattle.std.proofs.Common.{sym, subst}
use Rattle.std.specs.List.{All}
use Rattle.std.specs.Vec.Iter.{into_iter_items}
use Rattle.imap_grammar.specs.Sound.{IsSound}
use Rattle.imap_grammar.proofs.Feeds.{further, all_sound_still}
use Rattle.imap_grammar.proofs.feed.add_units.Goals as goal

pub loop-raw-preserved : goal.loop-raw-preserved
loop-raw-preserved c =
    further c.in-Some.raw c.in_ok-unit_of.field-0 c.args.raw_units.items (into_iter_items c.loop-raw.raw-iterator) (into_iter_items c.next.new.self) c.args.units.now.items c.loop-raw.units.items
    c.push.new.self.items c.loop-raw.invariant c.in-Some.ensures.steps.0 c.in_ok-unit_of.ensures c.in_ok-push.ensures.items

pub returns-in_err-unit_of-clause-sound : goal.returns-in_err-unit_of-clause-sound
returns-in_err-unit_of-clause-sound c = all_sound_still _ _ _ _ c.loop-raw.invariant

pub returns-in_err-push-clause-sound : goal.returns-in_err-push-clause-sound
returns-in_err-push-clause-sound c are = subst (All IsSound) (sym c.in_err-push.ensures.items) (all_sound_still _ _ _ _ c.loop-raw.invariant are)

pub returns-clause-sound : goal.returns-clause-sound
returns-clause-sound c = all_sound_still _ _ _ _ c.loop-raw.invariant
