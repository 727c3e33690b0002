use Rattle.std.proofs.Common.{sym, ◌∙◌}
use Rattle.imap_session.specs.Items.{is_built}
use Rattle.imap_session.proofs.ItemTexts.{all_at}
use Rattle.imap_session.proofs.ItemsOnce.{once_more, built_more}
use Rattle.imap_session.proofs.commands.fetch.each_once.Goals as goal

pub loop-item-preserved : goal.loop-item-preserved
loop-item-preserved c = record {
  are = sym (once_more c.loop-item.once.items _ c.args.asked.now c.item-item.result c.loop-item.item-index c.loop-item-test.true c.item-item.is c.in_ok-add_new.ensures) ∙ c.loop-item.invariant.are;
  built = built_more c.loop-item.once.items _ c.item-item.result c.loop-item.invariant.built (all_at is_built c.args.asked.now c.loop-item.item-index c.item-item.result c.requires c.loop-item-test.true c.item-item.is) c.in_ok-add_new.ensures;
}
