use Rattle.std.proofs.Common.{◌≡◌, ◌++◌, [], drop, true}
use Rattle.std.specs.List.{list_all}
use Rattle.imap_session.specs.Fetch.{each_once}
use Rattle.imap_session.specs.Items.{is_built}
use Rattle.imap_session.proofs.commands.fetch.each_once.Given as goal

abbrev pub invariant-loop-item : goal.invariant-loop-item
invariant-loop-item l = record {
  are : l.once.items ++ each_once l.once.items (drop l.item-index l.asked) ≡ each_once [] l.asked;
  built : list_all is_built l.once.items ≡ true;
}
