use Rattle.std.proofs.Common.{◌∙◌}
use Rattle.any_store.specs.Stores.{view_of}
use Rattle.imapd_core.specs.Runs.{formats}
use Rattle.imapd_core.proofs.InboxMade.{in_root, inbox_below, inbox_parent, inbox_ran, inbox_made}
use Rattle.imapd_core.proofs.Served.{laws}
use Rattle.imapd_core.proofs.Opened.{opening_passed, opening_opened}
use Rattle.imapd_core.proofs.opening.open_in.Goals as goal

pub make_missing-requires-clause-inside : goal.make_missing-requires-clause-inside
make_missing-requires-clause-inside g c = inbox_parent c.args.root.now c.as_str.result.now (c.as_str.ensures.value ∙ c.in-Ok.ensures)

pub make_missing-requires-clause-room : goal.make_missing-requires-clause-room
make_missing-requires-clause-room g c = in_root c.args.root.now c.as_str.result.now _ (c.as_str.ensures.value ∙ c.in-Ok.ensures) c.requires.root

pub make_missing-requires-clause-below : goal.make_missing-requires-clause-below
make_missing-requires-clause-below g c = inbox_below c.args.root.now c.as_str.result.now (c.as_str.ensures.value ∙ c.in-Ok.ensures) c.requires.word

pub returns-in-Ok-make_missing-clause-instants : goal.returns-in-Ok-make_missing-clause-instants
returns-in-Ok-make_missing-clause-instants g c tree now =
    opening_passed formats laws c.args.root.now c.args.moment tree _ _ now
    (inbox_ran c.args.root.now c.as_str.result.now _ _ (c.as_str.ensures.value ∙ c.in-Ok.ensures) c.make_missing.ensures.instants)

pub returns-in-Ok-make_missing-clause-opened : goal.returns-in-Ok-make_missing-clause-opened
returns-in-Ok-make_missing-clause-opened g c tree now =
    opening_opened formats laws c.args.root.now c.args.moment tree view_of c.in-Ok-new_server.server.session c.in-Ok-new_server.ensures _ _ c.requires.root now
    (inbox_ran c.args.root.now c.as_str.result.now _ _ (c.as_str.ensures.value ∙ c.in-Ok.ensures) c.make_missing.ensures.instants)
    (inbox_made c.args.root.now c.as_str.result.now _ _ (c.as_str.ensures.value ∙ c.in-Ok.ensures) c.in-Ok-make_missing.ensures.made)

pub returns-clause-instants : goal.returns-clause-instants
returns-clause-instants g c tree now =
    opening_passed formats laws c.args.root.now c.args.moment tree _ _ now
    (inbox_ran c.args.root.now c.as_str.result.now _ _ (c.as_str.ensures.value ∙ c.in-Ok.ensures) c.make_missing.ensures.instants)
