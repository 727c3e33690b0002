use Rattle.std.proofs.Common.{[], sym, subst}
use Rattle.any_store.specs.Choice.{formats_of, chosen}
use Rattle.file_model.specs.Histories.{Now}
use Rattle.imap_session.specs.Adding.{add_here, add_there, add}
use Rattle.imap_session.specs.Doing.{Does}
use Rattle.imap_session.specs.Standing.{StandsFor}
use Rattle.imap_session.specs.State.{State, or_leaves}
use Rattle.imap_session.proofs.AddedHere.{goes_here, goes_there}
use Rattle.imap_session.proofs.Doing.{does_as}
use Rattle.imap_session.proofs.adding.add.Goals as goal

pub add_here-requires-clause-stands : goal.add_here-requires-clause-stands
add_here-requires-clause-stands g c =
    subst (λ q. Now (g.H.Files.history c.args.host.now) (λ w. (state : State) × StandsFor (formats_of g.S.Store.forms chosen) g.S.Store.view (record c.args.session.now { selected = q }) w.disk state)) c.in-Some.ensures.named.0 c.requires.stands

pub add_there-requires-clause-stands : goal.add_there-requires-clause-stands
add_there-requires-clause-stands g c =
    subst (λ q. Now (g.H.Files.history c.args.host.now) (λ w. (state : State) × StandsFor (formats_of g.S.Store.forms chosen) g.S.Store.view (record c.args.session.now { selected = q }) w.disk state)) (sym c.in-None.ensures.left) c.requires.stands

pub returns-in-Some-clause-does : goal.returns-in-Some-clause-does
returns-in-Some-clause-does g c =
    let formats = formats_of g.S.Store.forms chosen in
    let view = g.S.Store.view in
    let session = c.args.session.now in
    does_as formats (StandsFor formats view session) (StandsFor formats view c.add_here.new.session) (λ state. or_leaves state (add_here formats c.args.tag c.args.word state c.args.brought.items c.args.names.now)) _ c.add_here.result c.add_here.new.out _ _
    (goes_here formats view session c.args.tag c.args.word c.args.name c.args.brought.items c.args.names.now c.in-Some.ensures.named.1)
    (subst (λ q. Does formats (StandsFor formats view (record session { selected = q })) (StandsFor formats view c.add_here.new.session) (λ state. or_leaves state (add_here formats c.args.tag c.args.word state c.args.brought.items c.args.names.now))
    c.add_here.result c.add_here.new.out (g.H.Files.history c.args.host.now) (g.H.Files.history c.add_here.new.host)) (sym c.in-Some.ensures.named.0) c.add_here.ensures.does)

pub returns-in-None-clause-does : goal.returns-in-None-clause-does
returns-in-None-clause-does g c =
    let formats = formats_of g.S.Store.forms chosen in
    let view = g.S.Store.view in
    let session = c.args.session.now in
    let left = record session { selected = c.take_named.new.selected } in
    subst (λ w. Does formats (StandsFor formats view session) (StandsFor formats view left) (λ state. or_leaves state (add formats c.args.tag c.args.word state c.args.name c.args.brought.items c.args.names.now)) c.add_there.result w
    (g.H.Files.history c.args.host.now) (g.H.Files.history c.add_there.new.files)) (sym c.requires.empty)
    (does_as formats (StandsFor formats view session) (StandsFor formats view left) (λ state. or_leaves state (add_there formats c.args.tag c.args.word state c.args.name c.args.brought.items c.args.names.now)) _ c.add_there.result [] _ _
    (goes_there formats view session c.args.tag c.args.word c.args.name c.args.brought.items c.args.names.now c.in-None.ensures.other)
    (subst (λ q. Does formats (StandsFor formats view (record session { selected = q })) (StandsFor formats view left) (λ state. or_leaves state (add_there formats c.args.tag c.args.word state c.args.name c.args.brought.items c.args.names.now))
    c.add_there.result [] (g.H.Files.history c.args.host.now) (g.H.Files.history c.add_there.new.files)) c.in-None.ensures.left c.add_there.ensures.does))
