use Rattle.std.proofs.Common.{sym, subst, ap}
use Rattle.any_store.specs.Choice.{formats_of, chosen}
use Rattle.file_model.proofs.Runs.{now_weaker}
use Rattle.imap_grammar.specs.Sound.{IsSound}
use Rattle.imap_reply.specs.declared.reply.Reply.TheVariants as reply
use Rattle.imap_session.specs.Doing.{Does}
use Rattle.imap_session.specs.Standing.{StandsFor}
use Rattle.imap_session.specs.State.{State, counted}
use Rattle.imap_session.specs.Step.{commanded, outcome_of}
use Rattle.imap_session.proofs.Causes.{none_called}
use Rattle.imap_session.proofs.Counting.{counted_stands}
use Rattle.imap_session.proofs.Units.{command_unit, line_unit}
use Rattle.imap_session.proofs.unit.answer_unit.Goals as goal

pub command-requires-clause-stands : goal.command-requires-clause-stands
command-requires-clause-stands g c =
    let formats = formats_of g.S.Store.forms chosen in
    now_weaker (λ w. (state : State) × StandsFor formats g.S.Store.view c.args.session.now w.disk state) (λ w. (state : State) × StandsFor formats g.S.Store.view c.count.new.self w.disk state)
    (λ w is. (counted is.0, subst (λ s. StandsFor formats g.S.Store.view s w.disk (counted is.0)) (sym c.count.ensures) (counted_stands formats g.S.Store.view c.args.session.now w.disk is.0 is.1))) _ c.requires.stands

pub command-requires-clause-sound : goal.command-requires-clause-sound
command-requires-clause-sound g c = (subst IsSound c.in-Command.is c.requires.sound).1

pub returns-in-Command-clause-does : goal.returns-in-Command-clause-does
returns-in-Command-clause-does g c =
    let formats = formats_of g.S.Store.forms chosen in
    command_unit formats (record { choice = g.met.S.AnyMailbox.is_choice; reads = g.met.S.AnyMailbox.all_read }) g.S.Store.view c.args.session.now c.command.new.session c.args.unit.now
    (commanded formats c.in-Command.tag c.in-Command.asked) c.command.result c.finish-in-Command.result c.command.new.out c.finish-in-Command.new.out _ _ _
    (λ state. ap (outcome_of formats state) c.in-Command.is)
    (subst (λ s. Does formats (StandsFor formats g.S.Store.view s) (StandsFor formats g.S.Store.view c.command.new.session) (commanded formats c.in-Command.tag c.in-Command.asked) c.command.result c.command.new.out (g.H.Files.history c.args.host.now) (g.H.Files.history c.command.new.host)) c.count.ensures c.command.ensures.does)
    c.finish-in-Command.ensures.finishes

pub returns-in-Announce-clause-does : goal.returns-in-Announce-clause-does
returns-in-Announce-clause-does g c =
    let formats = formats_of g.S.Store.forms chosen in
    line_unit formats (record { choice = g.met.S.AnyMailbox.is_choice; reads = g.met.S.AnyMailbox.all_read }) g.S.Store.view c.args.session.now c.args.session.now c.args.unit.now
    reply.Announce (λ state. state) _ c.args.out.now _ _ _ (λ state. ap (outcome_of formats state) c.in-Announce.is) (λ state disk same. same) c.requires.empty (λ state disk here. here) c.finish.ensures.finishes

pub returns-in-Bad-clause-does : goal.returns-in-Bad-clause-does
returns-in-Bad-clause-does g c =
    let formats = formats_of g.S.Store.forms chosen in
    line_unit formats (record { choice = g.met.S.AnyMailbox.is_choice; reads = g.met.S.AnyMailbox.all_read }) g.S.Store.view c.args.session.now c.count-in-Bad.new.self c.args.unit.now
    (reply.Bad c.in-Bad.tag c.in-Bad.reason) counted _ c.args.out.now _ _ _ (λ state. ap (outcome_of formats state) c.in-Bad.is) (λ state disk same. same) c.requires.empty
    (λ state disk here. subst (λ s. StandsFor formats g.S.Store.view s disk (counted state)) (sym c.count-in-Bad.ensures) (counted_stands formats g.S.Store.view c.args.session.now disk state here)) c.finish-in-Bad.ensures.finishes

pub returns-in-Large-clause-does : goal.returns-in-Large-clause-does
returns-in-Large-clause-does g c =
    let formats = formats_of g.S.Store.forms chosen in
    line_unit formats (record { choice = g.met.S.AnyMailbox.is_choice; reads = g.met.S.AnyMailbox.all_read }) g.S.Store.view c.args.session.now c.count-in-Large.new.self c.args.unit.now
    (reply.Large c.in-Large.tag) counted _ c.args.out.now _ _ _ (λ state. ap (outcome_of formats state) c.in-Large.is) (λ state disk same. same) c.requires.empty
    (λ state disk here. subst (λ s. StandsFor formats g.S.Store.view s disk (counted state)) (sym c.count-in-Large.ensures) (counted_stands formats g.S.Store.view c.args.session.now disk state here)) c.finish-in-Large.ensures.finishes

pub returns-in-Announce-clause-cause : goal.returns-in-Announce-clause-cause
returns-in-Announce-clause-cause g c = c.finish.ensures.cause (g.H.Files.faults c.args.host.now) (none_called (g.H.Files.faults c.args.host.now))

pub returns-in-Bad-clause-cause : goal.returns-in-Bad-clause-cause
returns-in-Bad-clause-cause g c = c.finish-in-Bad.ensures.cause (g.H.Files.faults c.args.host.now) (none_called (g.H.Files.faults c.args.host.now))

pub returns-in-Large-clause-cause : goal.returns-in-Large-clause-cause
returns-in-Large-clause-cause g c = c.finish-in-Large.ensures.cause (g.H.Files.faults c.args.host.now) (none_called (g.H.Files.faults c.args.host.now))
