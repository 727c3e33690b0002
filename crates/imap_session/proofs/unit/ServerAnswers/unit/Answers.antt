use Rattle.std.proofs.Common.{Ok}
use Rattle.any_store.specs.Choice.{formats_of, chosen}
use Rattle.mail_tree.proofs.Nodes.{AreFormats}
use Rattle.imap_session.specs.Standing.{StandsFor}
use Rattle.imap_session.proofs.Units.{ends_unit, unit_passed, unit_answered, unit_stands}
use Rattle.imap_session.proofs.unit.ServerAnswers.unit.Goals as goal

pub returns-in_err-answer_unit-clause-instants : goal.returns-in_err-answer_unit-clause-instants
returns-in_err-answer_unit-clause-instants g c state now =
    let formats = formats_of g.S.Store.forms chosen in
    unit_passed formats (record { choice = g.met.S.AnyMailbox.is_choice; reads = g.met.S.AnyMailbox.all_read }) (StandsFor formats g.S.Store.view c.answer_unit.new.session) state c.args.unit.now _ _
    (c.answer_unit.ensures.does.instants state now)

pub returns-in_err-say-clause-instants : goal.returns-in_err-say-clause-instants
returns-in_err-say-clause-instants g c state now =
    let formats = formats_of g.S.Store.forms chosen in
    let laws : AreFormats formats = record { choice = g.met.S.AnyMailbox.is_choice; reads = g.met.S.AnyMailbox.all_read } in
    let after = StandsFor formats g.S.Store.view c.answer_unit.new.session in
    unit_passed formats laws after state c.args.unit.now _ _
    ((ends_unit formats laws after (StandsFor formats g.S.Store.view c.args.self.now.session) c.args.unit.now c.answer_unit.new.out c.say.new.self c.say.result _ _ _ c.in_ok-answer_unit.ensures.does c.say.ensures.puts).instants state now)

pub returns-clause-instants : goal.returns-clause-instants
returns-clause-instants g c state now =
    let formats = formats_of g.S.Store.forms chosen in
    let laws : AreFormats formats = record { choice = g.met.S.AnyMailbox.is_choice; reads = g.met.S.AnyMailbox.all_read } in
    let after = StandsFor formats g.S.Store.view c.answer_unit.new.session in
    unit_passed formats laws after state c.args.unit.now _ _
    ((ends_unit formats laws after (StandsFor formats g.S.Store.view c.args.self.now.session) c.args.unit.now c.answer_unit.new.out c.say.new.self c.say.result _ _ _ c.in_ok-answer_unit.ensures.does c.say.ensures.puts).instants state now)

pub returns-clause-answered : goal.returns-clause-answered
returns-clause-answered g c state now =
    let formats = formats_of g.S.Store.forms chosen in
    let laws : AreFormats formats = record { choice = g.met.S.AnyMailbox.is_choice; reads = g.met.S.AnyMailbox.all_read } in
    let after = StandsFor formats g.S.Store.view c.answer_unit.new.session in
    unit_answered formats laws after state c.args.unit.now c.say.new.self _ _ c.in_ok-say.ensures.none
    ((ends_unit formats laws after (StandsFor formats g.S.Store.view c.args.self.now.session) c.args.unit.now c.answer_unit.new.out c.say.new.self (Ok tt) _ _ _ c.in_ok-answer_unit.ensures.does c.in_ok-say.ensures.puts).done state now)

pub returns-clause-stands : goal.returns-clause-stands
returns-clause-stands g c =
    let formats = formats_of g.S.Store.forms chosen in
    let laws : AreFormats formats = record { choice = g.met.S.AnyMailbox.is_choice; reads = g.met.S.AnyMailbox.all_read } in
    let after = StandsFor formats g.S.Store.view c.answer_unit.new.session in
    let before = StandsFor formats g.S.Store.view c.args.self.now.session in
    unit_stands formats before after c.args.unit.now c.say.new.self _ _ c.requires.stands
    (ends_unit formats laws after before c.args.unit.now c.answer_unit.new.out c.say.new.self (Ok tt) _ _ _ c.in_ok-answer_unit.ensures.does c.in_ok-say.ensures.puts).done
