use Rattle.std.proofs.Common.{◌≡◌, inr, ◌++◌, false, ap, sym, ◌∙◌, subst}
use Rattle.session_loop.specs.Machine.{answered, commands_in}
use Rattle.session_loop.specs.Outcome.{regular_end, IsLong}
use Rattle.session_loop.specs.declared.end.End.{End}
use Rattle.session_loop.specs.declared.end.End.TheVariants.{Done}
use Rattle.session_loop.specs.declared.end.Turn.TheVariants.{Over}
use Rattle.session_loop.proofs.Units.{is_go, is_bye}
use Rattle.session_loop.proofs.Turns.{longer, last_behind, answers_passed, answers_arrived, served_now, begins_is, cut_units, first_units, ok_here}
use Rattle.session_loop.proofs.piece.answer_piece.Goals as goal

end_is : {end : End} → Over Done ≡ Over end → end ≡ Done
end_is over = cc

pub returns-in-Ok-Go-clause-instants : goal.returns-in-Ok-Go-clause-instants
returns-in-Ok-Go-clause-instants g c first state heard taken none one at =
    let s = g.S.Answers in
    let cut = ok_here c.take_piece.result c.is_err.result c.is_err.ensures.value c.if-is_err.false (c.take_piece.ensures.taken heard taken) in
    let whole = longer s.protocol.is_last (s.protocol.units_of heard) c.deref.result.now (s.protocol.units_of (heard ++ c.args.piece.now)) none (cut_units s.protocol.units_of g.S.Reader.UnitReader.units_of heard c.args.piece.now _ _ _ g.met.S.Answers.of_grammar.0 cut.1 c.clear.ensures.items c.deref.ensures.value) in
    answers_passed s.protocol (s.stands c.args.session.now) state (heard ++ c.args.piece.now) (commands_in s.protocol heard) (answered s.protocol.is_last c.deref.result.now) false first _ _
    (begins_is whole) one at (c.answer_each.ensures.instants _ (served_now s.protocol (s.stands c.args.session.now) state (heard ++ c.args.piece.now) (commands_in s.protocol heard) false first _ at))

pub returns-in-Ok-Go-clause-goes : goal.returns-in-Ok-Go-clause-goes
returns-in-Ok-Go-clause-goes g c first state heard n taken none goes at =
    let s = g.S.Answers in
    let cut = ok_here c.take_piece.result c.is_err.result c.is_err.ensures.value c.if-is_err.false (c.take_piece.ensures.taken heard taken) in
    let whole = longer s.protocol.is_last (s.protocol.units_of heard) c.deref.result.now (s.protocol.units_of (heard ++ c.args.piece.now)) none (cut_units s.protocol.units_of g.S.Reader.UnitReader.units_of heard c.args.piece.now _ _ _ g.met.S.Answers.of_grammar.0 cut.1 c.clear.ensures.items c.deref.ensures.value) in
    answers_arrived s.protocol (s.stands c.args.session.now) (s.stands c.answer_each.new.session) state (heard ++ c.args.piece.now) (commands_in s.protocol heard) (answered s.protocol.is_last c.deref.result.now)
    (commands_in s.protocol (heard ++ c.args.piece.now)) false first _ _
    whole at (c.in-Ok-Go.ensures.answered _ (served_now s.protocol (s.stands c.args.session.now) state (heard ++ c.args.piece.now) (commands_in s.protocol heard) false first _ at))

pub returns-in-Ok-Go-clause-taken : goal.returns-in-Ok-Go-clause-taken
returns-in-Ok-Go-clause-taken g c heard n taken none goes =
    let s = g.S.Answers in
    let cut = ok_here c.take_piece.result c.is_err.result c.is_err.ensures.value c.if-is_err.false (c.take_piece.ensures.taken heard taken) in
    let are = cut_units s.protocol.units_of g.S.Reader.UnitReader.units_of heard c.args.piece.now _ _ _ g.met.S.Answers.of_grammar.0 cut.1 c.clear.ensures.items c.deref.ensures.value in
    (cut.0, last_behind s.protocol.is_last (s.protocol.units_of heard) c.deref.result.now (s.protocol.units_of (heard ++ c.args.piece.now)) none are ∙ is_go _ (sym c.in-Ok-Go.field-0-is ∙ c.in-Ok-Go.ensures.next))

pub returns-in-Ok-Bye-clause-instants : goal.returns-in-Ok-Bye-clause-instants
returns-in-Ok-Bye-clause-instants g c first state heard taken none one at =
    let s = g.S.Answers in
    let cut = ok_here c.take_piece.result c.is_err.result c.is_err.ensures.value c.if-is_err.false (c.take_piece.ensures.taken heard taken) in
    let whole = longer s.protocol.is_last (s.protocol.units_of heard) c.deref.result.now (s.protocol.units_of (heard ++ c.args.piece.now)) none (cut_units s.protocol.units_of g.S.Reader.UnitReader.units_of heard c.args.piece.now _ _ _ g.met.S.Answers.of_grammar.0 cut.1 c.clear.ensures.items c.deref.ensures.value) in
    answers_passed s.protocol (s.stands c.args.session.now) state (heard ++ c.args.piece.now) (commands_in s.protocol heard) (answered s.protocol.is_last c.deref.result.now) false first _ _
    (begins_is whole) one at (c.answer_each.ensures.instants _ (served_now s.protocol (s.stands c.args.session.now) state (heard ++ c.args.piece.now) (commands_in s.protocol heard) false first _ at))

pub returns-in-Ok-Bye-clause-over : goal.returns-in-Ok-Bye-clause-over
returns-in-Ok-Bye-clause-over g c first state heard end taken none over at =
    let s = g.S.Answers in
    let cut = ok_here c.take_piece.result c.is_err.result c.is_err.ensures.value c.if-is_err.false (c.take_piece.ensures.taken heard taken) in
    let are = cut_units s.protocol.units_of g.S.Reader.UnitReader.units_of heard c.args.piece.now _ _ _ g.met.S.Answers.of_grammar.0 cut.1 c.clear.ensures.items c.deref.ensures.value in
    let whole = longer s.protocol.is_last (s.protocol.units_of heard) c.deref.result.now (s.protocol.units_of (heard ++ c.args.piece.now)) none are in
    let last = last_behind s.protocol.is_last (s.protocol.units_of heard) c.deref.result.now (s.protocol.units_of (heard ++ c.args.piece.now)) none are ∙ is_bye _ (sym c.in-Ok-Bye.field-0-is ∙ c.in-Ok-Bye.ensures.next) in
    inr (
      heard ++ c.args.piece.now,
      false,
      answers_arrived s.protocol (s.stands c.args.session.now) (s.stands c.answer_each.new.session) state (heard ++ c.args.piece.now) (commands_in s.protocol heard) (answered s.protocol.is_last c.deref.result.now)
          (commands_in s.protocol (heard ++ c.args.piece.now)) false first _ _
          whole at (c.in-Ok-Bye.ensures.answered _ (served_now s.protocol (s.stands c.args.session.now) state (heard ++ c.args.piece.now) (commands_in s.protocol heard) false first _ at)),
      end_is over ∙ ap (λ b. regular_end b false (s.protocol.unfinished (heard ++ c.args.piece.now))) (sym last),
      subst (λ e. IsLong e (heard ++ c.args.piece.now)) (sym (end_is over)) tt,
    )

pub returns-in-Err-clause-instants : goal.returns-in-Err-clause-instants
returns-in-Err-clause-instants g c first state heard taken none one at =
    let s = g.S.Answers in
    let cut = ok_here c.take_piece.result c.is_err.result c.is_err.ensures.value c.if-is_err.false (c.take_piece.ensures.taken heard taken) in
    let whole = longer s.protocol.is_last (s.protocol.units_of heard) c.deref.result.now (s.protocol.units_of (heard ++ c.args.piece.now)) none (cut_units s.protocol.units_of g.S.Reader.UnitReader.units_of heard c.args.piece.now _ _ _ g.met.S.Answers.of_grammar.0 cut.1 c.clear.ensures.items c.deref.ensures.value) in
    answers_passed s.protocol (s.stands c.args.session.now) state (heard ++ c.args.piece.now) (commands_in s.protocol heard) (answered s.protocol.is_last c.deref.result.now) false first _ _
    (begins_is whole) one at (c.answer_each.ensures.instants _ (served_now s.protocol (s.stands c.args.session.now) state (heard ++ c.args.piece.now) (commands_in s.protocol heard) false first _ at))

pub returns-then-is_err-clause-longer : goal.returns-then-is_err-clause-longer
returns-then-is_err-clause-longer g c heard = first_units g.S.Answers.protocol.units_of g.S.Reader.UnitReader.units_of heard c.args.piece.now g.met.S.Answers.of_grammar.0 (c.take_piece.ensures.grows heard)

pub returns-in-Ok-Go-clause-longer : goal.returns-in-Ok-Go-clause-longer
returns-in-Ok-Go-clause-longer g c heard = first_units g.S.Answers.protocol.units_of g.S.Reader.UnitReader.units_of heard c.args.piece.now g.met.S.Answers.of_grammar.0 (c.take_piece.ensures.grows heard)

pub returns-in-Ok-Bye-clause-longer : goal.returns-in-Ok-Bye-clause-longer
returns-in-Ok-Bye-clause-longer g c heard = first_units g.S.Answers.protocol.units_of g.S.Reader.UnitReader.units_of heard c.args.piece.now g.met.S.Answers.of_grammar.0 (c.take_piece.ensures.grows heard)

pub returns-in-Err-clause-longer : goal.returns-in-Err-clause-longer
returns-in-Err-clause-longer g c heard = first_units g.S.Answers.protocol.units_of g.S.Reader.UnitReader.units_of heard c.args.piece.now g.met.S.Answers.of_grammar.0 (c.take_piece.ensures.grows heard)
