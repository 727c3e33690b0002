use Rattle.std.proofs.Common.{◌∷◌, [], ◌++◌, take, refl, sym, ◌∙◌, ap, subst, ◌+◌}
use Rattle.file_model.specs.Histories.{Passed}
use Rattle.session_loop.specs.Machine.{answered, has_last}
use Rattle.file_model.specs.Arrived.{Arrived, Begins}
use Rattle.session_loop.specs.Instants.{Answering, HasAnswered}
use Rattle.session_loop.specs.Outcome.{next_of}
use Rattle.session_loop.proofs.Machine.{begins_refl, has_last_one}
use Rattle.session_loop.proofs.Units.{is_go, is_bye, up_to, is_answered, is_end, ends, at_end, passed_units, arrived_units, state_now}
use Rattle.session_loop.proofs.each.answer_each.Goals as goal

pub returns-in_err-unit-clause-instants : goal.returns-in_err-unit-clause-instants
returns-in_err-unit-clause-instants g c state is =
    let s = g.S.Answers in
    let first = take c.loop-unit.unit-index c.args.units.now in
    let at = c.loop-unit.invariant.answered state is in
    passed_units s.protocol (s.stands c.loop-unit.session) state first (c.unit-item.result ∷ []) (answered s.protocol.is_last c.args.units.now) _ _ _
    (is_answered s.protocol.is_last c.args.units.now c.loop-unit.unit-index c.unit-item.result c.loop-unit-test.true c.unit-item.is c.loop-unit.invariant.none)
    (c.loop-unit.invariant.instants state is) at
    (c.unit.ensures.instants _ (state_now s.protocol (s.stands c.loop-unit.session) state first _ _ at))

pub returns-in-Bye-clause-next : goal.returns-in-Bye-clause-next
returns-in-Bye-clause-next g c =
    ap next_of (sym (ends g.S.Answers.protocol.is_last c.args.units.now c.loop-unit.unit-index c.unit-item.result c.loop-unit-test.true c.unit-item.is c.loop-unit.invariant.none
    (is_bye _ (sym c.in-Bye.is ∙ c.in_ok-unit.ensures.next))))

pub returns-in-Bye-clause-instants : goal.returns-in-Bye-clause-instants
returns-in-Bye-clause-instants g c state is =
    let s = g.S.Answers in
    let first = take c.loop-unit.unit-index c.args.units.now in
    let at = c.loop-unit.invariant.answered state is in
    passed_units s.protocol (s.stands c.loop-unit.session) state first (c.unit-item.result ∷ []) (answered s.protocol.is_last c.args.units.now) _ _ _
    (is_answered s.protocol.is_last c.args.units.now c.loop-unit.unit-index c.unit-item.result c.loop-unit-test.true c.unit-item.is c.loop-unit.invariant.none)
    (c.loop-unit.invariant.instants state is) at
    (c.unit.ensures.instants _ (state_now s.protocol (s.stands c.loop-unit.session) state first _ _ at))

pub returns-in-Bye-clause-answered : goal.returns-in-Bye-clause-answered
returns-in-Bye-clause-answered g c state is =
    let s = g.S.Answers in
    let first = take c.loop-unit.unit-index c.args.units.now in
    let at = c.loop-unit.invariant.answered state is in
    let last = is_bye _ (sym c.in-Bye.is ∙ c.in_ok-unit.ensures.next) in
    arrived_units s.protocol (s.stands c.loop-unit.session) (s.stands c.unit.new.self) state first (c.unit-item.result ∷ []) (answered s.protocol.is_last c.args.units.now) _ _ _
    (is_end s.protocol.is_last c.args.units.now c.loop-unit.unit-index c.unit-item.result c.loop-unit-test.true c.unit-item.is c.loop-unit.invariant.none last)
    at (c.in_ok-unit.ensures.answered _ (state_now s.protocol (s.stands c.loop-unit.session) state first _ _ at))

pub loop-unit-preserved : goal.loop-unit-preserved
loop-unit-preserved g c =
    let s = g.S.Answers in
    let first = take c.loop-unit.unit-index c.args.units.now in
    let unit = c.unit-item.result in
    let no_last = is_go _ (sym c.in-Go.is ∙ c.in_ok-unit.ensures.next) in
    let more = up_to c.args.units.now c.loop-unit.unit-index unit c.loop-unit-test.true c.unit-item.is in
    record {
      here = c.in_ok-unit.ensures.stands;
      none = ap (has_last s.protocol.is_last) more ∙ has_last_one s.protocol.is_last first unit c.loop-unit.invariant.none no_last;
      instants = λ state is. let at = c.loop-unit.invariant.answered state is in
          passed_units s.protocol (s.stands c.loop-unit.session) state first (unit ∷ []) (take (c.loop-unit.unit-index + 1) c.args.units.now) _ _ _
          (subst (λ l. Begins (first ++ unit ∷ []) l) (sym more) (begins_refl (first ++ unit ∷ [])))
          (c.loop-unit.invariant.instants state is) at
          (c.unit.ensures.instants _ (state_now s.protocol (s.stands c.loop-unit.session) state first _ _ at));
      answered = λ state is. let at = c.loop-unit.invariant.answered state is in
          arrived_units s.protocol (s.stands c.loop-unit.session) (s.stands c.unit.new.self) state first (unit ∷ []) (take (c.loop-unit.unit-index + 1) c.args.units.now) _ _ _
          (sym more) at (c.in_ok-unit.ensures.answered _ (state_now s.protocol (s.stands c.loop-unit.session) state first _ _ at));
      hear = c.unit.ensures.cause.hear ∙ c.loop-unit.invariant.hear;
      file = (c.in_ok-unit.ensures.cause.regular refl).file ∙ c.loop-unit.invariant.file;
      say = (c.in_ok-unit.ensures.cause.regular refl).say ∙ c.loop-unit.invariant.say;
    }

pub returns-clause-instants : goal.returns-clause-instants
returns-clause-instants g c state is =
    let s = g.S.Answers in
    subst (λ units. Passed (Answering s.protocol state units) (g.H.Files.history c.args.host.now) (g.H.Files.history c.loop-unit.host))
    (at_end s.protocol.is_last c.args.units.now c.loop-unit.unit-index c.loop-unit-test.false c.loop-unit.invariant.none) (c.loop-unit.invariant.instants state is)

pub returns-clause-answered : goal.returns-clause-answered
returns-clause-answered g c state is =
    let s = g.S.Answers in
    subst (λ units. Arrived (HasAnswered s.protocol (s.stands c.loop-unit.session) state units) (g.H.Files.history c.args.host.now) (g.H.Files.history c.loop-unit.host))
    (at_end s.protocol.is_last c.args.units.now c.loop-unit.unit-index c.loop-unit-test.false c.loop-unit.invariant.none) (c.loop-unit.invariant.answered state is)
