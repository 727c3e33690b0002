use Rattle.std.proofs.Common.{◌≡◌, ◌∙◌, List, ℕ, [], ap, refl, false, Result, Ok, Err, subst, Bool}
use Rattle.std.specs.Result.{is_err}
use Rattle.file_model.specs.declared.files.Failed.{Failed}
use Rattle.file_model.specs.Histories.{History, Says}
use Rattle.session_loop.proofs.Turns.{say_passed, say_arrived, first_units}
use Rattle.session_loop.proofs.Headline.{said_since_each, bounded_since, crash_since, ends_here}
use Rattle.session_loop.proofs.session.serve.Goals as goal

-- the bytes were said
was_said : (result : Result (Unit {0}) Failed) (test : Bool) → test ≡ is_err result → test ≡ false → result ≡ Ok tt
was_said (Ok u) test is none = refl
was_said (Err e) test is none = absurd (cc)

pub returns-then-is_err-clause-instants : goal.returns-then-is_err-clause-instants
returns-then-is_err-clause-instants g c first state is =
    let s = g.S.Answers in
    say_passed s.protocol (s.stands c.args.session.now) state _ c.say.result first _ _ g.met.S.Answers.is_kept is c.requires.greeting c.say.ensures.says

pub returns-then-is_err-clause-said : goal.returns-then-is_err-clause-said
returns-then-is_err-clause-said g c first state is =
    let s = g.S.Answers in
    let law = g.met.S.Answers.is_kept in
    said_since_each s.protocol state first _ law
    (say_passed s.protocol (s.stands c.args.session.now) state _ c.say.result first _ _ law is c.requires.greeting c.say.ensures.says)

pub returns-then-is_err-clause-bounded : goal.returns-then-is_err-clause-bounded
returns-then-is_err-clause-bounded g c first state is =
    let s = g.S.Answers in
    let law = g.met.S.Answers.is_kept in
    bounded_since s.protocol state first _ law
    (say_passed s.protocol (s.stands c.args.session.now) state _ c.say.result first _ _ law is c.requires.greeting c.say.ensures.says)

pub returns-then-is_err-clause-crash : goal.returns-then-is_err-clause-crash
returns-then-is_err-clause-crash g c first state says is =
    let s = g.S.Answers in
    let law = g.met.S.Answers.is_kept in
    crash_since s.protocol state first _ law says (λ stream later. first_units s.protocol.units_of g.S.Reader.UnitReader.units_of stream later g.met.S.Answers.of_grammar.0 (c.begin-reader.ensures.grows stream later))
    (say_passed s.protocol (s.stands c.args.session.now) state _ c.say.result first _ _ law is c.requires.greeting c.say.ensures.says)

pub returns-clause-instants : goal.returns-clause-instants
returns-clause-instants g c first state is =
    let s = g.S.Answers in
    let said = subst (λ r. Says c.args.greeting.now r (g.H.Files.history c.args.host.now) (g.H.Files.history c.say.new.self)) (was_said c.say.result c.is_err.result c.is_err.ensures.value c.if-is_err.false) c.say.ensures.says in
    c.converse.ensures.instants first state c.begin-reader.ensures.taken
    (say_passed s.protocol (s.stands c.args.session.now) state _ c.say.result first _ _ g.met.S.Answers.is_kept is c.requires.greeting c.say.ensures.says)
    (say_arrived s.protocol (s.stands c.args.session.now) state _ tt first _ _ (ap (λ u. u []) g.met.S.Answers.of_grammar.0 ∙ g.met.S.Reader.UnitReader.none_at_first) is c.requires.greeting said)

pub returns-clause-said : goal.returns-clause-said
returns-clause-said g c first state is =
    let s = g.S.Answers in
    let law = g.met.S.Answers.is_kept in
    let said = subst (λ r. Says c.args.greeting.now r (g.H.Files.history c.args.host.now) (g.H.Files.history c.say.new.self)) (was_said c.say.result c.is_err.result c.is_err.ensures.value c.if-is_err.false) c.say.ensures.says in
    said_since_each s.protocol state first _ law
    (c.converse.ensures.instants first state c.begin-reader.ensures.taken
    (say_passed s.protocol (s.stands c.args.session.now) state _ c.say.result first _ _ law is c.requires.greeting c.say.ensures.says)
    (say_arrived s.protocol (s.stands c.args.session.now) state _ tt first _ _ (ap (λ u. u []) g.met.S.Answers.of_grammar.0 ∙ g.met.S.Reader.UnitReader.none_at_first) is c.requires.greeting said))

pub returns-clause-bounded : goal.returns-clause-bounded
returns-clause-bounded g c first state is =
    let s = g.S.Answers in
    let law = g.met.S.Answers.is_kept in
    let said = subst (λ r. Says c.args.greeting.now r (g.H.Files.history c.args.host.now) (g.H.Files.history c.say.new.self)) (was_said c.say.result c.is_err.result c.is_err.ensures.value c.if-is_err.false) c.say.ensures.says in
    bounded_since s.protocol state first _ law
    (c.converse.ensures.instants first state c.begin-reader.ensures.taken
    (say_passed s.protocol (s.stands c.args.session.now) state _ c.say.result first _ _ law is c.requires.greeting c.say.ensures.says)
    (say_arrived s.protocol (s.stands c.args.session.now) state _ tt first _ _ (ap (λ u. u []) g.met.S.Answers.of_grammar.0 ∙ g.met.S.Reader.UnitReader.none_at_first) is c.requires.greeting said))

pub returns-clause-crash : goal.returns-clause-crash
returns-clause-crash g c first state says is =
    let s = g.S.Answers in
    let law = g.met.S.Answers.is_kept in
    let said = subst (λ r. Says c.args.greeting.now r (g.H.Files.history c.args.host.now) (g.H.Files.history c.say.new.self)) (was_said c.say.result c.is_err.result c.is_err.ensures.value c.if-is_err.false) c.say.ensures.says in
    crash_since s.protocol state first _ law says (λ stream later. first_units s.protocol.units_of g.S.Reader.UnitReader.units_of stream later g.met.S.Answers.of_grammar.0 (c.begin-reader.ensures.grows stream later))
    (c.converse.ensures.instants first state c.begin-reader.ensures.taken
    (say_passed s.protocol (s.stands c.args.session.now) state _ c.say.result first _ _ law is c.requires.greeting c.say.ensures.says)
    (say_arrived s.protocol (s.stands c.args.session.now) state _ tt first _ _ (ap (λ u. u []) g.met.S.Answers.of_grammar.0 ∙ g.met.S.Reader.UnitReader.none_at_first) is c.requires.greeting said))

pub returns-clause-served : goal.returns-clause-served
returns-clause-served g c first state is =
    let s = g.S.Answers in
    let said = subst (λ r. Says c.args.greeting.now r (g.H.Files.history c.args.host.now) (g.H.Files.history c.say.new.self)) (was_said c.say.result c.is_err.result c.is_err.ensures.value c.if-is_err.false) c.say.ensures.says in
    ends_here s.protocol (s.stands c.converse.new.session) state c.converse.result first _ _
    (c.converse.ensures.ends first state c.begin-reader.ensures.taken
    (say_arrived s.protocol (s.stands c.args.session.now) state _ tt first _ _ (ap (λ u. u []) g.met.S.Answers.of_grammar.0 ∙ g.met.S.Reader.UnitReader.none_at_first) is c.requires.greeting said))
