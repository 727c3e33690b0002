use Rattle.std.proofs.Common.{◌≡◌, inr, ◌++◌, ◌+◌, ◌≤◌, length-append, List, ℕ, true, false, [], length, take, ap, sym, ◌∙◌, subst, refl, Ok, Err, arith, ◌<◌, ◌&&◌, ◌==◌, nat_lt}
use Rattle.std.proofs.lemmas.List.{append-nil}
use Rattle.file_model.specs.Arrived.{Begins, Arrived, gives_end}
use Rattle.session_loop.specs.Machine.{Protocol, commands_in, is_over}
use Rattle.session_loop.specs.Instants.{HasServed, most_heard}
use Rattle.session_loop.specs.Outcome.{regular_end, IsFault}
use Rattle.session_loop.specs.declared.end.End.{End}
use Rattle.session_loop.specs.declared.end.Turn.TheVariants.{Over}
use Rattle.std.proofs.lemmas.Bool.Decides.{nat_tests}
use Rattle.std.proofs.lemmas.Grind.{common_steps}
use Rattle.session_loop.proofs.Machine.{begins_refl}
use Rattle.session_loop.proofs.Turns.{no_long, hear_passed, hear_arrived, longer_first}
use Rattle.session_loop.proofs.turn.turn.Goals as goal

-- nothing more was heard
nothing_more : {S U : Type 0} (p : Protocol S U) (heard : List ℕ) → Begins (commands_in p heard) (commands_in p (heard ++ []))
nothing_more p heard = subst (λ l. Begins (commands_in p heard) (commands_in p l)) (sym (append-nil heard)) (begins_refl (commands_in p heard))

no_end : (n room : ℕ) → (n ≡ 0 → ⊥) → gives_end (Ok n) room ≡ false
no_end n room is = let test : (n == 0) ≡ false = grind (arith, nat_tests) in ap (λ b. b && nat_lt 0 room) test

the_end : (n room : ℕ) → n ≡ 0 → 0 < room → gives_end (Ok n) room ≡ true
the_end n room is some = rw is (grind (arith, nat_tests))

same_piece : (n count : ℕ) (bytes : List ℕ) → n ≡ length (take count bytes) → take count bytes ≡ take n bytes
same_piece n count bytes is = grind (arith, common_steps)

-- a piece that fits the buffer
piece_fits : (count room : ℕ) (bytes : List ℕ) → count ≤ room → length (take count bytes) ≤ room
piece_fits count room bytes within = grind (arith, common_steps)

piece_some : (count room : ℕ) (bytes : List ℕ) → length bytes ≡ room → count ≤ room → (count ≡ 0 → ⊥) → 0 < length (take count bytes)
piece_some count room bytes long within some = grind (arith, common_steps)

none_more : {room : ℕ} → length {A = ℕ} [] ≤ room
none_more = omega arith

few_more : (heard piece : List ℕ) (room : ℕ) → length heard + room ≤ most_heard → length piece ≤ room → length (heard ++ piece) ≤ most_heard
few_more heard piece room few fits = rw (length-append heard piece) (omega arith)

true_false : true ≡ false → ⊥
true_false is = absurd (cc)

end_is : {one other : End} → Over one ≡ Over other → other ≡ one
end_is over = cc

not_over : {end fault : End} → (IsFault end → ⊥) → IsFault fault → {A : Type 0} → Over end ≡ Over fault → A
not_over regular is over = absurd (regular (subst IsFault (end_is over) is))

pub returns-in-Err-clause-instants : goal.returns-in-Err-clause-instants
returns-in-Err-clause-instants g c first state heard taken none few one at =
    let s = g.S.Answers in
    hear_passed s.protocol (s.stands c.args.session.now) state heard [] (length c.args.buffer.now) c.hear.new.buf (Err c.in-Err.field-0) first _ _
    (g.met.S.Answers.is_kept) none (few_more heard [] (length c.args.buffer.now) few none_more) refl (nothing_more s.protocol heard) c.in-Err.ensures.hears one at

pub returns-then-count-eq0-clause-instants : goal.returns-then-count-eq0-clause-instants
returns-then-count-eq0-clause-instants g c first state heard taken none few one at =
    let s = g.S.Answers in
    hear_passed s.protocol (s.stands c.args.session.now) state heard [] (length c.args.buffer.now) c.hear.new.buf (Ok c.in-Ok.count) first _ _
    (g.met.S.Answers.is_kept) none (few_more heard [] (length c.args.buffer.now) few none_more) (ap (λ n. take n c.hear.new.buf) c.if-count-eq0.true) (nothing_more s.protocol heard) c.in-Ok.ensures.hears one at

pub returns-then-count-eq0-clause-over : goal.returns-then-count-eq0-clause-over
returns-then-count-eq0-clause-over g c first state heard end taken none few over at =
    let s = g.S.Answers in
    let here = hear_arrived s.protocol (s.stands c.args.session.now) state heard [] true (length c.args.buffer.now) c.hear.new.buf (Ok c.in-Ok.count) first _ _
    none (few_more heard [] (length c.args.buffer.now) few none_more) (λ is. absurd (true_false is)) (ap (λ n. take n c.hear.new.buf) c.if-count-eq0.true) (the_end c.in-Ok.count (length c.args.buffer.now) c.if-count-eq0.true c.requires.room) c.in-Ok.ensures.hears at in
    inr (
      heard,
      true,
      subst (λ l. Arrived (HasServed s.protocol (s.stands c.args.session.now) state l (commands_in s.protocol heard) true) first (g.H.Files.history c.hear.new.self)) (append-nil heard) here,
      end_is over ∙ c.end_here.ensures.end heard taken ∙ ap (λ b. regular_end b true (g.S.Reader.UnitReader.unfinished heard)) (sym none)
          ∙ ap (λ rest. regular_end (is_over s.protocol heard) true (rest heard)) (sym g.met.S.Answers.of_grammar.1),
      no_long end heard (λ is. c.end_here.ensures.not_long (sym (end_is over) ∙ is)),
    )

pub returns-then-count-eq0-clause-cause : goal.returns-then-count-eq0-clause-cause
returns-then-count-eq0-clause-cause g c = record {
  hear = c.in-Ok.ensures.cause.later;
  file = omega (arith, c.in-Ok.ensures.cause.file);
  say = omega (arith, c.in-Ok.ensures.cause.say);
  hear_fault = not_over c.end_here.ensures.regular tt;
  say_fault = not_over c.end_here.ensures.regular tt;
  file_fault = not_over c.end_here.ensures.regular tt;
  regular = λ is. record { hear = c.in-Ok.ensures.cause.stays refl; file = c.in-Ok.ensures.cause.file; say = c.in-Ok.ensures.cause.say };
}

pub returns-clause-instants : goal.returns-clause-instants
returns-clause-instants g c first state heard taken none few one at =
    let s = g.S.Answers in
    let piece = take c.in-Ok.count c.hear.new.buf in
    let units = c.answer_piece.ensures.longer heard in
    let mid = hear_passed s.protocol (s.stands c.args.session.now) state heard piece (length c.args.buffer.now) c.hear.new.buf (Ok c.in-Ok.count) first _ _
    (g.met.S.Answers.is_kept) none (few_more heard piece (length c.args.buffer.now) few (piece_fits c.in-Ok.count (length c.args.buffer.now) c.hear.new.buf c.in-Ok.ensures.within)) refl (longer_first s.protocol.is_last (s.protocol.units_of heard) units.0 (s.protocol.units_of (heard ++ piece)) none units.1) c.in-Ok.ensures.hears one at in
    let here = hear_arrived s.protocol (s.stands c.args.session.now) state heard piece false (length c.args.buffer.now) c.hear.new.buf (Ok c.in-Ok.count) first _ _
    none (few_more heard (take c.in-Ok.count c.hear.new.buf) (length c.args.buffer.now) few (piece_fits c.in-Ok.count (length c.args.buffer.now) c.hear.new.buf c.in-Ok.ensures.within))
    (λ is. piece_some c.in-Ok.count (length c.args.buffer.now) c.hear.new.buf c.hear.auto.buf c.in-Ok.ensures.within c.if-count-eq0.false) refl (no_end c.in-Ok.count (length c.args.buffer.now) c.if-count-eq0.false) c.in-Ok.ensures.hears at in
    c.answer_piece.ensures.instants first state heard taken none mid here

pub returns-clause-taken : goal.returns-clause-taken
returns-clause-taken g c heard n taken none goes =
    let piece = same_piece n c.in-Ok.count c.hear.new.buf (c.answer_piece.ensures.whole n goes) in
    subst (λ p. g.S.Reader.UnitReader.has_taken c.answer_piece.new.reader (heard ++ p) × (is_over g.S.Answers.protocol (heard ++ p) ≡ false)) piece (c.answer_piece.ensures.taken heard n taken none goes)

pub returns-clause-goes : goal.returns-clause-goes
returns-clause-goes g c first state heard n taken none few goes at =
    let s = g.S.Answers in
    let here = hear_arrived s.protocol (s.stands c.args.session.now) state heard (take c.in-Ok.count c.hear.new.buf) false (length c.args.buffer.now) c.hear.new.buf (Ok c.in-Ok.count) first _ _
    none (few_more heard (take c.in-Ok.count c.hear.new.buf) (length c.args.buffer.now) few (piece_fits c.in-Ok.count (length c.args.buffer.now) c.hear.new.buf c.in-Ok.ensures.within))
    (λ is. piece_some c.in-Ok.count (length c.args.buffer.now) c.hear.new.buf c.hear.auto.buf c.in-Ok.ensures.within c.if-count-eq0.false) refl (no_end c.in-Ok.count (length c.args.buffer.now) c.if-count-eq0.false) c.in-Ok.ensures.hears at in
    subst (λ p. Arrived (HasServed s.protocol (s.stands c.answer_piece.new.session) state (heard ++ p) (commands_in s.protocol (heard ++ p)) false) first (g.H.Files.history c.answer_piece.new.host))
    (same_piece n c.in-Ok.count c.hear.new.buf (c.answer_piece.ensures.whole n goes)) (c.answer_piece.ensures.goes first state heard n taken none goes here)

pub returns-clause-over : goal.returns-clause-over
returns-clause-over g c first state heard end taken none few over at =
    let s = g.S.Answers in
    let here = hear_arrived s.protocol (s.stands c.args.session.now) state heard (take c.in-Ok.count c.hear.new.buf) false (length c.args.buffer.now) c.hear.new.buf (Ok c.in-Ok.count) first _ _
    none (few_more heard (take c.in-Ok.count c.hear.new.buf) (length c.args.buffer.now) few (piece_fits c.in-Ok.count (length c.args.buffer.now) c.hear.new.buf c.in-Ok.ensures.within))
    (λ is. piece_some c.in-Ok.count (length c.args.buffer.now) c.hear.new.buf c.hear.auto.buf c.in-Ok.ensures.within c.if-count-eq0.false) refl (no_end c.in-Ok.count (length c.args.buffer.now) c.if-count-eq0.false) c.in-Ok.ensures.hears at in
    c.answer_piece.ensures.over first state heard end taken none over here
