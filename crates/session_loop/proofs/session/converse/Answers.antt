use Rattle.std.proofs.Common.{◌≡◌, ◌≤◌, ◌+◌, ◌-◌, ◌++◌, inr, List, ℕ, false, length, take, drop, sym, ◌∙◌, ap, arith, length-append}
use Rattle.std.proofs.lemmas.Grind.{common_steps}
use Rattle.std.proofs.lemmas.List.{length-take}
use Rattle.session_loop.specs.Instants.{most_heard}
use Rattle.session_loop.specs.Outcome.{regular_end, is_failed_turn}
use Rattle.session_loop.proofs.session.converse.Goals as goal

counted : (heard piece : List ℕ) (left count most : ℕ) → length heard + left ≡ most → length piece ≡ count → count ≤ left → length (heard ++ piece) + (left - count) ≡ most
counted heard piece left count most is long within = rw (length-append heard piece) (omega arith)

taken_all : (count : ℕ) (bytes : List ℕ) → count ≤ length bytes → length (take count bytes) ≡ count
taken_all count bytes within = grind (arith, common_steps)

none_left : (heard : List ℕ) (left most : ℕ) → length heard + left ≡ most → left ≤ 0 → length heard ≡ most
none_left heard left most is none = omega arith

back : (n room : ℕ) (piece buffer : List ℕ) → length piece ≡ length (take room buffer) → length buffer ≡ n → room ≤ length buffer → length (piece ++ drop room buffer) ≡ n
back n room piece buffer same long within = rw (length-append piece (drop room buffer), same) (grind (arith, common_steps))

in_piece : (count room : ℕ) (piece buffer : List ℕ) → length piece ≡ length (take room buffer) → count ≤ length (take room buffer) → count ≤ length piece
in_piece count room piece buffer same within = rw same within

in_left : (count room left : ℕ) (buffer : List ℕ) → count ≤ length (take room buffer) → room ≤ left → count ≤ left
in_left count room left buffer within fits = grind (arith, common_steps)

-- a turn hears no more than is left
room_few : (heard : List ℕ) (left room : ℕ) (buffer : List ℕ) → length heard + left ≡ most_heard → room ≤ left → length heard + length (take room buffer) ≤ most_heard
room_few heard left room buffer is fits = let few = length-take room buffer in omega (arith, few)

pub loop-left-preserved : goal.loop-left-preserved
loop-left-preserved g c =
    let inv = c.loop-left.invariant in
    let none_failed = c.turn.ensures.cause.regular (ap is_failed_turn c.in-Goes.is) in
    let within = c.turn.ensures.within c.in-Goes.count c.in-Goes.is in
    let piece = take c.in-Goes.count c.turn.new.buffer in
    record {
      room = back (length c.args.buffer.now) c.room_of-room.result c.turn.new.buffer c.loop-left.buffer c.turn.auto.buffer inv.room c.room_of-room.ensures.most;
      here = c.turn.ensures.stands c.in-Goes.count c.in-Goes.is;
      served = λ empty. let was = inv.served empty in
          let now = c.turn.ensures.taken was.0 c.in-Goes.count was.1 was.2 c.in-Goes.is in (
            was.0 ++ piece,
            now.0,
            now.1,
            counted was.0 piece c.loop-left.left c.in-Goes.count _ was.3 (taken_all c.in-Goes.count c.turn.new.buffer (in_piece c.in-Goes.count c.room_of-room.result c.turn.new.buffer c.loop-left.buffer c.turn.auto.buffer within.1)) (in_left c.in-Goes.count c.room_of-room.result c.loop-left.left c.loop-left.buffer within.1 c.room_of-room.ensures.left),
            λ first state at. c.turn.ensures.goes first state was.0 c.in-Goes.count was.1 was.2 (room_few was.0 c.loop-left.left c.room_of-room.result c.loop-left.buffer was.3 c.room_of-room.ensures.left) c.in-Goes.is (was.4 first state at),
            λ first state one at. c.turn.ensures.instants first state was.0 was.1 was.2 (room_few was.0 c.loop-left.left c.room_of-room.result c.loop-left.buffer was.3 c.room_of-room.ensures.left) (was.5 first state one at) (was.4 first state at),
          );
      hear = none_failed.hear ∙ inv.hear;
      file = none_failed.file ∙ inv.file;
      say = none_failed.say ∙ inv.say;
    }

pub returns-in-Over-clause-instants : goal.returns-in-Over-clause-instants
returns-in-Over-clause-instants g c first state empty one at =
    let was = c.loop-left.invariant.served empty in
    c.turn.ensures.instants first state was.0 was.1 was.2 (room_few was.0 c.loop-left.left c.room_of-room.result c.loop-left.buffer was.3 c.room_of-room.ensures.left) (was.5 first state one at) (was.4 first state at)

pub returns-in-Over-clause-ends : goal.returns-in-Over-clause-ends
returns-in-Over-clause-ends g c first state empty at =
    let was = c.loop-left.invariant.served empty in
    c.turn.ensures.over first state was.0 c.in-Over.end was.1 was.2 (room_few was.0 c.loop-left.left c.room_of-room.result c.loop-left.buffer was.3 c.room_of-room.ensures.left) c.in-Over.is (was.4 first state at)

pub returns-clause-instants : goal.returns-clause-instants
returns-clause-instants g c first state empty one at = (c.loop-left.invariant.served empty).5 first state one at

pub returns-clause-ends : goal.returns-clause-ends
returns-clause-ends g c first state empty at =
    let was = c.loop-left.invariant.served empty in
    inr (was.0, false, was.4 first state at, ap (λ b. regular_end b false (g.S.Answers.protocol.unfinished was.0)) (sym was.2), none_left was.0 c.loop-left.left _ was.3 c.loop-left-test.false)
