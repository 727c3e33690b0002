use Rattle.std.proofs.Common.{◌-◌, ◌∙◌, Ok, false, ap, sym, arith, length}
use Rattle.imap_arguments.proofs.Exits.{fails_so, gives_from}
use Rattle.imap_arguments.proofs.PartSteps.{no_number, bad_number, last_number, parts_kept}
use Rattle.imap_arguments.proofs.section.parts_at.Goals as goal

pub returns-then-not-begins_digit : goal.returns-then-not-begins_digit
returns-then-not-begins_digit c =
    let n = length c.args.bytes.now - c.loop.counter in
    sym c.loop.invariant ∙ no_number n (n - 1) c.loop.numbers.items c.loop.rest.now (omega arith) (sym c.if-not-begins_digit.ensures)

pub returns-in_err-number : goal.returns-in_err-number
returns-in_err-number c =
    let n = length c.args.bytes.now - c.loop.counter in
    gives_from _ c.in_err-number.field-0.0 c.from_residual.result _ c.from_residual.ensures.1
    (fails_so c.in_err-number.field-0.0 _ _ c.in_err-number.ensures
    (λ reason read. sym c.loop.invariant ∙ bad_number n (n - 1) c.loop.numbers.items c.loop.rest.now reason (omega arith) (sym c.if-not-begins_digit.ensures) read))

pub returns-then-not-begins : goal.returns-then-not-begins
returns-then-not-begins c =
    let n = length c.args.bytes.now - c.loop.counter in
    sym c.loop.invariant
    ∙ last_number n (n - 1) c.loop.numbers.items c.loop.rest.now _ (omega arith) (sym c.if-not-begins_digit.ensures) c.in_ok-number.ensures (sym c.if-not-begins.ensures)
    ∙ ap (λ numbers. Ok (record { numbers = numbers; rest = c.in_ok-number.behind.now; word = false })) (sym c.in_ok-push.ensures.items)

pub loop-preserved : goal.loop-preserved
loop-preserved c =
    parts_kept (length c.args.bytes.now) c.loop.counter c.loop.numbers.items c.push.new.self.items c.loop.rest.now c.in_ok-number.behind.now c.in_ok-number.number _
    c.loop-test.true (sym c.if-not-begins_digit.ensures) c.in_ok-number.ensures (sym c.if-not-begins.ensures) c.in_ok-push.ensures.items c.loop.invariant
