use Rattle.std.proofs.Common.{◌-◌, ◌∙◌, Ok, ap, sym, arith, length}
use Rattle.imap_arguments.specs.Flags.{flag_at}
use Rattle.imap_arguments.proofs.Exits.{fails_so, gives_from}
use Rattle.imap_arguments.proofs.Lists.{list_kept, list_ends, list_fails}
use Rattle.imap_arguments.proofs.flag.flags_at.Goals as goal

pub returns-in_err-behind : goal.returns-in_err-behind
returns-in_err-behind c =
    let n = length c.args.bytes.now - c.loop.counter in
    gives_from _ c.in_err-behind.field-0.0 c.from_residual.result _ c.from_residual.ensures.1
    (fails_so c.in_err-behind.field-0.0 _ _ c.in_err-behind.ensures
    (λ reason read. sym c.loop.invariant ∙ list_fails 32 flag_at n (n - 1) _ c.loop.rest.now reason (omega arith) read))

pub returns-then-not-begins : goal.returns-then-not-begins
returns-then-not-begins c =
    let n = length c.args.bytes.now - c.loop.counter in
    sym c.loop.invariant ∙ list_ends 32 flag_at n (n - 1) _ c.loop.rest.now _ (omega arith) c.in_ok-behind.ensures (sym c.if-not-begins.ensures)
    ∙ ap (λ words. Ok (record { flags = c.flag_at.new.flags; words = words }, c.in_ok-behind.behind.now)) (sym c.of-words.ensures)

pub loop-preserved : goal.loop-preserved
loop-preserved c =
    list_kept 32 flag_at (length c.args.bytes.now) c.loop.counter _ (record { flags = c.flag_at.new.flags; words = c.flag_at.new.words.items }) c.loop.rest.now c.in_ok-behind.behind.now _ c.loop-test.true c.in_ok-behind.ensures
    (sym c.if-not-begins.ensures) c.loop.invariant
