use Rattle.std.proofs.Common.{◌-◌, ◌∙◌, sym, arith, length}
use Rattle.imap_syntax.specs.Keys.{add_key, key_at}
use Rattle.imap_arguments.proofs.Exits.{fails_so, gives_from}
use Rattle.imap_arguments.proofs.Lists.{list_kept, list_ends, list_fails}
use Rattle.imap_syntax.proofs.search.inner_keys_at.Goals as goal

pub returns-in_err-behind : goal.returns-in_err-behind
returns-in_err-behind c =
    let n = length c.args.bytes.now - c.loop.counter in
    gives_from _ c.in_err-behind.field-0.0 c.from_residual.result _ c.from_residual.ensures.1
    (fails_so c.in_err-behind.field-0.0 _ _ c.in_err-behind.ensures
    (λ reason read. sym c.loop.invariant ∙ list_fails 32 (add_key (key_at 100)) n (n - 1) _ c.loop.rest.now reason (omega arith) read))

pub returns-then-not-begins : goal.returns-then-not-begins
returns-then-not-begins c =
    let n = length c.args.bytes.now - c.loop.counter in
    sym c.loop.invariant ∙ list_ends 32 (add_key (key_at 100)) n (n - 1) _ c.loop.rest.now _ (omega arith) c.in_ok-behind.ensures (sym c.if-not-begins.ensures)

pub loop-preserved : goal.loop-preserved
loop-preserved c =
    list_kept 32 (add_key (key_at 100)) (length c.args.bytes.now) c.loop.counter _ (record { keys = c.add_key.new.keys.items; literals = c.add_key.new.literals.items }) c.loop.rest.now
    c.in_ok-behind.behind.now _ c.loop-test.true c.in_ok-behind.ensures (sym c.if-not-begins.ensures) c.loop.invariant
