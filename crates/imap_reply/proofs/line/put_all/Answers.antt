use Rattle.std.proofs.Common.{◌+◌, take, drop, flat_map}
use Rattle.imap_reply.proofs.Steps.{stops_at, flat_at}
use Rattle.imap_reply.proofs.line.put_all.Goals as goal

pub returns-in_err-put : goal.returns-in_err-put
returns-in_err-put g c =
    stops_at g.S.Sink.puts g.met.S.Sink.is_sink (flat_map (λ t. t.now) (take c.loop-text.text-index c.args.texts.now)) _ (flat_map (λ t. t.now) (drop (c.loop-text.text-index + 1) c.args.texts.now)) _ c.in_err-put.field-0.0 c.from_residual.result _ _ _ _ _ _
    c.from_residual.ensures.1 c.loop-text.invariant c.in_err-put.ensures
    (flat_at (λ t. t.now) c.args.texts.now c.loop-text.text-index _ c.loop-text-test.true)
