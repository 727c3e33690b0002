use Rattle.std.proofs.Common.{◌+◌, ◌++◌, codes, take, drop, flat_map}
use Rattle.imap_reply.proofs.Steps.{stops_at, flat_item}
use Rattle.imap_reply.proofs.piece.put_behind_spaces.Goals as goal

pub returns-in_err-put_behind : goal.returns-in_err-put_behind
returns-in_err-put_behind g c =
    stops_at g.S.Sink.puts g.met.S.Sink.is_sink (flat_map (λ t. codes " " ++ g.T.Piece.text t) (take c.loop-text.text-index c.args.texts.now)) _ (flat_map (λ t. codes " " ++ g.T.Piece.text t) (drop (c.loop-text.text-index + 1) c.args.texts.now))
    _ c.in_err-put_behind.field-0.0 c.from_residual.result _ _ _ _ _ _
    c.from_residual.ensures.1 c.loop-text.invariant c.in_err-put_behind.ensures
    (flat_item (λ t. codes " " ++ g.T.Piece.text t) c.args.texts.now c.loop-text.text-index c.text-item.result c.loop-text-test.true c.text-item.is)
