use Rattle.std.proofs.Common.{Ok, ◌++◌, codes, take, flat_map}
use Rattle.imap_reply.proofs.piece.put_behind_spaces.Given as goal

abbrev pub invariant-loop-text : goal.invariant-loop-text
invariant-loop-text g l = g.S.Sink.puts (flat_map (λ t. codes " " ++ g.T.Piece.text t) (take l.text-index l.texts)) (Ok tt) l.fn.out l.out l.fn.host l.host
