use Rattle.std.proofs.Common.{Ok, take, flat_map}
use Rattle.imap_reply.proofs.line.put_all.Given as goal

abbrev pub invariant-loop-text : goal.invariant-loop-text
invariant-loop-text g l = g.S.Sink.puts (flat_map (λ t. t.now) (take l.text-index l.texts)) (Ok tt) l.fn.out l.out l.fn.host l.host
