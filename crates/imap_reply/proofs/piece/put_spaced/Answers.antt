use Rattle.std.proofs.Common.{rules, map}
use Rattle.imap_reply.specs.Texts.{spaced}
use Rattle.imap_reply.proofs.Steps.{puts_two, spaced_one_by_one}
use Rattle.imap_reply.proofs.piece.put_spaced.Goals as goal

pub returns : goal.returns
returns g c =
    puts_two g.S.Sink.puts g.met.S.Sink.is_sink (g.T.Piece.text c.in-Some.first.now) _ (spaced (map g.T.Piece.text c.args.texts.now)) c.put_behind_spaces.result _ _ _ _ _ _
    c.in_ok-put_behind.ensures c.put_behind_spaces.ensures
    (spaced_one_by_one g.T.Piece.text c.args.texts.now c.in-Some.first.now c.in-Some.rest.now (search rules))
