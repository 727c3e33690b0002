use Rattle.std.proofs.Common.{cond, map, ◌∙◌, ap, sym, subst}
use Rattle.imap_reply.specs.Texts.{spaced, behind_spaces}
use Rattle.imap_reply.proofs.Steps.{behind_one_by_one}
use Rattle.imap_reply.proofs.piece.put_texts.Goals as goal

pub returns-then-some : goal.returns-then-some
returns-then-some g c =
    subst (λ w. g.S.Sink.puts w c.put_behind_spaces.result c.args.out.now c.put_behind_spaces.new.out c.args.host.now c.put_behind_spaces.new.host)
    (behind_one_by_one g.T.Piece.text c.args.texts.now ∙ ap (λ b. cond b (behind_spaces (map g.T.Piece.text c.args.texts.now)) (spaced (map g.T.Piece.text c.args.texts.now))) (sym c.if-some.true))
    c.put_behind_spaces.ensures
