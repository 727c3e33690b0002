use Rattle.std.proofs.Common.{◌∙◌, ap, ◌++◌, codes, decimal}
use Rattle.imap_reply.specs.Texts.{spaced}
use Rattle.imap_reply.proofs.Lines.{fetch_pieces, as_they_are}
use Rattle.imap_reply.proofs.Steps.{puts_two, stops_first}
use Rattle.imap_reply.proofs.put.put_fetch.Goals as goal

pub returns-in_err-put_message_number : goal.returns-in_err-put_message_number
returns-in_err-put_message_number g c =
    stops_first g.S.Sink.puts g.met.S.Sink.is_sink (codes "* " ++ decimal c.args.n) (codes " FETCH (" ++ (spaced c.args.texts.now ++ codes ")\r\n")) _ c.in_err-put_message_number.field-0.0 c.from_residual.result _ _ _ _
    c.from_residual.ensures.1 c.in_err-put_message_number.ensures (fetch_pieces (decimal c.args.n) (spaced c.args.texts.now))

pub returns : goal.returns
returns g c =
    puts_two g.S.Sink.puts g.met.S.Sink.is_sink (codes "* " ++ decimal c.args.n) _ _ c.put_list.result _ _ _ _ _ _
    c.in_ok-put_message_number.ensures c.put_list.ensures (ap (λ ts. (codes "* " ++ decimal c.args.n) ++ (codes " FETCH (" ++ (spaced ts ++ codes ")\r\n"))) (as_they_are c.args.texts.now) ∙ fetch_pieces (decimal c.args.n) (spaced c.args.texts.now))
