use Rattle.std.proofs.Common.{◌++◌, codes, map}
use Rattle.imap_reply.specs.Texts.{spaced, name_text, count_text}
use Rattle.imap_reply.proofs.Lines.{status_pieces}
use Rattle.imap_reply.proofs.Steps.{puts_two, stops_first}
use Rattle.imap_reply.proofs.put.put_status.Goals as goal

pub returns-in_err-put_named : goal.returns-in_err-put_named
returns-in_err-put_named g c =
    stops_first g.S.Sink.puts g.met.S.Sink.is_sink (codes "* STATUS " ++ (name_text c.args.name.now ++ codes " (")) (spaced (map count_text c.args.counts.now) ++ codes ")\r\n") _ c.in_err-put_named.field-0.0 c.from_residual.result _ _ _ _
    c.from_residual.ensures.1 c.in_err-put_named.ensures (status_pieces (name_text c.args.name.now) (spaced (map count_text c.args.counts.now)))

pub returns : goal.returns
returns g c =
    puts_two g.S.Sink.puts g.met.S.Sink.is_sink (codes "* STATUS " ++ (name_text c.args.name.now ++ codes " (")) _ _ c.put_list.result _ _ _ _ _ _
    c.in_ok-put_named.ensures c.put_list.ensures (status_pieces (name_text c.args.name.now) (spaced (map count_text c.args.counts.now)))
