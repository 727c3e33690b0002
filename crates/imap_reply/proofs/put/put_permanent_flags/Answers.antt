use Rattle.std.proofs.Common.{◌++◌, ◌||◌, ◌∙◌, codes}
use Rattle.imap_reply.specs.Texts.{spaced, behind_some, has_some, has_texts, system_flags, text_if}
use Rattle.imap_reply.proofs.Lines.{permanent_pieces, as_they_are}
use Rattle.imap_reply.proofs.Steps.{puts_two, stops_first}
use Rattle.imap_reply.proofs.put.put_permanent_flags.Goals as goal

pub returns-in_err-put_flags : goal.returns-in_err-put_flags
returns-in_err-put_flags g c =
    stops_first g.S.Sink.puts g.met.S.Sink.is_sink (codes "* OK [PERMANENTFLAGS (" ++ spaced (system_flags c.args.flags))
    (behind_some (has_some c.args.flags) c.args.names.now ++ (behind_some (has_some c.args.flags || has_texts c.args.names.now) (text_if c.args.more (codes "\\*")) ++ codes ")] flags kept\r\n"))
    _ c.in_err-put_flags.field-0.0 c.from_residual.result _ _ _ _
    c.from_residual.ensures.1 c.in_err-put_flags.ensures (permanent_pieces c.args.flags c.args.names.now (text_if c.args.more (codes "\\*")))

pub returns : goal.returns
returns g c =
    puts_two g.S.Sink.puts g.met.S.Sink.is_sink (codes "* OK [PERMANENTFLAGS (" ++ spaced (system_flags c.args.flags)) _ _ c.put_list.result _ _ _ _ _ _
    c.in_ok-put_flags.ensures c.put_list.ensures
    ((λ i. (codes "* OK [PERMANENTFLAGS (" ++ spaced (system_flags c.args.flags)) ++ (behind_some (c.has_some.ensures i) (as_they_are c.args.names.now i) ++ c.permanent_end-rest.ensures i))
    ∙ permanent_pieces c.args.flags c.args.names.now (text_if c.args.more (codes "\\*")))
