use Rattle.std.proofs.Common.{◌∙◌, ◌++◌, ap, codes, subst}
use Rattle.imap_reply.proofs.Lines.{flags_pieces, as_they_are}
use Rattle.imap_reply.specs.Texts.{behind_spaces}
use Rattle.imap_reply.proofs.put.put_keywords.Goals as goal

pub returns : goal.returns
returns g c = subst (λ w. g.S.Sink.puts w c.put_list.result c.args.out.now c.put_list.new.out c.args.host.now c.put_list.new.host) (ap (λ ts. codes "* FLAGS (\\Seen \\Answered \\Flagged \\Deleted \\Draft" ++ (behind_spaces ts ++ codes ")\r\n")) (as_they_are c.args.names.now) ∙ flags_pieces c.args.names.now) c.put_list.ensures
