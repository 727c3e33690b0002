use Rattle.std.proofs.Common.{ap, ◌∙◌, ◌++◌, subst, codes}
use Rattle.imap_reply.specs.Replies.{tagged}
use Rattle.imap_reply.proofs.Steps.{ill_formed_pieces}
use Rattle.imap_reply.proofs.line.put_ill_formed.Goals as goal

pub returns : goal.returns
returns g c =
    subst (λ w. g.S.Sink.puts w c.put_all.result c.args.out.now c.put_all.new.out c.args.host.now c.put_all.new.host)
    (ill_formed_pieces c.args.tag.now c.args.driver.now c.as_bytes-number.result.now ∙ ap (λ n. tagged c.args.tag.now (codes "NO ill-formed " ++ (c.args.driver.now ++ (codes " store after " ++ (n ++ codes " records"))))) (c.as_bytes-number.ensures.value ∙ c.format.ensures.text)) c.put_all.ensures
