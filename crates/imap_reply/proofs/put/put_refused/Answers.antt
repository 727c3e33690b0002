use Rattle.std.proofs.Common.{◌++◌, ◌∙◌, ap, sym, subst, codes, decimal}
use Rattle.imap_reply.specs.Replies.{tagged}
use Rattle.imap_reply.specs.Texts.{no_text}
use Rattle.imap_reply.proofs.put.put_refused.Goals as goal

pub returns-in-IllFormed : goal.returns-in-IllFormed
returns-in-IllFormed g c =
    subst (λ w. g.S.Sink.puts (tagged c.args.tag.now (codes "NO " ++ w)) c.put_ill_formed.result c.args.out.now c.put_ill_formed.new.out c.args.host.now c.put_ill_formed.new.host)
    (ap (λ d. codes "ill-formed " ++ (d ++ (codes " store after " ++ (decimal c.in-IllFormed.records ++ codes " records")))) c.driver_word.ensures ∙ ap no_text (sym c.in-IllFormed.is))
    c.put_ill_formed.ensures
