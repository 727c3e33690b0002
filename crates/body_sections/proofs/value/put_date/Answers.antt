use Rattle.std.proofs.Common.{◌∙◌, ◌++◌, ap}
use Rattle.mail_fields.specs.Stamps.{parts_of}
use Rattle.mail_fields.specs.ImapDate.{imap_date_text}
use Rattle.structure_text.specs.Strings.{quoted_text}
use Rattle.structure_text.proofs.Writing.{ok-then}
use Rattle.body_sections.proofs.Writing.{whole-written}
use Rattle.body_sections.proofs.value.put_date.Goals as goal

pub returns : goal.returns
returns c =
    let text = imap_date_text (parts_of c.args.stamp) in
    ok-then _ _ c.put_quoted.result (λ is. is ∙ ap (λ t. c.args.out.now.items ++ quoted_text t) (c.put_imap_date.ensures.text ∙ whole-written text c.put_imap_date.ensures.width)) c.put_quoted.ensures
