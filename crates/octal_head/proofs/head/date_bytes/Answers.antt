use Rattle.std.proofs.Common.{◌∙◌}
use Rattle.mail_fields.specs.ImapDate.{imap_date_text}
use Rattle.mail_fields.specs.Stamps.{parts_of}
use Rattle.mail_fields.proofs.Texts.{whole-written}
use Rattle.octal_head.proofs.HeadLines.{date-stands}
use Rattle.octal_head.proofs.head.date_bytes.Goals as goal

pub returns-clause-text : goal.returns-clause-text
returns-clause-text c = c.put_imap_date.ensures.text ∙ whole-written _ _ c.put_imap_date.ensures.width

pub returns-clause-read : goal.returns-clause-read
returns-clause-read c =
    date-stands c.put_imap_date.new.buf (imap_date_text (parts_of c.args.stamp)) (parts_of c.args.stamp)
    (c.put_imap_date.ensures.text ∙ whole-written _ _ c.put_imap_date.ensures.width) c.put_imap_date.ensures.width c.put_imap_date.ensures.read
