use Rattle.std.proofs.Common.{◌≡◌, length, ap, ◌∙◌}
use Rattle.mail_fields.proofs.DateTexts.{dashed-cells, month-reads, length-day_text}
use Rattle.mail_fields.proofs.imap_date.dashed_date_bytes.Goals as goal

pub returns : goal.returns
returns c =
    let day : length c.day_bytes.result ≡ 2 = ap length c.day_bytes.ensures ∙ length-day_text c.args.date.day in
    let month : length c.month_name.result ≡ 3 = ap length c.month_name.ensures ∙ (month-reads c.args.date.month c.requires.low c.requires.high).1 in
    rw (← c.day_bytes.ensures, ← c.month_name.ensures, c.four_digits.ensures) (dashed-cells c.day_bytes.result c.month_name.result _ _ _ _ day month)
