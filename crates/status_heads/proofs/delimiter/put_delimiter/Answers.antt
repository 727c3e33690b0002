use Rattle.std.proofs.Common.{refl, ap, ◌∙◌}
use Rattle.mail_fields.specs.DelimiterLine.{delimiter_stamp}
use Rattle.mail_fields.specs.Stamps.{parts_of}
use Rattle.status_heads.proofs.DelimiterBack.{line-is, stamp_back}
use Rattle.status_heads.proofs.delimiter.put_delimiter.Goals as goal

pub returns-clause-text : goal.returns-clause-text
returns-clause-text c =
    line-is c.args.stamp.day c.args.stamp.second _ _ _ _ _ refl c.put_from_date.ensures.width c.put_from_date.ensures.text
    c.in_ok-line.ensures.items c.in_ok-extend_from_slice.ensures.items c.in_ok-extend_from_slice-2.ensures.items

pub returns-clause-read : goal.returns-clause-read
returns-clause-read c =
    let line = line-is c.args.stamp.day c.args.stamp.second _ _ _ _ _ refl c.put_from_date.ensures.width c.put_from_date.ensures.text
    c.in_ok-line.ensures.items c.in_ok-extend_from_slice.ensures.items c.in_ok-extend_from_slice-2.ensures.items in
    ap delimiter_stamp line ∙ stamp_back c.args.stamp.day c.args.stamp.second (parts_of c.args.stamp) c.put_from_date.ensures.width c.put_from_date.ensures.date
