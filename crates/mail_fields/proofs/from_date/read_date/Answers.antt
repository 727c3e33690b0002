use Rattle.std.proofs.Common.{sym, ◌∙◌, ap, cond, None, arith}
use Rattle.mail_fields.specs.FromDate.{from_date_of, stamp_in_frame}
use Rattle.mail_fields.proofs.DateLengths.{short-date}
use Rattle.mail_fields.proofs.from_date.read_date.Goals as goal
use Rattle.mail_fields.proofs.from_date.read_date.Goals.{else-date-ge21-via-then-date-ge21+else-has_frame, else-date-ge21-via-else-date-ge21}

pub returns-else-date-ge21 : goal.returns-else-date-ge21
unfolding from_date_of
returns-else-date-ge21 c =
    elim c.else-date-ge21.branch [
      | else-date-ge21-via-then-date-ge21+else-has_frame w ↦
          ap (λ test. cond test (stamp_in_frame c.args.date.now) None) (sym w.has_frame.ensures ∙ w.if-has_frame.false)
      | else-date-ge21-via-else-date-ge21 w ↦ short-date c.args.date.now (omega arith)
    ]
