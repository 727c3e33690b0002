use Rattle.text_lines.proofs.Lines.{one-line}
use Rattle.mail_fields.proofs.delimiter_line.is_one_line.Goals as goal

pub returns : goal.returns
returns c =
    let first = c.line_length.ensures in
    one-line c.args.line.now c.line_length.result (record { within = first.within; some = first.some; lines = first.lines })
