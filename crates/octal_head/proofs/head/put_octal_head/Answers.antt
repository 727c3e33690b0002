use Rattle.std.proofs.Common.{◌∙◌}
use Rattle.octal_head.specs.Heads.{head_parts}
use Rattle.octal_head.proofs.HeadLines.{head-built, head-reads}
use Rattle.octal_head.proofs.head.put_octal_head.Goals as goal

pub returns-clause-text : goal.returns-clause-text
returns-clause-text c =
    head-built (head_parts c.args.head.now) _ _ _ _ _ _ c.as_bytes.result.now c.mark_digits.result c.line_end.result.now _
    (c.in_ok-line.ensures.items ∙ c.date_bytes.ensures.text)
    c.in_ok-extend_from_slice.ensures.items c.in_ok-extend_from_slice-2.ensures.items c.in_ok-extend_from_slice-3.ensures.items
    c.in_ok-extend_from_slice-4.ensures.items c.in_ok-extend_from_slice-5.ensures.items
    (c.as_bytes.ensures.value ∙ c.format.ensures.text) c.mark_digits.ensures c.line_end.ensures

pub returns-clause-read : goal.returns-clause-read
returns-clause-read c =
    head-reads (head_parts c.args.head.now) c.date_bytes.ensures.width c.date_bytes.ensures.read c.requires.size c.requires.words c.requires.bits
