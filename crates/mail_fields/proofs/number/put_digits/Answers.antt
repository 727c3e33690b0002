use Rattle.std.proofs.Common.{◌∙◌, arith}
use Rattle.mail_fields.proofs.Digits.{put-start, put-digit, front-written, put-end}
use Rattle.mail_fields.proofs.number.put_digits.Goals as goal

pub loop-left-init : goal.loop-left-init
loop-left-init c = record {
  within = omega arith;
  text = put-start c.args.buf.now c.args.place c.args.base c.args.width c.args.n;
}

pub loop-left-preserved : goal.loop-left-preserved
loop-left-preserved c = record {
  within = omega arith;
  text = put-digit c.loop-left.buf c.args.place c.loop-left.left c.args.base c.loop-left.rest c.digit_byte.result (omega arith) (omega arith) c.digit_byte.ensures ∙ c.loop-left.invariant.text;
}

pub returns-clause-read : goal.returns-clause-read
returns-clause-read c =
    let text = put-end c.loop-left.buf _ c.args.place c.loop-left.left c.args.base c.loop-left.rest (omega arith) c.loop-left.invariant.text in
    rw text (front-written c.args.base c.args.width c.args.n c.args.place c.args.buf.now c.requires.low c.requires.high c.requires.fits c.requires.room)
