use Rattle.std.proofs.Common.{◌≡◌, ◌≤◌, ◌+◌, ◌++◌, take, drop}
use Rattle.mail_fields.specs.Numbers.{digits_in}
use Rattle.mail_fields.specs.Texts.{written_at}
use Rattle.mail_fields.proofs.number.put_digits.Given as goal

abbrev pub invariant-loop-left : goal.invariant-loop-left
invariant-loop-left l = record {
  within : l.left ≤ l.width;
  text : take l.place l.buf ++ digits_in l.base l.left l.rest ++ drop (l.place + l.left) l.buf ≡ written_at l.fn.buf l.place (digits_in l.base l.width l.n);
}

abbrev pub decreases-loop-left : goal.decreases-loop-left
decreases-loop-left l = l.left
