use Rattle.std.proofs.Common.{◌≤◌, ◌^◌, sym, arith}
use Rattle.std.proofs.Math.Nat.{mod-eq_of_lt}
use Rattle.std.proofs.Math.Pow.{pow_mono}
use Rattle.mail_types.proofs.keeping.words_below.Goals as goal

pub returns-else-number-lt32 : goal.returns-else-number-lt32
returns-else-number-lt32 c =
    let wide : 2 ^ 32 ≤ 2 ^ c.args.number = pow_mono {i = 32} {j = c.args.number} (omega (arith, c.if-number-lt32.false)) in
    sym (mod-eq_of_lt (omega (arith, wide, c.ranges.words.fits)))
