use Rattle.std.proofs.Common.{◌≤◌, length, min, take, ⊎_elim, arith}
use Rattle.std.proofs.lemmas.Bool.{cases_lt}
use Rattle.std.proofs.lemmas.List.{length-take}
use Rattle.unix_layout.proofs.Fronts.{long_other}
use Rattle.unix_layout.proofs.front.begins_short.Goals as goal

pub returns-clause-no : goal.returns-clause-no
returns-clause-no c = λ same long inside.
    let line = c.args.line.now in
    let past : min (length line) 1001 ≤ c.loop-long.long = omega (arith, c.min-most.ensures, c.loop-long-test.false) in
    ⊎_elim
    (λ below. c.loop-long.invariant long below)
    (λ above. long_other (take long line) (omega (arith, above, past, inside, length-take long line)))
    (cases_lt long c.loop-long.long)
