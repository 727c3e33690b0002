-- What a function answers where a reader that it calls gives nothing.
use Rattle.std.proofs.Common.{ℕ, ◌-◌, List, ◌≡◌, Result, Ok, Err, arith, sym, subst, take, drop, length}
use Rattle.std.specs.Result.{IsErrAnd}
use Rattle.std.proofs.lemmas.Grind.{common_steps}
use Rattle.imap_arguments.specs.Readings.{Fails, Gives}
use Rattle.imap_arguments.specs.declared.reason.Reason.{Reason}
use Rattle.imap_arguments.specs.declared.reason.Refused.{Refused}
use Rattle.imap_arguments.specs.declared.reason.Refused.TheVariants.{Memory, Bad}

pub fails_so : {Y Z : Type 0} (refused : Refused) (read : Result Y Reason) (whole : Result Z Reason) → Fails refused read
    → ((reason : Reason) → read ≡ Err reason → whole ≡ Err reason) → Fails refused whole
fails_so Memory read whole fails so = tt
fails_so (Bad reason) read whole fails so = so reason fails

pub gives_from : {X Y : Type 0} (view : X → Y) (refused : Refused) (result : Result X Refused) (whole : Result Y Reason) → IsErrAnd result (λ e. e ≡ refused)
    → Fails refused whole → Gives view result whole
gives_from view refused (Ok x) whole is fails = absurd is
gives_from view refused (Err e) whole is fails = subst (λ r. Fails r whole) (sym is) fails

pub all_behind : (bytes : List ℕ) (n : ℕ) → take (length bytes - n) (drop n bytes) ≡ drop n bytes
all_behind bytes n = grind (arith, common_steps)
