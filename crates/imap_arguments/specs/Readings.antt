-- What reading gives: a value and what stands behind it, or the first reason against the text, from the left.
use Rattle.std.specs.Prelude.{◌≡◌, Result, Ok, Err}
use Rattle.imap_arguments.specs.declared.reason.Reason.{Reason}
use Rattle.imap_arguments.specs.declared.reason.Refused.{Refused}
use Rattle.imap_arguments.specs.declared.reason.Refused.TheVariants.{Memory, Bad}

abbrev pub Read : Type 0 → Type 0
Read A = Result A Reason

-- one reading behind another
infixl 10 ◌>>=◌
abbrev pub ◌>>=◌ : {A B : Type 0} → Result A Reason → (A → Result B Reason) → Result B Reason
(Ok x) >>= f = f x
(Err reason) >>= f = Err reason

-- a function answers what reading gives, seen by `view`, unless memory ran out
abbrev pub Fails : {Y : Type 0} → Refused → Result Y Reason → Type 0
Fails Memory read = Unit {0}
Fails (Bad reason) read = read ≡ Err reason

abbrev pub Gives : {X Y : Type 0} → (X → Y) → Result X Refused → Result Y Reason → Type 0
Gives view (Ok x) read = read ≡ Ok (view x)
Gives view (Err refused) read = Fails refused read
