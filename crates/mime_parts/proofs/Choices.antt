-- What a clause says of an option that is known.
use Rattle.std.proofs.Common.{◌≡◌, Option, Some, None, Result, Ok, Err, IfOk, IfSome, IfNone, sym, subst}
use Rattle.std.proofs.lemmas.Option.{none-some, same_Some}

pub none-left : {X : Type 0} (P : Type 0) (o : Option X) → IfNone o P → o ≡ None → P
none-left P None says is = says
none-left P (Some x) says is = absurd (none-some x (sym is))

pub some-left : {X : Type 0} (P : X → Type 0) (o : Option X) (x : X) → IfSome o P → o ≡ Some x → P x
some-left P None x says is = absurd (none-some x is)
some-left P (Some y) x says is = subst P (same_Some y x is) says

pub ok-map : {X E : Type 0} (P Q : X → Type 0) (result : Result X E) → ((x : X) → P x → Q x) → IfOk result P → IfOk result Q
ok-map P Q (Ok x) turn says = turn x says
ok-map P Q (Err e) turn says = tt
