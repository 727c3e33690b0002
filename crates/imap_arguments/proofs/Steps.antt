-- What holds of all that is read, step by step.
use Rattle.std.proofs.Common.{ℕ, Bool, true, false, List, ◌≡◌, Option, Some, Ok, Err, IfOk, IfSome, if◌then◌else◌, refl, subst}
use Rattle.imap_arguments.specs.Readings.{Read, ◌>>=◌}

pub read_then : {A B : Type 0} (P : A → Type 0) (Q : B → Type 0) (read : Read A) (next : A → Read B) → IfOk read P → ((x : A) → P x → IfOk (next x) Q) → IfOk (read >>= next) Q
read_then P Q (Ok x) next first so = so x first
read_then P Q (Err reason) next first so = tt

-- where nothing is asked of what is read first
pub any_then : {A B : Type 0} (Q : B → Type 0) (read : Read A) (next : A → Read B) → ((x : A) → IfOk (next x) Q) → IfOk (read >>= next) Q
any_then Q (Ok x) next so = so x
any_then Q (Err reason) next so = tt

pub read_if : {A : Type 0} (P : A → Type 0) (test : Bool) (one other : Read A) → IfOk one P → IfOk other P → IfOk (if test then one else other) P
read_if P true one other left right = left
read_if P false one other left right = right

-- where the test is known behind it
pub read_if_so : {A : Type 0} (P : A → Type 0) (test : Bool) (one other : Read A) → (test ≡ true → IfOk one P) → (test ≡ false → IfOk other P) → IfOk (if test then one else other) P
read_if_so P true one other left right = left refl
read_if_so P false one other left right = right refl

-- a choice as recursive readers make it
abbrev pub chosen : {A : Type 0} → Bool → Read A → Read A → Read A
chosen {A = A} test one other = elim test as (λ _. Read A) [ true ↦ one | false ↦ other ]

pub read_chosen : {A : Type 0} (P : A → Type 0) (test : Bool) (one other : Read A) → IfOk one P → IfOk other P → IfOk (chosen test one other) P
read_chosen P true one other left right = left
read_chosen P false one other left right = right

-- where only the value is changed
pub same_rest : {A B : Type 0} (P : List ℕ → Type 0) (f : A → B) (read : Read (A × List ℕ)) → IfOk read (λ x. P x.1) → IfOk {T = B × List ℕ} (read >>= λ x. Ok (f x.0, x.1)) (λ x. P x.1)
same_rest P f (Ok x) left = left
same_rest P f (Err reason) left = tt

-- what holds of all that is read, of a value that is read
pub of_read : {A : Type 0} (P : A → Type 0) (read : Read A) (x : A) → IfOk read P → read ≡ Ok x → P x
of_read P read x all is = subst (λ r. IfOk r P) is all

-- two facts of what is read
pub read_both : {A : Type 0} (P Q : A → Type 0) (read : Read A) → IfOk read P → IfOk read Q → IfOk read (λ x. P x × Q x)
read_both P Q (Ok x) one other = (one, other)
read_both P Q (Err reason) one other = tt

-- a value that is chosen among several
pub some_if : {A : Type 0} (P : A → Type 0) (test : Bool) (value : A) (other : Option A) → P value → IfSome other P → IfSome (if test then Some value else other) P
some_if P true value other one rest = one
some_if P false value other one rest = rest
