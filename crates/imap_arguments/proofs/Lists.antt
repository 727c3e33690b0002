-- Lists one by one.
use Rattle.std.proofs.Common.{ℕ, suc, ◌+◌, ◌-◌, ◌<◌, take, length, Bool, true, false, List, ◌≡◌, Ok, Err, arith, sym, ◌∙◌, ap, drop}
use Rattle.imap_arguments.proofs.Exits.{all_behind}
use Rattle.imap_arguments.specs.Readings.{Read, ◌>>=◌}
use Rattle.imap_arguments.specs.Tokens.{begins, separated}
use Rattle.imap_arguments.specs.declared.reason.Reason.{Reason}

-- what follows one of a list
abbrev after_one : {A : Type 0} → ℕ → (A → List ℕ → Read (A × List ℕ)) → ℕ → A × List ℕ → Bool → Read (A × List ℕ)
after_one {A = A} byte one n found more = elim more as (λ _. Read (A × List ℕ)) [ true ↦ separated byte one n found.0 (drop 1 found.1) | false ↦ Ok found ]

one_less : {A : Type 0} (byte : ℕ) (one : A → List ℕ → Read (A × List ℕ)) (n m : ℕ) (before : A) (bytes : List ℕ) → n ≡ m + 1
    → separated byte one n before bytes ≡ (one before bytes >>= λ found. after_one byte one m found (begins byte found.1))
one_less byte one n m before bytes is =
    let next : n ≡ suc m = omega arith in
    ap (λ k. separated byte one k before bytes) next

pub list_goes_on : {A : Type 0} (byte : ℕ) (one : A → List ℕ → Read (A × List ℕ)) (n m : ℕ) (before : A) (bytes : List ℕ) (found : A × List ℕ) → n ≡ m + 1
    → one before bytes ≡ Ok found → begins byte found.1 ≡ true → separated byte one n before bytes ≡ separated byte one m found.0 (drop 1 found.1)
list_goes_on byte one n m before bytes found is read more =
    one_less byte one n m before bytes is ∙ ap (λ r. r >>= λ f. after_one byte one m f (begins byte f.1)) read ∙ ap (after_one byte one m found) more

pub list_ends : {A : Type 0} (byte : ℕ) (one : A → List ℕ → Read (A × List ℕ)) (n m : ℕ) (before : A) (bytes : List ℕ) (found : A × List ℕ) → n ≡ m + 1
    → one before bytes ≡ Ok found → begins byte found.1 ≡ false → separated byte one n before bytes ≡ Ok found
list_ends byte one n m before bytes found is read more =
    one_less byte one n m before bytes is ∙ ap (λ r. r >>= λ f. after_one byte one m f (begins byte f.1)) read ∙ ap (after_one byte one m found) more

pub list_fails : {A : Type 0} (byte : ℕ) (one : A → List ℕ → Read (A × List ℕ)) (n m : ℕ) (before : A) (bytes : List ℕ) (reason : Reason) → n ≡ m + 1
    → one before bytes ≡ Err reason → separated byte one n before bytes ≡ Err reason
list_fails byte one n m before bytes reason is read =
    one_less byte one n m before bytes is ∙ ap (λ r. r >>= λ f. after_one byte one m f (begins byte f.1)) read

-- one more of a list is read
pub list_kept : {A : Type 0} (byte : ℕ) (one : A → List ℕ → Read (A × List ℕ)) (all counter : ℕ) (before next : A) (bytes behind : List ℕ) (whole : Read (A × List ℕ)) → counter < all
    → one before bytes ≡ Ok (next, behind) → begins byte behind ≡ true → separated byte one (all - counter) before bytes ≡ whole
    → separated byte one (all - (counter + 1)) next (take (length behind - 1) (drop 1 behind)) ≡ whole
list_kept byte one all counter before next bytes behind whole within read more is =
    let less : all - (counter + 1) ≡ all - counter - 1 = omega arith in
    ap (λ m. separated byte one m next (take (length behind - 1) (drop 1 behind))) less
    ∙ ap (λ rest. separated byte one (all - counter - 1) next rest) (all_behind behind 1)
    ∙ sym (list_goes_on byte one (all - counter) (all - counter - 1) before bytes (next, behind) (omega arith) read more) ∙ is
