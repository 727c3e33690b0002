-- Part numbers one by one.
use Rattle.std.proofs.Common.{ℕ, suc, ◌+◌, ◌-◌, ◌<◌, Bool, true, false, List, [], ◌∷◌, ◌++◌, ◌≡◌, Ok, Err, arith, sym, ◌∙◌, ap, take, drop, length}
use Rattle.imap_arguments.specs.Readings.{Read, ◌>>=◌}
use Rattle.imap_arguments.specs.Tokens.{begins}
use Rattle.imap_arguments.specs.Numbers.{nonzero_at}
use Rattle.imap_arguments.specs.Sections.{begins_digit, PartNumbers, parts_from}
use Rattle.imap_arguments.specs.declared.reason.Reason.{Reason}
use Rattle.imap_arguments.proofs.Exits.{all_behind}

abbrev after_number : ℕ → List ℕ → ℕ × List ℕ → Bool → Read PartNumbers
after_number n before number dot = elim dot as (λ _. Read PartNumbers) [
  | true ↦ parts_from n (before ++ number.0 ∷ []) (drop 1 number.1)
  | false ↦ Ok (record { numbers = before ++ number.0 ∷ []; rest = number.1; word = false })
]

abbrev at_digit : ℕ → List ℕ → List ℕ → Bool → Read PartNumbers
at_digit n before bytes digit = elim digit as (λ _. Read PartNumbers) [
  | true ↦ nonzero_at bytes >>= λ number. after_number n before number (begins 46 number.1)
  | false ↦ Ok (record { numbers = before; rest = bytes; word = true })
]

one_less : (n m : ℕ) (before bytes : List ℕ) → n ≡ m + 1 → parts_from n before bytes ≡ at_digit m before bytes (begins_digit bytes)
one_less n m before bytes is =
    let next : n ≡ suc m = omega arith in ap (λ k. parts_from k before bytes) next

pub no_number : (n m : ℕ) (before bytes : List ℕ) → n ≡ m + 1 → begins_digit bytes ≡ false → parts_from n before bytes ≡ Ok (record { numbers = before; rest = bytes; word = true })
no_number n m before bytes is digit = one_less n m before bytes is ∙ ap (at_digit m before bytes) digit

pub bad_number : (n m : ℕ) (before bytes : List ℕ) (reason : Reason) → n ≡ m + 1 → begins_digit bytes ≡ true → nonzero_at bytes ≡ Err reason → parts_from n before bytes ≡ Err reason
bad_number n m before bytes reason is digit read =
    one_less n m before bytes is ∙ ap (at_digit m before bytes) digit ∙ ap (λ r. r >>= λ number. after_number m before number (begins 46 number.1)) read

at_number : (n m : ℕ) (before bytes : List ℕ) (number : ℕ × List ℕ) (dot : Bool) → n ≡ m + 1 → begins_digit bytes ≡ true → nonzero_at bytes ≡ Ok number → begins 46 number.1 ≡ dot
    → parts_from n before bytes ≡ after_number m before number dot
at_number n m before bytes number dot is digit read dotted =
    one_less n m before bytes is ∙ ap (at_digit m before bytes) digit ∙ ap (λ r. r >>= λ number. after_number m before number (begins 46 number.1)) read
    ∙ ap (after_number m before number) dotted

pub last_number : (n m : ℕ) (before bytes : List ℕ) (number : ℕ × List ℕ) → n ≡ m + 1 → begins_digit bytes ≡ true → nonzero_at bytes ≡ Ok number → begins 46 number.1 ≡ false
    → parts_from n before bytes ≡ Ok (record { numbers = before ++ number.0 ∷ []; rest = number.1; word = false })
last_number n m before bytes number is digit read dotted = at_number n m before bytes number false is digit read dotted

pub parts_kept : (all counter : ℕ) (before next bytes behind : List ℕ) (number : ℕ) (whole : Read PartNumbers) → counter < all → begins_digit bytes ≡ true → nonzero_at bytes ≡ Ok (number, behind)
    → begins 46 behind ≡ true → next ≡ before ++ number ∷ [] → parts_from (all - counter) before bytes ≡ whole
    → parts_from (all - (counter + 1)) next (take (length behind - 1) (drop 1 behind)) ≡ whole
parts_kept all counter before next bytes behind number whole within digit read dotted pushed is =
    let less : all - (counter + 1) ≡ all - counter - 1 = omega arith in
    ap (λ m. parts_from m next (take (length behind - 1) (drop 1 behind))) less
    ∙ ap (λ rest. parts_from (all - counter - 1) next rest) (all_behind behind 1)
    ∙ ap (λ numbers. parts_from (all - counter - 1) numbers (drop 1 behind)) pushed
    ∙ sym (at_number (all - counter) (all - counter - 1) before bytes (number, behind) true (omega arith) digit read dotted) ∙ is
