-- Numbers digit by digit.
use Rattle.std.proofs.Common.{ℕ, ◌+◌, ◌*◌, ◌-◌, ◌<◌, min, List, [], ◌∷◌, ◌++◌, ◌≡◌, arith, refl, ◌∙◌, ap, take, length, get_or}
use Rattle.std.proofs.lemmas.List.{take_more}
use Rattle.imap_arguments.specs.Numbers.{decimal_value}

-- a digit more
value_push : (digits : List ℕ) (n digit : ℕ) → decimal_value n (digits ++ digit ∷ []) ≡ 10 * decimal_value n digits + (digit - 48)
value_push [] n digit = refl
value_push (first ∷ digits) n digit = value_push digits (10 * n + (first - 48)) digit

-- what is past the limit stays so
pub capped_step : (digits : List ℕ) (i value more : ℕ) → i < length digits → value ≡ min (decimal_value 0 (take i digits)) 4294967296
    → more ≡ 10 * value + (get_or digits i 0 - 48) → min more 4294967296 ≡ min (decimal_value 0 (take (i + 1) digits)) 4294967296
capped_step digits i value more within is are =
    let pushed : decimal_value 0 (take (i + 1) digits) ≡ 10 * decimal_value 0 (take i digits) + (get_or digits i 0 - 48) =
    ap (decimal_value 0) (take_more digits i 0 within) ∙ value_push (take i digits) 0 (get_or digits i 0) in
    omega arith
