-- The first colon of a line.
use Rattle.std.proofs.Common.{◌≡◌, ℕ, true, false, Some, None, List, sym, arith}
use Rattle.std.specs.List.{list_any, position_or_len}
use Rattle.std.proofs.lemmas.Bool.{false_from_ne_true}
use Rattle.std.proofs.lemmas.List.Elements.{All-from_get_or}
use Rattle.std.proofs.lemmas.List.Folds.{list_any_none, list_any_at}
use Rattle.std.proofs.lemmas.List.Sums.{position_or_len_is}
use Rattle.memchr.specs.Find.{IsFirstByte, is_byte}
use Rattle.head_fields.specs.Fields.{is_colon}

pub colon-found : (line : List ℕ) (colon : ℕ) → IsFirstByte (is_byte 58) line (Some colon) → list_any is_colon line ≡ true
colon-found line colon first = list_any_at is_colon line colon 0 first.0.high first.1

pub colon-none : (line : List ℕ) → IsFirstByte (is_byte 58) line None → list_any is_colon line ≡ false
colon-none line nowhere =
    list_any_none is_colon line
    (All-from_get_or (λ byte. is_colon byte ≡ false) line 0 (λ k inside. false_from_ne_true _ (nowhere k (omega arith) inside)))

pub colon-place : (line : List ℕ) (colon : ℕ) → IsFirstByte (is_byte 58) line (Some colon) → colon ≡ position_or_len is_colon line
colon-place line colon first =
    let before = first.0.before in
    sym (position_or_len_is is_colon line colon 0 (omega (arith, first.0.high)) (λ k below. false_from_ne_true _ (before k (omega arith) below)) (λ _. first.1))
