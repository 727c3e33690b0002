-- Where the first space of a text stands.
use Rattle.std.proofs.Common.{◌≡◌, ℕ, List, length, Some, None, arith}
use Rattle.std.specs.List.{position_or_len}
use Rattle.std.proofs.lemmas.Bool.{false_from_ne_true}
use Rattle.std.proofs.lemmas.List.Sums.{position_or_len_is}
use Rattle.memchr.specs.Find.{IsFirstByte, is_byte}
use Rattle.mail_fields.specs.Names.{is_space}

pub space-found : (text : List ℕ) (at : ℕ) → IsFirstByte (is_byte 32) text (Some at) → position_or_len is_space text ≡ at
space-found text at first =
    let before = first.0.before in
    position_or_len_is is_space text at 0 (omega (arith, first.0.high)) (λ k below. false_from_ne_true _ (before k (omega arith) below)) (λ _. first.1)

pub space-none : (text : List ℕ) → IsFirstByte (is_byte 32) text None → position_or_len is_space text ≡ length text
space-none text nowhere =
    position_or_len_is is_space text (length text) 0 (omega arith) (λ k below. false_from_ne_true _ (nowhere k (omega arith) below)) (λ inside. absurd (omega arith))
