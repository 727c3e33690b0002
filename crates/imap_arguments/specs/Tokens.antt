-- Bytes and tokens of a command (RFC 3501, section 9).
use Rattle.std.specs.Prelude.{ℕ, zero, suc, Bool, true, false, List, [], ◌∷◌, ◌==◌, if◌then◌else◌, Ok, Err, take, drop}
use Rattle.std.specs.List.{prefix_len}
use Rattle.mail_fields.specs.Keyword.{is_atom}
use Rattle.imap_arguments.specs.Readings.{Read, ◌>>=◌}
use Rattle.imap_arguments.specs.declared.reason.Reason.{Reason}
use Rattle.imap_arguments.specs.declared.reason.Reason.TheVariants.{Missing, NotUnderstood}

-- something is missing where the command ends, and not understood where other bytes stand
abbrev pub broken_off : List ℕ → Reason
broken_off [] = Missing
broken_off (b ∷ rest) = NotUnderstood

-- whether a byte stands at the front
abbrev pub begins : ℕ → List ℕ → Bool
begins byte [] = false
begins byte (b ∷ rest) = b == byte

-- a byte that must stand at the front, as the space before an argument
abbrev pub byte_at : ℕ → List ℕ → Read (List ℕ)
byte_at byte bytes = if begins byte bytes then Ok (drop 1 bytes) else Err (broken_off bytes)

-- the longest run of atom bytes, of which one at least must stand there
unfoldable pub token_at : List ℕ → Read (List ℕ × List ℕ)
token_at bytes =
    let width = prefix_len is_atom bytes in
    if width == 0 then Err (broken_off bytes) else Ok (take width bytes, drop width bytes)

-- one or more of a kind with a byte between them, at most so many; `one` reads one behind those that are read
abbrev pub separated : {A : Type 0} → ℕ → (A → List ℕ → Read (A × List ℕ)) → ℕ → A → List ℕ → Read (A × List ℕ)
separated byte one zero before bytes = Err (broken_off bytes)
separated {A = A} byte one (suc n) before bytes = one before bytes >>= λ found.
    elim (begins byte found.1) as (λ _. Read (A × List ℕ)) [ true ↦ separated byte one n found.0 (drop 1 found.1) | false ↦ Ok found ]
