-- What the crates above use of units.
use Rattle.std.proofs.Common.{ℕ, Bool, true, false, List, [], ◌∷◌, ◌++◌, ◌≡◌, ◌==◌, ◌&&◌, ◌⊎◌, ◌↔◌, inl, inr, append_assoc, refl, sym, ◌∙◌, ap, map, take, flat_map}
use Rattle.std.proofs.lemmas.List.{append-nil}
use Rattle.command_lines.specs.Stream.{lines_of, units_of, unfinished}
use Rattle.command_lines.specs.Taken.{ends_in_cr}
use Rattle.command_lines.proofs.Bytes.{ends_line, line_ended, rest_after, units_push, rest_push, ends_pushed, both_true, is_number, with_crlf, lines_joined}

-- a stream of no bytes has no units
pub no_units : units_of [] ≡ []
no_units = refl

-- the units of a stream come first in those of a longer one
pub units_first : (piece stream : List ℕ) → (more : List (List ℕ)) × (units_of (stream ++ piece) ≡ units_of stream ++ more)
units_first [] stream = ([], ap units_of (append-nil stream) ∙ sym (append-nil (units_of stream)))
units_first (byte ∷ piece) stream =
    let one = units_push stream byte in
    let below = units_first piece (stream ++ byte ∷ []) in
    let ended = map (take 65536) (line_ended (ends_line byte (unfinished stream)) (unfinished stream)) in
    (ended ++ below.0, ap units_of (sym (append_assoc stream (byte ∷ []) piece)) ∙ below.1 ∙ ap (λ u. u ++ below.0) one ∙ append_assoc (units_of stream) ended below.0)

-- the last byte of a list
last_of : (bytes : List ℕ) → (bytes ≡ []) ⊎ ((front : List ℕ) × (last : ℕ) × (bytes ≡ front ++ last ∷ []))
last_of [] = inl refl
last_of (a ∷ rest) = inr (behind a rest (last_of rest))
  where
    behind : (a : ℕ) (rest : List ℕ) → (rest ≡ []) ⊎ ((front : List ℕ) × (last : ℕ) × (rest ≡ front ++ last ∷ []))
        → (front : List ℕ) × (last : ℕ) × (a ∷ rest ≡ front ++ last ∷ [])
    behind a rest (inl none) = ([], a, ap (λ r. a ∷ r) none)
    behind a rest (inr some) = (a ∷ some.0, some.1, ap (λ r. a ∷ r) some.2)

last_is_cr : (rest : List ℕ) → ends_in_cr rest ≡ true → (front : List ℕ) × (rest ≡ front ++ 13 ∷ [])
last_is_cr [] is = absurd (cc)
last_is_cr (a ∷ []) is = ([], ap (λ n. n ∷ []) (is_number 13 a is))
last_is_cr (a ∷ b ∷ rest) is = let below = last_is_cr (b ∷ rest) is in (a ∷ below.0, ap (λ r. a ∷ r) below.1)

some_bytes : (front : List ℕ) (byte : ℕ) → front ++ byte ∷ [] ≡ [] → ⊥
some_bytes [] byte is = absurd (cc)
some_bytes (a ∷ front) byte is = absurd (cc)

ended : (x : Bool) (byte : ℕ) (rest : List ℕ) → rest_after x byte rest ≡ [] → x ≡ true
ended true byte rest none = refl
ended false byte rest none = absurd (some_bytes rest byte none)

behind_crlf : (stream front : List ℕ) (byte : ℕ) → stream ≡ front ++ byte ∷ [] → unfinished stream ≡ [] → (lines : List ℕ) × (stream ≡ lines ++ 13 ∷ 10 ∷ [])
behind_crlf stream front byte is none =
    let rest = unfinished front in
    let both = both_true (ends_in_cr rest) (byte == 10) (ended (ends_line byte rest) byte rest (sym (rest_push front byte) ∙ ap unfinished (sym is) ∙ none)) in
    let cr = last_is_cr rest both.0 in
    let lines = flat_map with_crlf (lines_of front) in (
      lines ++ cr.0,
      is ∙ ap (λ b. front ++ b ∷ []) (is_number 10 byte both.1)
          ∙ ap (λ f. f ++ 10 ∷ []) (sym (lines_joined front) ∙ ap (λ r. lines ++ r) cr.1 ∙ sym (append_assoc lines cr.0 (13 ∷ [])))
          ∙ append_assoc (lines ++ cr.0) (13 ∷ []) (10 ∷ []),
    )

rest_none : (stream : List ℕ) → unfinished stream ≡ [] → (stream ≡ []) ⊎ ((lines : List ℕ) × (stream ≡ lines ++ 13 ∷ 10 ∷ []))
rest_none stream none = cases (last_of stream)
  where
    cases : (stream ≡ []) ⊎ ((front : List ℕ) × (last : ℕ) × (stream ≡ front ++ last ∷ [])) → (stream ≡ []) ⊎ ((lines : List ℕ) × (stream ≡ lines ++ 13 ∷ 10 ∷ []))
    cases (inl empty) = inl empty
    cases (inr some) = inr (behind_crlf stream some.0 some.1 some.2 none)

rest_behind_crlf : (lines : List ℕ) → unfinished (lines ++ 13 ∷ 10 ∷ []) ≡ []
rest_behind_crlf lines =
    let cr : unfinished (lines ++ 13 ∷ []) ≡ unfinished lines ++ 13 ∷ [] = rest_push lines 13 ∙ ap (λ x. rest_after x 13 (unfinished lines)) (and_false (ends_in_cr (unfinished lines))) in
    let ends : ends_line 10 (unfinished (lines ++ 13 ∷ [])) ≡ true = ap (λ x. x && true) (ap ends_in_cr cr ∙ ends_pushed (unfinished lines) 13) in
    ap unfinished (sym (append_assoc lines (13 ∷ []) (10 ∷ []))) ∙ rest_push (lines ++ 13 ∷ []) 10 ∙ ap (λ x. rest_after x 10 (unfinished (lines ++ 13 ∷ []))) ends
  where
    and_false : (x : Bool) → x && false ≡ false
    and_false true = refl
    and_false false = refl

-- nothing is unfinished exactly where the stream is empty or ends in a CRLF
pub at_rest_where : (stream : List ℕ) → (unfinished stream ≡ []) ↔ ((stream ≡ []) ⊎ ((lines : List ℕ) × (stream ≡ lines ++ 13 ∷ 10 ∷ [])))
at_rest_where stream = (rest_none stream, back)
  where
    back : (stream ≡ []) ⊎ ((lines : List ℕ) × (stream ≡ lines ++ 13 ∷ 10 ∷ [])) → unfinished stream ≡ []
    back (inl empty) = ap unfinished empty
    back (inr some) = ap unfinished some.1 ∙ rest_behind_crlf some.0
