-- What a run of bytes without a line feed does to a stream.
use Rattle.std.proofs.Common.{ℕ, zero, suc, ◌+◌, ◌-◌, ◌<◌, ◌≤◌, Bool, true, false, List, [], ◌∷◌, ◌++◌, ◌≡◌, ◌==◌, ◌&&◌, Some, arith, add-one, append_assoc, refl, sym, ◌∙◌, ap, subst, take, drop, map, length, slice_get, slice_index}
use Rattle.std.proofs.lemmas.List.{append-nil, take_more, take-append-drop}
use Rattle.std.proofs.lemmas.Option.{slice_get_within, get_or_from_slice_get}
use Rattle.std.proofs.Math.Seq.{drop-cons}
use Rattle.std.proofs.lemmas.Grind.{common_steps}
use Rattle.command_lines.specs.Stream.{unfinished, units_of}
use Rattle.command_lines.specs.Taken.{ends_in_cr}
use Rattle.command_lines.proofs.Bytes.{ends_line, rest_after, rest_push, line_ended, units_push, ends_pushed, is_number}

-- all bytes of the run belong to the line that the stream left unfinished
pub record InLine (stream run : List ℕ) : Type 0 where
  pub rest : unfinished (stream ++ run) ≡ unfinished stream ++ run
  pub units : units_of (stream ++ run) ≡ units_of stream

abbrev pub NoLineFeed : List ℕ → Type 0
NoLineFeed [] = Unit {0}
NoLineFeed (byte ∷ run) = ((byte == 10) ≡ false) × NoLineFeed run

pub byte_in_line : (stream : List ℕ) (byte : ℕ) → ends_line byte (unfinished stream) ≡ false → InLine stream (byte ∷ [])
byte_in_line stream byte goes_on = record {
  rest = rest_push stream byte ∙ ap (λ x. rest_after x byte (unfinished stream)) goes_on;
  units = units_push stream byte ∙ ap (λ x. units_of stream ++ map (take 65536) (line_ended x (unfinished stream))) goes_on ∙ append-nil (units_of stream);
}

and_false : (x y : Bool) → y ≡ false → x && y ≡ false
and_false true y is = is
and_false false y is = refl

pub run_in_line : (run stream : List ℕ) → NoLineFeed run → InLine stream run
run_in_line [] stream none = record {
  rest = ap unfinished (append-nil stream) ∙ sym (append-nil (unfinished stream));
  units = ap units_of (append-nil stream);
}
run_in_line (byte ∷ run) stream none =
    let one = byte_in_line stream byte (and_false (ends_in_cr (unfinished stream)) (byte == 10) none.0) in
    let more = run_in_line run (stream ++ byte ∷ []) none.1 in record {
      rest = ap unfinished (sym (append_assoc stream (byte ∷ []) run)) ∙ more.rest ∙ ap (λ rest. rest ++ run) one.rest ∙ append_assoc (unfinished stream) (byte ∷ []) run;
      units = ap units_of (sym (append_assoc stream (byte ∷ []) run)) ∙ more.units ∙ one.units;
    }

not_true : (x : Bool) → (x ≡ true → ⊥) → x ≡ false
not_true true none = absurd (none refl)
not_true false none = refl

-- no line feed stands before place k
pub none_before : (bytes : List ℕ) (k : ℕ) → k ≤ length bytes → ((j : ℕ) → 0 ≤ j → j < k → (slice_index bytes j == 10) ≡ true → ⊥) → NoLineFeed (take k bytes)
none_before [] zero within none = tt
none_before [] (suc k) within none = tt
none_before (byte ∷ bytes) zero within none = tt
none_before (byte ∷ bytes) (suc k) within none =
    (not_true (byte == 10) (none 0 (omega arith) (omega arith)), none_before bytes k (omega arith) (λ j low below. none (suc j) (omega arith) (omega arith)))

take_whole : (bytes : List ℕ) → take (length bytes) bytes ≡ bytes
take_whole bytes = grind (arith, common_steps)

pub nowhere : (bytes : List ℕ) → ((j : ℕ) → 0 ≤ j → j < length bytes → (slice_index bytes j == 10) ≡ true → ⊥) → NoLineFeed bytes
nowhere bytes none = subst NoLineFeed (take_whole bytes) (none_before bytes (length bytes) (omega arith) none)

-- the parts before and behind a line feed
pub parts_at : (bytes : List ℕ) (k : ℕ) → k < length bytes → (slice_index bytes k == 10) ≡ true → bytes ≡ take k bytes ++ 10 ∷ drop (k + 1) bytes
parts_at bytes k within is =
    sym (take-append-drop k bytes) ∙ ap (λ rest. take k bytes ++ rest)
    (drop-cons bytes k 0 within ∙ ap (λ b. b ∷ drop (suc k) bytes) (is_number 10 (slice_index bytes k) is) ∙ ap (λ n. 10 ∷ drop n bytes) (sym (add-one k)))

-- the last byte of a run
run_last : (run : List ℕ) (n byte : ℕ) → n ≡ length run - 1 → slice_get run n ≡ Some byte → run ≡ take n run ++ byte ∷ []
run_last run n byte last got =
    let within : n < length run = slice_get_within run n byte got in
    let whole : take (n + 1) run ≡ run = grind (arith, common_steps) in
    sym whole ∙ take_more run n 0 within ∙ ap (λ b. take n run ++ b ∷ []) (get_or_from_slice_get run n byte 0 got)

pub ends_with : (rest run : List ℕ) (n byte : ℕ) → n ≡ length run - 1 → slice_get run n ≡ Some byte → ends_in_cr (rest ++ run) ≡ (byte == 13)
ends_with rest run n byte last got =
    ap ends_in_cr (ap (λ r. rest ++ r) (run_last run n byte last got) ∙ sym (append_assoc rest (take n run) (byte ∷ []))) ∙ ends_pushed (rest ++ take n run) byte
