-- What a feed keeps of a line.
use Rattle.std.proofs.Common.{ℕ, zero, suc, ◌+◌, ◌-◌, ◌<◌, min, List, [], ◌∷◌, ◌++◌, ◌≡◌, ◌==◌, Some, Result, Ok, Err, OnOk, OnErr, if◌then◌else◌, arith, add-one, append_assoc, refl, sym, ◌∙◌, ap, take, drop, length, slice_get}
use Rattle.std.specs.Result.{is_ok}
use Rattle.std.proofs.lemmas.Grind.{common_steps}
use Rattle.std.proofs.lemmas.List.{take_more}
use Rattle.std.proofs.lemmas.Option.{slice_get_within, get_or_from_slice_get}
use Rattle.raw_commands.specs.Steps.{ends_in_cr, without_last}

pub on_ok : {T E P Q : Type 0} (result : Result T E) → (P → Q) → OnOk result P → OnOk result Q
on_ok (Ok x) follows holds = follows holds
on_ok (Err e) follows holds = tt

pub appended : {T E X : Type 0} (result : Result T E) (items some none : X) → items ≡ (if is_ok result then some else none) → OnOk result (items ≡ some)
appended (Ok x) items some none is = is
appended (Err e) items some none is = tt

kept_front : (n : ℕ) (line run : List ℕ) → take n line ++ take (n - length (take n line)) run ≡ take n (line ++ run)
kept_front zero line run = refl
kept_front (suc n) [] run =
    let whole : suc n - 0 ≡ suc n = omega arith in ap (λ m. take m run) whole
kept_front (suc n) (byte ∷ line) run =
    let room : suc n - length (byte ∷ take n line) ≡ n - length (take n line) = omega arith in
    ap (λ m. byte ∷ take n line ++ take m run) room ∙ ap (λ bytes. byte ∷ bytes) (kept_front n line run)

pub behind_start : (lines rest : List ℕ) (start : ℕ) → start ≡ length lines → drop start (lines ++ rest) ≡ rest
behind_start lines rest start is = grind (arith, common_steps)

as_many : (room : ℕ) (run : List ℕ) → take (min room (length run)) run ≡ take room run
as_many room run = grind (arith, common_steps)

-- what still fits of a run behind what is kept of a line
pub kept_run : (n : ℕ) (lines line run text kept : List ℕ) (start room fit : ℕ) → text ≡ lines ++ take n line → start ≡ length lines → kept ≡ drop start text
    → room ≡ n - length kept → fit ≡ min room (length run) → text ++ take fit run ≡ lines ++ take n (line ++ run)
kept_run n lines line run text kept start room fit is starts kept_is room_is fit_is =
    let here : kept ≡ take n line = kept_is ∙ ap (drop start) is ∙ behind_start lines (take n line) start starts in
    let fitting : take fit run ≡ take (n - length (take n line)) run =
    ap (λ f. take f run) fit_is ∙ as_many room run ∙ ap (λ r. take r run) (room_is ∙ ap (λ k. n - length k) here) in
    ap (λ t. t ++ take fit run) is ∙ append_assoc lines (take n line) (take fit run)
    ∙ ap (λ r. lines ++ (take n line ++ r)) fitting ∙ ap (λ k. lines ++ k) (kept_front n line run)

pub ends_pushed : (line : List ℕ) (byte : ℕ) → ends_in_cr (line ++ byte ∷ []) ≡ byte == 13
ends_pushed [] byte = refl
ends_pushed (a ∷ []) byte = refl
ends_pushed (a ∷ b ∷ line) byte = ends_pushed (b ∷ line) byte

run_last : (run : List ℕ) (n byte : ℕ) → n ≡ length run - 1 → slice_get run n ≡ Some byte → run ≡ take n run ++ byte ∷ []
run_last run n byte last got =
    let within : n < length run = slice_get_within run n byte got in
    let whole : take (n + 1) run ≡ run = grind (arith, common_steps) in
    sym whole ∙ take_more run n 0 within ∙ ap (λ b. take n run ++ b ∷ []) (get_or_from_slice_get run n byte 0 got)

-- the last byte of a run
pub ends_with : (line run : List ℕ) (n byte : ℕ) → n ≡ length run - 1 → slice_get run n ≡ Some byte → ends_in_cr (line ++ run) ≡ (byte == 13)
ends_with line run n byte last got =
    ap ends_in_cr (ap (λ r. line ++ r) (run_last run n byte last got) ∙ sym (append_assoc line (take n run) (byte ∷ []))) ∙ ends_pushed (line ++ take n run) byte

pub front_step : (a : ℕ) (rest : List ℕ) (n m : ℕ) → m ≡ n + 1 → a ∷ take n rest ≡ take m (a ∷ rest)
front_step a rest n m is = rw (is, add-one n) refl

-- without_last as a front
pub is_front : (line : List ℕ) → without_last line ≡ take (length line - 1) line
is_front [] = refl
is_front (a ∷ []) = refl
is_front (a ∷ b ∷ line) = ap (λ r. a ∷ r) (is_front (b ∷ line)) ∙ front_step a (b ∷ line) (length (b ∷ line) - 1) (length (a ∷ b ∷ line) - 1) (omega arith)

-- a front by its own length
pub popped_from : (len : ℕ) (new old : List ℕ) → len ≡ length old → new ≡ take (len - 1) old → new ≡ take (length old - 1) old
popped_from len new old long is = is ∙ ap (λ n. take (n - 1) old) long

pub on_err : {T E P : Type 0} (result : Result T E) → P → OnErr result P
on_err (Ok x) holds = tt
on_err (Err e) holds = holds
