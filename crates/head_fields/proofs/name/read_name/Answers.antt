use Rattle.std.proofs.Common.{◌≡◌, ◌∙◌, List, ℕ, length, take, ap, sym}
use Rattle.std.specs.List.{list_any, position_or_len}
use Rattle.std.proofs.lemmas.Bool.{and_from, and_left, and_right}
use Rattle.head_fields.specs.Blanks.{trim_end}
use Rattle.head_fields.specs.Fields.{is_colon, is_name, name_of}
use Rattle.head_fields.proofs.Colons.{colon-found, colon-none, colon-place}
use Rattle.head_fields.proofs.name.read_name.Goals as goal

-- the name of a line whose colon is known
name-before : (line name : List ℕ) (colon : ℕ) → colon ≡ position_or_len is_colon line → name ≡ trim_end (take colon line) → name ≡ name_of line
name-before line name colon place is = is ∙ ap (λ at. trim_end (take at line)) place

pub returns-in_err-colon-clause-none : goal.returns-in_err-colon-clause-none
returns-in_err-colon-clause-none c =
    let line = c.args.line.now in
    let none = and_left (list_any is_colon line) (is_name (name_of line)) (colon-none line c.in_err-colon.ensures) in
    rw c.from_residual.ensures none

pub returns-then-is_name-clause-some : goal.returns-then-is_name-clause-some
returns-then-is_name-clause-some c =
    let line = c.args.line.now in
    let name = name-before line c.trim_end-name.result.now c.in_ok-colon.colon (colon-place line c.in_ok-colon.colon c.in_ok-colon.ensures) c.trim_end-name.ensures in
    and_from (list_any is_colon line) (is_name (name_of line)) (colon-found line c.in_ok-colon.colon c.in_ok-colon.ensures) (ap is_name (sym name) ∙ sym c.is_name.ensures ∙ c.if-is_name.true)

pub returns-then-is_name-clause-name : goal.returns-then-is_name-clause-name
returns-then-is_name-clause-name c =
    let line = c.args.line.now in
    ap length (name-before line c.trim_end-name.result.now c.in_ok-colon.colon (colon-place line c.in_ok-colon.colon c.in_ok-colon.ensures) c.trim_end-name.ensures)

pub returns-then-is_name-clause-colon : goal.returns-then-is_name-clause-colon
returns-then-is_name-clause-colon c = colon-place c.args.line.now c.in_ok-colon.colon c.in_ok-colon.ensures

pub returns-else-is_name-clause-none : goal.returns-else-is_name-clause-none
returns-else-is_name-clause-none c =
    let line = c.args.line.now in
    let name = name-before line c.trim_end-name.result.now c.in_ok-colon.colon (colon-place line c.in_ok-colon.colon c.in_ok-colon.ensures) c.trim_end-name.ensures in
    and_right (list_any is_colon line) (is_name (name_of line)) (ap is_name (sym name) ∙ sym c.is_name.ensures ∙ c.if-is_name.false)
