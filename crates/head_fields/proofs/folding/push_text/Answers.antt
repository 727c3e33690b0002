use Rattle.std.proofs.Common.{◌≡◌, ◌∙◌, ◌++◌, cond, List, ℕ, Result, Ok, Err, sym, arith}
use Rattle.std.specs.Result.{is_ok, OnOk}
use Rattle.std.proofs.lemmas.Bool.{eqb-false}
use Rattle.head_fields.proofs.Blanks.{trim_start-keeps}
use Rattle.head_fields.proofs.folding.push_text.Goals as goal

-- what an append that succeeds leaves
appended : {T E : Type 0} (result : Result T E) (old new text whole : List ℕ) → new ≡ cond (is_ok result) (old ++ text) old → old ++ text ≡ whole → OnOk result (new ≡ whole)
appended (Ok value) old new text whole items same = items ∙ same
appended (Err fault) old new text whole items same = tt

pub returns-else-is_empty : goal.returns-else-is_empty
returns-else-is_empty c =
    let old = c.args.unfolded.now.items in
    let text = c.args.text.now in
    let ok = c.args.unfolded.now.ok in
    let some = eqb-false _ 0 (sym c.is_empty.ensures ∙ c.if-is_empty.false) in
    let kept = trim_start-keeps old text c.requires (omega arith) in
    appended _ old _ text _ c.extend_from_slice-else-is_empty.ensures.items (sym kept)
