use Rattle.std.proofs.Common.{◌≡◌, sym, ◌∙◌, ap, length}
use Rattle.file_model.specs.Disk.{seen}
use Rattle.file_model.proofs.Runs.{now_weaker}
use Rattle.std.proofs.lemmas.Bool.{eqb-true}
use Rattle.disk_tests.proofs.Moving.{none_named}
use Rattle.disk_tests.proofs.steps.is_empty.Goals as goal

pub returns-clause-empty : goal.returns-clause-empty
returns-clause-empty g c empty =
    let told = c.in_ok-names.names.items in
    let none : length told ≡ 0 = ap length (sym c.as_slice.ensures.value) ∙ eqb-true (length c.as_slice.result.now) 0 (sym c.is_empty.ensures ∙ empty) in
    now_weaker _ _ (λ w same. none_named told (seen w.disk) c.args.dir.now none same) (g.F.Files.history c.args.host.now) c.in_ok-names.ensures.names
