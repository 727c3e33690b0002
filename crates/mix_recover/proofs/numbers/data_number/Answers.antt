use Rattle.std.proofs.Common.{rules, ◌≡◌, subst, true, false, Some}
use Rattle.std.specs.Prelude.{is_some}
use Rattle.file_model.specs.Disk.{seen}
use Rattle.file_model.specs.Histories.{Now}
use Rattle.file_model.specs.Images.{bytes_at}
use Rattle.mix_data.specs.DataFiles.{data_path, number_of_name}
use Rattle.mix_recover.proofs.DataNumbers.{number_now, short_now, refuse_name}
use Rattle.mix_recover.proofs.Together.{passed_on}
use Rattle.mix_recover.proofs.numbers.data_number.Goals as goal

pub returns-in_err-is_data_file-clause-refused : goal.returns-in_err-is_data_file-clause-refused
returns-in_err-is_data_file-clause-refused g c =
    let named : number_of_name c.args.name.now ≡ Some c.in-Some.number = search rules in
    passed_on c.from_residual.result c.in_err-is_data_file.field-0.0 _ c.from_residual.ensures.1
    (refuse_name c.args.dir.now c.args.name.now _ c.in-Some.number _ named c.in_err-is_data_file.ensures.refused)

pub returns-then-branch-clause-number : goal.returns-then-branch-clause-number
returns-then-branch-clause-number g c =
    let named : number_of_name c.args.name.now ≡ Some c.in-Some.number = search rules in
    number_now c.args.dir.now c.args.name.now _ c.in-Some.number true named
    (subst (λ b. Now (g.F.Files.history c.args.files.now) (λ w. b ≡ is_some (bytes_at (seen w.disk) (data_path c.args.dir.now c.in-Some.number)))) c.if-branch.true c.in_ok-is_data_file.ensures.stands)

pub returns-then-branch-clause-short : goal.returns-then-branch-clause-short
returns-then-branch-clause-short g c =
    let named : number_of_name c.args.name.now ≡ Some c.in-Some.number = search rules in
    short_now c.args.dir.now c.args.name.now _ c.in-Some.number named c.in_ok-is_data_file.ensures.short

pub returns-else-branch-clause-number : goal.returns-else-branch-clause-number
returns-else-branch-clause-number g c =
    let named : number_of_name c.args.name.now ≡ Some c.in-Some.number = search rules in
    number_now c.args.dir.now c.args.name.now _ c.in-Some.number false named
    (subst (λ b. Now (g.F.Files.history c.args.files.now) (λ w. b ≡ is_some (bytes_at (seen w.disk) (data_path c.args.dir.now c.in-Some.number)))) c.if-branch.false c.in_ok-is_data_file.ensures.stands)

pub returns-else-branch-clause-short : goal.returns-else-branch-clause-short
returns-else-branch-clause-short g c =
    let named : number_of_name c.args.name.now ≡ Some c.in-Some.number = search rules in
    short_now c.args.dir.now c.args.name.now _ c.in-Some.number named c.in_ok-is_data_file.ensures.short
