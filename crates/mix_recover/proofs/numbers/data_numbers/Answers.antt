use Rattle.std.proofs.Common.{◌≡◌, ap, subst, map, string_bytes, false}
use Rattle.std.specs.List.{list_any, filter_map}
use Rattle.file_model.specs.Disk.{seen}
use Rattle.file_model.specs.Histories.{Now}
use Rattle.mix_data.specs.DataFiles.{number_at}
use Rattle.mix_recover.specs.Reads.{RefusesNamed, is_long_at}
use Rattle.mix_recover.proofs.DataNumbers.{numbers_found, short_found, refuse_found}
use Rattle.mix_recover.proofs.Together.{passed_on}
use Rattle.mix_recover.proofs.numbers.data_numbers.Goals as goal

pub returns-in_err-numbers-clause-refused : goal.returns-in_err-numbers-clause-refused
returns-in_err-numbers-clause-refused g c =
    let names = map string_bytes c.in-Ok.names.items in
    let same : map string_bytes c.as_slice.result.now ≡ names = ap (map string_bytes) c.as_slice.ensures.value in
    passed_on c.from_residual.result c.in_err-numbers.field-0.0 _ c.from_residual.ensures.1
    (refuse_found c.args.dir.now names _ _ c.in-Ok.ensures.names
    (subst (λ l. RefusesNamed c.args.dir.now l c.in_err-numbers.field-0.0 (g.F.Files.history c.args.files.now)) same
    (subst (λ h. RefusesNamed c.args.dir.now (map string_bytes c.as_slice.result.now) c.in_err-numbers.field-0.0 h) c.names.ensures.same c.in_err-numbers.ensures.refused)))

pub returns-clause-numbers : goal.returns-clause-numbers
returns-clause-numbers g c =
    let names = map string_bytes c.in-Ok.names.items in
    let same : map string_bytes c.as_slice.result.now ≡ names = ap (map string_bytes) c.as_slice.ensures.value in
    numbers_found c.args.dir.now names _ c.in_ok-numbers.numbers.items c.sorted.result.items c.in-Ok.ensures.names
    (subst (λ l. Now (g.F.Files.history c.args.files.now) (λ w. c.in_ok-numbers.numbers.items ≡ filter_map (number_at (seen w.disk) c.args.dir.now) l)) same
    (subst (λ h. Now h (λ w. c.in_ok-numbers.numbers.items ≡ filter_map (number_at (seen w.disk) c.args.dir.now) (map string_bytes c.as_slice.result.now))) c.names.ensures.same c.in_ok-numbers.ensures.numbers))
    c.sorted.ensures.rise c.sorted.ensures.same

pub returns-clause-short : goal.returns-clause-short
returns-clause-short g c =
    let names = map string_bytes c.in-Ok.names.items in
    let same : map string_bytes c.as_slice.result.now ≡ names = ap (map string_bytes) c.as_slice.ensures.value in
    short_found c.args.dir.now names _ c.in-Ok.ensures.names
    (subst (λ l. Now (g.F.Files.history c.args.files.now) (λ w. list_any (is_long_at (seen w.disk) c.args.dir.now) l ≡ false)) same
    (subst (λ h. Now h (λ w. list_any (is_long_at (seen w.disk) c.args.dir.now) (map string_bytes c.as_slice.result.now) ≡ false)) c.names.ensures.same c.in_ok-numbers.ensures.short))
