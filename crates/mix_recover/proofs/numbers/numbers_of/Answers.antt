use Rattle.std.proofs.Common.{rules, ◌≡◌, ◌∙◌, ◌++◌, ◌<◌, [], ◌∷◌, false, map, length, get_or, sym, ap, subst, arith, string_bytes}
use Rattle.std.specs.List.{cons_option}
use Rattle.std.proofs.lemmas.Grind.{common_steps}
use Rattle.std.proofs.lemmas.List.{length-map, get_or-map}
use Rattle.file_model.specs.Disk.{seen}
use Rattle.file_model.specs.Histories.{Now}
use Rattle.mix_data.specs.DataFiles.{number_at}
use Rattle.mix_recover.specs.Reads.{RefusesNamed, is_long_at}
use Rattle.mix_recover.proofs.DataNumbers.{numbers_more, short_more, refuse_named}
use Rattle.mix_recover.proofs.Together.{passed_on}
use Rattle.mix_recover.proofs.numbers.numbers_of.Goals as goal

pub returns-in_err-found-clause-refused : goal.returns-in_err-found-clause-refused
returns-in_err-found-clause-refused g c =
    let i = c.loop-name.name-index in
    let names = map string_bytes c.args.names.now in
    let inside : i < length names = omega (arith, c.loop-name-test.true, length-map c.args.names.now string_bytes) in
    let named : get_or names i [] ≡ c.as_str.result.now = get_or-map string_bytes c.args.names.now i c.name-item.result [] c.loop-name-test.true ∙ ap string_bytes (sym c.name-item.is) ∙ sym c.as_str.ensures.value in
    passed_on c.from_residual.result c.in_err-found.field-0.0 _ c.from_residual.ensures.1
    (refuse_named c.args.dir.now names _ i c.as_str.result.now _ inside named
    (subst (λ h. RefusesNamed c.args.dir.now (c.as_str.result.now ∷ []) c.in_err-found.field-0.0 h) c.loop-name.invariant.history c.in_err-found.ensures.refused))

pub loop-name-preserved : goal.loop-name-preserved
loop-name-preserved g c =
    let i = c.loop-name.name-index in
    let is = c.loop-name.invariant in
    let names = map string_bytes c.args.names.now in
    let inside : i < length names = omega (arith, c.loop-name-test.true, length-map c.args.names.now string_bytes) in
    let named : get_or names i [] ≡ c.as_str.result.now = get_or-map string_bytes c.args.names.now i c.name-item.result [] c.loop-name-test.true ∙ ap string_bytes (sym c.name-item.is) ∙ sym c.as_str.ensures.value in
    let items : c.push_found.new.numbers.items ≡ c.loop-name.numbers.items ++ cons_option c.in_ok-found.found [] = search rules in
    let found : Now (g.F.Files.history c.args.files.now) (λ w. c.in_ok-found.found ≡ number_at (seen w.disk) c.args.dir.now c.as_str.result.now) =
    subst (λ h. Now h (λ w. c.in_ok-found.found ≡ number_at (seen w.disk) c.args.dir.now c.as_str.result.now)) is.history c.in_ok-found.ensures.number in
    let short : Now (g.F.Files.history c.args.files.now) (λ w. is_long_at (seen w.disk) c.args.dir.now c.as_str.result.now ≡ false) =
    subst (λ h. Now h (λ w. is_long_at (seen w.disk) c.args.dir.now c.as_str.result.now ≡ false)) is.history c.in_ok-found.ensures.short in
    record {
      history = c.data_number.ensures.history ∙ is.history;
      numbers = numbers_more c.args.dir.now names _ i c.as_str.result.now c.loop-name.numbers.items c.push_found.new.numbers.items c.in_ok-found.found inside named found items is.numbers;
      short = short_more c.args.dir.now names _ i c.as_str.result.now inside named short is.short;
      hear = first_of (search rules, grind (arith, common_steps));
      say = first_of (search rules, grind (arith, common_steps));
      file = first_of (search rules, grind (arith, common_steps));
      read = first_of (search rules, grind (arith, common_steps));
    }
