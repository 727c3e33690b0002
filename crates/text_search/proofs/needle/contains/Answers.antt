use Rattle.std.proofs.Common.{◌+◌, ◌∙◌, sym, ap, length, take, arith}
use Rattle.std.proofs.lemmas.List.{length-map}
use Rattle.std.specs.Char.{to_ascii_lowercase}
use Rattle.text_search.specs.Needles.{stands_in, lowered}
use Rattle.text_search.proofs.Needles.{go_on}
use Rattle.text_search.proofs.needle.contains.Goals as goal

pub loop-rest-preserved : goal.loop-rest-preserved
loop-rest-preserved c =
    let lower = c.in_ok-needle.ensures.ok in
    let finder = c.new-whole.ensures ∙ c.as_slice.ensures.value ∙ lower in
    let same = ap length lower ∙ length-map c.args.needle.now to_ascii_lowercase in
    let width = c.max-places.result + c.len-2.result in
    go_on c.args.needle.now c.loop-rest.rest.now c.max-places.result width (omega (arith, c.len-2.ensures, same))
    (ap (λ n. stands_in n (lowered (take width c.loop-rest.rest.now))) (sym finder) ∙ sym c.in_ok-window_has.ensures ∙ c.if-branch.false)
    ∙ c.loop-rest.invariant
