use Rattle.std.proofs.Common.{◌∙◌, ap, sym, not}
use Rattle.text_search.specs.Needles.{stands_in, lowered}
use Rattle.text_search.proofs.Needles.{found-is, lacks-part}
use Rattle.text_search.proofs.needle.window_has.Goals as goal

pub returns-then-is_none : goal.returns-then-is_none
returns-then-is_none c =
    let part = c.args.part.now in
    let text = lowered c.args.window.now in
    let found = sym (found-is part _ _ c.find.ensures) ∙ c.is_none.ensures ∙ ap not c.if-is_none.true in
    sym (lacks-part part c.args.whole.now text c.requires (ap (stands_in part) (sym (c.as_slice.ensures.value ∙ c.in_ok-window.ensures.ok)) ∙ found))

pub returns : goal.returns
returns c = c.is_some.ensures ∙ found-is c.args.whole.now _ _ c.find-2.ensures ∙ ap (stands_in c.args.whole.now) (c.as_slice-2.ensures.value ∙ c.in_ok-window.ensures.ok)
