use Rattle.std.proofs.Common.{◌∙◌, ap, sym, rules}
use Rattle.mail_types.specs.Lists.{undropped}
use Rattle.mail_types.proofs.Dropping.{place_there, dropped_one, undropped_none, none_yet, all_done}
use Rattle.unix_layout.proofs.texts.drop_texts.Goals as goal

pub loop-done-init : goal.loop-done-init
loop-done-init c = sym (undropped_none 0 c.args.texts.now.items) ∙ ap (λ l. undropped 0 l c.args.texts.now.items) (none_yet c.args.places.now)

pub remove-dropped-requires : goal.remove-dropped-requires
remove-dropped-requires c =
    let there = place_there c.args.places.now c.args.texts.now.items c.loop-done.texts.items c.loop-done.done c.requires c.loop-done-test.true c.loop-done.invariant in
    search rules

pub loop-done-preserved : goal.loop-done-preserved
loop-done-preserved c = c.remove-dropped.ensures.items ∙ dropped_one c.args.places.now c.args.texts.now.items c.loop-done.texts.items c.loop-done.done c.requires c.loop-done-test.true c.loop-done.invariant

pub returns : goal.returns
returns c = c.loop-done.invariant ∙ ap (λ l. undropped 0 l c.args.texts.now.items) (all_done c.args.places.now c.loop-done.done c.loop-done-test.false)
