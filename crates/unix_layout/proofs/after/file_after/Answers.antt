use Rattle.std.proofs.Common.{ap, ◌∙◌}
use Rattle.store_index.specs.Steps.{change_of}
use Rattle.unix_layout.specs.Writing.{file_text}
use Rattle.unix_layout.proofs.Places.{texts_stand}
use Rattle.unix_layout.proofs.Stamps.{written_after}
use Rattle.unix_layout.proofs.after.file_after.Goals as goal

pub returns-clause-bytes : goal.returns-clause-bytes
returns-clause-bytes c = λ bytes holds told.
    let next = c.args.next.now in
    let after = c.in_ok-after.after.items in
    c.in_ok-bytes.ensures.text ∙ ap (file_text next) c.as_slice.ensures.value
    ∙ written_after c.args._told.now next (change_of c.args.step) c.args.texts.now after bytes c.requires.next c.in_ok-after.ensures holds told

pub returns-clause-places : goal.returns-clause-places
returns-clause-places c = λ bytes holds told can none.
    let next = c.args.next.now in
    let after = c.in_ok-after.after.items in
    texts_stand c.args._told.now next (change_of c.args.step) c.args.texts.now after bytes c.in_ok-bytes.bytes.items c.requires.next c.in_ok-after.ensures
    (c.in_ok-bytes.ensures.text ∙ ap (file_text next) c.as_slice.ensures.value) c.in_ok-bytes.ensures.keywords holds told can none
