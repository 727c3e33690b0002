use Rattle.std.proofs.Common.{◌∙◌, [], ap, sym, arith}
use Rattle.std.proofs.lemmas.List.{append-nil}
use Rattle.head_fields.specs.Header.{body_start_of}
use Rattle.head_fields.proofs.Searches.{searched-further, front-tells}
use Rattle.field_tests.proofs.header_fields.body_by_pieces.Goals as goal

pub find_body-requires : goal.find_body-requires
find_body-requires c =
    let more = c.saturating_add.ensures in
    let next = c.min-end.ensures in
    let within = c.loop-end.invariant.within in
    let small = c.type_inv.text in
    searched-further c.args.text.now c.loop-end.end c.min-end.result c.loop-end.search (omega (arith, more, next, within)) c.loop-end.invariant.searched

pub returns-in-At : goal.returns-in-At
returns-in-At c = front-tells c.args.text.now c.min-end.result c.in-At.at c.in-At.ensures

pub returns-in-At-find_body : goal.returns-in-At-find_body
returns-in-At-find_body c = sym (c.in-At-find_body.ensures.body []) ∙ ap body_start_of (append-nil c.args.text.now)
