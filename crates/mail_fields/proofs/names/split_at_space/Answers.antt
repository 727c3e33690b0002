use Rattle.std.proofs.Common.{◌∙◌, ◌+◌, length, take, drop, ap, sym, arith}
use Rattle.std.proofs.lemmas.List.{take_rest, take_all, drop_all}
use Rattle.mail_fields.proofs.Spaces.{space-found, space-none}
use Rattle.mail_fields.proofs.names.split_at_space.Goals as goal

pub returns-in-Some-clause-before : goal.returns-in-Some-clause-before
returns-in-Some-clause-before c = ap (λ at. take at c.args.text.now) (sym (space-found c.args.text.now c.in-Some.at c.in-Some.ensures))

pub returns-in-Some-clause-behind : goal.returns-in-Some-clause-behind
returns-in-Some-clause-behind c =
    take_rest c.args.text.now (c.in-Some.at + 1) ∙ ap (λ at. drop (at + 1) c.args.text.now) (sym (space-found c.args.text.now c.in-Some.at c.in-Some.ensures))

pub returns-in-None-clause-before : goal.returns-in-None-clause-before
returns-in-None-clause-before c =
    let text = c.args.text.now in
    sym (ap (λ at. take at text) (space-none text c.in-None.ensures) ∙ take_all (length text) text (omega arith))

pub returns-in-None-clause-behind : goal.returns-in-None-clause-behind
returns-in-None-clause-behind c =
    let text = c.args.text.now in
    take_rest text (length text) ∙ drop_all (length text) text (omega arith)
    ∙ sym (ap (λ at. drop (at + 1) text) (space-none text c.in-None.ensures) ∙ drop_all (length text + 1) text (omega arith))
