use Rattle.std.proofs.Common.{◌≡◌, ◌∙◌, ◌+◌, IfOk, map, sym, subst}
use Rattle.addr_list.specs.Scanning.{token_of}
use Rattle.addr_list.proofs.Maps.{map-front, map-rest}
use Rattle.addr_list.proofs.Mailboxes.{spec-yes, spec-no}
use Rattle.addr_list.proofs.mailbox.spec.Goals as goal

pub returns-then-begins : goal.returns-then-begins
returns-then-begins c =
    let tokens = c.args.tokens.now in
    let n = c.parts_length-width.result in
    subst (λ v. IfOk c.mailbox.result (λ found. found ≡ v))
    (spec-yes c.args.name c.args.route (map token_of tokens) _ _ _ n c.parts_length-width.ensures.value
    (map-front token_of n tokens) (map-rest token_of tokens n) (map-rest token_of tokens (n + 1)) (sym c.begins.ensures ∙ c.if-begins.true))
    c.mailbox.ensures

pub returns-else-begins : goal.returns-else-begins
returns-else-begins c =
    let tokens = c.args.tokens.now in
    let n = c.parts_length-width.result in
    spec-no c.args.name c.args.route (map token_of tokens) _ n c.parts_length-width.ensures.value (map-rest token_of tokens n) (sym c.begins.ensures ∙ c.if-begins.false)
