use Rattle.std.proofs.Common.{◌≡◌, ◌∙◌, ◌+◌, ◌-◌, take, drop, IfOk, length, map, sym, subst, arith, ap}
use Rattle.std.proofs.lemmas.List.{length-map}
use Rattle.addr_list.specs.Scanning.{token_of}
use Rattle.addr_list.specs.Reading.{routed_of}
use Rattle.addr_list.proofs.Maps.{map-front, map-rest}
use Rattle.addr_list.proofs.Mailboxes.{angle-routed}
use Rattle.addr_list.proofs.mailbox.angle.Goals as goal

pub returns-in_default : goal.returns-in_default
returns-in_default c =
    let tokens = c.args.tokens.now in
    let n = c.until-width.result in
    let same = length-map tokens token_of in
    let way = map token_of (take n tokens) in
    let after = map token_of (take (length tokens - (n + 1)) (drop (n + 1) tokens)) in
    let read = c.in_ok-route.ensures in
    ap (λ o. routed_of c.args.name o after) (sym c.in_default.is ∙ read)
    ∙ angle-routed c.args.name (map token_of tokens) way after n c.until-width.ensures.value (omega (arith, same, c.until-width.ensures.within))
    (map-front token_of n tokens) (map-rest token_of tokens (n + 1)) (sym c.begins.ensures ∙ c.if-not-begins.false)

pub returns : goal.returns
returns c =
    let tokens = c.args.tokens.now in
    let n = c.until-width.result in
    let same = length-map tokens token_of in
    let way = map token_of (take n tokens) in
    let after = map token_of (take (length tokens - (n + 1)) (drop (n + 1) tokens)) in
    let read = c.in_ok-route.ensures in
    subst (λ v. IfOk c.spec-2.result (λ found. found ≡ v))
    (ap (λ o. routed_of c.args.name o after) (sym c.in-Some.is ∙ read)
    ∙ angle-routed c.args.name (map token_of tokens) way after n c.until-width.ensures.value (omega (arith, same, c.until-width.ensures.within))
    (map-front token_of n tokens) (map-rest token_of tokens (n + 1)) (sym c.begins.ensures ∙ c.if-not-begins.false))
    c.spec-2.ensures
