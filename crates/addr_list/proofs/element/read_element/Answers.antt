use Rattle.std.proofs.Common.{◌≡◌, ◌∙◌, ◌+◌, ◌-◌, IfOk, length, take, drop, map, sym, subst, ap}
use Rattle.std.proofs.lemmas.List.{length-take-le}
use Rattle.addr_list.specs.Scanning.{token_of}
use Rattle.addr_list.specs.Reading.{group_element, angle_element, plain_element, mailbox_element}
use Rattle.addr_list.proofs.Maps.{map-front, map-rest}
use Rattle.addr_list.proofs.Elements.{element-group, element-angle, element-plain, element-nothing, element-bare}
use Rattle.addr_list.proofs.element.read_element.Goals as goal

pub returns-then-begins : goal.returns-then-begins
returns-then-begins c =
    let tokens = c.args.tokens.now in
    let n = c.parts_length-width.result in
    c.group_element.ensures
    ∙ ap (group_element (n + 1)) c.in_ok-address.ensures
    ∙ element-group (map token_of tokens) _ _ n c.parts_length-width.ensures.value (map-front token_of n tokens) (map-rest token_of tokens n) (sym c.begins.ensures ∙ c.if-begins.true)

pub returns-then-begins-2 : goal.returns-then-begins-2
returns-then-begins-2 c =
    let tokens = c.args.tokens.now in
    let n = c.parts_length-width.result in
    let words = take n tokens in
    let tail = take (length tokens - n) (drop n tokens) in
    let long = length-take-le n tokens c.parts_length-width.ensures.within in
    subst (λ v. IfOk c.angle_element.result (λ found. found ≡ v))
    ((λ i. angle_element (long i) (map token_of words) (map-rest token_of tail 1 i))
    ∙ element-angle (map token_of tokens) _ _ n c.parts_length-width.ensures.value (map-front token_of n tokens) (map-rest token_of tokens n) (sym c.begins.ensures ∙ c.if-begins.false) (sym c.begins-2.ensures ∙ c.if-begins-2.true))
    c.angle_element.ensures

pub returns-then-begins-3 : goal.returns-then-begins-3
returns-then-begins-3 c =
    let tokens = c.args.tokens.now in
    let n = c.parts_length-width.result in
    let words = take n tokens in
    let tail = take (length tokens - n) (drop n tokens) in
    let long = length-take-le n tokens c.parts_length-width.ensures.within in
    subst (λ v. IfOk c.plain_element.result (λ found. found ≡ v))
    ((λ i. plain_element (long i) (map token_of words) (map-rest token_of tail 1 i))
    ∙ element-plain (map token_of tokens) _ _ n c.parts_length-width.ensures.value (map-front token_of n tokens) (map-rest token_of tokens n) (sym c.begins.ensures ∙ c.if-begins.false) (sym c.begins-2.ensures ∙ c.if-begins-2.false) (sym c.begins-3.ensures ∙ c.if-begins-3.true))
    c.plain_element.ensures

pub returns-then-width-eq0 : goal.returns-then-width-eq0
returns-then-width-eq0 c =
    let tokens = c.args.tokens.now in
    let n = c.parts_length-width.result in
    element-nothing (map token_of tokens) _ _ n c.parts_length-width.ensures.value (map-front token_of n tokens) (map-rest token_of tokens n)
    (sym c.begins.ensures ∙ c.if-begins.false) (sym c.begins-2.ensures ∙ c.if-begins-2.false) (sym c.begins-3.ensures ∙ c.if-begins-3.false) c.if-width-eq0.true

pub returns : goal.returns
returns c =
    let tokens = c.args.tokens.now in
    let n = c.parts_length-width.result in
    c.mailbox_element.ensures
    ∙ ap (mailbox_element n) c.in_ok-address-2.ensures
    ∙ element-bare (map token_of tokens) _ _ n c.parts_length-width.ensures.value (map-front token_of n tokens) (map-rest token_of tokens n)
    (sym c.begins.ensures ∙ c.if-begins.false) (sym c.begins-2.ensures ∙ c.if-begins-2.false) (sym c.begins-3.ensures ∙ c.if-begins-3.false) c.if-width-eq0.false
