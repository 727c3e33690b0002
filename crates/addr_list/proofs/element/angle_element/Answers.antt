use Rattle.std.proofs.Common.{◌∙◌, ◌+◌, None, length, take, map, nat_lt, sym, ap, arith}
use Rattle.std.proofs.lemmas.Bool.{cond-true, lt-ltb}
use Rattle.std.proofs.lemmas.List.{length-map}
use Rattle.addr_list.specs.Scanning.{token_of}
use Rattle.addr_list.specs.Addresses.{phrase_of}
use Rattle.addr_list.specs.Reading.{angle_element, mailbox_element, named_angle, until}
use Rattle.addr_list.proofs.Maps.{map-front}
use Rattle.addr_list.proofs.element.angle_element.Goals as goal

pub returns : goal.returns
unfolding angle_element
returns c =
    let words = c.args.words.now in
    let inner = c.args.inner.now in
    let tokens = map token_of inner in
    let n = c.until-width.result in
    let width = c.until-width.ensures.value in
    let same = length-map inner token_of in
    let within = c.until-width.ensures.within in
    let part = map-front token_of n inner ∙ ap (λ k. take k tokens) width in
    let address = c.in_ok-address.ensures ∙ ap (λ t. named_angle (map token_of words) (phrase_of (map token_of words)) t) part in
    c.mailbox_element.ensures ∙ (λ i. mailbox_element (length words + 1 + (width i + 1)) (address i))
    ∙ sym (cond-true (nat_lt (until 62 tokens) (length tokens)) _ None (lt-ltb _ _ (omega (arith, c.if-width-inner.false))))
