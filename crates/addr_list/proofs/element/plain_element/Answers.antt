use Rattle.std.proofs.Common.{◌∙◌, ◌+◌, None, length, take, map, ap}
use Rattle.addr_list.specs.Scanning.{token_of}
use Rattle.addr_list.specs.Addresses.{local_of, host_of}
use Rattle.addr_list.specs.Reading.{plain_element, mailbox_element, mailbox_of}
use Rattle.addr_list.proofs.Maps.{map-front}
use Rattle.addr_list.proofs.element.plain_element.Goals as goal

pub returns : goal.returns
unfolding plain_element
returns c =
    let words = c.args.words.now in
    let inner = c.args.inner.now in
    let n = c.parts_length-width.result in
    let width = c.parts_length-width.ensures.value in
    let hosts = map-front token_of n inner ∙ ap (λ k. take k (map token_of inner)) width in
    let address = c.in_ok-address.ensures ∙ ap (λ h. mailbox_of None None (local_of (map token_of words)) (host_of h)) hosts in
    c.mailbox_element.ensures ∙ (λ i. mailbox_element (length words + 1 + width i) (address i))
