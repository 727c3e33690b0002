use Rattle.std.proofs.Common.{◌∙◌, ◌+◌, ◌++◌, ◌∷◌, [], map, drop, refl, ap, sym, subst, arith, length-drop}
use Rattle.std.proofs.lemmas.List.{length-map, append-nil}
use Rattle.addr_list.specs.Scanning.{token_of}
use Rattle.addr_list.specs.Reading.{element_of, added}
use Rattle.addr_list.specs.Readers.{Moves}
use Rattle.addr_list.specs.declared.list.Reader.{Reader}
use Rattle.addr_list.proofs.Maps.{map-rest}
use Rattle.addr_list.proofs.Found.{element-width}
use Rattle.addr_list.proofs.Steps.{element-stuck, element-steps, element-moves}
use Rattle.addr_list.proofs.list.next_element.Goals as goal

pub returns-in_default-clause-no : goal.returns-in_default-clause-no
returns-in_default-clause-no c _ =
    let tokens = c.args.tokens.now in
    let at = c.args.reader.now.at in
    element-stuck (map token_of tokens) c.args.reader.now c.requires.starts (ap element_of (sym (map-rest token_of tokens at)) ∙ sym c.in_ok-element.ensures ∙ c.in_default.is)

pub overflow_add-reader : goal.overflow_add-reader
overflow_add-reader c =
    let tokens = c.args.tokens.now in
    let at = c.args.reader.now.at in
    let found = ap element_of (sym (map-rest token_of tokens at)) ∙ sym c.in_ok-element.ensures ∙ c.in-Some.is in
    let wide = element-width (drop at (map token_of tokens)) c.in-Some.element found in
    let left = length-drop at (map token_of tokens) in
    let same = length-map tokens token_of in
    omega (arith, wide.within, c.requires.within)

pub returns-in_ok-push-clause-yes : goal.returns-in_ok-push-clause-yes
returns-in_ok-push-clause-yes c _ =
    let tokens = c.args.tokens.now in
    let old = c.args.reader.now in
    let e = c.in-Some.element in
    let new : Reader = record { addresses = c.push.new.self; at = old.at + e.width; depth = c.deeper-reader.result; starts = e.opens } in
    let found = ap element_of (sym (map-rest token_of tokens old.at)) ∙ sym c.in_ok-element.ensures ∙ c.in-Some.is in
    element-steps (map token_of tokens) old new e c.requires.starts found refl refl c.deeper-reader.ensures
    (c.in_ok-push.ensures.items ∙ ap (λ a. old.addresses.items ++ a ∷ []) c.in-Some-address.address-is ∙ ap (λ o. old.addresses.items ++ added o []) (sym c.in-Some-address.is))

pub returns-in_ok-push-clause-moves : goal.returns-in_ok-push-clause-moves
returns-in_ok-push-clause-moves c _ =
    let tokens = c.args.tokens.now in
    let old = c.args.reader.now in
    let e = c.in-Some.element in
    let new : Reader = record { addresses = c.push.new.self; at = old.at + e.width; depth = c.deeper-reader.result; starts = e.opens } in
    let found = ap element_of (sym (map-rest token_of tokens old.at)) ∙ sym c.in_ok-element.ensures ∙ c.in-Some.is in
    let same = length-map tokens token_of in
    subst (λ n. Moves n old new) same
    (element-moves (map token_of tokens) old new e c.requires.starts found refl refl c.deeper-reader.ensures
    (c.in_ok-push.ensures.items ∙ ap (λ a. old.addresses.items ++ a ∷ []) c.in-Some-address.address-is ∙ ap (λ o. old.addresses.items ++ added o []) (sym c.in-Some-address.is)) (omega (arith, c.requires.within)) c.requires.shallow)

pub returns-in_default-address-clause-yes : goal.returns-in_default-address-clause-yes
returns-in_default-address-clause-yes c _ =
    let tokens = c.args.tokens.now in
    let old = c.args.reader.now in
    let e = c.in-Some.element in
    let new : Reader = record { addresses = old.addresses; at = old.at + e.width; depth = c.deeper-reader.result; starts = e.opens } in
    let found = ap element_of (sym (map-rest token_of tokens old.at)) ∙ sym c.in_ok-element.ensures ∙ c.in-Some.is in
    element-steps (map token_of tokens) old new e c.requires.starts found refl refl c.deeper-reader.ensures
    (sym (append-nil old.addresses.items) ∙ ap (λ o. old.addresses.items ++ added o []) (sym c.in_default-address.is))

pub returns-in_default-address-clause-moves : goal.returns-in_default-address-clause-moves
returns-in_default-address-clause-moves c _ =
    let tokens = c.args.tokens.now in
    let old = c.args.reader.now in
    let e = c.in-Some.element in
    let new : Reader = record { addresses = old.addresses; at = old.at + e.width; depth = c.deeper-reader.result; starts = e.opens } in
    let found = ap element_of (sym (map-rest token_of tokens old.at)) ∙ sym c.in_ok-element.ensures ∙ c.in-Some.is in
    let same = length-map tokens token_of in
    subst (λ n. Moves n old new) same
    (element-moves (map token_of tokens) old new e c.requires.starts found refl refl c.deeper-reader.ensures
    (sym (append-nil old.addresses.items) ∙ ap (λ o. old.addresses.items ++ added o []) (sym c.in_default-address.is)) (omega (arith, c.requires.within)) c.requires.shallow)
