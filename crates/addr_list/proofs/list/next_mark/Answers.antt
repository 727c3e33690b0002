use Rattle.std.proofs.Common.{◌∙◌, inl, inr, map, refl, ap, sym, arith}
use Rattle.std.proofs.lemmas.List.{length-map}
use Rattle.addr_list.specs.Scanning.{token_of}
use Rattle.addr_list.specs.Reading.{begins}
use Rattle.addr_list.proofs.Maps.{map-rest}
use Rattle.addr_list.proofs.Steps.{mark-stuck, comma-steps, group-steps}
use Rattle.addr_list.proofs.list.next_mark.Goals as goal

pub returns-then-begins-clause-yes : goal.returns-then-begins-clause-yes
returns-then-begins-clause-yes c _ =
    let tokens = c.args.tokens.now in
    let old = c.args.reader.now in
    let is = ap (begins 44) (sym (map-rest token_of tokens old.at)) ∙ sym c.begins.ensures ∙ c.if-begins.true in
    comma-steps (map token_of tokens) old _ c.requires.starts refl is refl refl refl

pub returns-then-reader-eq0-clause-no : goal.returns-then-reader-eq0-clause-no
returns-then-reader-eq0-clause-no c _ =
    let tokens = c.args.tokens.now in
    let old = c.args.reader.now in
    let other = ap (begins 44) (sym (map-rest token_of tokens old.at)) ∙ sym c.begins.ensures ∙ c.if-begins.false in
    let same = length-map tokens token_of in
    mark-stuck (map token_of tokens) old c.requires.starts (omega (arith, c.requires.inside)) other (inr c.if-reader-eq0.true)

pub returns-then-not-begins-clause-no : goal.returns-then-not-begins-clause-no
returns-then-not-begins-clause-no c _ =
    let tokens = c.args.tokens.now in
    let old = c.args.reader.now in
    let other = ap (begins 44) (sym (map-rest token_of tokens old.at)) ∙ sym c.begins.ensures ∙ c.if-begins.false in
    let none = ap (begins 59) (sym (map-rest token_of tokens old.at)) ∙ sym c.begins-2.ensures ∙ c.if-not-begins.true in
    let same = length-map tokens token_of in
    mark-stuck (map token_of tokens) old c.requires.starts (omega (arith, c.requires.inside)) other (inl none)

pub returns-clause-yes : goal.returns-clause-yes
returns-clause-yes c _ =
    let tokens = c.args.tokens.now in
    let old = c.args.reader.now in
    let is = ap (begins 59) (sym (map-rest token_of tokens old.at)) ∙ sym c.begins-2.ensures ∙ c.if-not-begins.false in
    group-steps (map token_of tokens) old _ c.requires.starts refl is (omega arith) c.requires.starts refl c.in_ok-push.ensures.items
