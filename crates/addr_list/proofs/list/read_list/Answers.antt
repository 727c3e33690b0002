use Rattle.std.proofs.Common.{map, refl, arith}
use Rattle.std.proofs.lemmas.List.{length-map}
use Rattle.addr_list.specs.Scanning.{token_of}
use Rattle.addr_list.proofs.Steps.{reading-starts, list-ends, list-only}
use Rattle.addr_list.proofs.list.read_list.Goals as goal

pub loop-reader-init : goal.loop-reader-init
loop-reader-init c = record { within = omega arith; shallow = omega arith; reading = reading-starts (map token_of c.args.tokens.now) _ refl refl refl c.new.ensures.items }

pub returns-clause-list : goal.returns-clause-list
returns-clause-list c =
    let tokens = c.args.tokens.now in
    let same = length-map tokens token_of in
    list-ends (map token_of tokens) c.loop-reader.reader c.if-reader.false (omega (arith, c.if-reader-tokens.false)) c.loop-reader.invariant.reading (omega (arith, c.if-reader-gt0.false))

pub returns-clause-only : goal.returns-clause-only
returns-clause-only c =
    let tokens = c.args.tokens.now in
    let same = length-map tokens token_of in
    list-only (map token_of tokens) c.loop-reader.reader c.if-reader.false (omega (arith, c.if-reader-tokens.false)) c.loop-reader.invariant.reading
