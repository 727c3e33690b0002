use Rattle.std.proofs.Common.{List, ℕ, ◌≡◌, ◌++◌, ◌≤◌, ◌∙◌, ap, arith, take, length}
use Rattle.std.proofs.lemmas.Grind.{common_steps}
use Rattle.raw_commands.proofs.Pieces.{literal_goes_on, literal_ends, longer}
use Rattle.raw_commands.proofs.feed.Feed.take_literal.Goals as goal

front_length : (width : ℕ) (bytes : List ℕ) → width ≤ length bytes → length (take width bytes) ≡ width
front_length width bytes within = grind (arith, common_steps)

pub returns-in_ok-end_literal-clause-taken : goal.returns-in_ok-end_literal-clause-taken
returns-in_ok-end_literal-clause-taken c =
    let old = c.args.self.now in
    let front = take c.min-width.result c.args.bytes.now in
    let least = c.min-width.ensures in
    let long = front_length c.min-width.result c.args.bytes.now (omega arith) in
    let all = c.if-self-eq0.true in
    literal_ends old c.end_literal.new.self front c.requires.goes_on (omega arith)
    (λ parts line size got held.
    let sum = held.awaited in
    let more = longer got front in
    c.in_ok-end_literal.ensures parts line size (got ++ front) (record {
      text = held.text;
      start = held.start;
      literals = held.literals;
      literal = c.in_ok-extend_from_slice.ensures.items ∙ ap (λ l. l ++ front) held.literal;
      lines = held.lines;
      held = held.held;
      fits = held.fits;
      holds = held.holds;
      awaited = omega arith;
      after_cr = held.after_cr;
      goes_on = held.goes_on;
    }) all)

pub returns-else-self-eq0-clause-taken : goal.returns-else-self-eq0-clause-taken
returns-else-self-eq0-clause-taken c =
    let old = c.args.self.now in
    let front = take c.min-width.result c.args.bytes.now in
    let least = c.min-width.ensures in
    let long = front_length c.min-width.result c.args.bytes.now (omega arith) in
    let some = c.if-self-eq0.false in
    literal_goes_on old _ front (omega arith)
    (λ parts line size got held.
    let sum = held.awaited in
    let more = longer got front in (
      record {
        text = held.text;
        start = held.start;
        literals = held.literals;
        literal = c.in_ok-extend_from_slice.ensures.items ∙ ap (λ l. l ++ front) held.literal;
        lines = held.lines;
        held = held.held;
        fits = held.fits;
        holds = held.holds;
        awaited = omega arith;
        after_cr = held.after_cr;
        goes_on = held.goes_on;
      },
      omega arith,
    ))
