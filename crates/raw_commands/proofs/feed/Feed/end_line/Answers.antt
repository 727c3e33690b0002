use Rattle.std.proofs.Common.{◌∙◌, ◌++◌, ◌∷◌, [], ap, sym, refl}
use Rattle.raw_commands.specs.Limits.{lines_size, literals_size, too_long, too_large, whole, literal}
use Rattle.raw_commands.specs.Steps.{without_last}
use Rattle.raw_commands.specs.Streams.{text_of}
use Rattle.raw_commands.specs.declared.command.RawUnit.TheVariants as units
use Rattle.raw_commands.proofs.Feeds.{ends, asks, whole_text, first_of, over, fits, size_fits}
use Rattle.raw_commands.proofs.Runs.{on_ok, popped_from}
use Rattle.raw_commands.proofs.feed.Feed.end_line.Goals as goal

pub returns-in-TooLong-clause-taken : goal.returns-in-TooLong-clause-taken
returns-in-TooLong-clause-taken c parts line held cr =
    let old = c.args.self.now in
    let are = ends old parts line c.pop.new.self.items c.line.result.now held cr (popped_from old.text.len c.pop.new.self.items old.text.items old.text.ok.0 c.pop.ensures.rest) c.line.ensures in
    let asked = asks old parts line c.pop.new.self.items c.line.result.now too_long held are c.in-TooLong.ensures in
    let first = first_of old parts line c.pop.new.self.items c.line.result.now are in
    over c.end_too_long.result c.end_too_long.new.self parts line too_long c.args.units.now.items c.end_too_long.new.units.items asked
    (c.end_too_long.ensures.fresh held.goes_on)
    (on_ok c.end_too_long.result (λ is. is ∙ ap (λ t. c.args.units.now.items ++ units.TooLong t ∷ []) first) c.end_too_long.ensures.unit)

pub returns-in-TooLarge-clause-taken : goal.returns-in-TooLarge-clause-taken
returns-in-TooLarge-clause-taken c parts line held cr =
    let old = c.args.self.now in
    let are = ends old parts line c.pop.new.self.items c.line.result.now held cr (popped_from old.text.len c.pop.new.self.items old.text.items old.text.ok.0 c.pop.ensures.rest) c.line.ensures in
    let asked = asks old parts line c.pop.new.self.items c.line.result.now too_large held are c.in-TooLarge.ensures in
    let short = fits (lines_size parts) (literals_size parts) (without_last line) too_large (λ is. absurd (cc)) (sym asked) in
    over c.end_too_large.result c.end_too_large.new.self parts line too_large c.args.units.now.items c.end_too_large.new.units.items asked
    (c.end_too_large.ensures.fresh held.goes_on)
    (on_ok c.end_too_large.result (λ is. is ∙ ap (λ t. c.args.units.now.items ++ units.TooLarge t ∷ []) (whole_text old parts line c.pop.new.self.items c.line.result.now are short))
    c.end_too_large.ensures.unit)

pub returns-in-Whole-clause-taken : goal.returns-in-Whole-clause-taken
returns-in-Whole-clause-taken c parts line held cr =
    let old = c.args.self.now in
    let are = ends old parts line c.pop.new.self.items c.line.result.now held cr (popped_from old.text.len c.pop.new.self.items old.text.items old.text.ok.0 c.pop.ensures.rest) c.line.ensures in
    let asked = asks old parts line c.pop.new.self.items c.line.result.now whole held are c.in-Whole.ensures in
    let short = fits (lines_size parts) (literals_size parts) (without_last line) whole (λ is. absurd (cc)) (sym asked) in
    over c.end_command.result c.end_command.new.self parts line whole c.args.units.now.items c.end_command.new.units.items asked
    (c.end_command.ensures.fresh held.goes_on)
    (on_ok c.end_command.result (λ is. is
    ∙ ap (λ t. c.args.units.now.items ++ units.Whole (record { text = t; literals = old.literals.items }) ∷ []) (whole_text old parts line c.pop.new.self.items c.line.result.now are short)
    ∙ ap (λ l. c.args.units.now.items ++ units.Whole (record { text = text_of parts (without_last line); literals = l }) ∷ []) held.literals)
    c.end_command.ensures.unit)

pub returns-in-Literal-clause-taken : goal.returns-in-Literal-clause-taken
returns-in-Literal-clause-taken c parts line held cr =
    let old = c.args.self.now in
    let are = ends old parts line c.pop.new.self.items c.line.result.now held cr (popped_from old.text.len c.pop.new.self.items old.text.items old.text.ok.0 c.pop.ensures.rest) c.line.ensures in
    let size = c.in-Literal.size in
    let asked = asks old parts line c.pop.new.self.items c.line.result.now (literal size) held are c.in-Literal.ensures in
    let short = fits (lines_size parts) (literals_size parts) (without_last line) (literal size) (λ is. absurd (cc)) (sym asked) in
    over c.begin_literal.result c.begin_literal.new.self parts line (literal size) c.args.units.now.items c.begin_literal.new.units.items asked
    (c.begin_literal.ensures.taken parts (without_last line) (record {
      text = whole_text old parts line c.pop.new.self.items c.line.result.now are short;
      start = held.start;
      literals = held.literals;
      lines = held.lines;
      held = held.held;
      fits = short;
      holds = held.holds;
      awaited = held.awaited;
      after_cr = refl;
      goes_on = held.goes_on;
    }) (size_fits (lines_size parts) (literals_size parts) size (without_last line) (sym asked)))
    c.begin_literal.ensures.unit
