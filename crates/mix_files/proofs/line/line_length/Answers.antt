use Rattle.std.proofs.Common.{arith}
use Rattle.std.proofs.lemmas.List.{take_rest}
use Rattle.mix_files.proofs.MetaLines.{loop-ends, loop-goes, loop-whole, within-feed}
use Rattle.mix_files.proofs.line.line_length.Goals as goal
use Rattle.mix_files.proofs.line.line_length.Goals.{else-feed-gt0-via-then-feed-gt0+else-text-end-eq13, else-feed-gt0-via-else-feed-gt0}

pub returns-then-text-end-eq13-clause-value : goal.returns-then-text-end-eq13-clause-value
returns-then-text-end-eq13-clause-value c =
    loop-ends c.args.text.now _ c.loop-feed.from c.in-Some.feed (take_rest c.args.text.now c.loop-feed.from) c.loop-feed.invariant.value c.in-Some.ensures c.if-feed-gt0.true c.if-text-end-eq13.true

pub loop-feed-preserved : goal.loop-feed-preserved
loop-feed-preserved c =
    let is = take_rest c.args.text.now c.loop-feed.from in
    let within = within-feed c.args.text.now _ c.loop-feed.from c.in-Some.feed is c.loop-feed.invariant.within c.in-Some.ensures in
    elim c.else-feed-gt0.branch [
      | else-feed-gt0-via-then-feed-gt0+else-text-end-eq13 w ↦ record {
        within = within;
        value = loop-goes c.args.text.now _ c.loop-feed.from c.in-Some.feed is c.loop-feed.invariant.value c.in-Some.ensures (λ some. w.if-text-end-eq13.false);
      }
      | else-feed-gt0-via-else-feed-gt0 w ↦ record {
        within = within;
        value = loop-goes c.args.text.now _ c.loop-feed.from c.in-Some.feed is c.loop-feed.invariant.value c.in-Some.ensures (λ some. absurd (omega (arith, w.if-feed-gt0.false)));
      }
    ]

pub returns-clause-value : goal.returns-clause-value
returns-clause-value c = loop-whole c.args.text.now _ c.loop-feed.from c.loop-feed.invariant.within (take_rest c.args.text.now c.loop-feed.from) c.loop-feed.invariant.value c.in_default.ensures
