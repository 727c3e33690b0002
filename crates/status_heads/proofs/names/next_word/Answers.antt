use Rattle.std.proofs.Common.{◌<◌, ◌∙◌, length, sym, arith}
use Rattle.std.proofs.lemmas.Bool.{eqb-true}
use Rattle.std.proofs.lemmas.Bool.Decides.{nat_tests}
use Rattle.status_heads.proofs.WordSplits.{word-first, space-first, behind-shorter, no-words}
use Rattle.status_heads.proofs.names.next_word.Goals as goal

pub returns-then-not-is_empty-clause-words : goal.returns-then-not-is_empty-clause-words
returns-then-not-is_empty-clause-words c =
    let word = c.split_at_space.result.0.now in
    sym c.loop-rest.invariant.words
    ∙ word-first c.loop-rest.rest.now word c.split_at_space.result.1.now c.split_at_space.ensures.before c.split_at_space.ensures.behind
    (grind (arith, nat_tests, c.is_empty-in-loop-rest.ensures, c.if-not-is_empty.true))

pub loop-rest-preserved : goal.loop-rest-preserved
loop-rest-preserved c =
    let word = c.split_at_space.result.0.now in
    let some : 0 < length c.loop-rest.rest.now = grind (arith, nat_tests, c.loop-rest-test.ensures) in
    let shorter = behind-shorter c.loop-rest.rest.now c.split_at_space.result.1.now some c.split_at_space.ensures.behind in
    let within = c.loop-rest.invariant.within in
    record {
      words = sym (space-first c.loop-rest.rest.now word c.split_at_space.result.1.now c.split_at_space.ensures.before c.split_at_space.ensures.behind
          (grind (arith, nat_tests, c.is_empty-in-loop-rest.ensures, c.if-not-is_empty.false))) ∙ c.loop-rest.invariant.words;
      within = omega (arith, shorter, within);
    }

pub returns-clause-words : goal.returns-clause-words
returns-clause-words c =
    sym c.loop-rest.invariant.words ∙ no-words c.loop-rest.rest.now (eqb-true (length c.loop-rest.rest.now) 0 (sym c.loop-rest-test.ensures))
