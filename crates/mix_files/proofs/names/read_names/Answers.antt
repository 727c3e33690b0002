use Rattle.std.proofs.Common.{◌∙◌, ◌∷◌, ◌++◌, [], ◌≤◌, length, ap, sym, subst}
use Rattle.mail_fields.specs.Names.{are_distinct}
use Rattle.mix_files.proofs.NameTexts.{fits-tested, fits-none, name-read, name-refused, read-start, read-end}
use Rattle.mix_files.proofs.names.read_names.Goals as goal

pub loop-is_more-init : goal.loop-is_more-init
loop-is_more-init c = read-start c.args.text.now c.new-names.result.items c.is_empty-is_more.result c.new-names.ensures.items c.is_empty-is_more.ensures

pub returns-in_default-clause-value : goal.returns-in_default-clause-value
returns-in_default-clause-value c =
    name-refused c.args.text.now c.loop-is_more.names.items c.loop-is_more.is_more c.loop-is_more.rest.now c.split_at_space.result.0.now c.loop-is_more.invariant c.loop-is_more-test.true
    c.split_at_space.ensures.before (fits-none c.loop-is_more.names.items c.split_at_space.result.0.now (rw c.in_default.is at c.in_ok-keyword.ensures.none))

pub returns-then-not-may_follow-clause-value : goal.returns-then-not-may_follow-clause-value
returns-then-not-may_follow-clause-value c =
    name-refused c.args.text.now c.loop-is_more.names.items c.loop-is_more.is_more c.loop-is_more.rest.now c.split_at_space.result.0.now c.loop-is_more.invariant c.loop-is_more-test.true
    c.split_at_space.ensures.before
    (fits-tested c.loop-is_more.names.items _ c.split_at_space.result.0.now c.in-Some.keyword _ _ c.as_slice.ensures.value (rw c.in-Some.is at c.in_ok-keyword.ensures.some)
    c.may_follow.ensures c.if-not-may_follow.true)

pub loop-is_more-preserved : goal.loop-is_more-preserved
loop-is_more-preserved c =
    let is = rw c.in-Some.is at c.in_ok-keyword.ensures.some in
    name-read c.args.text.now c.loop-is_more.names.items c.push.new.self.items c.loop-is_more.is_more c.loop-is_more.rest.now c.split_at_space.result.0.now c.split_at_space.result.1.now
    c.loop-is_more.invariant c.loop-is_more-test.true c.split_at_space.ensures.before c.split_at_space.ensures.behind
    (fits-tested c.loop-is_more.names.items _ c.split_at_space.result.0.now c.in-Some.keyword _ _ c.as_slice.ensures.value is c.may_follow.ensures c.if-not-may_follow.false)
    (c.in_ok-push.ensures.items ∙ ap (λ name. c.loop-is_more.names.items ++ name ∷ []) is.0)

pub returns-clause-few : goal.returns-clause-few
returns-clause-few c =
    subst (λ names. length names ≤ 30) (sym c.of.ensures)
    (read-end c.args.text.now c.loop-is_more.names.items c.loop-is_more.is_more c.loop-is_more.rest.now c.loop-is_more.invariant c.loop-is_more-test.false).0

pub returns-clause-differ : goal.returns-clause-differ
returns-clause-differ c =
    ap are_distinct c.of.ensures
    ∙ (read-end c.args.text.now c.loop-is_more.names.items c.loop-is_more.is_more c.loop-is_more.rest.now c.loop-is_more.invariant c.loop-is_more-test.false).1
