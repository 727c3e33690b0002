use Rattle.std.proofs.Common.{◌<◌, Ok, ◌∙◌, sym, ap, subst, arith, length}
use Rattle.imap_arguments.specs.Readings.{◌>>=◌}
use Rattle.imap_arguments.proofs.Exits.{fails_so}
use Rattle.imap_syntax.specs.Keys.{numbers, leaf, negation, either, parenthesis}
use Rattle.imap_syntax.specs.Stack.{unwound, Leads, opening_in}
use Rattle.imap_syntax.proofs.Remainders.{opens_within, shorter_inside, numbers_within, leaf_within, ok_so}
use Rattle.imap_syntax.proofs.Unwinding.{key_here, no_key_here, leads_err}
use Rattle.imap_syntax.proofs.search.open_key.Goals as goal

pub returns-in_err-inner-clause-leads : goal.returns-in_err-inner-clause-leads
returns-in_err-inner-clause-leads c =
    let frames = c.args.frames.now.items in
    let less : length frames < 100 = omega arith in
    leads_err c.from_residual.result c.in_err-inner.field-0.0 _ _ _ c.from_residual.ensures.1
    (fails_so c.in_err-inner.field-0.0 _ _ c.in_err-inner.ensures (λ reason read. no_key_here frames c.args.bytes.now c.args.literals.now.items reason less read))

pub returns-in_err-key-in-Numbers-clause-leads : goal.returns-in_err-key-in-Numbers-clause-leads
returns-in_err-key-in-Numbers-clause-leads c =
    let frames = c.args.frames.now.items in
    let less : length frames < 100 = omega arith in
    let here = key_here frames c.args.bytes.now c.args.literals.now.items (numbers c.in-Numbers.set.now) less (c.in_ok-inner.ensures ∙ ap (λ o. Ok (opening_in o)) c.in-Numbers.is) in
    leads_err c.from_residual-in_err-key-in-Numbers.result c.in_err-key-in-Numbers.field-0.0 _ _ _ c.from_residual-in_err-key-in-Numbers.ensures.1
    (fails_so c.in_err-key-in-Numbers.field-0.0 _ _ c.in_err-key-in-Numbers.ensures (λ reason read. here ∙ ap (λ r. r >>= unwound 0 frames) read))

pub returns-in_err-key-in-Leaf-clause-leads : goal.returns-in_err-key-in-Leaf-clause-leads
returns-in_err-key-in-Leaf-clause-leads c =
    let frames = c.args.frames.now.items in
    let less : length frames < 100 = omega arith in
    let here = key_here frames c.args.bytes.now c.args.literals.now.items (leaf c.in-Leaf.word.now c.in-Leaf.rest.now) less (c.in_ok-inner.ensures ∙ ap (λ o. Ok (opening_in o)) c.in-Leaf.is) in
    leads_err c.from_residual-in_err-key-in-Leaf.result c.in_err-key-in-Leaf.field-0.0 _ _ _ c.from_residual-in_err-key-in-Leaf.ensures.1
    (fails_so c.in_err-key-in-Leaf.field-0.0 _ _ c.in_err-key-in-Leaf.ensures (λ reason read. here ∙ ap (λ r. r >>= unwound 0 frames) read))

pub returns-in-Parenthesis-clause-leads : goal.returns-in-Parenthesis-clause-leads
returns-in-Parenthesis-clause-leads c =
    let frames = c.args.frames.now.items in
    let less : length frames < 100 = omega arith in
    let here = key_here frames c.args.bytes.now c.args.literals.now.items (parenthesis c.in-Parenthesis.inner.now) less (c.in_ok-inner.ensures ∙ ap (λ o. Ok (opening_in o)) c.in-Parenthesis.is) in
    subst (Leads c.begin_list.result c.begin_list.new.frames.items c.args.literals.now.items) (sym here) (c.begin_list.ensures.leads c.args.literals.now.items)

pub returns-in-Negation-clause-leads : goal.returns-in-Negation-clause-leads
returns-in-Negation-clause-leads c =
    let frames = c.args.frames.now.items in
    let less : length frames < 100 = omega arith in
    let here = key_here frames c.args.bytes.now c.args.literals.now.items (negation c.in-Negation.rest.now) less (c.in_ok-inner.ensures ∙ ap (λ o. Ok (opening_in o)) c.in-Negation.is) in
    subst (Leads c.begin_negation.result c.begin_negation.new.frames.items c.args.literals.now.items) (sym here) (c.begin_negation.ensures.leads c.args.literals.now.items)

pub returns-in-Either-clause-leads : goal.returns-in-Either-clause-leads
returns-in-Either-clause-leads c =
    let frames = c.args.frames.now.items in
    let less : length frames < 100 = omega arith in
    let here = key_here frames c.args.bytes.now c.args.literals.now.items (either c.in-Either.rest.now) less (c.in_ok-inner.ensures ∙ ap (λ o. Ok (opening_in o)) c.in-Either.is) in
    subst (Leads c.begin_either.result c.begin_either.new.frames.items c.args.literals.now.items) (sym here) (c.begin_either.ensures.leads c.args.literals.now.items)

pub returns-in_ok-key-in-Numbers-clause-nearer : goal.returns-in_ok-key-in-Numbers-clause-nearer
returns-in_ok-key-in-Numbers-clause-nearer c =
    let opens = opens_within c.args.bytes.now (numbers c.in-Numbers.set.now) (c.in_ok-inner.ensures ∙ ap (λ o. Ok (opening_in o)) c.in-Numbers.is) in
    let left = numbers_within c.in-Numbers.set.now c.args.literals.now.items _ c.in_ok-key-in-Numbers.ensures in
    omega arith

pub returns-in_ok-key-in-Leaf-clause-nearer : goal.returns-in_ok-key-in-Leaf-clause-nearer
returns-in_ok-key-in-Leaf-clause-nearer c =
    let opens = opens_within c.args.bytes.now (leaf c.in-Leaf.word.now c.in-Leaf.rest.now) (c.in_ok-inner.ensures ∙ ap (λ o. Ok (opening_in o)) c.in-Leaf.is) in
    let left = leaf_within c.in-Leaf.word.now c.in-Leaf.rest.now c.args.literals.now.items _ c.in_ok-key-in-Leaf.ensures in
    omega arith

pub returns-in-Parenthesis-clause-nearer : goal.returns-in-Parenthesis-clause-nearer
returns-in-Parenthesis-clause-nearer c =
    let inside = shorter_inside c.args.bytes.now c.in-Parenthesis.inner.now (c.in_ok-inner.ensures ∙ ap (λ o. Ok (opening_in o)) c.in-Parenthesis.is) in
    ok_so _ _ c.begin_list.result (λ step few. omega arith) c.begin_list.ensures.nearer

pub returns-in-Negation-clause-nearer : goal.returns-in-Negation-clause-nearer
returns-in-Negation-clause-nearer c =
    let opens = opens_within c.args.bytes.now (negation c.in-Negation.rest.now) (c.in_ok-inner.ensures ∙ ap (λ o. Ok (opening_in o)) c.in-Negation.is) in
    ok_so _ _ c.begin_negation.result (λ step few. omega arith) c.begin_negation.ensures.nearer

pub returns-in-Either-clause-nearer : goal.returns-in-Either-clause-nearer
returns-in-Either-clause-nearer c =
    let opens = opens_within c.args.bytes.now (either c.in-Either.rest.now) (c.in_ok-inner.ensures ∙ ap (λ o. Ok (opening_in o)) c.in-Either.is) in
    ok_so _ _ c.begin_either.result (λ step few. omega arith) c.begin_either.ensures.nearer
