use Rattle.std.proofs.Common.{◌++◌, ◌∷◌, [], ◌∙◌, sym, ap, subst}
use Rattle.imap_syntax.specs.Keys.{ReadKey}
use Rattle.imap_syntax.specs.Stack.{unwound, gone_on, Leads}
use Rattle.imap_syntax.specs.declared.key.Key as keys
use Rattle.imap_syntax.specs.declared.search.Frame.TheVariants.{Negated, FirstOf, SecondOf, Among}
use Rattle.imap_syntax.proofs.Unwinding.{innermost}
use Rattle.imap_syntax.proofs.search.close_key.Goals as goal

pub returns-in_ok-new-in-Negated-clause-leads : goal.returns-in_ok-new-in-Negated-clause-leads
returns-in_ok-new-in-Negated-clause-leads c literals =
    let frames = c.args.frames.now.items in
    let key : ReadKey = record { key = c.args.key; rest = c.args.rest.now; literals = literals } in
    let all = ap (λ f. frames ++ f ∷ []) c.in-Negated.is in
    ap (λ k. unwound 0 frames (record { key = keys.Not k; rest = c.args.rest.now; literals = literals })) c.in_ok-new-in-Negated.ensures
    ∙ sym (ap (λ frames. unwound 0 frames key) all ∙ innermost frames Negated key)

pub returns-in-FirstOf-clause-leads : goal.returns-in-FirstOf-clause-leads
returns-in-FirstOf-clause-leads c literals =
    let frames = c.args.frames.now.items in
    let key : ReadKey = record { key = c.args.key; rest = c.args.rest.now; literals = literals } in
    let all = ap (λ f. frames ++ f ∷ []) c.in-FirstOf.is in
    subst (Leads c.begin_second.result c.begin_second.new.frames.items literals) (sym (ap (λ frames. unwound 0 frames key) all ∙ innermost frames FirstOf key))
    (c.begin_second.ensures.leads literals)

pub returns-in_ok-other-in-SecondOf-clause-leads : goal.returns-in_ok-other-in-SecondOf-clause-leads
returns-in_ok-other-in-SecondOf-clause-leads c literals =
    let frames = c.args.frames.now.items in
    let rest = c.args.rest.now in
    let one = c.in-SecondOf.one in
    let key : ReadKey = record { key = c.args.key; rest = rest; literals = literals } in
    let all = ap (λ f. frames ++ f ∷ []) c.in-SecondOf.is in
    ap (λ k. unwound 0 frames (record { key = keys.Or k c.in_ok-other-in-SecondOf.other; rest = rest; literals = literals })) c.in_ok-one-in-SecondOf.ensures
    ∙ ap (λ k. unwound 0 frames (record { key = keys.Or one k; rest = rest; literals = literals })) c.in_ok-other-in-SecondOf.ensures
    ∙ sym (ap (λ frames. unwound 0 frames key) all ∙ innermost frames (SecondOf one) key)

pub returns-in_ok-push-in-Among-clause-leads : goal.returns-in_ok-push-in-Among-clause-leads
returns-in_ok-push-in-Among-clause-leads c literals =
    let frames = c.args.frames.now.items in
    let rest = c.args.rest.now in
    let room = c.in-Among.room in
    let key : ReadKey = record { key = c.args.key; rest = rest; literals = literals } in
    let all = ap (λ f. frames ++ f ∷ []) c.in-Among.is in
    subst (Leads c.go_on.result c.go_on.new.frames.items literals)
    (ap (λ items. gone_on frames literals items room rest) c.in_ok-push-in-Among.ensures.items
    ∙ sym (ap (λ frames. unwound 0 frames key) all ∙ innermost frames (Among c.in-Among.before room) key))
    (c.go_on.ensures.leads literals)
