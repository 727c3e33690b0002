use Rattle.std.proofs.Common.{◌<◌, ◌-◌, ◌++◌, ◌∷◌, [], ap, arith, length}
use Rattle.std.proofs.lemmas.Bool.Decides.{nat_tests}
use Rattle.imap_arguments.specs.Tokens.{begins}
use Rattle.imap_syntax.specs.Keys.{key_at}
use Rattle.imap_syntax.specs.Stack.{among}
use Rattle.imap_syntax.specs.declared.search.Frame.TheVariants.{Among}
use Rattle.imap_syntax.proofs.Unwinding.{first_deeper}
use Rattle.imap_syntax.proofs.search.begin_list.Goals as goal

pub returns-clause-leads : goal.returns-clause-leads
returns-clause-leads c literals =
    let frames = c.args.frames.now.items in
    let inner = c.args.inner.now in
    let test = c.if-is_empty.ensures in
    let some : 0 < length inner = grind (arith, nat_tests, test) in
    first_deeper frames (Among c.new.result (length inner - 1)) inner literals c.push.new.self.items c.requires some c.in_ok-push.ensures.items
    (λ key. ap (λ before. among (key_at (99 - length frames)) (length inner - 1) (record { keys = before ++ key.key ∷ []; literals = key.literals }) key.rest (begins 32 key.rest))
    c.new.ensures.items)
