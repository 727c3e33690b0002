use Rattle.std.proofs.Common.{◌-◌, sym, ap, length}
use Rattle.imap_arguments.specs.Readings.{◌>>=◌}
use Rattle.imap_syntax.specs.Keys.{key_at}
use Rattle.imap_syntax.specs.Stack.{given, unwound}
use Rattle.imap_syntax.specs.declared.search.Frame.TheVariants.{FirstOf}
use Rattle.imap_syntax.proofs.Unwinding.{word_deeper}
use Rattle.imap_syntax.proofs.search.begin_either.Goals as goal

pub returns-clause-leads : goal.returns-clause-leads
returns-clause-leads c literals =
    let frames = c.args.frames.now.items in
    word_deeper frames FirstOf c.in_ok-behind.behind.now literals c.push.new.self.items _ c.requires c.in_ok-push.ensures.items
    (sym (ap (λ r. (r >>= λ behind. key_at (99 - length frames) behind literals >>= given (key_at (99 - length frames)) FirstOf) >>= unwound 0 frames) c.in_ok-behind.ensures.value))
