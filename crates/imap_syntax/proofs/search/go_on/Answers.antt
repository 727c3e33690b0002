use Rattle.std.proofs.Common.{◌-◌, refl, sym}
use Rattle.imap_arguments.proofs.Exits.{all_behind}
use Rattle.imap_syntax.specs.declared.search.Frame.TheVariants.{Among}
use Rattle.imap_syntax.proofs.Unwinding.{go_deeper}
use Rattle.imap_syntax.proofs.search.go_on.Goals as goal

pub returns-then-begins-clause-leads : goal.returns-then-begins-clause-leads
returns-then-begins-clause-leads c literals =
    go_deeper c.args.frames.now.items (Among c.args.before (c.args.room - 1)) c.args.room c.args.before.items c.args.rest.now _ literals c.push.new.self.items c.requires c.if-room-eq0.false
    (sym c.if-begins.ensures) c.in_ok-push.ensures.items (all_behind c.args.rest.now 1) (λ key. refl)
