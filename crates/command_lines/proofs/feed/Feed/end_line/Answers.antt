use Rattle.std.proofs.Common.{◌-◌, ◌∷◌, ◌++◌, [], refl, ap, ◌∙◌, take}
use Rattle.command_lines.proofs.Kept.{ended_taken}
use Rattle.command_lines.proofs.feed.Feed.end_line.Goals as goal

pub returns-clause-taken : goal.returns-clause-taken
returns-clause-taken c stream taken cr =
    let kept = c.args.self.now.kept in
    ended_taken c.args.self.now _ stream kept.len c.pop.new.self.items c.args.units.now.items c.push.new.self.items taken cr
    (ap (λ v. v.items) c.replace-line.ensures.after ∙ c.new.ensures.items) refl taken.goes_on kept.ok.0
    (c.pop.ensures.rest ∙ ap (λ v. take (v.len - 1) v.items) c.replace-line.ensures.value)
    (c.in_ok-push.ensures.items ∙ ap (λ line. c.args.units.now.items ++ line ∷ []) c.of.ensures)
