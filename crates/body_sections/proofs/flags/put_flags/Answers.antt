use Rattle.std.proofs.Common.{◌∙◌, ◌++◌, ap, drop}
use Rattle.looked_message.specs.Messages.{looked_at}
use Rattle.body_sections.specs.Values.{flag_names}
use Rattle.structure_text.proofs.Writing.{ok-then}
use Rattle.body_sections.proofs.Writing.{ok-if, list-written}
use Rattle.body_sections.proofs.flags.put_flags.Goals as goal

pub returns : goal.returns
returns c =
    ok-then _ _ c.extend_from_slice-2.result
    (λ ends.
    list-written (flag_names (looked_at c.args.message.now)) c.args.out.now.items c.push.new.self.items c.extend_from_slice.new.self.items c.extend_from_slice-2.new.self.items c.in_ok-names.names.items
    c.in_ok-names.ensures c.in_ok-push.ensures.items
    (c.in_ok-extend_from_slice.ensures.items ∙ ap (λ t. c.push.new.self.items ++ t) (c.behind_first.ensures ∙ ap (drop 1) c.as_slice.ensures.value)) ends)
    (ok-if c.extend_from_slice-2.result _ _ _ c.extend_from_slice-2.ensures.items)
