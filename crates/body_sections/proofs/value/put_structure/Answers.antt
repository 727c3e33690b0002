use Rattle.std.proofs.Common.{◌∙◌, ◌++◌, ap}
use Rattle.body_sections.specs.Values.{IsBodyOf}
use Rattle.structure_text.proofs.Writing.{ok-then}
use Rattle.body_sections.proofs.Writing.{ok-if, appended}
use Rattle.body_sections.proofs.value.put_structure.Goals as goal

pub returns : goal.returns
returns c =
    ok-then _ _ c.extend_from_slice.result
    (λ is.
    appended (IsBodyOf c.args.text.now c.args.extended) c.in_ok-written.written.items c.args.out.now.items c.extend_from_slice.new.self.items
    (record { part = c.args.part.now; is_structure = c.requires; is_body = c.in_ok-written.ensures.is })
    (is ∙ ap (λ t. c.args.out.now.items ++ t) c.as_slice.ensures.value))
    (ok-if c.extend_from_slice.result _ _ _ c.extend_from_slice.ensures.items)
