use Rattle.std.proofs.Common.{◌∙◌, ◌++◌, ap}
use Rattle.structure_text.specs.Strings.{word_text, after_spaces}
use Rattle.structure_text.specs.Bodies.{leaf_fields, type_fields, description_fields}
use Rattle.structure_text.proofs.Lists.{front_values}
use Rattle.structure_text.proofs.Writing.{ok-then}
use Rattle.structure_text.proofs.bodies.put_leaf_fields.Goals as goal

pub returns : goal.returns
unfolding leaf_fields
returns c =
    let part = c.args.part.now in
    let more = after_spaces (description_fields part) in
    ok-then _ _ c.put_description.result
    (λ is. is ∙ ap (λ t. t ++ more) c.in_ok-put_type.ensures ∙ front_values c.args.out.now.items (word_text part.content.kind) (type_fields part.content) (description_fields part))
    c.put_description.ensures
