use Rattle.std.proofs.Common.{◌++◌, codes, append_assoc, ap, ◌∙◌}
use Rattle.status_heads.specs.declared.base.Base.{Base}
use Rattle.status_heads.specs.PseudoTexts.{pseudo_text}
use Rattle.unix_layout.specs.Writing.{messages_text}
use Rattle.unix_layout.proofs.writing.put_file.Goals as goal

pub returns-clause-text : goal.returns-clause-text
returns-clause-text c =
    let told = c.args.told.now in
    let texts = c.args.texts.now in
    let rest = messages_text told.words told.infos texts in
    let base : Base = record { validity = told.validity; last = told.last; words = told.words } in
    c.in_ok-put_messages.ensures
    ∙ (λ i. c.in_ok-extend_from_slice.ensures.items i ++ messages_text (c.words-2.ensures i) (c.infos.ensures i) texts)
    ∙ ap (λ t. (t ++ codes "\n") ++ rest)
    (c.in_ok-out.ensures.text ∙ (λ i. pseudo_text (record { validity = c.validity.ensures i; last = c.last.ensures i; words = (c.in_ok-copied.ensures.names ∙ c.words.ensures) i })))
    ∙ append_assoc (pseudo_text base) (codes "\n") rest
