use Rattle.body_sections.proofs.FieldEnds as ends
use Rattle.body_sections.proofs.section.first_length.Goals as goal

pub returns-clause-value : goal.returns-clause-value
returns-clause-value c = ends.first_length c.args.text.now _ c.line_length.ensures.within c.line_length.ensures.lines
