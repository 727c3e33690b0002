use Rattle.std.proofs.Common.{map}
use Rattle.std.proofs.lemmas.List.{append-nil}
use Rattle.imap_reply.specs.Texts.{in_parentheses}
use Rattle.body_sections.specs.Labels.{field_text}
use Rattle.body_sections.proofs.label.put_kind.Goals as goal

pub returns-in-Fields : goal.returns-in-Fields
returns-in-Fields c = rw (c.in-Fields.is, ← c.as_slice.ensures, append-nil (in_parentheses (map field_text c.as_slice.result.now))) c.put_fields.ensures

pub returns-in-FieldsNot : goal.returns-in-FieldsNot
returns-in-FieldsNot c = rw (c.in-FieldsNot.is, ← c.as_slice-in-FieldsNot.ensures, append-nil (in_parentheses (map field_text c.as_slice-in-FieldsNot.result.now))) c.put_fields-in-FieldsNot.ensures
