use Rattle.std.proofs.Common.{◌≡◌, ◌++◌, drop, map}
use Rattle.imap_reply.specs.Texts.{behind_spaces}
use Rattle.body_sections.specs.Labels.{field_text}
use Rattle.body_sections.proofs.label.put_field_names.Given as goal

abbrev pub invariant-loop-name : goal.invariant-loop-name
invariant-loop-name l = l.out.items ++ behind_spaces (map field_text (drop l.name-index l.more)) ≡ l.initial.out.items ++ behind_spaces (map field_text l.more)
