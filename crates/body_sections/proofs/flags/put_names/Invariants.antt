use Rattle.std.proofs.Common.{◌≡◌, ◌++◌, drop}
use Rattle.imap_reply.specs.Texts.{behind_spaces}
use Rattle.looked_message.specs.Messages.{names_of}
use Rattle.body_sections.proofs.flags.put_names.Given as goal

abbrev pub invariant-loop-name : goal.invariant-loop-name
invariant-loop-name l = l.out.items ++ behind_spaces (names_of l.left (drop l.name-index l.names)) ≡ l.fn.out.items ++ behind_spaces (names_of l.numbers l.names)
