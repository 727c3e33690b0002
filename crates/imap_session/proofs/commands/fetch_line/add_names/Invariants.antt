use Rattle.std.proofs.Common.{◌≡◌, ◌++◌, drop}
use Rattle.imap_reply.specs.Texts.{behind_spaces}
use Rattle.imap_session.specs.Names.{names_of}
use Rattle.imap_session.proofs.commands.fetch_line.add_names.Given as goal

abbrev pub invariant-loop-name : goal.invariant-loop-name
invariant-loop-name l = l.out.items ++ behind_spaces (names_of l.left (drop l.name-index l.words)) ≡ l.fn.out.items ++ behind_spaces (names_of l.numbers l.words)
