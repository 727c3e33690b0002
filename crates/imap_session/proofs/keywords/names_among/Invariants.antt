use Rattle.std.proofs.Common.{◌≡◌, ◌++◌, drop}
use Rattle.std.specs.List.{filter, list_any}
use Rattle.imap_session.specs.declared.adding.Brought.{Brought}
use Rattle.imap_session.specs.Names.{has_name}
use Rattle.imap_session.proofs.keywords.names_among.Given as goal

abbrev pub invariant-loop-name : goal.invariant-loop-name
invariant-loop-name l =
    l.among.items ++ filter (λ name. list_any (λ (b : Brought). has_name b.names name) l.brought) (drop l.name-index l.names) ≡ filter (λ name. list_any (λ (b : Brought). has_name b.names name) l.brought) l.names
