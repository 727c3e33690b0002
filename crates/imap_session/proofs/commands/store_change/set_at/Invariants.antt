use Rattle.std.proofs.Common.{◌≡◌, ◌++◌, ℕ, List, drop}
use Rattle.imap_arguments.specs.declared.flag.FlagList.{FlagList}
use Rattle.imap_session.specs.Names.{numbers_of}
use Rattle.imap_session.specs.Store.{changes_at}
use Rattle.imap_session.proofs.commands.store_change.set_at.Given as goal

abbrev pub invariant-loop-place : goal.invariant-loop-place
invariant-loop-place l = (given : FlagList) (names : List (List ℕ)) → l.setting.flags ≡ given.flags → l.setting.words ≡ numbers_of given.words names
    → l.changes.items ++ changes_at l.setting.mode given names l.infos (drop l.place-index l.places) ≡ changes_at l.setting.mode given names l.infos l.places
