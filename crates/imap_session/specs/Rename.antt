-- RENAME (RFC 3501, section 6.3.5).
use Rattle.std.specs.Prelude.{ℕ, List, [], Ok}
use Rattle.mail_tree.specs.Changes.{due_rename, renamed_tree}
use Rattle.imap_reply.specs.declared.text.Words.TheVariants as words
use Rattle.imap_session.specs.State.{State, Outcome, ◌>>=◌, with_tree, selected_name, done, or_leaves}
use Rattle.imap_session.specs.Refusals.{the_name, unless_tree}

-- both names are read before the tree is asked
abbrev pub rename : List ℕ → List ℕ → List ℕ → State → Outcome
rename tag from_bytes to_bytes state = or_leaves state (do
  from ← the_name tag from_bytes
  to ← the_name tag to_bytes
  can ← unless_tree tag (due_rename state.tree from to (selected_name state))
  Ok (done tag words.Rename (with_tree state (renamed_tree state.tree from to)) []))
