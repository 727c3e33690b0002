-- DELETE (RFC 3501, section 6.3.4).
use Rattle.std.specs.Prelude.{ℕ, List, [], Ok}
use Rattle.mail_tree.specs.Changes.{due_delete, deleted_tree}
use Rattle.imap_reply.specs.declared.text.Words.TheVariants as words
use Rattle.imap_session.specs.State.{State, Outcome, ◌>>=◌, with_tree, selected_name, done, or_leaves}
use Rattle.imap_session.specs.Refusals.{the_name, unless_tree}

abbrev pub delete : List ℕ → List ℕ → State → Outcome
delete tag bytes state = or_leaves state (do
  name ← the_name tag bytes
  can ← unless_tree tag (due_delete state.tree name (selected_name state))
  Ok (done tag words.Delete (with_tree state (deleted_tree state.tree name)) []))
