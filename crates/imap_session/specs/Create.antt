-- CREATE (RFC 3501, section 6.3.3): a mailbox of the driver that the name asks for, or with a slash at its end a directory.
use Rattle.std.specs.Prelude.{ℕ, List, [], if◌then◌else◌, Option, Ok}
use Rattle.mail_tree.specs.declared.fault.TreeFault.{TreeFault}
use Rattle.mail_tree.specs.Names.{TargetValue}
use Rattle.mail_tree.specs.Trees.{Tree}
use Rattle.mail_tree.specs.Changes.{due_create, created_tree, due_create_dir, tree_with_directory}
use Rattle.imap_reply.specs.declared.text.Words.TheVariants as words
use Rattle.imap_session.specs.State.{State, Outcome, ◌>>=◌, fresh, with_tree, done, or_leaves}
use Rattle.imap_session.specs.Refusals.{the_target, unless_tree}

abbrev pub due_new : Tree → TargetValue → Option TreeFault
due_new tree target = if target.directory then due_create_dir tree target.name else due_create tree target.name target.driver

abbrev pub tree_with : Tree → TargetValue → (fresh : ℕ) → Tree
tree_with tree target fresh = if target.directory then tree_with_directory tree target.name else created_tree tree target.name target.driver fresh

abbrev pub create : List ℕ → List ℕ → State → Outcome
create tag bytes state = or_leaves state (do
  target ← the_target tag bytes
  can ← unless_tree tag (due_new state.tree target)
  Ok (done tag words.Create (with_tree state (tree_with state.tree target (fresh state))) []))
