-- SUBSCRIBE and UNSUBSCRIBE (RFC 3501, sections 6.3.6 and 6.3.7).
use Rattle.std.specs.Prelude.{ℕ, List, [], Ok}
use Rattle.mail_tree.specs.Changes.{subscribed_tree, due_unsubscribe, unsubscribed_tree}
use Rattle.imap_reply.specs.declared.text.Words.TheVariants as words
use Rattle.imap_session.specs.State.{State, Outcome, ◌>>=◌, with_tree, done, or_leaves}
use Rattle.imap_session.specs.Refusals.{the_name, unless_tree}

abbrev pub subscribe : List ℕ → List ℕ → State → Outcome
subscribe tag bytes state = or_leaves state (do
  name ← the_name tag bytes
  Ok (done tag words.Subscribe (with_tree state (subscribed_tree state.tree name)) []))

abbrev pub unsubscribe : List ℕ → List ℕ → State → Outcome
unsubscribe tag bytes state = or_leaves state (do
  name ← the_name tag bytes
  can ← unless_tree tag (due_unsubscribe state.tree name)
  Ok (done tag words.Unsubscribe (with_tree state (unsubscribed_tree state.tree name)) []))
