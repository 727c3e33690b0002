-- What each unit of a client leads to.
use Rattle.std.specs.Prelude.{ℕ, Bool, true, false, List, if◌then◌else◌}
use Rattle.std.specs.List.{list_all}
use Rattle.imap_syntax.specs.declared.command.Command.{Command}
use Rattle.imap_syntax.specs.declared.command.Command.TheVariants as commands
use Rattle.imap_grammar.specs.declared.unit.Unit as client
use Rattle.imap_grammar.specs.declared.unit.Unit.TheVariants as units
use Rattle.imap_reply.specs.declared.reply.Reply.TheVariants as reply
use Rattle.session_loop.specs.Machine.{Answered}
use Rattle.imap_session.specs.State.{State, Outcome, outcome_lines, only, counted}
use Rattle.imap_session.specs.Plain.{capability, noop, logout, password, check}
use Rattle.imap_session.specs.Select.{select}
use Rattle.imap_session.specs.Create.{create}
use Rattle.imap_session.specs.Delete.{delete}
use Rattle.imap_session.specs.Rename.{rename}
use Rattle.imap_session.specs.Subscribe.{subscribe, unsubscribe}
use Rattle.imap_session.specs.Listed.{list, lsub}
use Rattle.imap_session.specs.Status.{status}
use Rattle.imap_session.specs.Adding.{append, copy}
use Rattle.imap_session.specs.Expunge.{expunge, close}
use Rattle.imap_session.specs.Fetch.{fetch}
use Rattle.imap_session.specs.Search.{search}
use Rattle.imap_session.specs.Store.{store}
use Rattle.any_store.specs.Choice.{Formats}
use Rattle.imap_session.specs.Items.{is_built}
use Rattle.imap_session.specs.Lines.{Line}

-- a command that isn't built
abbrev pub not_built : List ℕ → State → Outcome
not_built tag state = only state (reply.Bad tag 0)

-- what a command leads to, in a state that counts it; the items of FETCH that read texts aren't built
abbrev pub commanded : Formats → List ℕ → Command → State → Outcome
commanded formats tag commands.Capability state = capability tag state
commanded formats tag commands.Noop state = noop tag state
commanded formats tag commands.Check state = check tag state
commanded formats tag commands.Close state = close formats tag state
commanded formats tag commands.Expunge state = expunge formats tag state
commanded formats tag commands.Logout state = logout tag state
commanded formats tag (commands.Password word) state = password tag word state
commanded formats tag (commands.Select name) state = select formats false tag name state
commanded formats tag (commands.Examine name) state = select formats true tag name state
commanded formats tag (commands.Create name) state = create tag name state
commanded formats tag (commands.Delete name) state = delete tag name state
commanded formats tag (commands.Subscribe name) state = subscribe tag name state
commanded formats tag (commands.Unsubscribe name) state = unsubscribe tag name state
commanded formats tag (commands.Rename from to) state = rename tag from to state
commanded formats tag (commands.List reference pattern) state = list tag reference pattern state
commanded formats tag (commands.Lsub reference pattern) state = lsub tag reference pattern state
commanded formats tag (commands.Status name items) state = status tag name items state
commanded formats tag (commands.Append name flags stamp text) state = append formats tag name flags stamp text state
commanded formats tag (commands.Search uid charset key) state = search tag uid charset key state
commanded formats tag (commands.Fetch uid set items) state = if list_all is_built items then fetch tag uid set items state else not_built tag state
commanded formats tag (commands.Store uid set mode silent flags) state = store formats tag uid set mode silent flags state
commanded formats tag (commands.Copy uid set name) state = copy formats tag uid set name state

-- each unit but the announcement of a literal counts as a command
abbrev pub outcome_of : Formats → State → client.Unit → Outcome
outcome_of formats state units.Announce = only state reply.Announce
outcome_of formats state (units.Command tag command) = commanded formats tag command (counted state)
outcome_of formats state (units.Bad tag reason) = only (counted state) (reply.Bad tag reason)
outcome_of formats state (units.Large tag) = only (counted state) (reply.Large tag)

abbrev pub step : Formats → State → client.Unit → Answered State Line
step formats state unit = let outcome = outcome_of formats state unit in record { next = outcome.next; reply = outcome_lines outcome }

abbrev pub is_logout : Command → Bool
is_logout commands.Logout = true
is_logout command = false

-- LOGOUT ends the session
abbrev pub is_last : client.Unit → Bool
is_last (units.Command tag command) = is_logout command
is_last unit = false
