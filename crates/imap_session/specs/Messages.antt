-- The FETCH lines of messages of the selected mailbox (RFC 3501, section 7.4.2).
use Rattle.std.specs.Prelude.{ℕ, List, [], ◌∷◌, ◌++◌, ◌+◌, nat_eq, slice_get, Option, Some, None}
use Rattle.std.specs.List.{list_any}
use Rattle.imap_arguments.specs.declared.item.Item.{Item}
use Rattle.mail_types.specs.declared.message.Record.{Record}
use Rattle.store_trait.specs.Views.{info_of}
use Rattle.imap_session.specs.Items.{LookedAt}
use Rattle.imap_session.specs.Lines.{Line, message_line}
use Rattle.imap_session.specs.State.{Selected}

abbrev pub looked_at : Selected → (place : ℕ) → Record → LookedAt
looked_at s place r = record { number = place + 1; info = info_of r; recent = list_any (nat_eq r.uid) s.recent; words = s.placed.mailbox.words; text = r.text }

abbrev pub line_at : Selected → List Item → (place : ℕ) → Option Record → List Line
line_at s asked place None = []
line_at s asked place (Some r) = message_line asked (looked_at s place r) ∷ []

-- one for each of these places
abbrev pub fetch_lines : Selected → List Item → List ℕ → List Line
fetch_lines s asked [] = []
fetch_lines s asked (place ∷ places) = line_at s asked place (slice_get s.placed.mailbox.records place) ++ fetch_lines s asked places
