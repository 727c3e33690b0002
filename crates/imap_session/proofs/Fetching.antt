-- The lines of FETCH by what a store tells.
use Rattle.std.proofs.Common.{ℕ, zero, suc, List, [], ◌∷◌, ◌++◌, ◌+◌, ◌≡◌, refl, sym, ◌∙◌, ap, subst, map, nat_eq, slice_get, Some, None, Result, Ok, Err}
use Rattle.std.specs.List.{list_any}
use Rattle.std.proofs.lemmas.List.{append-nil}
use Rattle.file_model.specs.Histories.{History}
use Rattle.imap_arguments.specs.declared.item.Item.{Item}
use Rattle.imap_reply.specs.declared.reply.Reply.{Reply}
use Rattle.imap_reply.specs.Putting.{Puts}
use Rattle.imap_reply.specs.Replies.{reply_bytes}
use Rattle.mail_types.specs.declared.mailbox.Mailbox.{Mailbox}
use Rattle.mail_types.specs.declared.message.Record.{Record}
use Rattle.session_loop.specs.declared.answers.Stop.{Stop}
use Rattle.store_trait.specs.declared.store.Info.{Info}
use Rattle.store_trait.specs.Views.{info_of, text_at, text_in}
use Rattle.imap_session.specs.Lines.{Line, message_line, SaysLine}
use Rattle.imap_session.specs.Messages.{line_at, fetch_lines}
use Rattle.imap_session.specs.Putting.{PutsLines}
use Rattle.imap_session.specs.State.{Selected, infos_of}
use Rattle.imap_session.specs.Told.{told, line_in, told_line, told_lines}
use Rattle.imap_session.proofs.Putting.{puts_none, puts_said, puts_no_more}

-- the line of the message at a place is put
pub line_put : (texts : ℕ → List ℕ) (items : List Item) (words : List (List ℕ)) (recent : List ℕ) (infos : List Info) (place : ℕ) (info : Info) (line : Reply)
    (was is : List ℕ) (result : Result (Unit {0}) Stop) (old new : History) → slice_get infos place ≡ Some info
    → SaysLine (message_line items (told (place + 1) info (list_any (nat_eq info.uid) recent) words (texts place))) (reply_bytes line)
    → Puts (was ++ reply_bytes line) is result old new → PutsLines (told_line texts items words recent infos place) was is result old new
line_put texts items words recent infos place info line was is result old new there says puts =
    subst (λ o. PutsLines (line_in texts items words recent place o) was is result old new) (sym there)
    (puts_said (line_in texts items words recent place (Some info)) (reply_bytes line) was is result old new (reply_bytes line, [], says, refl, sym (append-nil (reply_bytes line))) puts)

pub none_there : (texts : ℕ → List ℕ) (items : List Item) (words : List (List ℕ)) (recent : List ℕ) (infos : List Info) (place : ℕ) (waits : List ℕ) (h : History)
    → slice_get infos place ≡ None → PutsLines (told_line texts items words recent infos place) waits waits (Ok tt) h h
none_there texts items words recent infos place waits h gone =
    subst (λ o. PutsLines (line_in texts items words recent place o) waits waits (Ok tt) h h) (sym gone) (puts_none waits h)

-- the session ends before a line is put
pub puts_stopped : (lines : List Line) (waits : List ℕ) (stop : Stop) (h : History) → PutsLines lines waits waits (Err stop) h h
puts_stopped lines waits stop h = puts_no_more [] lines waits waits stop h h (record { instants = (puts_none waits h).instants; done = tt })

-- ---- What a store tells is enough for the lines

line_told : (s : Selected) (items : List Item) (texts : ℕ → List ℕ) (place : ℕ) (records : List Record) (i : ℕ) → texts place ≡ text_in (slice_get records i)
    → line_at s items place (slice_get records i) ≡ line_in texts items s.placed.mailbox.words s.recent place (slice_get (map info_of records) i)
line_told s items texts place [] i same = refl
line_told s items texts place (r ∷ records) zero same =
    ap (λ text. message_line items (told (place + 1) (info_of r) (list_any (nat_eq r.uid) s.recent) s.placed.mailbox.words text) ∷ []) (sym same)
line_told s items texts place (r ∷ records) (suc i) same = line_told s items texts place records i same

-- the texts of a mailbox by their places
abbrev pub texts_of : Mailbox → ℕ → List ℕ
texts_of m place = text_at m place

pub lines_told : (s : Selected) (items : List Item) (places : List ℕ)
    → fetch_lines s items places ≡ told_lines (texts_of s.placed.mailbox) items s.placed.mailbox.words s.recent (infos_of s) places
lines_told s items [] = refl
lines_told s items (place ∷ places) =
    ap (λ l. l ++ fetch_lines s items places) (line_told s items (texts_of s.placed.mailbox) place s.placed.mailbox.records place refl)
    ∙ ap (λ l. told_line (texts_of s.placed.mailbox) items s.placed.mailbox.words s.recent (infos_of s) place ++ l) (lines_told s items places)
