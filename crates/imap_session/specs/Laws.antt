-- The laws of the session's protocol.
use Rattle.std.specs.Prelude.{ℕ, List, [], ◌∷◌, ◌++◌, ◌≡◌, ◌≢◌, refl}
use Rattle.std.proofs.Common.{sym, ◌∙◌, ap, subst}
use Rattle.any_store.specs.Choice.{Formats}
use Rattle.imap_arguments.specs.declared.item.Item.{Item}
use Rattle.imap_arguments.specs.declared.item.Item.TheVariants as items
use Rattle.imap_grammar.specs.Units.{units_of}
use Rattle.raw_commands.specs.Streams.{unfinished}
use Rattle.imap_reply.specs.declared.reply.Reply.TheVariants as reply
use Rattle.imap_reply.specs.Replies.{reply_bytes}
use Rattle.imap_reply.proofs.Bytes.{line_says}
use Rattle.mail_tree.proofs.Agreed.{agreed}
use Rattle.mail_tree.proofs.Nodes.{AreFormats}
use Rattle.session_loop.specs.Machine.{IsKept, SaysSomething}
use Rattle.imap_session.specs.Items.{LookedAt, IsItem, AreItems}
use Rattle.imap_session.specs.Lines.{Line, reply_line, message_line, SaysLine}
use Rattle.imap_session.specs.Protocol.{protocol}
use Rattle.imap_session.specs.State.{Outcome, outcome_lines}
use Rattle.imap_session.specs.Step.{outcome_of}

-- what every crash leaves, each image has
pub kept : (formats : Formats) → AreFormats formats → IsKept (protocol formats)
kept formats laws disk state alike image left = agreed formats laws disk image left state.root state.tree alike

-- the units are the grammar's
pub of_grammar : (formats : Formats) → ((protocol formats).units_of ≡ units_of) × ((protocol formats).unfinished ≡ unfinished)
of_grammar formats = (refl, refl)

some_behind : {A : Type 0} (front : List A) (x : A) → front ++ x ∷ [] ≢ []
some_behind [] x is = absurd (cc)
some_behind (y ∷ front) x is = absurd (cc)

some_line : (outcome : Outcome) → outcome_lines outcome ≢ []
some_line outcome = some_behind outcome.untagged (reply_line outcome.last)

some_byte : (line : Line) (bytes : List ℕ) → SaysLine line bytes → bytes ≢ []
some_byte (reply_line line) bytes is = subst (λ b. b ≢ []) (sym is) (line_says line)
some_byte (message_line items m) bytes is = subst (λ b. b ≢ []) (sym is.2) (line_says (reply.Fetch m.number is.0))

-- an item says one text of a message
one_text : (item : Item) (m : LookedAt) (one other : List ℕ) → IsItem item m one → IsItem item m other → one ≡ other
one_text items.Flags m one other is also = is ∙ sym also
one_text items.InternalDate m one other is also = is ∙ sym also
one_text items.Size m one other is also = is ∙ sym also
one_text items.Uid m one other is also = is ∙ sym also
one_text items.Envelope m one other is also = absurd is
one_text items.Body m one other is also = absurd is
one_text items.BodyStructure m one other is also = absurd is
one_text items.Rfc822 m one other is also = absurd is
one_text items.Rfc822Header m one other is also = absurd is
one_text items.Rfc822Text m one other is also = absurd is
one_text (items.Part section range peek) m one other is also = absurd is

one_texts : (items : List Item) (m : LookedAt) (one other : List (List ℕ)) → AreItems items m one → AreItems items m other → one ≡ other
one_texts [] m [] [] are also = refl
one_texts [] m [] (text ∷ texts) are also = absurd also
one_texts [] m (text ∷ texts) other are also = absurd are
one_texts (item ∷ items) m [] other are also = absurd are
one_texts (item ∷ items) m (text ∷ texts) [] are also = absurd also
one_texts (item ∷ items) m (text ∷ texts) (second ∷ others) are also =
    ap (λ t. t ∷ texts) (one_text item m text second are.0 also.0) ∙ ap (λ l. second ∷ l) (one_texts items m texts others are.1 also.1)

-- a line is said in one way
one_way : (line : Line) (one other : List ℕ) → SaysLine line one → SaysLine line other → one ≡ other
one_way (reply_line line) one other is also = is ∙ sym also
one_way (message_line items m) one other is also =
    is.2 ∙ ap (λ texts. reply_bytes (reply.Fetch m.number texts)) (one_texts items m is.0 also.0 is.1 also.1) ∙ sym also.2

pub says_something : (formats : Formats) → SaysSomething (protocol formats)
says_something formats = record { line = λ state unit. some_line (outcome_of formats state unit); byte = some_byte; one = one_way }
