-- What SEARCH leads to, and what it says.
use Rattle.std.proofs.Common.{ℕ, Bool, true, false, not, List, [], ◌∷◌, ◌++◌, ◌≡◌, refl, sym, ◌∙◌, ap, subst, Option, Some, Result, Ok}
use Rattle.file_model.specs.Disk.{Disk, seen}
use Rattle.file_model.specs.Histories.{History, Now}
use Rattle.any_store.specs.Choice.{Formats}
use Rattle.imap_reply.specs.declared.reply.Reply.{Reply}
use Rattle.imap_reply.specs.declared.reply.Reply.TheVariants as reply
use Rattle.imap_reply.specs.declared.text.Words.{Words}
use Rattle.imap_reply.specs.Putting.{Puts}
use Rattle.imap_reply.specs.Replies.{reply_bytes}
use Rattle.imap_syntax.specs.declared.key.Key.{Key}
use Rattle.mail_tree.proofs.Nodes.{AreFormats}
use Rattle.session_loop.specs.declared.answers.Stop.{Stop}
use Rattle.store_trait.specs.Views.{View}
use Rattle.imap_session.specs.declared.refusal.Refusal.{Refusal}
use Rattle.imap_session.specs.declared.session.Open.{Open}
use Rattle.imap_session.specs.declared.session.Session.{Session}
use Rattle.imap_session.specs.Doing.{Does}
use Rattle.imap_session.specs.Endings.{ends_with}
use Rattle.imap_session.specs.Lines.{reply_line}
use Rattle.imap_session.specs.Reading.{ReadsOn}
use Rattle.imap_session.specs.Refusals.{unless_true}
use Rattle.imap_session.specs.Search.{is_known, found, searched, search}
use Rattle.imap_session.specs.Standing.{StandsFor}
use Rattle.imap_session.specs.State.{Selected, State, Outcome, Unless, ◌>>=◌, done, only, or_leaves}
use Rattle.imap_session.proofs.FetchSaid.{says_here}
use Rattle.imap_session.proofs.Putting.{puts_reply}
use Rattle.imap_session.proofs.Readings.{with_store, stands_on, does_behind}
use Rattle.imap_session.proofs.Searches.{now_each}
use Rattle.imap_session.proofs.Selections.{is_selected, selects}

module _ {S : Type 0} (formats : Formats) (view : S → View) (session : Session S) (o : Open S) (some : session.selected ≡ Some o) where
  -- the store of the selected mailbox stands where the session stands
  pub store_stands : (h : History) → Now h (λ w. (state : State) × StandsFor formats view session w.disk state) → Now h (λ w. (view o.store).stands (seen w.disk))
  store_stands [] now = tt
  store_stands (w ∷ past) now = (selects formats view session o w.disk now.0 now.1 some).open_is.store.stands

  module _ (tag : List ℕ) (uid : Bool) (charset : Option (List ℕ)) (key : Key) where
    abbrev said : State → (numbers : List ℕ) → Outcome
    said state numbers = done tag (searched uid) state (reply_line (reply.Search numbers) ∷ [])

    -- what it leads to on a selection
    abbrev go_on : State → Selected → Unless Outcome
    go_on state s = Ok (said state (found uid key s.recent s.placed.mailbox))

    by_charset : (known : Bool) (state : State) (s : Selected) → state.selected ≡ Some s → is_known charset ≡ known
        → search tag uid charset key state ≡ or_leaves state (unless_true (reply.Charset tag) (not known) >>= λ is. go_on state s)
    by_charset known state s selected is =
        is_selected tag state s (λ s. unless_true (reply.Charset tag) (not (is_known charset)) >>= λ is. go_on state s) selected
        ∙ ap (λ b. or_leaves state (unless_true (reply.Charset tag) (not b) >>= λ is. go_on state s)) is

    pub unknown_refused : is_known charset ≡ false → (disk : Disk) (state : State) → StandsFor formats view session disk state → search tag uid charset key state ≡ only state (reply.Charset tag)
    unknown_refused unknown disk state stands = let sel = selects formats view session o disk state stands some in by_charset false state sel.s sel.is unknown

    leads_to : (numbers : List ℕ) (h : History) → is_known charset ≡ true → Now h (λ w. numbers ≡ found uid key o.recent ((view o.store).mailbox (seen w.disk)))
        → (state : State) → Now h (λ w. StandsFor formats view session w.disk state) → Now h (λ w. said state numbers ≡ search tag uid charset key state)
    leads_to numbers [] known are state now = tt
    leads_to numbers (w ∷ past) known are state now =
        let sel = selects formats view session o w.disk state now some in
        ap (said state) (are ∙ ap (found uid key o.recent) sel.open_is.store.mailbox ∙ ap (λ r. found uid key r sel.s.placed.mailbox) sel.open_is.recent)
        ∙ sym (by_charset true state sel.s sel.is known)

    -- the numbers are put that were found
    pub search_does : AreFormats formats → (store : S) (recent numbers : List ℕ) (word : Words) (was waits : List ℕ) (put : Result (Unit {0}) Stop) (result : Result Reply Refusal) (old mid new : History)
        → is_known charset ≡ true → ReadsOn (view o.store) (view store) old → recent ≡ o.recent → Now old (λ w. numbers ≡ found uid key recent ((view o.store).mailbox (seen w.disk)))
        → mid ≡ old → was ≡ [] → Puts (was ++ reply_bytes (reply.Search numbers)) waits put mid new → word ≡ searched uid → result ≡ ends_with put (reply.Done tag word)
        → Does formats (StandsFor formats view session) (StandsFor formats view (record session { selected = Some (with_store formats view o store) })) (search tag uid charset key) result waits old new
    search_does laws store recent numbers word was waits put result old mid new known reads is_recent are same none puts is_word ends =
        let after : Session S = record session { selected = Some (with_store formats view o store) } in
        does_behind formats (StandsFor formats view session) (StandsFor formats view after) (StandsFor formats view after) (λ state. said state numbers) (search tag uid charset key) result waits old new
        (λ state now. stands_on formats view session o store old state some reads now)
        (λ state now. leads_to numbers old known (subst (λ r. Now old (λ w. numbers ≡ found uid key r ((view o.store).mailbox (seen w.disk)))) is_recent are) state now)
        (says_here formats view after (λ state. said state numbers) laws (reply_line (reply.Search numbers) ∷ []) (reply.Done tag (searched uid)) was waits put result old new
        (λ state now. now_each (λ w. said state numbers ≡ said state numbers) old (λ w. refl)) none
        (puts_reply (reply.Search numbers) was waits put old new (subst (λ h. Puts (was ++ reply_bytes (reply.Search numbers)) waits put h new) same puts))
        (ends ∙ ap (λ w. ends_with put (reply.Done tag w)) is_word))
