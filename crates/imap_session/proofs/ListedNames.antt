-- The exits of LIST and LSUB, by what reads see now.
use Rattle.std.proofs.Common.{ℕ, true, false, List, [], ◌∷◌, ◌≡◌, ◌==◌, refl, sym, ◌∙◌, ap, subst, length, map, if◌then◌else◌, Result, Err}
use Rattle.std.specs.Result.{IsErrAnd}
use Rattle.file_model.specs.Disk.{Disk, seen}
use Rattle.file_model.specs.Histories.{World, History, Now}
use Rattle.file_model.proofs.Passes.{passed_none, arrived_none}
use Rattle.store_trait.specs.Views.{View}
use Rattle.any_store.specs.Choice.{Formats}
use Rattle.imap_reply.specs.declared.reply.Reply.{Reply}
use Rattle.imap_reply.specs.declared.reply.Reply.TheVariants as reply
use Rattle.imap_reply.specs.declared.text.Words.TheVariants as words
use Rattle.mail_tree.specs.declared.fault.TreeFault.{TreeFault}
use Rattle.mail_tree.specs.declared.fault.TreeFault.TheVariants as faults
use Rattle.mail_tree.specs.declared.finding.Listed.{Listed}
use Rattle.mail_tree.specs.Changes.{breaks_tree}
use Rattle.mail_tree.specs.Listing.{ListedName, listed, listed_subscribed}
use Rattle.mail_tree.specs.Promises.{ListsBy}
use Rattle.mail_tree.specs.Trees.{HasTree}
use Rattle.mail_tree.proofs.Nodes.{AreFormats}
use Rattle.session_loop.specs.declared.answers.Stop.{Stop}
use Rattle.session_loop.specs.declared.answers.Stop.TheVariants.{FileFault, Memory}
use Rattle.imap_session.specs.declared.refusal.Refusal.{Refusal}
use Rattle.imap_session.specs.declared.refusal.Refusal.TheVariants.{Ends}
use Rattle.imap_session.specs.declared.session.Session.{Session}
use Rattle.imap_session.specs.Doing.{Committing, HasCommitted, Does}
use Rattle.imap_session.specs.Endings.{ends_with}
use Rattle.imap_session.specs.Laws.{kept}
use Rattle.imap_session.specs.Lines.{Line, reply_lines}
use Rattle.imap_session.specs.Listed.{list, lsub, list_line, lsub_line, name_line}
use Rattle.imap_session.specs.Putting.{PutsLines}
use Rattle.imap_session.specs.Refusals.{refused_by}
use Rattle.imap_session.specs.Standing.{StandsFor}
use Rattle.imap_session.specs.State.{State, Outcome, done}
use Rattle.imap_session.proofs.Doing.{Led, led_does, ends_at_once}
use Rattle.imap_session.proofs.Exits.{ended_so}

both_now : (P Q R : World → Type 0) → ((w : World) → P w → Q w → R w) → (h : History) → Now h P → Now h Q → Now h R
both_now P Q R join [] p q = tt
both_now P Q R join (w ∷ past) p q = join w p q

-- ---- The last exit

-- the command says these lines, and leaves the state
abbrev pub Shows : {S : Type 0} → Formats → (S → View) → Session S → (State → Outcome) → List Line → Reply → World → Type 0
Shows formats view session lead lines last w = (state : State) → StandsFor formats view session w.disk state → lead state ≡ record { next = state; untagged = lines; last = last }

module _ {S : Type 0} (formats : Formats) (view : S → View) (session : Session S) (laws : AreFormats formats) (lead : State → Outcome) (lines : List Line) (last : Reply) where
  shown : (state : State) (old : History) → Now old (Shows formats view session lead lines last) → Now old (λ w. StandsFor formats view session w.disk state) → Led formats (kept formats laws) (StandsFor formats view session) (lead state) lines last state old old
  shown state old shows now = record {
    run = passed_none (Committing formats state (lead state).next) old;
    made = arrived_none (HasCommitted formats (StandsFor formats view session) state (lead state).next) old
        (both_now (Shows formats view session lead lines last) (λ w. StandsFor formats view session w.disk state) (λ w. HasCommitted formats (StandsFor formats view session) state (lead state).next w w)
        (λ w show here. subst (λ o. HasCommitted formats (StandsFor formats view session) state o.next w w) (sym (show state here)) (record { streams = refl; is_state = here; still_alike = λ same. same })) old shows now);
    facts = both_now (Shows formats view session lead lines last) (λ w. StandsFor formats view session w.disk state) (λ w. ((lead state).untagged ≡ lines) × (last ≡ (lead state).last))
        (λ w show here. (ap (λ o. o.untagged) (show state here), sym (ap (λ o. o.last) (show state here)))) old shows now;
  }

  pub shows_does : (was waits : List ℕ) (put : Result (Unit {0}) Stop) (result : Result Reply Refusal) (old mid new : History) → mid ≡ old → Now old (Shows formats view session lead lines last) → was ≡ [] → PutsLines lines was waits put mid new → result ≡ ends_with put last
      → Does formats (StandsFor formats view session) (StandsFor formats view session) lead result waits old new
  shows_does was waits put result old mid new same shows none puts ends =
      led_does formats (kept formats laws) (StandsFor formats view session) (StandsFor formats view session) lead lines last waits put result old old new (λ state now. shown state old shows now)
      (subst (λ h. PutsLines lines [] waits put h new) same (subst (λ w. PutsLines lines w waits put mid new) none puts)) ends

-- ---- What it says

abbrev value_of : Listed → ListedName
value_of entry = record { name = entry.name; directory = entry.directory }

lines_of : (line : ListedName → Reply) (names : List Listed) → map (λ (entry : Listed). line (value_of entry)) names ≡ map line (map value_of names)
lines_of line [] = refl
lines_of line (entry ∷ names) = ap (λ l. line (value_of entry) ∷ l) (lines_of line names)

module _ {S : Type 0} (formats : Formats) (view : S → View) (session : Session S) (tag reference pattern : List ℕ) (names : List Listed) (lines : List Reply) (root : List ℕ) (at : root ≡ session.root) where
  pub list_shows : (length pattern == 0) ≡ false → lines ≡ map (λ (entry : Listed). name_line false (value_of entry)) names → (old : History) → ListsBy formats root (λ tree. listed tree reference pattern) names old
      → Now old (Shows formats view session (list tag reference pattern) (reply_lines lines) (reply.Done tag words.List))
  list_shows some is [] lists = tt
  list_shows some is (w ∷ past) lists = λ state stands.
      ap (λ b. done tag words.List state (reply_lines (if b then reply.ListEmpty ∷ [] else map list_line (listed state.tree reference pattern)))) some
      ∙ ap (λ l. done tag words.List state (reply_lines l)) (sym (is ∙ lines_of list_line names ∙ ap (map list_line) (lists state.tree (subst (λ r. HasTree formats r (seen w.disk) state.tree) (sym (at ∙ stands.root)) stands.tree))))

  pub lsub_shows : lines ≡ map (λ (entry : Listed). name_line true (value_of entry)) names → (old : History) → ListsBy formats root (λ tree. listed_subscribed tree reference pattern) names old
      → Now old (Shows formats view session (lsub tag reference pattern) (reply_lines lines) (reply.Done tag words.Lsub))
  lsub_shows is [] lists = tt
  lsub_shows is (w ∷ past) lists = λ state stands.
      ap (λ l. done tag words.Lsub state (reply_lines l)) (sym (is ∙ lines_of lsub_line names ∙ ap (map lsub_line) (lists state.tree (subst (λ r. HasTree formats r (seen w.disk) state.tree) (sym (at ∙ stands.root)) stands.tree))))

-- ---- It ends the session

broken_ends : (tag : List ℕ) (fault : TreeFault) → breaks_tree fault ≡ true → (stop : Stop) × (refused_by tag fault ≡ Ends stop)
broken_ends tag faults.Failed is = (FileFault, refl)
broken_ends tag faults.Memory is = (Memory, refl)
broken_ends tag faults.BadName is = absurd (cc)
broken_ends tag faults.There is = absurd (cc)
broken_ends tag faults.Absent is = absurd (cc)
broken_ends tag faults.NotStore is = absurd (cc)
broken_ends tag faults.HasChildren is = absurd (cc)
broken_ends tag faults.Reserved is = absurd (cc)
broken_ends tag faults.Selected is = absurd (cc)
broken_ends tag (faults.Open fault) is = absurd (cc)
broken_ends tag (faults.Store fault) is = absurd (cc)

module _ (formats : Formats) (before after : Disk → State → Type 0) (lead : State → Outcome) (waits : List ℕ) (old new : History) (same : new ≡ old) where
  -- a call failed, or memory lacked in it
  pub broken_does : (tag : List ℕ) (fault : TreeFault) (is : Refusal) → breaks_tree fault ≡ true → is ≡ refused_by tag fault → Does formats before after lead (Err is) waits old new
  broken_does tag fault is breaks refused =
      let ends = broken_ends tag fault breaks in
      subst (λ r. Does formats before after lead (Err r) waits old new) (sym (refused ∙ ends.1))
      (subst (λ h. Does formats before after lead (Err (Ends ends.0)) waits old h) (sym same) (ends_at_once formats before after lead ends.0 waits old))

  -- memory lacked behind it
  pub ended_does : (result : Result Reply Refusal) (stop : Stop) → IsErrAnd result (λ e. e ≡ Ends stop) → Does formats before after lead result waits old new
  ended_does result stop ends =
      subst (λ r. Does formats before after lead r waits old new) (sym (ended_so result stop ends))
      (subst (λ h. Does formats before after lead (Err (Ends stop)) waits old h) (sym same) (ends_at_once formats before after lead stop waits old))
