-- The exit of a command behind a change of the tree of mailboxes.
use Rattle.std.proofs.Common.{ℕ, true, false, List, [], ◌∷◌, ◌≡◌, ◌⊎◌, ⊎_elim, inl, inr, refl, sym, ◌∙◌, ap, subst, Option, Some, None, Result, Ok, Err}
use Rattle.std.specs.Result.{IsErrOf}
use Rattle.std.specs.Prelude.{IfErr, IsTrue}
use Rattle.std.proofs.lemmas.List.{append-nil}
use Rattle.file_model.specs.Disk.{Disk, seen}
use Rattle.file_model.specs.Histories.{History, Now, Passed, Ended}
use Rattle.file_model.specs.Images.{Image, is_directory}
use Rattle.file_model.specs.Arrived.{Arrived}
use Rattle.file_model.proofs.Passes.{passed_none, ran_arrived}
use Rattle.file_model.proofs.Runs.{now_all}
use Rattle.store_trait.specs.Views.{View}
use Rattle.any_store.specs.Choice.{Formats}
use Rattle.imap_reply.specs.declared.reply.Reply.{Reply}
use Rattle.imap_reply.specs.declared.reply.Reply.TheVariants as reply
use Rattle.imap_reply.specs.declared.text.Words.{Words}
use Rattle.mail_tree.specs.declared.fault.TreeFault.{TreeFault}
use Rattle.mail_tree.specs.declared.fault.TreeFault.TheVariants as faults
use Rattle.mail_tree.specs.Changes.{AnswersTree, breaks_tree}
use Rattle.mail_tree.specs.Changing.{IsMailboxAt}
use Rattle.mail_tree.specs.Promises.{ActsUndue, AnswersBy, ChangesTree, CommitsTree}
use Rattle.mail_tree.specs.Trees.{Tree, HasTree}
use Rattle.mail_tree.proofs.Nodes.{AreFormats}
use Rattle.session_loop.specs.declared.answers.Stop.{Stop}
use Rattle.session_loop.specs.declared.answers.Stop.TheVariants.{FileFault, Memory}
use Rattle.imap_session.specs.declared.refusal.Refusal.{Refusal}
use Rattle.imap_session.specs.declared.refusal.Refusal.TheVariants.{Line as Refused, Ends}
use Rattle.imap_session.specs.declared.session.Open.{Open}
use Rattle.imap_session.specs.declared.session.Session.{Session}
use Rattle.imap_session.specs.Doing.{Committing, HasCommitted, Replying, HasReplied, Does}
use Rattle.imap_session.specs.Laws.{kept}
use Rattle.imap_session.specs.Refusals.{tree_refusal, unless_tree, refused_by, answered_by}
use Rattle.imap_session.specs.Standing.{IsOpen, IsSelection, StandsFor}
use Rattle.imap_session.specs.State.{Selected, State, Outcome, ◌>>=◌, done, only, or_leaves, with_tree}
use Rattle.imap_session.proofs.Committing.{committing_run}
use Rattle.imap_session.proofs.Doing.{led_does, ends_in_files}
use Rattle.imap_session.proofs.Putting.{puts_none}

-- ---- What the tree refuses

-- a refusal by the tree is a line, unless a call failed or memory lacked
abbrev pub IsRefusedBy : List ℕ → TreeFault → Type 0
IsRefusedBy tag fault = ((breaks_tree fault ≡ true) × ((stop : Stop) × (refused_by tag fault ≡ Ends stop))) ⊎ ((breaks_tree fault ≡ false) × (refused_by tag fault ≡ Refused (tree_refusal tag fault)))

is_refused_by : (tag : List ℕ) (fault : TreeFault) → IsRefusedBy tag fault
is_refused_by tag faults.BadName = inr (refl, refl)
is_refused_by tag faults.There = inr (refl, refl)
is_refused_by tag faults.Absent = inr (refl, refl)
is_refused_by tag faults.NotStore = inr (refl, refl)
is_refused_by tag faults.HasChildren = inr (refl, refl)
is_refused_by tag faults.Reserved = inr (refl, refl)
is_refused_by tag faults.Selected = inr (refl, refl)
is_refused_by tag (faults.Open fault) = inr (refl, refl)
is_refused_by tag (faults.Store fault) = inr (refl, refl)
is_refused_by tag faults.Failed = inl (refl, (FileFault, refl))
is_refused_by tag faults.Memory = inl (refl, (Memory, refl))

false_true : false ≡ true → ⊥
false_true e = absurd (cc)

-- ---- What a call promises

-- A call that changes the tree below a root, and what reads see afterwards where none of its calls failed.
pub record CallsTree {T : Type 0} (formats : Formats) (due : Tree → Option TreeFault) (change : Tree → Tree) (Sees : List ℕ → Disk → Disk → Type 0) (result : Result T TreeFault) (old new : History) (root : List ℕ) : Type 0 where
  pub answer : AnswersBy formats root due result old
  pub acts : ActsUndue formats root due old new
  pub changes : ChangesTree formats root change result old new
  pub sees : (IsErrOf result faults.Failed → ⊥) → Ended (Sees root) old new
  pub commits : CommitsTree formats root change result old new

-- where no refusal is ever due a call ends well, or breaks off
pub answers_undue : {T : Type 0} (formats : Formats) (root : List ℕ) (result : Result T TreeFault) (old : History) → IfErr result (λ fault. IsTrue (breaks_tree fault)) → AnswersBy formats root (λ tree. None) result old
answers_undue formats root (Ok value) old given = now_all (λ w. (tree : Tree) → HasTree formats root (seen w.disk) tree → AnswersTree {T = Unit {0}} None (Ok tt)) (λ w tree has. refl) old
answers_undue formats root (Err fault) old given = now_all (λ w. (tree : Tree) → HasTree formats root (seen w.disk) tree → AnswersTree {T = Unit {0}} None (Err fault)) (λ w tree has. inr given) old

abbrev none_fault : Option TreeFault
none_fault = None

pub acts_free : (formats : Formats) (root : List ℕ) (old new : History) → ActsUndue formats root (λ tree. None) old new
acts_free formats root old new = now_all (λ w. (tree : Tree) → HasTree formats root (seen w.disk) tree → (none_fault ≡ None) ⊎ (new ≡ old)) (λ w tree has. inl refl) old

-- the command whose refusals are the tree's, and which makes that change
abbrev pub tree_lead : List ℕ → Words → (due : Tree → Option TreeFault) → (change : Tree → Tree) → State → Outcome
tree_lead tag words due change state = or_leaves state (unless_tree tag (due state.tree) >>= λ can. Ok (done tag words (with_tree state (change state.tree)) []))

pub not_due : (tag : List ℕ) (words : Words) (due : Tree → Option TreeFault) (change : Tree → Tree) (state : State) → due state.tree ≡ None
    → tree_lead tag words due change state ≡ done tag words (with_tree state (change state.tree)) []
not_due tag words due change state none = ap (λ d. or_leaves state (unless_tree tag d >>= λ can. Ok (done tag words (with_tree state (change state.tree)) []))) none

pub is_due : (tag : List ℕ) (words : Words) (due : Tree → Option TreeFault) (change : Tree → Tree) (state : State) (fault : TreeFault) → due state.tree ≡ Some fault
    → tree_lead tag words due change state ≡ only state (tree_refusal tag fault)
is_due tag words due change state fault some = ap (λ d. or_leaves state (unless_tree tag d >>= λ can. Ok (done tag words (with_tree state (change state.tree)) []))) some

-- ---- The selected mailbox

-- an open mailbox of a tree is selected in it
pub open_on : {S : Type 0} (formats : Formats) (view : S → View) (state : State) (later : Tree) (o : Open S) (one other : Image) (s : Selected) → HasTree formats state.root one state.tree → IsOpen formats view state o one s
    → (IsMailboxAt formats state.root (view o.store) one state.tree s.placed → IsMailboxAt formats state.root (view o.store) other later s.placed)
    → IsOpen formats view (with_tree state later) o other s
open_on formats view state later o one other s has is on =
    let at = on (record { tree_seen = has; store = is.store; in_tree = is.in_tree }) in
    record { name = is.name; read_only = is.read_only; recent = is.recent; store = at.store; in_tree = at.in_tree }

pub selection_on : {S : Type 0} (formats : Formats) (view : S → View) (state : State) (later : Tree) (one other : Image) (selected : Option (Open S)) (s : Option Selected) → HasTree formats state.root one state.tree
    → ((o : Open S) (s : Selected) → selected ≡ Some o → IsOpen formats view state o one s → IsMailboxAt formats state.root (view o.store) one state.tree s.placed → IsMailboxAt formats state.root (view o.store) other later s.placed)
    → IsSelection formats view state selected one s → IsSelection formats view (with_tree state later) selected other s
selection_on formats view state later one other None None has on is = tt
selection_on formats view state later one other None (Some s) has on is = absurd is
selection_on formats view state later one other (Some o) None has on is = absurd is
selection_on formats view state later one other (Some o) (Some s) has on is = open_on formats view state later o one other s has is (on o s refl is)

-- ---- The exit

module _ {S : Type 0} (formats : Formats) (view : S → View) (session : Session S) (due : Tree → Option TreeFault) (change : Tree → Tree) (Sees : List ℕ → Disk → Disk → Type 0) where
  -- the root stands on, and what is selected
  abbrev pub Stays : Type 0
  Stays = (a b : Disk) (state : State) → StandsFor formats view session a state → due state.tree ≡ None → Sees state.root a b → HasTree formats state.root (seen b) (change state.tree)
      → (is_directory (seen b) state.root ≡ true) × IsSelection formats view (with_tree state (change state.tree)) session.selected (seen b) state.selected

  module _ (tag : List ℕ) (words : Words) (lead : State → Outcome)
      (leads : (disk : Disk) (state : State) → StandsFor formats view session disk state → lead state ≡ tree_lead tag words due change state) where
    next_is : (disk : Disk) (state : State) → StandsFor formats view session disk state → due state.tree ≡ None → lead state ≡ done tag words (with_tree state (change state.tree)) []
    next_is disk state stands none = leads disk state stands ∙ not_due tag words due change state none

    -- the session stands for the state with the changed tree
    stands_on : Stays → (a b : Disk) (state : State) → StandsFor formats view session a state → due state.tree ≡ None → Sees state.root a b → HasTree formats state.root (seen b) (change state.tree)
        → StandsFor formats view session b (with_tree state (change state.tree))
    stands_on stays a b state stands none sees has =
        let on = stays a b state stands none sees has in
        record {
          root = stands.root;
          moment = stands.moment;
          some = stands.some;
          fresh_is = stands.fresh_is;
          some_root = stands.some_root;
          stands = on.0;
          tree = has;
          selected = on.1;
        }

    -- at each instant
    runs : {T : Type 0} → (result : Result T TreeFault) (old new : History) → CallsTree formats due change Sees result old new session.root → (state : State) → Now old (λ w. StandsFor formats view session w.disk state)
        → Passed (Committing formats state (lead state).next) old new
    runs result [] new calls state now = record { added = calls.changes.files.added; whole = calls.changes.files.whole; each = calls.changes.files.each }
    runs result (a ∷ past) new calls state now = ⊎_elim undue nothing (here.acts state.tree now.tree)
      where
        here : CallsTree formats due change Sees result (a ∷ past) new state.root
        here = subst (CallsTree formats due change Sees result (a ∷ past) new) now.root calls

        undue : due state.tree ≡ None → Passed (Committing formats state (lead state).next) (a ∷ past) new
        undue none = subst (λ o. Passed (Committing formats state o.next) (a ∷ past) new) (sym (next_is a.disk state now none))
            (committing_run formats state (with_tree state (change state.tree)) (a ∷ past) new here.changes.files (λ alike. here.commits.instants state.tree (now.tree, alike)))

        nothing : new ≡ a ∷ past → Passed (Committing formats state (lead state).next) (a ∷ past) new
        nothing same = subst (λ h. Passed (Committing formats state (lead state).next) (a ∷ past) h) (sym same) (passed_none (Committing formats state (lead state).next) (a ∷ past))

    -- it is done
    arrives : {T : Type 0} → Stays → (value : T) (old new : History) → CallsTree formats due change Sees (Ok value) old new session.root → (state : State) → Now old (λ w. StandsFor formats view session w.disk state)
        → Arrived (HasCommitted formats (StandsFor formats view session) state (lead state).next) old new
    arrives stays value [] new calls state now = calls.changes.done
    arrives stays value (a ∷ past) [] calls state now = absurd calls.changes.done
    arrives stays value (a ∷ past) (b ∷ more) calls state now =
        subst (λ o. HasCommitted formats (StandsFor formats view session) state o.next a b) (sym (next_is a.disk state now none)) (record {
          streams = streams.0;
          is_state = stands_on stays a.disk b.disk state now none (here.sees (λ failed. absurd (cc))) (here.changes.done state.tree now.tree);
          still_alike = λ alike. here.commits.durable state.tree (now.tree, alike);
        })
      where
        here : CallsTree formats due change Sees (Ok value) (a ∷ past) (b ∷ more) state.root
        here = subst (CallsTree formats due change Sees (Ok value) (a ∷ past) (b ∷ more)) now.root calls

        none : due state.tree ≡ None
        none = here.answer state.tree now.tree

        streams : (b.streams ≡ a.streams) × Unit {0}
        streams = ran_arrived (λ a b. Unit {0}) (λ a b. Unit {0}) (a ∷ past) (b ∷ more) here.changes.files tt

    said : {T : Type 0} → (value : T) (old new : History) → CallsTree formats due change Sees (Ok value) old new session.root → (state : State) → Now old (λ w. StandsFor formats view session w.disk state)
        → Now old (λ w. ((lead state).untagged ≡ []) × (reply.Done tag words ≡ (lead state).last))
    said value [] new calls state now = tt
    said value (a ∷ past) new calls state now =
        let here = subst (CallsTree formats due change Sees (Ok value) (a ∷ past) new) now.root calls in
        let is = next_is a.disk state now (here.answer state.tree now.tree) in
        (ap (λ o. o.untagged) is, sym (ap (λ o. o.last) is))

    -- it is refused by what is seen now
    refused_line : (T : Type 0) → (fault : TreeFault) → breaks_tree fault ≡ false → (old : History) → CallsTree {T = T} formats due change Sees (Err fault) old old session.root
        → Does formats (StandsFor formats view session) (StandsFor formats view session) lead (Err (Refused (tree_refusal tag fault))) [] old old
    refused_line T fault whole [] calls = record { instants = λ state now. passed_none (Replying formats state (lead state)) []; done = λ state now. refl }
    refused_line T fault whole (a ∷ past) calls = record {
      instants = λ state now. passed_none (Replying formats state (lead state)) (a ∷ past);
      done = λ state now. refused_here state now;
    }
      where
        is_fault : (state : State) → StandsFor formats view session a.disk state → lead state ≡ only state (tree_refusal tag fault)
        is_fault state now =
            let here = subst (CallsTree {T = T} formats due change Sees (Err fault) (a ∷ past) (a ∷ past)) now.root calls in
            leads a.disk state now ∙ is_due tag words due change state fault (⊎_elim (λ some. some) (λ broken. absurd (false_true (sym whole ∙ broken))) (here.answer state.tree now.tree))

        refused_here : (state : State) → StandsFor formats view session a.disk state → HasReplied formats (StandsFor formats view session) state (lead state) (tree_refusal tag fault) [] a a
        refused_here state now =
            subst (λ o. HasReplied formats (StandsFor formats view session) state o (tree_refusal tag fault) [] a a) (sym (is_fault state now)) (at_once state now)
          where
            at_once : (state : State) → StandsFor formats view session a.disk state → HasReplied formats (StandsFor formats view session) state (only state (tree_refusal tag fault)) (tree_refusal tag fault) [] a a
            at_once state now = record {
              heard = refl;
              ended = refl;
              turns = refl;
              part = [];
              is_said = sym (append-nil a.streams.said);
              are_put = refl;
              is_last = refl;
              is_state = now;
              still_alike = λ same. same;
            }

    -- the change is made, or refused, or the session ends
    pub tree_does : {T : Type 0} → AreFormats formats → Stays → (result : Result T TreeFault) (answer : Result Reply Refusal) (waits : List ℕ) (old new : History)
        → CallsTree formats due change Sees result old new session.root → answer ≡ answered_by tag words result → waits ≡ []
        → Does formats (StandsFor formats view session) (StandsFor formats view session) lead answer waits old new
    tree_does {T} laws stays result answer waits old new calls is none =
        subst (λ w. Does formats (StandsFor formats view session) (StandsFor formats view session) lead answer w old new) (sym none)
        (subst (λ r. Does formats (StandsFor formats view session) (StandsFor formats view session) lead r [] old new) (sym is) (by_result result calls))
      where
        by_fault : (fault : TreeFault) → CallsTree {T = T} formats due change Sees (Err fault) old new session.root
            → IsRefusedBy tag fault → Does formats (StandsFor formats view session) (StandsFor formats view session) lead (Err (refused_by tag fault)) [] old new
        by_fault fault calls (inl ends) =
            subst (λ r. Does formats (StandsFor formats view session) (StandsFor formats view session) lead (Err r) [] old new) (sym ends.1.1)
            (ends_in_files formats (StandsFor formats view session) (StandsFor formats view session) lead ends.1.0 [] old new (λ state now. runs {T = T} (Err fault) old new calls state now))
        by_fault fault calls (inr line) =
            let same = calls.changes.refused line.0 in
            subst (λ r. Does formats (StandsFor formats view session) (StandsFor formats view session) lead (Err r) [] old new) (sym line.1)
            (subst (λ h. Does formats (StandsFor formats view session) (StandsFor formats view session) lead (Err (Refused (tree_refusal tag fault))) [] old h) (sym same)
            (refused_line T fault line.0 old (subst (λ h. CallsTree {T = T} formats due change Sees (Err fault) old h session.root) same calls)))

        by_result : (result : Result T TreeFault) → CallsTree formats due change Sees result old new session.root
            → Does formats (StandsFor formats view session) (StandsFor formats view session) lead (answered_by tag words result) [] old new
        by_result (Ok value) calls =
            led_does formats (kept formats laws) (StandsFor formats view session) (StandsFor formats view session) lead [] (reply.Done tag words) [] (Ok tt) (Ok (reply.Done tag words)) old new new
            (λ state now. record { run = runs (Ok value) old new calls state now; made = arrives stays value old new calls state now; facts = said value old new calls state now })
            (puts_none [] new) refl
        by_result (Err fault) calls = by_fault fault calls (is_refused_by tag fault)
