-- Commands that open a mailbox by its name: how they are refused.
use Rattle.std.proofs.Common.{ℕ, List, [], ◌∷◌, ◌≡◌, ◌⊎◌, ⊎_elim, inl, inr, refl, sym, ◌∙◌, ap, subst, true, false, Option, Some, None, Result, Err}
use Rattle.std.specs.Result.{IsErrAnd}
use Rattle.file_model.specs.Disk.{Disk}
use Rattle.file_model.specs.Histories.{World, History, Now}
use Rattle.file_model.proofs.Passes.{passed_none, arrived_none}
use Rattle.any_store.specs.Choice.{Formats}
use Rattle.imap_reply.specs.declared.reply.Reply.{Reply}
use Rattle.mail_tree.specs.Changes.{due_open, breaks_tree}
use Rattle.mail_tree.specs.declared.fault.TreeFault.{TreeFault}
use Rattle.mail_tree.specs.declared.fault.TreeFault.TheVariants as faults
use Rattle.session_loop.specs.declared.answers.Stop.{Stop}
use Rattle.session_loop.specs.declared.answers.Stop.TheVariants.{FileFault, Memory}
use Rattle.store_trait.specs.Views.{View}
use Rattle.imap_session.specs.declared.refusal.Refusal.{Refusal}
use Rattle.imap_session.specs.declared.refusal.Refusal.TheVariants.{Line as Refused, Ends}
use Rattle.imap_session.specs.declared.session.Session.{Session}
use Rattle.mail_tree.proofs.Nodes.{AreFormats}
use Rattle.imap_session.specs.Doing.{Alike, Committing, HasCommitted, Replying, HasReplied, Does}
use Rattle.imap_session.specs.Endings.{ends_with}
use Rattle.imap_session.specs.Laws.{kept}
use Rattle.imap_session.specs.Lines.{Line}
use Rattle.imap_session.specs.Putting.{PutsLines}
use Rattle.imap_session.specs.Refusals.{tree_refusal, refused_by}
use Rattle.imap_session.specs.Standing.{StandsFor}
use Rattle.imap_session.specs.State.{State, Outcome, only}
use Rattle.imap_session.proofs.Doing.{Led, led_does, ends_at_once}
use Rattle.imap_session.proofs.Exits.{Leads, at_once, ended_so}

-- what is known now of one and of the other
pub now_both : (P Q R : World → Type 0) → ((w : World) → P w → Q w → R w) → (h : History) → Now h P → Now h Q → Now h R
now_both P Q R join [] p q = tt
now_both P Q R join (w ∷ past) p q = join w p q

-- a name that can't be read
pub none_read : {A : Type 0} (found read : Option A) → found ≡ read → ((x : A) → found ≡ Some x → ⊥) → read ≡ None
none_read None read is none = sym is
none_read (Some x) read is none = absurd (none x refl)

-- where nothing waits and nothing happened
pub none_happened : (formats : Formats) (before after : Disk → State → Type 0) (lead : State → Outcome) (result : Result Reply Refusal) (waits : List ℕ) (old new : History) → waits ≡ [] → new ≡ old
    → Does formats before after lead result [] old old → Does formats before after lead result waits old new
none_happened formats before after lead result waits old new none same does =
    subst (λ w. Does formats before after lead result w old new) (sym none) (subst (λ h. Does formats before after lead result [] old h) (sym same) does)

-- the session ends where nothing happened
pub ended_does : (formats : Formats) (before after : Disk → State → Type 0) (lead : State → Outcome) (result : Result Reply Refusal) (stop : Stop) (waits : List ℕ) (old new : History)
    → IsErrAnd result (λ e. e ≡ Ends stop) → new ≡ old → Does formats before after lead result waits old new
ended_does formats before after lead result stop waits old new ends same =
    subst (λ r. Does formats before after lead r waits old new) (sym (ended_so result stop ends))
    (subst (λ h. Does formats before after lead (Err (Ends stop)) waits old h) (sym same) (ends_at_once formats before after lead stop waits old))

-- a refusal by the tree is a line, unless a call failed or memory lacked
abbrev pub IsRefusal : (refusal : TreeFault → Reply) → TreeFault → Refusal → Type 0
IsRefusal refusal fault is = ((stop : Stop) × (is ≡ Ends stop)) ⊎ ((breaks_tree fault ≡ false) × (is ≡ Refused (refusal fault)))

pub is_refusal : (tag : List ℕ) (fault : TreeFault) → IsRefusal (tree_refusal tag) fault (refused_by tag fault)
is_refusal tag faults.BadName = inr (refl, refl)
is_refusal tag faults.There = inr (refl, refl)
is_refusal tag faults.Absent = inr (refl, refl)
is_refusal tag faults.NotStore = inr (refl, refl)
is_refusal tag faults.HasChildren = inr (refl, refl)
is_refusal tag faults.Reserved = inr (refl, refl)
is_refusal tag faults.Selected = inr (refl, refl)
is_refusal tag (faults.Open fault) = inr (refl, refl)
is_refusal tag (faults.Store fault) = inr (refl, refl)
is_refusal tag faults.Failed = inl (FileFault, refl)
is_refusal tag faults.Memory = inl (Memory, refl)

-- the refusal that is due by the tree, unless a call failed or memory lacked
abbrev pub IsDue : List ℕ → TreeFault → State → Type 0
IsDue name fault state = (due_open state.tree name ≡ Some fault) ⊎ (breaks_tree fault ≡ true)

-- its changes are none, and its lines are put
module _ {S : Type 0} (formats : Formats) (view : S → View) (session after : Session S) (lead : State → Outcome) (lines : List Line) (last : Reply) where
  led_now : (laws : AreFormats formats) (state : State) (h : History) → Now h (λ w. (state : State) → StandsFor formats view session w.disk state → Leads formats view after lead lines last w.disk state)
      → Now h (λ w. StandsFor formats view session w.disk state) → Led formats (kept formats laws) (StandsFor formats view after) (lead state) lines last state h h
  led_now laws state h leads now = record {
    run = passed_none (Committing formats state (lead state).next) h;
    made = arrived_none (HasCommitted formats (StandsFor formats view after) state (lead state).next) h
        (now_both (λ w. (state : State) → StandsFor formats view session w.disk state → Leads formats view after lead lines last w.disk state) (λ w. StandsFor formats view session w.disk state)
        (λ w. HasCommitted formats (StandsFor formats view after) state (lead state).next w w)
        (λ w leads here. record { streams = refl; is_state = (leads state here).stands; still_alike = (leads state here).alike }) h leads now);
    facts = now_both (λ w. (state : State) → StandsFor formats view session w.disk state → Leads formats view after lead lines last w.disk state) (λ w. StandsFor formats view session w.disk state)
        (λ w. ((lead state).untagged ≡ lines) × (last ≡ (lead state).last)) (λ w leads here. ((leads state here).untagged, (leads state here).ends)) h leads now;
  }

  -- by what is seen now
  pub puts_now : AreFormats formats → (was waits : List ℕ) (put : Result (Unit {0}) Stop) (result : Result Reply Refusal) (old mid new : History)
      → Now old (λ w. (state : State) → StandsFor formats view session w.disk state → Leads formats view after lead lines last w.disk state)
      → mid ≡ old → was ≡ [] → PutsLines lines was waits put mid new → result ≡ ends_with put last
      → Does formats (StandsFor formats view session) (StandsFor formats view after) lead result waits old new
  puts_now laws was waits put result old mid new leads same none puts ends =
      led_does formats (kept formats laws) (StandsFor formats view after) (StandsFor formats view session) lead lines last waits put result old old new
      (λ state now. led_now laws state old leads now)
      (subst (λ h. PutsLines lines [] waits put h new) same (subst (λ w. PutsLines lines w waits put mid new) none puts)) ends

module _ {S : Type 0} (formats : Formats) (view : S → View) (session after : Session S) where
  -- it is refused with a line, by what is seen now
  pub refused_now : (lead : State → Outcome) (line : Reply) (h : History) → Now h (λ w. (state : State) → StandsFor formats view session w.disk state → Leads formats view after lead [] line w.disk state)
      → Does formats (StandsFor formats view session) (StandsFor formats view after) lead (Err (Refused line)) [] h h
  refused_now lead line h leads = record {
    instants = λ state now. passed_none (Replying formats state (lead state)) h;
    done = λ state now. arrived_none (HasReplied formats (StandsFor formats view after) state (lead state) line []) h
        (now_both (λ w. (state : State) → StandsFor formats view session w.disk state → Leads formats view after lead [] line w.disk state) (λ w. StandsFor formats view session w.disk state)
        (λ w. HasReplied formats (StandsFor formats view after) state (lead state) line [] w w) (λ w leads here. at_once formats view session after lead line state w (leads state here)) h leads now);
  }

  module _ (leaves : State → State) (goes_on : (disk : Disk) (state : State) → StandsFor formats view session disk state → StandsFor formats view after disk (leaves state))
      (alike : (disk : Disk) (state : State) → Alike formats state disk → Alike formats (leaves state) disk) where
    pub leads_to : (lead : State → Outcome) (line : Reply) (disk : Disk) (state : State) → lead state ≡ only (leaves state) line → StandsFor formats view session disk state → Leads formats view after lead [] line disk state
    leads_to lead line disk state is stands = record {
      stands = subst (λ o. StandsFor formats view after disk o.next) (sym is) (goes_on disk state stands);
      alike = subst (λ o. Alike formats state disk → Alike formats o.next disk) (sym is) (alike disk state);
      untagged = ap (λ o. o.untagged) is;
      ends = sym (ap (λ o. o.last) is);
    }

    -- it is refused on any disk
    pub leaves_at : (lead : State → Outcome) (line : Reply) (h : History) → ((disk : Disk) (state : State) → StandsFor formats view session disk state → lead state ≡ only (leaves state) line)
        → Does formats (StandsFor formats view session) (StandsFor formats view after) lead (Err (Refused line)) [] h h
    leaves_at lead line h leads = refused_now lead line h (each h)
      where
        each : (h : History) → Now h (λ w. (state : State) → StandsFor formats view session w.disk state → Leads formats view after lead [] line w.disk state)
        each [] = tt
        each (w ∷ past) = λ state stands. leads_to lead line w.disk state (leads w.disk state stands) stands

    -- it is refused by the tree
    pub refused_by_tree : (lead : State → Outcome) (refusal : TreeFault → Reply) (Due : State → Type 0) (fault : TreeFault) (is : Refusal) (h : History)
        → IsRefusal refusal fault is → Now h (λ w. (state : State) → StandsFor formats view session w.disk state → Due state ⊎ (breaks_tree fault ≡ true))
        → ((disk : Disk) (state : State) → StandsFor formats view session disk state → Due state → lead state ≡ only (leaves state) (refusal fault))
        → Does formats (StandsFor formats view session) (StandsFor formats view after) lead (Err is) [] h h
    refused_by_tree lead refusal Due fault is h which due leads =
        ⊎_elim
        (λ ends. subst (λ r. Does formats (StandsFor formats view session) (StandsFor formats view after) lead (Err r) [] h h) (sym ends.1)
        (ends_at_once formats (StandsFor formats view session) (StandsFor formats view after) lead ends.0 [] h))
        (λ line. subst (λ r. Does formats (StandsFor formats view session) (StandsFor formats view after) lead (Err r) [] h h) (sym line.1)
        (refused_now lead (refusal fault) h (each h due line.0)))
        which
      where
        is_due : (state : State) → breaks_tree fault ≡ false → Due state ⊎ (breaks_tree fault ≡ true) → Due state
        is_due state unbroken due = ⊎_elim (λ due. due) (λ breaks. absurd (both (sym unbroken ∙ breaks))) due
          where
            both : false ≡ true → ⊥
            both e = absurd (cc)

        each : (h : History) → Now h (λ w. (state : State) → StandsFor formats view session w.disk state → Due state ⊎ (breaks_tree fault ≡ true)) → breaks_tree fault ≡ false
            → Now h (λ w. (state : State) → StandsFor formats view session w.disk state → Leads formats view after lead [] (refusal fault) w.disk state)
        each [] due unbroken = tt
        each (w ∷ past) due unbroken = λ state stands.
            leads_to lead (refusal fault) w.disk state (leads w.disk state stands (is_due state unbroken (due state stands))) stands
