-- EXPUNGE on a selection.
use Rattle.std.proofs.Common.{ℕ, ◌+◌, ◌≤◌, ◌&&◌, ◌||◌, nat_eq, arith, List, [], ◌∷◌, ◌++◌, ◌≡◌, refl, sym, ◌∙◌, ap, Bool, true, false, not, if◌then◌else◌, Ok, Err, Some, Result, IfOk}
use Rattle.std.proofs.lemmas.Bool.Decides.{nat_tests}
use Rattle.std.specs.List.{filter, list_any}
use Rattle.file_model.specs.Disk.{Disk, seen}
use Rattle.file_model.specs.Histories.{History}
use Rattle.file_model.proofs.Passes.{passed_none}
use Rattle.any_store.specs.Choice.{Formats}
use Rattle.imap_reply.specs.declared.reply.Reply.TheVariants as reply
use Rattle.imap_reply.specs.Putting.{Puts}
use Rattle.imap_reply.specs.Replies.{reply_bytes}
use Rattle.imap_reply.specs.declared.text.Words.TheVariants as words
use Rattle.session_loop.specs.declared.answers.Stop.{Stop}
use Rattle.store_trait.specs.declared.change.Change.{Change}
use Rattle.store_trait.specs.declared.change.Change.TheVariants.{Expunge}
use Rattle.store_trait.specs.declared.store.Info.{Info}
use Rattle.store_trait.specs.Laws.{IsView}
use Rattle.store_trait.specs.Views.{View, summary_of}
use Rattle.imap_session.specs.declared.session.Open.{Open}
use Rattle.imap_session.specs.declared.session.Session.{Session}
use Rattle.imap_session.specs.Committed.{Commits}
use Rattle.imap_session.specs.Doing.{Committing}
use Rattle.imap_session.specs.Expunge.{expunge, dropped, deleted_from, is_deleted, expunge_lines}
use Rattle.imap_session.specs.Lines.{reply_lines}
use Rattle.imap_session.specs.Refusals.{writable}
use Rattle.imap_session.specs.Standing.{IsOpen, StandsFor}
use Rattle.imap_session.specs.Told.{HasSame, deleted_uids}
use Rattle.imap_session.specs.State.{Selected, State, Outcome, ◌>>=◌, infos_of, changed_state, done}
use Rattle.imap_session.specs.Putting.{PutsLines}
use Rattle.imap_session.proofs.Changing.{Tells}
use Rattle.imap_session.proofs.Putting.{puts_reply}
use Rattle.imap_session.proofs.Selections.{is_selected, is_writable}

-- what a store tells is what the selected mailbox has
pub told_infos : {S : Type 0} (formats : Formats) (view : S → View) (state : State) (o : Open S) (disk : Disk) (s : Selected) → IsView formats.forms (view o.store)
    → IsOpen formats view state o (seen disk) s → (view o.store).summary.infos ≡ infos_of s
told_infos formats view state o disk s law is =
    sym (ap (λ y. y.infos) (law.summarized (seen disk) is.store.stands)) ∙ ap (λ m. (summary_of m).infos) is.store.mailbox

-- ---- The deleted messages are dropped

-- whether one of these UIDs is meant
deleted_step : (info : Info) (rest : List Info) (uid : ℕ) → list_any (nat_eq uid) (deleted_uids rest) ≡ is_deleted rest uid → (b : Bool)
    → list_any (nat_eq uid) (if b then info.uid ∷ deleted_uids rest else deleted_uids rest) ≡ ((b && nat_eq info.uid uid) || is_deleted rest uid)
deleted_step info rest uid same true =
    let one_way : nat_eq uid info.uid ≡ nat_eq info.uid uid = grind (arith, nat_tests) in
    ap (λ b. b || list_any (nat_eq uid) (deleted_uids rest)) one_way ∙ ap (λ b. nat_eq info.uid uid || b) same
deleted_step info rest uid same false = same

are_deleted : (infos : List Info) (uid : ℕ) → list_any (nat_eq uid) (deleted_uids infos) ≡ is_deleted infos uid
are_deleted [] uid = refl
are_deleted (info ∷ rest) uid = deleted_step info rest uid (are_deleted rest uid) info.flags.deleted

-- a set of their UIDs tells which are left
same_left : (infos : List Info) (set recent : List ℕ) → HasSame set (deleted_uids infos) → filter (λ uid. not (list_any (nat_eq uid) set)) recent ≡ filter (λ uid. not (is_deleted infos uid)) recent
same_left infos set [] same = refl
same_left infos set (uid ∷ rest) same =
    ap (λ b. if not b then uid ∷ filter (λ u. not (list_any (nat_eq u) set)) rest else filter (λ u. not (list_any (nat_eq u) set)) rest) (same uid ∙ are_deleted infos uid)
    ∙ ap (λ l. if not (is_deleted infos uid) then uid ∷ l else l) (same_left infos set rest same)

pub left_is : {T E : Type 0} (items : T → List ℕ) (infos : List Info) (set recent : List ℕ) (result : Result T E) → HasSame set (deleted_uids infos)
    → IfOk result (λ left. items left ≡ filter (λ uid. not (list_any (nat_eq uid) set)) recent) → IfOk result (λ left. items left ≡ filter (λ uid. not (is_deleted infos uid)) recent)
left_is items infos set recent (Ok left) same is = is ∙ same_left infos set recent same
left_is items infos set recent (Err error) same is = is

pub dropped_is : {S : Type 0} (formats : Formats) (view : S → View) (state : State) (o : Open S) (disk : Disk) (s : Selected) (infos : List Info) (recent : List ℕ) → IsView formats.forms (view o.store)
    → infos ≡ (view o.store).summary.infos → recent ≡ filter (λ uid. not (is_deleted infos uid)) o.recent → IsOpen formats view state o (seen disk) s
    → dropped formats state s ≡ changed_state formats state s recent (Expunge (deleted_from 0 infos))
dropped_is formats view state o disk s infos recent law are left is =
    let here : infos ≡ infos_of s = are ∙ told_infos formats view state o disk s law is in
    ap (λ r. changed_state formats state s r (Expunge (deleted_from 0 (infos_of s))))
    (ap (λ i. filter (λ uid. not (is_deleted i uid)) s.recent) (sym here) ∙ ap (λ r. filter (λ uid. not (is_deleted infos uid)) r) (sym is.recent) ∙ sym left)
    ∙ ap (λ i. changed_state formats state s recent (Expunge (deleted_from 0 i))) (sym here)

pub nothing_committed : (formats : Formats) (state : State) (s : Selected) (recent : List ℕ) (change : Change) (is : View) (stop : Stop) (h : History) → Commits formats state s recent change is (Err stop) h h
nothing_committed formats state s recent change is stop h = record { instants = passed_none (Committing formats state (changed_state formats state s recent change)) h; done = tt }

-- ---- What EXPUNGE leads to

abbrev pub expunged : Formats → List ℕ → State → Selected → Outcome
expunged formats tag state s = done tag words.Expunge (dropped formats state s) (reply_lines (expunge_lines 1 (infos_of s)))

pub expunge_tells : {S : Type 0} (formats : Formats) (view : S → View) (session : Session S) (o : Open S) (after : Session S) (p : Open S) (tag : List ℕ) (infos : List Info) (recent : List ℕ)
    → IsView formats.forms (view o.store) → infos ≡ (view o.store).summary.infos → o.read_only ≡ false
    → recent ≡ filter (λ uid. not (is_deleted infos uid)) o.recent
    → (disk : Disk) (state : State) (s : Selected) → StandsFor formats view session disk state → state.selected ≡ Some s → IsOpen formats view state o (seen disk) s
    → Tells formats view session o after p recent (Expunge (deleted_from 0 infos)) (expunge formats tag) (reply_lines (expunge_lines 1 infos)) (reply.Done tag words.Expunge) state s
expunge_tells formats view session o after p tag infos recent law are writes left disk state s stands selected is =
    let lead : expunge formats tag state ≡ expunged formats tag state s =
    is_selected tag state s (λ s. writable tag s >>= λ can. Ok (expunged formats tag state s)) selected
    ∙ is_writable tag state s (λ can. Ok (expunged formats tag state s)) (sym is.read_only ∙ writes) in
    record {
      next = ap (λ x. x.next) lead ∙ dropped_is formats view state o disk s infos recent law are left is;
      untagged = ap (λ x. x.untagged) lead ∙ ap (λ i. reply_lines (expunge_lines 1 i)) (sym (are ∙ told_infos formats view state o disk s law is));
      ends = sym (ap (λ x. x.last) lead);
    }

-- ---- Its lines, one by one

pub one_line : (number next : ℕ) (info : Info) (rest : List Info) → next ≡ (if info.flags.deleted then number else number + 1)
    → reply_lines (expunge_lines number (info ∷ rest)) ≡ reply_lines (if info.flags.deleted then reply.Expunge number ∷ [] else []) ++ reply_lines (expunge_lines next rest)
one_line number next info rest is =
    by_test info.flags.deleted ∙ ap (λ n. reply_lines (if info.flags.deleted then reply.Expunge number ∷ [] else []) ++ reply_lines (expunge_lines n rest)) (sym is)
  where
    by_test : (b : Bool) → reply_lines (if b then reply.Expunge number ∷ expunge_lines number rest else expunge_lines (number + 1) rest)
        ≡ reply_lines (if b then reply.Expunge number ∷ [] else []) ++ reply_lines (expunge_lines (if b then number else number + 1) rest)
    by_test true = refl
    by_test false = refl

pub said_if : (number : ℕ) (deleted : Bool) (was is : List ℕ) (result : Result (Unit {0}) Stop) (old new : History) → deleted ≡ true
    → Puts (was ++ reply_bytes (reply.Expunge number)) is result old new → PutsLines (reply_lines (if deleted then reply.Expunge number ∷ [] else [])) was is result old new
said_if number true was is result old new stays puts = puts_reply (reply.Expunge number) was is result old new puts
said_if number false was is result old new stays puts = absurd (cc)

pub few_after : (deleted : Bool) (number next place : ℕ) → number ≤ place + 1 → next ≡ (if deleted then number else number + 1) → next ≤ place + 1 + 1
few_after true number next place few is = omega (arith, few, is)
few_after false number next place few is = omega (arith, few, is)
