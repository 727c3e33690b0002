-- Messages that are added to the selected mailbox.
use Rattle.std.proofs.Common.{ℕ, true, false, List, [], ◌∷◌, ◌++◌, ◌+◌, ◌<◌, ◌≡◌, ◌^◌, not, bytes_eq, if◌then◌else◌, refl, sym, ◌∙◌, ap, subst, length, map, Option, Some, None, Ok}
use Rattle.std.proofs.lemmas.List.{length-map}
use Rattle.file_model.specs.Disk.{Disk, seen}
use Rattle.file_model.specs.Histories.{History}
use Rattle.file_model.specs.Images.{Image}
use Rattle.any_store.specs.Choice.{Formats}
use Rattle.imap_reply.specs.declared.reply.Reply.TheVariants as reply
use Rattle.imap_reply.specs.declared.text.NoText.TheVariants as no
use Rattle.imap_reply.specs.declared.text.Words.{Words}
use Rattle.imap_reply.specs.declared.text.Words.TheVariants as words
use Rattle.imap_arguments.specs.declared.flag.FlagList.{FlagList}
use Rattle.mail_fields.specs.declared.stamp.Stamp.{Stamp}
use Rattle.mail_tree.specs.Names.{read_name}
use Rattle.mail_types.specs.declared.message.NewMessage.{NewMessage}
use Rattle.mail_types.specs.Drivers.{keeps_of}
use Rattle.mail_types.specs.Opening.{numbers_from}
use Rattle.mail_tree.specs.Mailboxes.{written_length}
use Rattle.store_trait.specs.declared.change.Change.{Change}
use Rattle.store_trait.specs.declared.faults.StoreFault.{StoreFault}
use Rattle.store_trait.specs.Changes.{IsSized}
use Rattle.store_trait.specs.Laws.{IsView}
use Rattle.store_trait.specs.Promises.{IsSame}
use Rattle.store_trait.specs.Views.{View}
use Rattle.imap_session.specs.declared.adding.Brought.{Brought}
use Rattle.imap_session.specs.declared.session.Open.{Open}
use Rattle.imap_session.specs.declared.session.Session.{Session}
use Rattle.imap_session.specs.Adding.{new_message, names_with, addition, addition_to, with_new, added_here, add_change_here, add_here, add_there, add, append, appended}
use Rattle.imap_session.specs.Asked.{has_that_name}
use Rattle.imap_session.specs.Asking.{is_named}
use Rattle.imap_session.specs.Committed.{IsAsItWas}
use Rattle.imap_session.specs.Lines.{Line, reply_lines}
use Rattle.imap_session.specs.Refusals.{or_refused, store_refusal, unless_store, due_of}
use Rattle.imap_session.specs.Standing.{IsOpen, IsSelection, StandsFor}
use Rattle.imap_session.specs.State.{Selected, State, Outcome, ◌>>=◌, infos_of, changed_selected, only, or_leaves}
use Rattle.imap_session.proofs.Additions.{added_count, uids_fit}
use Rattle.imap_session.proofs.Changing.{GoesOn, SameOpen, here_of, stands_changed}
use Rattle.imap_session.proofs.Expunging.{told_infos}
use Rattle.imap_session.proofs.FetchSaid.{told_words}
use Rattle.imap_session.proofs.Selections.{is_selected, selects}
use Rattle.imap_session.proofs.Undue.{Aims, AimsTo}

-- ---- A refused change leaves the selection as it was

pub open_stays : {S : Type 0} (formats : Formats) (view : S → View) (state : State) (o p : Open S) (image : Image) (s : Selected) (old new : History)
    → SameOpen o p o.recent → IsSame (view o.store) (view p.store) → IsAsItWas (view o.store) (view p.store) old new → IsOpen formats view state o image s → IsOpen formats view state p image s
open_stays formats view state o p image s old new same store_same as_it_was is = record {
  name = same.name ∙ is.name;
  read_only = same.read_only ∙ is.read_only;
  recent = same.recent_is ∙ is.recent;
  store = record {
    driver = store_same.driver ∙ is.store.driver;
    path = store_same.path ∙ is.store.path;
    works = as_it_was.works is.store.works;
    stands = as_it_was.unchanged.stands image is.store.stands;
    mailbox = as_it_was.unchanged.mailbox image ∙ is.store.mailbox;
    written = is.store.written;
  };
  in_tree = is.in_tree;
}

module _ {S : Type 0} (formats : Formats) (view : S → View) (session : Session S) (o : Open S) (some : session.selected ≡ Some o) where
  pub refused_stands : (after : Session S) (p : Open S) (old new : History) → GoesOn session after → after.selected ≡ Some p → SameOpen o p o.recent → IsSame (view o.store) (view p.store)
      → IsAsItWas (view o.store) (view p.store) old new → (disk : Disk) (state : State) → StandsFor formats view session disk state → StandsFor formats view after disk state
  refused_stands after p old new goes_on now_open same store_same as_it_was disk state stands =
      let sel = selects formats view session o disk state stands some in
      record {
        root = goes_on.root ∙ stands.root;
        moment = goes_on.moment ∙ stands.moment;
        some = stands.some;
        fresh_is = goes_on.fresh ∙ stands.fresh_is;
        some_root = stands.some_root;
        stands = stands.stands;
        tree = stands.tree;
        selected = subst (λ q. IsSelection formats view state q (seen disk) state.selected) (sym now_open)
            (subst (λ t. IsSelection formats view state (Some p) (seen disk) t) (sym sel.is) (open_stays formats view state o p (seen disk) sel.s old new same store_same as_it_was sel.open_is));
      }

  -- ---- What the command leads to

  module _ (tag : List ℕ) (word : Words) (brought : List Brought) (names : List (List ℕ)) (law : IsView formats.forms (view o.store)) where
    abbrev pub lead : State → Outcome
    lead state = or_leaves state (add_here formats tag word state brought names)

    abbrev pub change : Change
    change = addition (not o.read_only) (view o.store).driver (view o.store).summary.words brought names

    -- the change of the selected mailbox is that of what the store tells
    change_is : (disk : Disk) (state : State) (s : Selected) → IsOpen formats view state o (seen disk) s → addition_to (not s.read_only) s brought names ≡ change
    change_is disk state s is =
        ap (λ r. addition (not r) s.placed.driver s.placed.mailbox.words brought names) (sym is.read_only)
        ∙ ap (λ w. addition (not o.read_only) s.placed.driver w brought names) (sym (told_words formats view state o disk s law is))
        ∙ ap (λ d. addition (not o.read_only) d (view o.store).summary.words brought names) (sym is.store.driver)

    leads_on : (disk : Disk) (state : State) (s : Selected) → state.selected ≡ Some s → IsOpen formats view state o (seen disk) s → lead state ≡ or_leaves state (add_change_here formats tag word state (length brought) s change)
    leads_on disk state s selected is =
        is_selected tag state s (λ s. add_change_here formats tag word state (length brought) s (addition_to (not s.read_only) s brought names)) selected
        ∙ ap (λ c. or_leaves state (add_change_here formats tag word state (length brought) s c)) (change_is disk state s is)

    done_here : (disk : Disk) (state : State) (s : Selected) → state.selected ≡ Some s → IsOpen formats view state o (seen disk) s → due_of formats s.placed change ≡ None
        → lead state ≡ added_here formats tag word state s change (length brought)
    done_here disk state s selected is none =
        leads_on disk state s selected is ∙ ap (λ d. or_leaves state (unless_store tag d >>= λ fits. Ok (added_here formats tag word state s change (length brought)))) none

    refused_here : (disk : Disk) (state : State) (s : Selected) → state.selected ≡ Some s → IsOpen formats view state o (seen disk) s → (fault : StoreFault) → due_of formats s.placed change ≡ Some fault
        → lead state ≡ only state (store_refusal tag fault)
    refused_here disk state s selected is fault due =
        leads_on disk state s selected is ∙ ap (λ d. or_leaves state (unless_store tag d >>= λ fits. Ok (added_here formats tag word state s change (length brought)))) due

    pub aims_here : (disk : Disk) (state : State) → StandsFor formats view session disk state → Aims formats view session lead tag change (view o.store) disk state
    aims_here disk state stands =
        let sel = selects formats view session o disk state stands some in
        record {
          s = sel.s;
          recent = with_new sel.s (length brought);
          here = here_of formats view session o disk state stands sel;
          root = λ none. ap (λ x. x.next.root) (done_here disk state sel.s sel.is sel.open_is none);
          tree = λ none. ap (λ x. x.next.tree) (done_here disk state sel.s sel.is sel.open_is none);
          refused = refused_here disk state sel.s sel.is sel.open_is;
        }

    -- ---- The selection behind the change

    told_last : (disk : Disk) (state : State) (s : Selected) → IsOpen formats view state o (seen disk) s → (view o.store).summary.last ≡ s.placed.mailbox.last
    told_last disk state s is = sym (ap (λ y. y.last) (law.summarized (seen disk) is.store.stands)) ∙ ap (λ m. m.last) is.store.mailbox

    module _ (after : Session S) (p : Open S) (goes_on : GoesOn session after) (now_open : after.selected ≡ Some p) (name : p.name ≡ o.name) (read_only : p.read_only ≡ o.read_only)
        (recent : (0 < length brought → (view o.store).summary.last + length brought < 2 ^ 32) → p.recent ≡ o.recent ++ numbers_from ((view o.store).summary.last + 1) (length brought))
        (sized : IsSized (view o.store).summary change (view p.store).summary) where
      abbrev pub lines : List Line
      lines = reply_lines (reply.Exists (length (view p.store).summary.infos) ∷ reply.Recent (length p.recent) ∷ [])

      recent_is : (disk : Disk) (state : State) (s : Selected) → IsOpen formats view state o (seen disk) s → due_of formats s.placed change ≡ None → p.recent ≡ with_new s (length brought)
      recent_is disk state s is none =
          recent fits
          ∙ ap (λ r. r ++ numbers_from ((view o.store).summary.last + 1) (length brought)) is.recent
          ∙ ap (λ n. s.recent ++ numbers_from (n + 1) (length brought)) (told_last disk state s is)
        where
          count : ℕ
          count = length (map (new_message (not o.read_only) (names_with (view o.store).driver (view o.store).summary.words brought names)) brought)

          count_is : count ≡ length brought
          count_is = length-map brought (new_message (not o.read_only) (names_with (view o.store).driver (view o.store).summary.words brought names))

          fits : 0 < length brought → (view o.store).summary.last + length brought < 2 ^ 32
          fits some =
              subst (λ n. n + length brought < 2 ^ 32) (sym (told_last disk state s is)) (subst (λ k. s.placed.mailbox.last + k < 2 ^ 32) count_is
              (uids_fit (written_length formats s.placed.driver) s.placed.driver s.placed.contents s.placed.mailbox _ _ none (subst (λ k. 0 < k) (sym count_is) some)))

      count_is_told : (disk : Disk) (state : State) (s : Selected) (recent : List ℕ) → IsOpen formats view state o (seen disk) s → length (infos_of (changed_selected s recent change)) ≡ length (view p.store).summary.infos
      count_is_told disk state s recent is =
          added_count (keeps_of s.placed.driver) s.placed.mailbox new (names_with (view o.store).driver (view o.store).summary.words brought names)
          ∙ ap (λ i. length i + length new) (sym (told_infos formats view state o disk s law is)) ∙ sym sized.count
        where
          new : List NewMessage
          new = map (new_message (not o.read_only) (names_with (view o.store).driver (view o.store).summary.words brought names)) brought

      pub aims_to_here : (disk : Disk) (state : State) → StandsFor formats view session disk state
          → AimsTo formats view session lead tag change (view o.store) after (view p.store) lines (reply.Done tag word) disk state
      unfolding aims_here
      aims_to_here disk state stands =
          let sel = selects formats view session o disk state stands some in
          let is = done_here disk state sel.s sel.is sel.open_is in
          let new = with_new sel.s (length brought) in
          record {
            aims = aims_here disk state stands;
            untagged = λ none. ap (λ x. x.untagged) (is none)
                ∙ ap (λ n. reply_lines (reply.Exists n ∷ reply.Recent (length new) ∷ [])) (count_is_told disk state sel.s new sel.open_is)
                ∙ ap (λ r. reply_lines (reply.Exists (length (view p.store).summary.infos) ∷ reply.Recent (length r) ∷ [])) (sym (recent_is disk state sel.s sel.open_is none));
            ends = λ none. sym (ap (λ x. x.last) (is none));
            stands = λ none a b same sees changed.
                subst (λ x. StandsFor formats view after b.disk x.next) (sym (is none))
                (stands_changed formats view session o after p new change disk state stands sel goes_on now_open
                (record { name = name; read_only = read_only; recent_is = recent_is disk state sel.s sel.open_is none }) a b changed);
          }

-- ---- By what the calls told

-- the recent messages, as they were counted
pub recent_so : (all was recent : List ℕ) (last told count n : ℕ) → was ≡ recent → last ≡ told → count ≡ n
    → ((0 < count → last + count < 2 ^ 32) → all ≡ was ++ numbers_from (last + 1) count) → (0 < n → told + n < 2 ^ 32) → all ≡ recent ++ numbers_from (told + 1) n
recent_so all was recent last told count n was_is last_is count_is made =
    subst (λ r. (0 < n → told + n < 2 ^ 32) → all ≡ r ++ numbers_from (told + 1) n) was_is
    (subst (λ k. (0 < n → k + n < 2 ^ 32) → all ≡ was ++ numbers_from (k + 1) n) last_is
    (subst (λ k. (0 < k → last + k < 2 ^ 32) → all ≡ was ++ numbers_from (last + 1) k) count_is made))

-- whether the name is the selected mailbox's
pub named_is : {S : Type 0} (formats : Formats) (view : S → View) (state : State) (image : Image) (name : List ℕ) (selected : Option (Open S)) (sel : Option Selected)
    → IsSelection formats view state selected image sel → is_named selected name ≡ has_that_name name sel
named_is formats view state image name None None is = refl
named_is formats view state image name None (Some s) is = absurd is
named_is formats view state image name (Some o) None is = absurd is
named_is formats view state image name (Some o) (Some s) is = ap (λ n. bytes_eq n name) is.name

module _ {S : Type 0} (formats : Formats) (view : S → View) (session : Session S) (tag : List ℕ) (word : Words) (name : List ℕ) (brought : List Brought) (names : List (List ℕ)) where
  pub goes_here : is_named session.selected name ≡ true → (disk : Disk) (state : State) → StandsFor formats view session disk state
      → or_leaves state (add_here formats tag word state brought names) ≡ or_leaves state (add formats tag word state name brought names)
  goes_here named disk state stands =
      ap (λ b. or_leaves state (if b then add_here formats tag word state brought names else add_there formats tag word state name brought names))
      (sym named ∙ named_is formats view state (seen disk) name session.selected state.selected stands.selected)

  pub goes_there : is_named session.selected name ≡ false → (disk : Disk) (state : State) → StandsFor formats view session disk state
      → or_leaves state (add_there formats tag word state name brought names) ≡ or_leaves state (add formats tag word state name brought names)
  goes_there unnamed disk state stands =
      ap (λ b. or_leaves state (if b then add_here formats tag word state brought names else add_there formats tag word state name brought names))
      (sym unnamed ∙ named_is formats view state (seen disk) name session.selected state.selected stands.selected)

-- ---- APPEND

-- it goes on with the name that is read
abbrev by_name : Formats → List ℕ → State → List Brought → (names : List (List ℕ)) → Option (List ℕ) → Outcome
by_name formats tag state brought names read = or_leaves state (or_refused (reply.Refused tag no.BadName) read >>= λ name. add formats tag words.Append state name brought names)

pub leads_to_add : {S : Type 0} (formats : Formats) (view : S → View) (session : Session S) (tag bytes name : List ℕ) (flags : FlagList) (stamp : Option Stamp) (text : List ℕ) (brought : List Brought) (names : List (List ℕ))
    → read_name bytes ≡ Some name → brought ≡ appended flags stamp text session.moment ∷ [] → names ≡ flags.words
    → (disk : Disk) (state : State) → StandsFor formats view session disk state → or_leaves state (add formats tag words.Append state name brought names) ≡ append formats tag bytes flags stamp text state
leads_to_add formats view session tag bytes name flags stamp text brought names read are named disk state stands =
    ap (λ b. or_leaves state (add formats tag words.Append state name b names)) (are ∙ ap (λ m. appended flags stamp text m ∷ []) stands.moment)
    ∙ ap (λ n. or_leaves state (add formats tag words.Append state name (appended flags stamp text state.moment ∷ []) n)) named
    ∙ ap (by_name formats tag state (appended flags stamp text state.moment ∷ []) flags.words) (sym read)
