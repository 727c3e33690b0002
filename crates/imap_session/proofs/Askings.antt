-- The mailbox that a name asks for: the selected one, or another that opens.
use Rattle.std.proofs.Common.{ℕ, true, false, List, [], ◌∷◌, ◌≡◌, ◌⊎◌, ⊎_elim, inl, inr, refl, sym, ◌∙◌, ap, subst, map, bytes_eq, if◌then◌else◌, Option, Some, None, Ok, Err}
use Rattle.file_model.specs.Disk.{Disk, seen}
use Rattle.file_model.specs.Histories.{History, Now}
use Rattle.file_model.specs.Images.{Image}
use Rattle.any_store.specs.Choice.{Formats}
use Rattle.imap_arguments.specs.declared.item.StatusItem.{StatusItem}
use Rattle.imap_arguments.specs.declared.item.StatusItem.TheVariants as items
use Rattle.imap_reply.specs.declared.reply.Reply.{Reply}
use Rattle.imap_reply.specs.declared.reply.Reply.TheVariants as reply
use Rattle.imap_reply.specs.declared.text.NoText.TheVariants as no
use Rattle.imap_reply.specs.declared.text.Words.TheVariants as words
use Rattle.mail_tree.specs.Changes.{due_open, breaks_tree}
use Rattle.mail_tree.specs.Mailboxes.{Found, found_at}
use Rattle.mail_tree.specs.Names.{read_name}
use Rattle.mail_tree.specs.declared.fault.TreeFault.{TreeFault}
use Rattle.store_trait.specs.Laws.{IsView}
use Rattle.store_trait.specs.Views.{View, summary_of}
use Rattle.imap_session.specs.declared.session.Open.{Open}
use Rattle.imap_session.specs.declared.session.Session.{Session}
use Rattle.imap_session.specs.Asked.{asked, asked_in}
use Rattle.imap_session.specs.Asking.{is_named, told_count, told_status, AsksFor, AsksInVain, SaysAsked}
use Rattle.imap_session.specs.Lines.{reply_line}
use Rattle.imap_session.specs.Opening.{OpensSelected}
use Rattle.imap_session.specs.declared.refusal.Refusal.{Refusal}
use Rattle.imap_session.specs.Doing.{Alike, Does}
use Rattle.imap_session.specs.Refusals.{or_refused, unless_due, tree_refusal, refused_by}
use Rattle.imap_session.specs.Select.{opened, opening}
use Rattle.imap_session.specs.Standing.{IsOpen, IsSelection, StandsFor}
use Rattle.imap_session.specs.State.{Selected, State, Outcome, Unless, ◌>>=◌, fresh, done, or_leaves, only}
use Rattle.imap_session.specs.Status.{status, status_count, status_line}
use Rattle.imap_session.proofs.Exits.{Leads}
use Rattle.imap_session.proofs.ByName.{IsRefusal, is_refusal, refused_by_tree}
use Rattle.imap_session.proofs.Selections.{selects}

-- ---- Which mailbox it is

-- the selected one
pub asks_selected : {S : Type 0} (formats : Formats) (view : S → View) (state : State) (o : Open S) (image : Image) (s : Selected) (name : List ℕ)
    → state.selected ≡ Some s → IsOpen formats view state o image s → bytes_eq o.name name ≡ true → AsksFor state name s
asks_selected formats view state o image s name is open_is named refusal tag =
    ap (λ sel. asked_in sel name (opening refusal tag true state name)) is
    ∙ ap (λ n. if bytes_eq n name then Ok s else opening refusal tag true state name) (sym open_is.name)
    ∙ ap (λ b. if b then Ok s else opening refusal tag true state name) named

-- another
pub asks_other : {S : Type 0} (formats : Formats) (view : S → View) (state : State) (image : Image) (name : List ℕ) (selected : Option (Open S)) (sel : Option Selected)
    → IsSelection formats view state selected image sel → is_named selected name ≡ false → (other : Unless Selected) → asked_in sel name other ≡ other
asks_other formats view state image name None None is unnamed other = refl
asks_other formats view state image name None (Some s) is unnamed other = absurd is
asks_other formats view state image name (Some o) None is unnamed other = absurd is
asks_other formats view state image name (Some o) (Some s) is unnamed other =
    ap (λ n. if bytes_eq n name then Ok s else other) (sym is.name) ∙ ap (λ b. if b then Ok s else other) unnamed

-- the mailbox of a name as it opens
abbrev pub by_found : (refusal : TreeFault → Reply) → List ℕ → State → List ℕ → Option TreeFault → Option Found → Unless Selected
by_found refusal tag state name due found =
    unless_due refusal due >>= λ stands. or_refused (reply.Refused tag no.NotStore) found >>= λ found. Ok (opened true (fresh state) name found)

module _ {S : Type 0} (formats : Formats) (view : S → View) (session : Session S) (disk : Disk) (state : State) (name : List ℕ)
    (stands : StandsFor formats view session disk state) (unnamed : is_named session.selected name ≡ false) where
  is_other : (other : Unless Selected) → asked_in state.selected name other ≡ other
  is_other other = asks_other formats view state (seen disk) name session.selected state.selected stands.selected unnamed other

  pub asks_opened : (o : Open S) (it : OpensSelected formats view state name true o (seen disk)) → AsksFor state name (opened true (fresh state) name it.found)
  asks_opened o it refusal tag = is_other (opening refusal tag true state name)
      ∙ ap (λ due. by_found refusal tag state name due (found_at state.tree name)) it.none_due
      ∙ ap (by_found refusal tag state name None) it.sees_it

  pub asks_in_vain : (fault : TreeFault) → (due_open state.tree name ≡ Some fault) ⊎ (breaks_tree fault ≡ true) → AsksInVain state name fault
  asks_in_vain fault due = ⊎_elim
      (λ due. inl (λ refusal tag. is_other (opening refusal tag true state name) ∙ ap (λ d. by_found refusal tag state name d (found_at state.tree name)) due))
      (λ breaks. inr breaks) due

-- ---- What STATUS says of it

count_is : (s : Selected) (item : StatusItem) → told_count s.recent (summary_of s.placed.mailbox) item ≡ status_count s item
count_is s items.Messages = refl
count_is s items.Recent = refl
count_is s items.UidNext = refl
count_is s items.UidValidity = refl
count_is s items.Unseen = refl

abbrev pair : StatusItem → ℕ → StatusItem × ℕ
pair item count = (item, count)

counts_are : (s : Selected) (wanted : List StatusItem)
    → map (λ (item : StatusItem). pair item (told_count s.recent (summary_of s.placed.mailbox) item)) wanted ≡ map (λ (item : StatusItem). pair item (status_count s item)) wanted
counts_are s [] = refl
counts_are s (item ∷ wanted) = ap (λ n. pair item n ∷ map (λ (item : StatusItem). pair item (told_count s.recent (summary_of s.placed.mailbox) item)) wanted) (count_is s item)
    ∙ ap (λ l. pair item (status_count s item) ∷ l) (counts_are s wanted)

-- of an open mailbox
pub says_open : {S : Type 0} (formats : Formats) (view : S → View) (state : State) (o : Open S) (image : Image) (s : Selected) (wanted : List StatusItem)
    → IsView formats.forms (view o.store) → IsOpen formats view state o image s → told_status o.name o.recent (view o.store).summary wanted ≡ status_line s wanted
says_open formats view state o image s wanted law is =
    ap (λ n. told_status n o.recent (view o.store).summary wanted) is.name
    ∙ ap (λ r. told_status s.placed.name r (view o.store).summary wanted) is.recent
    ∙ ap (λ t. told_status s.placed.name s.recent t wanted) (sym (law.summarized image is.store.stands) ∙ ap summary_of is.store.mailbox)
    ∙ ap (reply.Status s.placed.name) (counts_are s wanted)

module _ {S : Type 0} (formats : Formats) (view : S → View) (session : Session S) (name : List ℕ) (wanted : List StatusItem) (o : Open S) (law : IsView formats.forms (view o.store))
    (line : Reply) (is : line ≡ told_status o.name o.recent (view o.store).summary wanted) where
  -- the selected mailbox
  pub says_selected : session.selected ≡ Some o → bytes_eq o.name name ≡ true → (old : History)
      → Now old (λ w. (state : State) → StandsFor formats view session w.disk state → SaysAsked state name wanted line)
  says_selected some named [] = tt
  says_selected some named (a ∷ past) = λ state stands.
      let sel = selects formats view session o a.disk state stands some in
      (sel.s, asks_selected formats view state o (seen a.disk) sel.s name sel.is sel.open_is named, is ∙ says_open formats view state o (seen a.disk) sel.s wanted law sel.open_is)

  -- another
  pub says_opened : is_named session.selected name ≡ false → (old : History)
      → Now old (λ w. (state : State) → StandsFor formats view session w.disk state → OpensSelected formats view state name true o (seen w.disk))
      → Now old (λ w. (state : State) → StandsFor formats view session w.disk state → SaysAsked state name wanted line)
  says_opened unnamed [] opens = tt
  says_opened unnamed (a ∷ past) opens = λ state stands.
      let it = opens state stands in (
        opened true (fresh state) name it.found,
        asks_opened formats view session a.disk state name stands unnamed o it,
        is ∙ says_open formats view state o (seen a.disk) (opened true (fresh state) name it.found) wanted law it.open_is,
      )

-- ---- What the command leads to

-- it goes on with the name
abbrev by_name : List ℕ → List StatusItem → State → Option (List ℕ) → Outcome
by_name tag wanted state read = or_leaves state (or_refused (reply.Refused tag no.BadName) read
    >>= λ name. asked (tree_refusal tag) tag state name >>= λ s. Ok (done tag words.Status state (reply_line (status_line s wanted) ∷ [])))

-- and with the mailbox
abbrev by_asked : List ℕ → List StatusItem → State → Unless Selected → Outcome
by_asked tag wanted state found = or_leaves state (found >>= λ s. Ok (done tag words.Status state (reply_line (status_line s wanted) ∷ [])))

module _ (tag bytes : List ℕ) (wanted : List StatusItem) (state : State) where
  pub bad_status_name : read_name bytes ≡ None → status tag bytes wanted state ≡ only state (reply.Refused tag no.BadName)
  bad_status_name none = ap (by_name tag wanted state) none

  status_says : (name : List ℕ) (s : Selected) → read_name bytes ≡ Some name → AsksFor state name s
      → status tag bytes wanted state ≡ done tag words.Status state (reply_line (status_line s wanted) ∷ [])
  status_says name s read asks = ap (by_name tag wanted state) read ∙ ap (by_asked tag wanted state) (asks (tree_refusal tag) tag)

  status_refused : (name : List ℕ) (fault : TreeFault) → read_name bytes ≡ Some name → ((refusal : TreeFault → Reply) (tag : List ℕ) → asked refusal tag state name ≡ Err (refusal fault))
      → status tag bytes wanted state ≡ only state (tree_refusal tag fault)
  status_refused name fault read asks = ap (by_name tag wanted state) read ∙ ap (by_asked tag wanted state) (asks (tree_refusal tag) tag)

module _ {S : Type 0} (formats : Formats) (view : S → View) (session : Session S) (tag bytes name : List ℕ) (wanted : List StatusItem) (read : read_name bytes ≡ Some name) where
  -- the line is what the command says
  says_line : (line : Reply) (disk : Disk) (state : State) → StandsFor formats view session disk state → SaysAsked state name wanted line
      → Leads formats view session (status tag bytes wanted) (reply_line line ∷ []) (reply.Done tag words.Status) disk state
  says_line line disk state stands says =
      let leads = status_says tag bytes wanted state name says.0 read says.1 in
      record {
        stands = subst (λ o. StandsFor formats view session disk o.next) (sym leads) stands;
        alike = subst (λ o. Alike formats state disk → Alike formats o.next disk) (sym leads) (λ same. same);
        untagged = ap (λ o. o.untagged) leads ∙ ap (λ l. reply_line l ∷ []) (sym says.2);
        ends = sym (ap (λ o. o.last) leads);
      }

  pub says_lines : (line : Reply) (old : History) → Now old (λ w. (state : State) → StandsFor formats view session w.disk state → SaysAsked state name wanted line)
      → Now old (λ w. (state : State) → StandsFor formats view session w.disk state → Leads formats view session (status tag bytes wanted) (reply_line line ∷ []) (reply.Done tag words.Status) w.disk state)
  says_lines line [] says = tt
  says_lines line (a ∷ past) says = λ state stands. says_line line a.disk state stands (says state stands)

  refuses_status : (fault : TreeFault) (old : History) → Now old (λ w. (state : State) → StandsFor formats view session w.disk state → AsksInVain state name fault)
      → Now old (λ w. (state : State) → StandsFor formats view session w.disk state → (status tag bytes wanted state ≡ only state (tree_refusal tag fault)) ⊎ (breaks_tree fault ≡ true))
  refuses_status fault [] vain = tt
  refuses_status fault (a ∷ past) vain = λ state stands.
      ⊎_elim (λ due. inl (status_refused tag bytes wanted state name fault read due)) (λ breaks. inr breaks) (vain state stands)

  -- it is refused, or the session ends
  pub status_due : (fault : TreeFault) (is : Refusal) (h : History) → is ≡ refused_by tag fault → Now h (λ w. (state : State) → StandsFor formats view session w.disk state → AsksInVain state name fault)
      → Does formats (StandsFor formats view session) (StandsFor formats view session) (status tag bytes wanted) (Err is) [] h h
  status_due fault is h refused vain = refused_by_tree formats view session session (λ state. state) (λ disk state stands. stands) (λ disk state alike. alike)
      (status tag bytes wanted) (tree_refusal tag) (λ state. status tag bytes wanted state ≡ only state (tree_refusal tag fault)) fault is h
      (subst (IsRefusal (tree_refusal tag) fault) (sym refused) (is_refusal tag fault)) (refuses_status fault h vain) (λ disk state stands due. due)
