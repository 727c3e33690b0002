-- What the commands of names lead to, once their names are read.
use Rattle.std.proofs.Common.{ℕ, Bool, true, false, List, [], ◌≡◌, refl, sym, ◌∙◌, ap, Option, Some, None, Ok, if◌then◌else◌}
use Rattle.file_model.specs.Disk.{Disk, seen}
use Rattle.file_model.specs.Images.{Image}
use Rattle.store_trait.specs.Views.{View}
use Rattle.any_store.specs.Choice.{Formats}
use Rattle.any_store.specs.Stores.{is_known}
use Rattle.imap_reply.specs.declared.reply.Reply.TheVariants as reply
use Rattle.imap_reply.specs.declared.text.NoText.TheVariants as no
use Rattle.imap_reply.specs.declared.text.Words.TheVariants as words
use Rattle.mail_types.specs.declared.driver.Driver.{Driver}
use Rattle.mail_tree.specs.declared.fault.TreeFault.{TreeFault}
use Rattle.mail_tree.specs.Changes.{due_create, created_tree, due_create_dir, tree_with_directory, due_delete, deleted_tree, due_rename, renamed_tree, subscribed_tree, due_unsubscribe, unsubscribed_tree}
use Rattle.mail_tree.specs.Names.{TargetValue, driver_named, driver_words, read_name, read_target, target_of}
use Rattle.mail_tree.specs.Trees.{Tree}
use Rattle.imap_session.specs.declared.session.Open.{Open}
use Rattle.imap_session.specs.declared.session.Session.{Session}
use Rattle.imap_session.specs.Create.{create, due_new, tree_with}
use Rattle.imap_session.specs.Delete.{delete}
use Rattle.imap_session.specs.Endings.{open_name}
use Rattle.imap_session.specs.Refusals.{or_refused, unless_tree, the_name}
use Rattle.imap_session.specs.Rename.{rename}
use Rattle.imap_session.specs.Standing.{IsSelection, StandsFor}
use Rattle.imap_session.specs.State.{Selected, State, Outcome, Unless, ◌>>=◌, done, fresh, or_leaves, selected_name, name_in, with_tree}
use Rattle.imap_session.specs.Subscribe.{subscribe, unsubscribe}
use Rattle.imap_session.proofs.TreeChanges.{tree_lead}

-- ---- Names that are read

module _ {A : Type 0} (tag : List ℕ) (state : State) (go_on : A → Unless Outcome) where
  pub good_name : (read : Option A) (value : A) → read ≡ Some value → or_leaves state (or_refused (reply.Refused tag no.BadName) read >>= go_on) ≡ or_leaves state (go_on value)
  good_name read value some = ap (λ r. or_leaves state (or_refused (reply.Refused tag no.BadName) r >>= go_on)) some

-- a target is of a driver that stands
pub target_known : (bytes : List ℕ) (target : TargetValue) → read_target bytes ≡ Some target → is_known target.driver ≡ true
target_known bytes target is = at (driver_named driver_words bytes).0 (is_known (driver_named driver_words bytes).0) refl _ _ is
  where
    driver_is : (driver : Driver) (directory : Bool) (name : Option (List ℕ)) → is_known driver ≡ true → target_of driver directory name ≡ Some target → is_known target.driver ≡ true
    driver_is driver directory None known is = absurd (cc)
    driver_is driver directory (Some name) known is = ap (λ d. is_known d) (sym (same driver directory name target is)) ∙ known
      where
        unwrapped : Driver → Option TargetValue → Driver
        unwrapped d None = d
        unwrapped d (Some t) = t.driver

        same : (driver : Driver) (directory : Bool) (name : List ℕ) (target : TargetValue) → Some (record { name = name; driver = driver; directory = directory }) ≡ Some target → driver ≡ target.driver
        same driver directory name target is = ap (λ o. unwrapped driver o) is

    at : (driver : Driver) (known : Bool) → is_known driver ≡ known → (directory : Bool) (name : Option (List ℕ)) → (if known then target_of driver directory name else None) ≡ Some target → is_known target.driver ≡ true
    at driver true e directory name is = driver_is driver directory name e is
    at driver false e directory name is = absurd (cc)

-- ---- The selected name

pub selected_is : {S : Type 0} (formats : Formats) (view : S → View) (state : State) (image : Image) (o : Option (Open S)) (s : Option Selected) → IsSelection formats view state o image s → name_in s ≡ open_name o
selected_is formats view state image None None is = refl
selected_is formats view state image None (Some s) is = absurd is
selected_is formats view state image (Some o) None is = absurd is
selected_is formats view state image (Some o) (Some s) is = ap Some (sym is.name)

-- ---- The commands

-- no refusal is due
abbrev pub none_due : Tree → Option TreeFault
none_due tree = None

module _ {S : Type 0} (formats : Formats) (view : S → View) (session : Session S) (tag : List ℕ) where
  pub create_leads_dir : (bytes name : List ℕ) (driver : Driver) (directory : Bool) → read_target bytes ≡ Some (record { name = name; driver = driver; directory = directory }) → directory ≡ true
      → (disk : Disk) (state : State) → StandsFor formats view session disk state → create tag bytes state ≡ tree_lead tag words.Create (λ tree. due_create_dir tree name) (λ tree. tree_with_directory tree name) state
  create_leads_dir bytes name driver directory is set disk state stands =
      good_name tag state (λ target. unless_tree tag (due_new state.tree target) >>= λ can. Ok (done tag words.Create (with_tree state (tree_with state.tree target (fresh state))) [])) (read_target bytes) (record { name = name; driver = driver; directory = directory }) is
      ∙ ap (λ b. or_leaves state (unless_tree tag (due_new state.tree (record { name = name; driver = driver; directory = b })) >>= λ can. Ok (done tag words.Create (with_tree state (tree_with state.tree (record { name = name; driver = driver; directory = b }) (fresh state))) []))) set

  pub create_leads : (bytes name : List ℕ) (driver : Driver) (directory : Bool) (number : ℕ) → read_target bytes ≡ Some (record { name = name; driver = driver; directory = directory }) → directory ≡ false → number ≡ session.fresh
      → (disk : Disk) (state : State) → StandsFor formats view session disk state → create tag bytes state ≡ tree_lead tag words.Create (λ tree. due_create tree name driver) (λ tree. created_tree tree name driver number) state
  create_leads bytes name driver directory number is unset given disk state stands =
      good_name tag state (λ target. unless_tree tag (due_new state.tree target) >>= λ can. Ok (done tag words.Create (with_tree state (tree_with state.tree target (fresh state))) [])) (read_target bytes) (record { name = name; driver = driver; directory = directory }) is
      ∙ ap (λ b. or_leaves state (unless_tree tag (due_new state.tree (record { name = name; driver = driver; directory = b })) >>= λ can. Ok (done tag words.Create (with_tree state (tree_with state.tree (record { name = name; driver = driver; directory = b }) (fresh state))) []))) unset
      ∙ ap (λ f. tree_lead tag words.Create (λ tree. due_create tree name driver) (λ tree. created_tree tree name driver f) state) (sym (given ∙ stands.fresh_is))

  pub delete_leads : (bytes name : List ℕ) → read_name bytes ≡ Some name → (disk : Disk) (state : State) → StandsFor formats view session disk state
      → delete tag bytes state ≡ tree_lead tag words.Delete (λ tree. due_delete tree name (open_name session.selected)) (λ tree. deleted_tree tree name) state
  delete_leads bytes name is disk state stands =
      good_name tag state (λ name. unless_tree tag (due_delete state.tree name (selected_name state)) >>= λ can. Ok (done tag words.Delete (with_tree state (deleted_tree state.tree name)) [])) (read_name bytes) name is
      ∙ ap (λ s. tree_lead tag words.Delete (λ tree. due_delete tree name s) (λ tree. deleted_tree tree name) state) (selected_is formats view state (seen disk) session.selected state.selected stands.selected)

  pub rename_leads : (from to one two : List ℕ) → read_name from ≡ Some one → read_name to ≡ Some two → (disk : Disk) (state : State) → StandsFor formats view session disk state
      → rename tag from to state ≡ tree_lead tag words.Rename (λ tree. due_rename tree one two (open_name session.selected)) (λ tree. renamed_tree tree one two) state
  rename_leads from to one two is_from is_to disk state stands =
      good_name tag state (λ one. the_name tag to >>= λ two. unless_tree tag (due_rename state.tree one two (selected_name state)) >>= λ can. Ok (done tag words.Rename (with_tree state (renamed_tree state.tree one two)) [])) (read_name from) one is_from
      ∙ good_name tag state (λ two. unless_tree tag (due_rename state.tree one two (selected_name state)) >>= λ can. Ok (done tag words.Rename (with_tree state (renamed_tree state.tree one two)) [])) (read_name to) two is_to
      ∙ ap (λ s. tree_lead tag words.Rename (λ tree. due_rename tree one two s) (λ tree. renamed_tree tree one two) state) (selected_is formats view state (seen disk) session.selected state.selected stands.selected)

  pub subscribe_leads : (bytes name : List ℕ) → read_name bytes ≡ Some name → (disk : Disk) (state : State) → StandsFor formats view session disk state
      → subscribe tag bytes state ≡ tree_lead tag words.Subscribe none_due (λ tree. subscribed_tree tree name) state
  subscribe_leads bytes name is disk state stands = good_name tag state (λ name. Ok (done tag words.Subscribe (with_tree state (subscribed_tree state.tree name)) [])) (read_name bytes) name is

  pub unsubscribe_leads : (bytes name : List ℕ) → read_name bytes ≡ Some name → (disk : Disk) (state : State) → StandsFor formats view session disk state
      → unsubscribe tag bytes state ≡ tree_lead tag words.Unsubscribe (λ tree. due_unsubscribe tree name) (λ tree. unsubscribed_tree tree name) state
  unsubscribe_leads bytes name is disk state stands = good_name tag state (λ name. unless_tree tag (due_unsubscribe state.tree name) >>= λ can. Ok (done tag words.Unsubscribe (with_tree state (unsubscribed_tree state.tree name)) [])) (read_name bytes) name is
