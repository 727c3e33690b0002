-- The tree goes on by a change of one of its mailboxes, which is a file.
use Rattle.std.proofs.Common.{◌≡◌, ◌⊎◌, inl, inr, ⊎_elim, ℕ, List, [], ◌∷◌, Bool, true, false, cond, Option, Some, None, Result, Ok, Err, OnOk, refl, sym, ◌∙◌, ap, subst, length, arith, length-append}
use Rattle.std.specs.Prelude.{IsErrOf}
use Rattle.std.specs.FinMap.{get, insert}
use Rattle.std.proofs.lemmas.Bool.{false≢true, cases_Bool}
use Rattle.file_model.specs.Disk.{Disk, seen}
use Rattle.file_model.specs.Histories.{History, Now, Ended}
use Rattle.file_model.specs.Images.{Image}
use Rattle.file_model.specs.Kept.{IsSound}
use Rattle.file_model.specs.Paths.{child, temporary_of}
use Rattle.file_model.proofs.Runs.{now_weaker, now_both}
use Rattle.mail_types.specs.declared.contents.StoreContents.{StoreContents}
use Rattle.mail_types.specs.declared.driver.Driver.{Driver}
use Rattle.mail_types.specs.declared.driver.Driver.TheVariants.{Unix, Mmdf, Mbx, Mtx, Tenex, Mh, Mix}
use Rattle.mail_types.specs.declared.driver.Limit.TheVariants.{File}
use Rattle.mail_types.specs.declared.mailbox.Mailbox.{Mailbox}
use Rattle.mail_types.specs.declared.message.Record.{Record}
use Rattle.mail_types.specs.Drivers.{keeps_of}
use Rattle.mail_types.specs.Stored.{stored_contents}
use Rattle.store_trait.specs.declared.change.Change.{Change}
use Rattle.store_trait.specs.declared.faults.OpenFault.TheVariants.{TooLarge}
use Rattle.store_trait.specs.declared.faults.StoreFault.{StoreFault}
use Rattle.store_trait.specs.declared.faults.StoreFault.TheVariants.{Failed as StoreFailed}
use Rattle.store_trait.specs.Changes.{changed_contents, changed_mailbox, changed_meaning, is_nothing, outgrows}
use Rattle.store_trait.specs.Forms.{Forms, grammar_of}
use Rattle.store_trait.specs.Laws.{IsView}
use Rattle.store_trait.specs.Meaning.{IsWritten, Means}
use Rattle.store_trait.specs.OwnPaths.{is_directory_driver, MayChange, IsNoPath}
use Rattle.store_trait.specs.Promises.{AnswersChange, BreaksBy, ChangesStore, IsSame, LeavesAlone, Stores}
use Rattle.store_trait.specs.Touching.{SeesBut}
use Rattle.store_trait.specs.Views.{View}
use Rattle.any_store.specs.Choice.{Formats, driver_by_records, stored_driver, IsStored}
use Rattle.any_store.proofs.Reopened.{IsStoredAs, stored_as, stored_is}
use Rattle.mail_tree.specs.declared.fault.TreeFault.{TreeFault}
use Rattle.mail_tree.specs.declared.fault.TreeFault.TheVariants.{Failed}
use Rattle.mail_tree.specs.Agreement.{mix_of, IsTreeAlike}
use Rattle.mail_tree.specs.Changes.{with_nodes}
use Rattle.mail_tree.specs.Changing.{Placed, placed_after, tree_after, IsInTree, IsMailboxAt, FollowsChange, CommitsMailbox}
use Rattle.mail_tree.specs.Mailboxes.{HasMailboxOf, meant_driver, stored_node, stored_tree, written_length}
use Rattle.mail_tree.specs.Names.{is_path}
use Rattle.mail_tree.specs.Promises.{CommitsTree, LeavesBut}
use Rattle.mail_tree.specs.Sights.{broken_fault}
use Rattle.mail_tree.specs.Trees.{Meaning, Directory, TreeNode, unknown_file, file_mailbox, folder, Nodes, Tree, is_plain, sees, seen_node, HasTree}
use Rattle.mail_tree.proofs.Below.{rooted_seen}
use Rattle.mail_tree.proofs.Beside.{TouchesNone, SameMix, ended_both, commits_beside}
use Rattle.mail_tree.proofs.Joined.{known_gives}
use Rattle.mail_tree.proofs.Made.{get_put_same, get_put_other}
use Rattle.mail_tree.proofs.Nodes.{AreFormats}
use Rattle.mail_tree.proofs.OneFile.{may_change, changes_but, tree_stored, touches_file, same_stored}
use Rattle.mail_tree.proofs.OneTree.{one_tree}
use Rattle.mail_tree.proofs.NewMailbox.{broken_failed}
use Rattle.mail_tree.proofs.Sighted.{all_same, sees_free}

-- ---- A mailbox that is a file

no_mailbox : (driver : Driver) → is_directory_driver driver ≡ false → HasMailboxOf driver None → ⊥
no_mailbox Unix one has = has
no_mailbox Mmdf one has = has
no_mailbox Mbx one has = has
no_mailbox Mtx one has = has
no_mailbox Tenex one has = has
no_mailbox Mh one has = false≢true (sym one)
no_mailbox Mix one has = false≢true (sym one)

unknown_mailbox : (driver : Driver) → is_directory_driver driver ≡ false → HasMailboxOf driver (Some unknown_file) → ⊥
unknown_mailbox Unix one has = has
unknown_mailbox Mmdf one has = has
unknown_mailbox Mbx one has = has
unknown_mailbox Mtx one has = has
unknown_mailbox Tenex one has = has
unknown_mailbox Mh one has = false≢true (sym one)
unknown_mailbox Mix one has = false≢true (sym one)

folder_mailbox : (driver : Driver) (d : Directory) → is_directory_driver driver ≡ false → HasMailboxOf driver (Some (folder d)) → ⊥
folder_mailbox Unix d one has = has
folder_mailbox Mmdf d one has = has
folder_mailbox Mbx d one has = has
folder_mailbox Mtx d one has = has
folder_mailbox Tenex d one has = has
folder_mailbox Mh d one has = false≢true (sym one)
folder_mailbox Mix d one has = false≢true (sym one)

-- a file with some driver and some meaning
pub record IsFileNode (node : Option TreeNode) : Type 0 where
  pub driver : Driver
  pub meaning : Meaning
  pub is : node ≡ Some (file_mailbox driver meaning)

file_node : (driver : Driver) (node : Option TreeNode) → is_directory_driver driver ≡ false → HasMailboxOf driver node → IsFileNode node
file_node driver None one has = absurd (no_mailbox driver one has)
file_node driver (Some unknown_file) one has = absurd (unknown_mailbox driver one has)
file_node driver (Some (file_mailbox other meaning)) one has = record { driver = other; meaning = meaning; is = refl }
file_node driver (Some (folder d)) one has = absurd (folder_mailbox driver d one has)

-- and back
pub has_file_node : (driver other : Driver) (meaning : Meaning) → is_directory_driver driver ≡ false → HasMailboxOf driver (Some (file_mailbox other meaning))
has_file_node Unix other meaning one = one
has_file_node Mmdf other meaning one = one
has_file_node Mbx other meaning one = one
has_file_node Mtx other meaning one = one
has_file_node Tenex other meaning one = one
has_file_node Mh other meaning one = absurd (false≢true (sym one))
has_file_node Mix other meaning one = absurd (false≢true (sym one))

stored_file : (driver : Driver) (meaning : Meaning) (node : Option TreeNode) → is_directory_driver driver ≡ false → stored_node driver meaning node ≡ file_mailbox (meant_driver driver meaning) meaning
stored_file Unix meaning _ one = refl
stored_file Mmdf meaning _ one = refl
stored_file Mbx meaning _ one = refl
stored_file Mtx meaning _ one = refl
stored_file Tenex meaning _ one = refl
stored_file Mh meaning _ one = absurd (false≢true (sym one))
stored_file Mix meaning _ one = absurd (false≢true (sym one))

-- a name sees it
pub record IsFileSeen (tree : Tree) (name : List ℕ) : Type 0 where
  pub is_path : is_path name ≡ true
  pub seen : sees tree.nodes name ≡ true
  pub node : IsFileNode (get tree.nodes name)

no_node : (n : TreeNode) → None ≡ Some n → ⊥
no_node n h = cc

pub file_seen : (formats : Formats) (root : List ℕ) (image : Image) (tree : Tree) (name : List ℕ) (driver : Driver) → HasTree formats root image tree → is_directory_driver driver ≡ false
    → HasMailboxOf driver (seen_node tree.nodes name) → IsFileSeen tree name
file_seen formats root image tree name driver has one is = at (sees tree.nodes name) refl (file_node driver (seen_node tree.nodes name) one is)
  where
    a_path : (n : TreeNode) → get tree.nodes name ≡ Some n → is_path name ≡ true
    a_path n here = ⊎_elim (λ yes. yes) (λ no. absurd (no_node n (sym (has.keys name no) ∙ here))) (cases_Bool (is_path name))

    at : (b : Bool) → sees tree.nodes name ≡ b → IsFileNode (seen_node tree.nodes name) → IsFileSeen tree name
    at true e node =
        let here : get tree.nodes name ≡ Some (file_mailbox node.driver node.meaning) = sym (ap (λ b. cond b (get tree.nodes name) None) e) ∙ node.is in
        record { is_path = a_path (file_mailbox node.driver node.meaning) here; seen = e; node = record { driver = node.driver; meaning = node.meaning; is = here } }
    at false e node = absurd (no_node (file_mailbox node.driver node.meaning) (sym (ap (λ b. cond b (get tree.nodes name) None) e) ∙ node.is))

-- what stands at a name isn't above it
sees_put : (nodes : Nodes) (name : List ℕ) (n : TreeNode) → sees (insert nodes name n) name ≡ sees nodes name
sees_put nodes name n = all_same (λ q. is_plain (get (insert nodes name n) q)) (λ q. is_plain (get nodes q)) name
    (λ q rest whole. ap is_plain (get_put_other nodes name n q (λ same. longer q rest (sym (whole ∙ ap (λ l. child l rest) same)) same)))
  where
    longer : (q rest : List ℕ) → child name rest ≡ name → q ≡ name → ⊥
    longer q rest same here = absurd (omega (arith, ap length same, length-append name (47 ∷ rest)))

seen_put : (nodes : Nodes) (name : List ℕ) (n : TreeNode) → sees nodes name ≡ true → seen_node (insert nodes name n) name ≡ Some n
seen_put nodes name n seen = ap (λ b. cond b (get (insert nodes name n) name) None) (sees_put nodes name n ∙ seen) ∙ get_put_same nodes name n

-- ---- What a change writes

grown_same : (written_length : Mailbox → ℕ) (driver : Driver) (m : Mailbox) (records : List Record) → outgrows written_length driver m ≡ true → driver_by_records driver records ≡ driver
grown_same written_length Unix m [] grown = refl
grown_same written_length Unix m (r ∷ rest) grown = refl
grown_same written_length Mmdf m [] grown = refl
grown_same written_length Mmdf m (r ∷ rest) grown = refl
grown_same written_length Mbx m records grown = absurd (false≢true grown)
grown_same written_length Mtx m records grown = absurd (false≢true grown)
grown_same written_length Tenex m records grown = absurd (false≢true grown)
grown_same written_length Mh m records grown = absurd (false≢true grown)
grown_same written_length Mix m records grown = absurd (false≢true grown)

-- the files say what is stored of a changed mailbox, by its driver, path and mailbox
abbrev pub StoresBy : Forms → (driver : Driver) (path : List ℕ) (prior : Mailbox) → Change → (start end : Image) → Type 0
StoresBy forms driver path prior change start end = (before : StoreContents) → IsWritten (grammar_of forms driver path) start before
    → IsWritten (grammar_of forms driver path) end (changed_contents driver before prior change)
    × (is_nothing prior.words change ≡ false
    → Means (grammar_of forms driver path) driver path end (changed_meaning (grammar_of forms driver path).written_length driver before prior change))

module _ (formats : Formats) (laws : AreFormats formats) (root : List ℕ) (change : Change) (tree : Tree) (m : Placed) (one : is_directory_driver m.driver ≡ false) where
  abbrev place : List ℕ
  place = child root m.name

  abbrev contents : StoreContents
  contents = changed_contents m.driver m.contents m.mailbox change

  abbrev meaning : Meaning
  meaning = changed_meaning (written_length formats m.driver) m.driver m.contents m.mailbox change

  is_stored : is_nothing m.mailbox.words change ≡ false → IsStored m.driver contents
  is_stored some = subst (IsStored m.driver) (sym (ap (λ b. cond b m.contents (stored_contents m.driver m.contents m.mailbox (changed_mailbox (keeps_of m.driver) m.mailbox change))) some))
      (stored_is m.driver m.contents m.mailbox (changed_mailbox (keeps_of m.driver) m.mailbox change))

  found_as : (image : Image) → is_nothing m.mailbox.words change ≡ false → IsWritten (grammar_of formats.forms m.driver place) image contents → Means (grammar_of formats.forms m.driver place) m.driver place image meaning
      → IsStoredAs formats (meant_driver m.driver meaning) place image meaning
  found_as image some written means = at (outgrows (written_length formats m.driver) m.driver (changed_mailbox (keeps_of m.driver) m.mailbox change)) refl means
    where
      at : (grown : Bool) → outgrows (written_length formats m.driver) m.driver (changed_mailbox (keeps_of m.driver) m.mailbox change) ≡ grown
          → Means (grammar_of formats.forms m.driver place) m.driver place image meaning → IsStoredAs formats (meant_driver m.driver meaning) place image meaning
      at true grown given =
          let same : meaning ≡ Err (TooLarge File) = ap (λ b. cond b (Err (TooLarge File)) (Ok contents)) grown in
          let kept : stored_driver m.driver contents ≡ m.driver = grown_same (written_length formats m.driver) m.driver (changed_mailbox (keeps_of m.driver) m.mailbox change) contents.records grown in
          subst (λ x. IsStoredAs formats (meant_driver m.driver x) place image x) (sym same) (subst (λ d. IsStoredAs formats d place image (Err (TooLarge File))) kept
          (stored_as formats laws.choice m.driver place image contents (Err (TooLarge File)) one (is_stored some) written (subst (λ x. Means (grammar_of formats.forms m.driver place) m.driver place image x) same given) (inr kept)))
      at false fits given =
          let same : meaning ≡ Ok contents = ap (λ b. cond b (Err (TooLarge File)) (Ok contents)) fits in
          subst (λ x. IsStoredAs formats (meant_driver m.driver x) place image x) (sym same)
          (stored_as formats laws.choice m.driver place image contents (Ok contents) one (is_stored some) written (subst (λ x. Means (grammar_of formats.forms m.driver place) m.driver place image x) same given) (inl refl))

  -- the tree after a change that does something
  stored_is_tree : is_nothing m.mailbox.words change ≡ false
      → tree_after formats tree m change ≡ with_nodes (insert tree.nodes m.name (file_mailbox (meant_driver m.driver meaning) meaning)) tree
  stored_is_tree some = ap (λ b. cond b tree (stored_tree tree m.name m.driver meaning)) some
      ∙ ap (λ n. with_nodes (insert tree.nodes m.name n) tree) (stored_file m.driver meaning (seen_node tree.nodes m.name) one)

  -- and after one that does nothing
  pub same_is_tree : is_nothing m.mailbox.words change ≡ true → tree_after formats tree m change ≡ tree
  same_is_tree nothing = ap (λ b. cond b tree (stored_tree tree m.name m.driver meaning)) nothing

  module _ (a b : Disk) (sound : IsSound a) (has : HasTree formats root (seen a) tree) (in_tree : IsInTree tree m) (written : IsWritten (grammar_of formats.forms m.driver place) (seen a) m.contents)
      (sees_all : SeesBut (MayChange m.driver place) IsNoPath a b) (stores : StoresBy formats.forms m.driver place m.mailbox change (seen a) (seen b)) where
    shown : IsFileSeen tree m.name
    shown = file_seen formats root (seen a) tree m.name m.driver has one in_tree

    abbrev HasAfter : Tree → Type 0
    HasAfter t = HasTree formats root (seen b) t × IsInTree t (placed_after m change)

    changed_after : is_nothing m.mailbox.words change ≡ false → HasAfter (tree_after formats tree m change)
    changed_after some = subst HasAfter (sym (stored_is_tree some)) (
      tree_stored formats laws root m.name shown.is_path (seen a) (seen b) (rooted_seen a sound)
          (changes_but (MayChange m.driver place) IsNoPath place a b (λ q may. may_change m.driver place q one may) (λ q never. never) sees_all)
          tree has shown.seen (meant_driver m.driver meaning) meaning (found_as (seen b) some (stores m.contents written).0 ((stores m.contents written).1 some)),
      subst (HasMailboxOf m.driver) (sym (seen_put tree.nodes m.name (file_mailbox (meant_driver m.driver meaning) meaning) shown.seen)) (has_file_node m.driver (meant_driver m.driver meaning) meaning one),
    )

    -- where it did nothing, reads see the same
    same_after : is_nothing m.mailbox.words change ≡ true → b ≡ a → HasAfter (tree_after formats tree m change)
    same_after nothing same = subst HasAfter (sym (same_is_tree nothing)) (subst (λ d. HasTree formats root (seen d) tree) (sym same) has, in_tree)

    pub follows_tree : (is_nothing m.mailbox.words change ≡ true → b ≡ a) → HasAfter (tree_after formats tree m change)
    follows_tree same = ⊎_elim (λ nothing. same_after nothing (same nothing)) (λ some. changed_after some) (cases_Bool (is_nothing m.mailbox.words change))

-- ---- By what the store tells

-- a history that is the same ends as it began
ended_same : (R : Disk → Disk → Type 0) (c : Bool) (old new : History) → (c ≡ true → new ≡ old) → Ended R old new → Ended (λ a b. c ≡ true → b ≡ a) old new
ended_same R c [] new same one = one
ended_same R c (a ∷ past) [] same one = one
ended_same R c (a ∷ past) (b ∷ more) same one = λ is. ap last (same is)
  where
    last : History → Disk
    last [] = a.disk
    last (w ∷ h) = w.disk

module _ (formats : Formats) (laws : AreFormats formats) (root : List ℕ) (was is : View) (law : IsView formats.forms was) (one : is_directory_driver was.driver ≡ false) (change : Change) where
  -- what the change did between two disks
  abbrev Did : Disk → Disk → Type 0
  Did a b = (SeesBut (MayChange was.driver was.path) IsNoPath a b × (is.mailbox (seen b) ≡ changed_mailbox (keeps_of was.driver) (was.mailbox (seen a)) change))
      × (Stores formats.forms was change (seen a) (seen b) × (is_nothing was.summary.words change ≡ true → b ≡ a))

  module _ (same : IsSame was is) (works : is.broken ≡ false) (tree : Tree) (m : Placed) (a b : Disk) (sound : IsSound a) (at : IsMailboxAt formats root was (seen a) tree m) (stands : is.stands (seen b)) (did : Did a b) where
    driver_is : was.driver ≡ m.driver
    driver_is = at.store.driver

    one_is : is_directory_driver m.driver ≡ false
    one_is = ap is_directory_driver (sym driver_is) ∙ one

    words_are : m.mailbox.words ≡ was.summary.words
    words_are = ap (λ box. box.words) (sym at.store.mailbox) ∙ ap (λ s. s.words) (law.summarized (seen a) at.store.stands)

    stores : StoresBy formats.forms m.driver (child root m.name) m.mailbox change (seen a) (seen b)
    stores = subst (λ box. StoresBy formats.forms m.driver (child root m.name) box change (seen a) (seen b)) at.store.mailbox
        (subst (λ p. StoresBy formats.forms m.driver p (was.mailbox (seen a)) change (seen a) (seen b)) at.store.path
        (subst (λ d. StoresBy formats.forms d was.path (was.mailbox (seen a)) change (seen a) (seen b)) driver_is did.1.0))

    sees_all : SeesBut (MayChange m.driver (child root m.name)) IsNoPath a b
    sees_all = subst (λ p. SeesBut (MayChange m.driver p) IsNoPath a b) at.store.path (subst (λ d. SeesBut (MayChange d was.path) IsNoPath a b) driver_is did.0.0)

    after : HasTree formats root (seen b) (tree_after formats tree m change) × IsInTree (tree_after formats tree m change) (placed_after m change)
    after = follows_tree formats laws root change tree m one_is a b sound at.tree_seen at.in_tree at.store.written sees_all stores
        (λ nothing. did.1.1 (ap (λ words. is_nothing words change) (sym words_are) ∙ nothing))

    pub follows_at : IsMailboxAt formats root is (seen b) (tree_after formats tree m change) (placed_after m change)
    follows_at = record {
      tree_seen = after.0;
      store = record {
        driver = same.driver ∙ driver_is;
        path = same.path ∙ at.store.path;
        works = works;
        stands = stands;
        mailbox = did.0.1 ∙ ap (λ d. changed_mailbox (keeps_of d) (was.mailbox (seen a)) change) driver_is ∙ ap (λ box. changed_mailbox (keeps_of m.driver) box change) at.store.mailbox;
        written = (stores m.contents at.store.written).0;
      };
      in_tree = after.1;
    }

  -- a store that did its change works
  still_works : (u : Unit {0}) → BreaksBy was is (Ok u) → was.broken ≡ false → is.broken ≡ false
  still_works u breaks works = ⊎_elim (λ yes. absurd (⊎_elim (λ broken. false≢true (sym works ∙ broken)) (λ never. never) (breaks.broken.0 yes))) (λ no. no) (cases_Bool is.broken)

  module _ (old new : History) (sound : Now old (λ w. IsSound w.disk)) where
    pub follows : (result : Result (Unit {0}) StoreFault) → AnswersChange formats.forms was change result old new → BreaksBy was is result → IsSame was is → ChangesStore formats.forms was is change result old new
        → LeavesAlone (MayChange was.driver was.path) IsNoPath result old new → FollowsChange formats root was is change result old new
    follows (Err fault) answers breaks same changes leaves tree m at = tt
    follows (Ok u) answers breaks same changes leaves tree m at =
        let sees = leaves.sees (λ failed. absurd (cc)) in
        known_gives (λ d. IsMailboxAt formats root was (seen d) tree m × IsSound d) (λ d. is.stands (seen d)) (λ d. IsMailboxAt formats root is (seen d) (tree_after formats tree m change) (placed_after m change)) Did
        (λ a b known stands did. follows_at same (still_works u breaks known.0.store.works) tree m a b known.1 known.0 stands did) old new
        (now_both (λ w. IsMailboxAt formats root was (seen w.disk) tree m) (λ w. IsSound w.disk) old at sound) changes.stands
        (ended_both _ _ old new (ended_both _ _ old new sees changes.done)
        (ended_both _ _ old new changes.stored (ended_same _ (is_nothing was.summary.words change) old new (λ nothing. (answers.nothing nothing).0) sees)))

  -- ---- The crash half

  abbrev Files : List ℕ → Type 0
  Files = MayChange was.driver was.path

  -- its answer, as one of the tree
  abbrev as_tree : Result (Unit {0}) StoreFault → Result (Unit {0}) TreeFault
  as_tree (Ok u) = Ok u
  as_tree (Err fault) = Err (broken_fault fault)

  module _ (tree : Tree) (m : Placed) (a : Disk) (at : IsMailboxAt formats root was (seen a) tree m) where
    one_here : is_directory_driver m.driver ≡ false
    one_here = ap is_directory_driver (sym at.store.driver) ∙ one

    shown_here : IsFileSeen tree m.name
    shown_here = file_seen formats root (seen a) tree m.name m.driver at.tree_seen one_here at.in_tree

    no_mix : mix_of (get tree.nodes m.name) ≡ None
    no_mix = ap mix_of shown_here.node.is

    at_place : (q : List ℕ) → Files q → (q ≡ child root m.name) ⊎ (q ≡ temporary_of (child root m.name))
    at_place q may = subst (λ p. (q ≡ p) ⊎ (q ≡ temporary_of p)) at.store.path (may_change was.driver was.path q one may)

    touches_here : TouchesNone Files IsNoPath root tree
    touches_here = touches_file formats root m.name shown_here.is_path a tree at.tree_seen (sees_free tree.nodes m.name shown_here.seen) no_mix Files IsNoPath at_place (λ q never. absurd never)

    same_here : SameMix tree (tree_after formats tree m change)
    same_here = ⊎_elim
        (λ nothing. subst (SameMix tree) (sym (same_is_tree formats laws root change tree m one_here nothing)) (record { each = λ path is. refl }))
        (λ some. subst (SameMix tree) (sym (stored_is_tree formats laws root change tree m one_here some)) (same_stored tree m.name tree.nodes no_mix (λ q. refl) _ _))
        (cases_Bool (is_nothing m.mailbox.words change))

    -- the same of any tree that the image has
    of_any : (P : Tree → Type 0) (other : Tree) → HasTree formats root (seen a) other → P tree → P other
    of_any P other has holds = subst P (one_tree formats laws.reads (seen a) root tree other at.tree_seen has) holds

  module _ (old new : History) (sound : Now old (λ w. IsSound w.disk)) (sound_new : Now new (λ w. IsSound w.disk)) (result : Result (Unit {0}) StoreFault) (leaves : LeavesAlone Files IsNoPath result old new) where
    leaves_but : LeavesBut Files (λ start. IsNoPath) (as_tree result) old new
    leaves_but = record { instants = leaves.instants; sees = λ not_failed. leaves.sees (λ failed. not_failed (fails result failed)) }
      where
        fails : (r : Result (Unit {0}) StoreFault) → IsErrOf r StoreFailed → IsErrOf (as_tree r) Failed
        fails (Ok u) failed = absurd (cc)
        fails (Err fault) failed = broken_failed {T = Unit {0}} fault failed

    on_tree : (P : Type 0) (r : Result (Unit {0}) StoreFault) → OnOk r P → OnOk (as_tree r) P
    on_tree P (Ok u) p = p
    on_tree P (Err fault) p = tt

    from_tree : (P : Type 0) (r : Result (Unit {0}) StoreFault) → OnOk (as_tree r) P → OnOk r P
    from_tree P (Ok u) p = p
    from_tree P (Err fault) p = tt

    of_ok : (P : Type 0) (r : Result (Unit {0}) TreeFault) → P → OnOk r P
    of_ok P (Ok u) p = p
    of_ok P (Err fault) p = tt

    abbrev IsAt : Tree → Placed → Disk → Type 0
    IsAt tree m d = IsMailboxAt formats root was (seen d) tree m

    at_start : (tree : Tree) (m : Placed) → Now old (λ w. IsAt tree m w.disk × IsTreeAlike formats root tree w.disk) → Now old (λ w. IsAt tree m w.disk)
    at_start tree m now = now_weaker (λ w. IsAt tree m w.disk × IsTreeAlike formats root tree w.disk) (λ w. IsAt tree m w.disk) (λ w both. both.0) old now

    has_start : (tree : Tree) (m : Placed) → Now old (λ w. IsAt tree m w.disk × IsTreeAlike formats root tree w.disk) → Now old (λ w. HasTree formats root (seen w.disk) tree × IsTreeAlike formats root tree w.disk)
    has_start tree m now = now_weaker (λ w. IsAt tree m w.disk × IsTreeAlike formats root tree w.disk) (λ w. HasTree formats root (seen w.disk) tree × IsTreeAlike formats root tree w.disk) (λ w both. (both.0.tree_seen, both.1)) old now

    tree_commits : (tree : Tree) (m : Placed) → Now old (λ w. IsAt tree m w.disk) → CommitsTree formats root (λ t. tree_after formats t m change) (as_tree result) old new
    tree_commits tree m now =
        commits_beside formats laws root (λ t. tree_after formats t m change) (as_tree result) Files (λ start. IsNoPath) (IsAt tree m) old new now sound_new
        (λ other a at has. of_any tree m a at (TouchesNone Files IsNoPath root) other has (touches_here tree m a at))
        (λ other a at has. of_ok _ (as_tree result) (of_any tree m a at (λ t. SameMix t (tree_after formats t m change)) other has (same_here tree m a at)))
        leaves_but (λ none. on_tree _ result (leaves.none_pending none))

    pub commits_mailbox : CommitsMailbox formats root was change result old new
    commits_mailbox = record {
      instants = λ tree m now. (tree_commits tree m (at_start tree m now)).instants tree (has_start tree m now);
      durable = λ tree m now. from_tree _ result ((tree_commits tree m (at_start tree m now)).durable tree (has_start tree m now));
    }
