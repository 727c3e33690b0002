-- The mailbox that a name sees is found where it can be opened, and is the one that is opened.
use Rattle.std.proofs.Common.{[], ◌∷◌, ◌≡◌, ◌⊎◌, inl, inr, ⊎_elim, ℕ, List, Bool, true, false, cond, Option, Some, None, Ok, Err, refl, sym, ◌∙◌, ap, subst}
use Rattle.std.specs.Prelude.{is_some, is_none}
use Rattle.std.specs.FinMap.{get}
use Rattle.std.proofs.lemmas.Bool.{false≢true}
use Rattle.file_model.specs.Images.{Image, Node, nothing, file, directory, node_at}
use Rattle.file_model.specs.Disk.{seen}
use Rattle.file_model.specs.Histories.{History, Now}
use Rattle.file_model.specs.Kept.{IsSound}
use Rattle.file_model.specs.Paths.{child}
use Rattle.mail_types.specs.declared.contents.StoreContents.{StoreContents}
use Rattle.mail_types.specs.declared.driver.Driver.{Driver}
use Rattle.mail_types.specs.declared.driver.Driver.TheVariants.{Mh, Mix}
use Rattle.store_trait.specs.declared.faults.OpenFault.TheVariants.{Absent as OpenAbsent, IllFormed, TooLarge, Failed as OpenFailed, Memory as OpenMemory}
use Rattle.store_trait.specs.Commits.{mark_of}
use Rattle.store_trait.specs.Forms.{grammar_of}
use Rattle.store_trait.specs.Meaning.{Means}
use Rattle.store_trait.specs.Promises.{IsOpenAt}
use Rattle.store_trait.specs.Views.{View}
use Rattle.store_trait.proofs.OneMeaning.{one_meaning}
use Rattle.any_store.specs.Choice.{Formats, driver_at, driver_of_node, directory_driver, has_file, mh_mark_of}
use Rattle.mail_tree.specs.declared.fault.TreeFault.TheVariants.{Absent}
use Rattle.mail_tree.specs.Changes.{directory_refusal, meaning_refusal, open_refusal, due_open}
use Rattle.any_store.specs.Promises.{OpensAny}
use Rattle.mail_tree.specs.Changing.{IsMailboxAt, OpensFound}
use Rattle.mail_tree.specs.Mailboxes.{found_if, found_in, found_node, found_at, HasMailboxOf}
use Rattle.mail_tree.specs.Names.{IsName}
use Rattle.mail_tree.specs.Sights.{sees_at}
use Rattle.mail_tree.specs.Trees.{Meaning, TreeNode, unknown_file, file_mailbox, folder, Tree, HasMeaning, HasTree, IsNodeOf, sees, seen_node}
use Rattle.mail_tree.proofs.Below.{IsRooted, rooted_seen}
use Rattle.mail_tree.proofs.Creating.{name_path}
use Rattle.mail_tree.proofs.Followed.{has_file_node}
use Rattle.mail_tree.proofs.Nodes.{AreFormats}
use Rattle.mail_tree.proofs.Refusals.{node_seen, due_meaning}
use Rattle.mail_tree.proofs.Sighted.{directory_of, sees_same}

-- ---- A mailbox is found just where no refusal to open it is due

meaning_due : (driver : Driver) (meaning : Meaning) → is_some (found_if driver meaning) ≡ is_none (meaning_refusal meaning)
meaning_due driver (Ok contents) = refl
meaning_due driver (Err OpenAbsent) = refl
meaning_due driver (Err (IllFormed named n)) = refl
meaning_due driver (Err (TooLarge limit)) = refl
meaning_due driver (Err OpenFailed) = refl
meaning_due driver (Err OpenMemory) = refl

folder_due : (mix mh : Option Meaning) → is_some (found_in mix mh) ≡ is_none (directory_refusal mix mh)
folder_due (Some meaning) mh = meaning_due Mix meaning
folder_due None (Some meaning) = meaning_due Mh meaning
folder_due None None = refl

node_due : (node : Option TreeNode) → is_some (found_node node) ≡ is_none (open_refusal node)
node_due None = refl
node_due (Some unknown_file) = refl
node_due (Some (file_mailbox driver meaning)) = meaning_due driver meaning
node_due (Some (folder d)) = folder_due d.mix d.mh

pub found_due : (tree : Tree) (name : List ℕ) → is_some (found_at tree name) ≡ is_none (due_open tree name)
found_due tree name = node_due (seen_node tree.nodes name)

-- ---- What is opened is found

none_some : (driver : Driver) → None ≡ Some driver → ⊥
none_some driver h = cc

one_driver : (d e : Driver) → Some d ≡ Some e → d ≡ e
one_driver d e h = cc

-- a node is found as a driver's mailbox with these contents
record IsFoundAs (driver : Driver) (contents : StoreContents) (node : Option TreeNode) : Type 0 where
  found : found_node node ≡ Some (record { driver = driver; contents = contents })
  has : HasMailboxOf driver node

module _ (formats : Formats) (laws : AreFormats formats) (path : List ℕ) (image : Image) (driver : Driver) (contents : StoreContents) (means : Means (grammar_of formats.forms driver path) driver path image (Ok contents)) where
  driver_is : (n : Node) → node_at image path ≡ n → driver_at formats.chosen image path ≡ driver_of_node formats.chosen (directory_driver image path) n
  driver_is n e = ap (driver_of_node formats.chosen (directory_driver image path)) e

  meaning_is : (e : Driver) → e ≡ driver → (meaning : Meaning) → Means (grammar_of formats.forms e path) e path image meaning → found_if e meaning ≡ Some (record { driver = driver; contents = contents })
  meaning_is e same meaning other =
      ap (λ d. found_if d meaning) same
      ∙ ap (found_if driver) (one_meaning formats.forms driver path (laws.reads driver) image meaning (Ok contents) (subst (λ d. Means (grammar_of formats.forms d path) d path image meaning) same other) means)

  abbrev marked : Bool → Bool → Option Driver
  marked a b = cond a (Some Mix) (cond b (Some Mh) None)

  folder_found : (mix mh : Option Meaning) → HasMeaning formats Mix (mark_of path) path image mix → HasMeaning formats Mh (mh_mark_of path) path image mh → marked (has_file image (mark_of path)) (has_file image (mh_mark_of path)) ≡ Some driver
      → (found_in mix mh ≡ Some (record { driver = driver; contents = contents })) × (((Mix ≡ driver) × (is_some mix ≡ true)) ⊎ ((Mh ≡ driver) × ((is_none mix ≡ true) × (is_some mh ≡ true))))
  folder_found (Some meaning) mh one two chosen =
      let same = one_driver Mix driver (sym (ap (λ a. marked a (has_file image (mh_mark_of path))) one.0) ∙ chosen) in
      (meaning_is Mix same meaning one.1, inl (same, refl))
  folder_found None (Some meaning) one two chosen =
      let same = one_driver Mh driver (sym (ap (λ a. marked a (has_file image (mh_mark_of path))) one ∙ ap (λ b. marked false b) two.0) ∙ chosen) in
      (meaning_is Mh same meaning two.1, inr (same, (refl, refl)))
  folder_found None None one two chosen = absurd (none_some driver (sym (ap (λ a. marked a (has_file image (mh_mark_of path))) one ∙ ap (λ b. marked false b) two) ∙ chosen))

  found_as : (o : Option TreeNode) → IsNodeOf formats path image false o → driver_at formats.chosen image path ≡ Some driver → IsFoundAs driver contents o
  found_as None (inl none) is = absurd (none_some driver (sym (driver_is nothing none) ∙ is))
  found_as None (inr message) is = absurd (false≢true message)
  found_as (Some unknown_file) node is = absurd (none_some driver (sym node.1.2 ∙ sym (driver_is (file node.1.0) node.1.1) ∙ is))
  found_as (Some (file_mailbox d meaning)) node is =
      let same = one_driver d driver (sym node.1.2 ∙ sym (driver_is (file node.1.0) node.1.1) ∙ is) in
      record {
        found = meaning_is d same meaning node.2;
        has = has_file_node driver d meaning (laws.choice.files node.1.0 driver (node.1.2 ∙ ap Some same));
      }
  found_as (Some (folder d)) node is =
      let f = folder_found d.mix d.mh node.mix node.mh (sym (driver_is directory (directory_of (node_at image path) node.stands)) ∙ is) in
      record {
        found = f.0;
        has = ⊎_elim (λ mix. subst (λ e. HasMailboxOf e (Some (folder d))) mix.0 mix.1) (λ mh. subst (λ e. HasMailboxOf e (Some (folder d))) mh.0 mh.1) f.1;
      }

-- what can be opened is seen
opens_seen : (tree : Tree) (name : List ℕ) → due_open tree name ≡ None → sees tree.nodes name ≡ true
opens_seen tree name due = at (sees tree.nodes name) refl
  where
    no_fault : Some Absent ≡ None → ⊥
    no_fault h = cc

    at : (b : Bool) → sees tree.nodes name ≡ b → sees tree.nodes name ≡ true
    at true e = e
    at false e = absurd (no_fault (sym (ap (λ b. open_refusal (cond b (get tree.nodes name) None)) e) ∙ due))

-- An opened store is the mailbox of the tree that its name sees, and that is found there.
pub opened_at : (formats : Formats) → AreFormats formats → (root name : List ℕ) → IsName name → (image : Image) → IsRooted image → (tree : Tree) → HasTree formats root image tree → due_open tree name ≡ None
    → (view : View) → IsOpenAt view.driver (child root name) view → driver_at formats.chosen image (child root name) ≡ Some view.driver
    → (contents : StoreContents) → Means (grammar_of formats.forms view.driver (child root name)) view.driver (child root name) image (Ok contents) → view.stands image
    → IsMailboxAt formats root view image tree (record { name = name; driver = view.driver; contents = contents; mailbox = view.mailbox image })
    × (found_at tree name ≡ Some (record { driver = view.driver; contents = contents }))
opened_at formats laws root name is image rooted tree has due view made chosen contents means stands = (
  record {
    tree_seen = has;
    store = record { driver = refl; path = made.path_is; works = made.broken; stands = stands; mailbox = refl; written = means.is.1 };
    in_tree = subst (HasMailboxOf view.driver) (sym shown) found.has;
  },
  ap found_node shown ∙ found.found,
)
  where
    seen_name : sees tree.nodes name ≡ true
    seen_name = opens_seen tree name due

    shown : seen_node tree.nodes name ≡ get tree.nodes name
    shown = ap (λ b. cond b (get tree.nodes name) None) seen_name

    found : IsFoundAs view.driver contents (get tree.nodes name)
    found = found_as formats laws (child root name) image view.driver contents means (get tree.nodes name)
        (node_seen formats laws.reads root image tree has name is rooted (sym (sees_same formats root image tree has name (name_path name is)) ∙ seen_name)) chosen

-- It is the mailbox as it opens under a fresh UIDVALIDITY.
pub opens_found : (formats : Formats) (laws : AreFormats formats) (root name : List ℕ) → IsName name → (view : View) (fresh : ℕ) (old : History) → Now old (λ w. (sees_at root (seen w.disk) name ≡ true) × IsSound w.disk)
    → OpensAny formats (child root name) view fresh old → IsOpenAt view.driver (child root name) view
    → Now old (λ w. (tree : Tree) → HasTree formats root (seen w.disk) tree → OpensFound formats root tree name view fresh (seen w.disk))
opens_found formats laws root name is view fresh [] now opens made = tt
opens_found formats laws root name is view fresh (w ∷ past) now opens made = λ tree has.
    let rooted = rooted_seen w.disk now.1 in
    let due = due_meaning formats laws.reads root (seen w.disk) tree has name is rooted now.0 view.driver opens.chosen (Ok opens.opens.0) opens.opens.1 in
    let at = opened_at formats laws root name is (seen w.disk) rooted tree has due view made opens.chosen opens.opens.0 opens.opens.1 opens.opens.3 in
    record {
      found = record { driver = view.driver; contents = opens.opens.0 };
      sees_it = at.1;
      mailbox = subst (λ m. IsMailboxAt formats root view (seen w.disk) tree (record { name = name; driver = view.driver; contents = opens.opens.0; mailbox = m })) opens.opens.2 at.0;
    }
