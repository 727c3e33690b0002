-- What a change of one mailbox of a tree leaves.
use Rattle.std.specs.Prelude.{ℕ, false, List, ◌≡◌, ◌⊎◌, Result, OnOk, Some}
use Rattle.file_model.specs.Disk.{seen}
use Rattle.file_model.specs.Histories.{History, Now, Ran}
use Rattle.file_model.specs.Images.{Image}
use Rattle.file_model.specs.Kept.{Leaves}
use Rattle.file_model.specs.Paths.{child}
use Rattle.mail_types.specs.declared.contents.StoreContents.{StoreContents}
use Rattle.mail_types.specs.declared.driver.Driver.{Driver}
use Rattle.mail_types.specs.declared.mailbox.Mailbox.{Mailbox}
use Rattle.mail_types.specs.Drivers.{keeps_of}
use Rattle.mail_types.specs.Opening.{opened_mailbox}
use Rattle.store_trait.specs.declared.change.Change.{Change}
use Rattle.store_trait.specs.declared.faults.StoreFault.{StoreFault}
use Rattle.store_trait.specs.Changes.{changed_contents, changed_mailbox}
use Rattle.store_trait.specs.Forms.{grammar_of}
use Rattle.store_trait.specs.Meaning.{IsWritten}
use Rattle.store_trait.specs.Views.{View}
use Rattle.any_store.specs.Choice.{Formats}
use Rattle.mail_tree.specs.Agreement.{HasMixMailboxes, IsTreeAlike}
use Rattle.mail_tree.specs.Mailboxes.{Found, found_at, HasMailboxOf, changed_tree}
use Rattle.mail_tree.specs.Trees.{Tree, HasTree, seen_node}

-- An open mailbox by its name: its driver, what its files say, and the mailbox itself.
pub record Placed : Type 0 where
  pub name : List ℕ
  pub driver : Driver
  pub contents : StoreContents
  pub mailbox : Mailbox

-- after a change
abbrev pub placed_after : Placed → Change → Placed
placed_after m change = record {
  name = m.name;
  driver = m.driver;
  contents = changed_contents m.driver m.contents m.mailbox change;
  mailbox = changed_mailbox (keeps_of m.driver) m.mailbox change;
}

abbrev pub tree_after : Formats → Tree → Placed → Change → Tree
tree_after formats tree m change = changed_tree formats tree m.name m.driver m.contents m.mailbox change

-- a mailbox that was found, as it opens
abbrev pub opened_as : Found → (name : List ℕ) → (fresh : ℕ) → Placed
opened_as found name fresh = record { name = name; driver = found.driver; contents = found.contents; mailbox = opened_mailbox found.contents fresh }

-- An open store is that mailbox: it stands at its path, works, and its files are written as the contents.
pub record IsStoreOf (formats : Formats) (root : List ℕ) (is : View) (image : Image) (m : Placed) : Type 0 where
  pub driver : is.driver ≡ m.driver
  pub path : is.path ≡ child root m.name
  pub works : is.broken ≡ false
  pub stands : is.stands image
  pub mailbox : is.mailbox image ≡ m.mailbox
  pub written : IsWritten (grammar_of formats.forms m.driver (child root m.name)) image m.contents

-- the tree has it
abbrev pub IsInTree : Tree → Placed → Type 0
IsInTree tree m = HasMailboxOf m.driver (seen_node tree.nodes m.name)

-- Reads see a tree, and an open store is a mailbox of it.
pub record IsMailboxAt (formats : Formats) (root : List ℕ) (is : View) (image : Image) (tree : Tree) (m : Placed) : Type 0 where
  pub tree_seen : HasTree formats root image tree
  pub store : IsStoreOf formats root is image m
  pub in_tree : IsInTree tree m

-- A store that was opened by a name is the mailbox that the name sees.
pub record OpensFound (formats : Formats) (root : List ℕ) (tree : Tree) (name : List ℕ) (is : View) (fresh : ℕ) (image : Image) : Type 0 where
  pub found : Found
  pub sees_it : found_at tree name ≡ Some found
  pub mailbox : IsMailboxAt formats root is image tree (opened_as found name fresh)

-- after Ok reads see the tree after the change, and the store is the changed mailbox
abbrev pub FollowsChange : Formats → (root : List ℕ) → (was is : View) → Change → Result (Unit {0}) StoreFault → (old new : History) → Type 0
FollowsChange formats root was is change result old new =
    (tree : Tree) (m : Placed) → Now old (λ w. IsMailboxAt formats root was (seen w.disk) tree m)
    → OnOk result (Now new (λ w. IsMailboxAt formats root is (seen w.disk) (tree_after formats tree m change) (placed_after m change)))

-- At each instant a crash leaves the mix mailboxes of the tree before the change or after it; after Ok every crash leaves those after it.
pub record CommitsMailbox (formats : Formats) (root : List ℕ) (was : View) (change : Change) (result : Result (Unit {0}) StoreFault) (old new : History) : Type 0 where
  pub instants : (tree : Tree) (m : Placed) → Now old (λ w. IsMailboxAt formats root was (seen w.disk) tree m × IsTreeAlike formats root tree w.disk)
      → Ran (λ start instant. Leaves (λ image. HasMixMailboxes formats root tree image ⊎ HasMixMailboxes formats root (tree_after formats tree m change) image) instant) old new
  pub durable : (tree : Tree) (m : Placed) → Now old (λ w. IsMailboxAt formats root was (seen w.disk) tree m × IsTreeAlike formats root tree w.disk)
      → OnOk result (Now new (λ w. IsTreeAlike formats root (tree_after formats tree m change) w.disk))
