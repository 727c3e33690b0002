-- The mailbox that a name sees, and the tree in which its files say something else.
use Rattle.std.specs.Prelude.{ℕ, true, false, List, ◌≡◌, Option, Some, None, is_some, is_none, Ok, Err, length, if◌then◌else◌}
use Rattle.std.specs.FinMap.{insert}
use Rattle.mail_types.specs.declared.contents.StoreContents.{StoreContents}
use Rattle.mail_types.specs.declared.driver.Driver.{Driver}
use Rattle.mail_types.specs.declared.driver.Driver.TheVariants.{Mh, Mix}
use Rattle.mail_types.specs.declared.mailbox.Mailbox.{Mailbox}
use Rattle.store_trait.specs.declared.change.Change.{Change}
use Rattle.store_trait.specs.Changes.{changed_meaning, is_nothing}
use Rattle.store_trait.specs.OwnPaths.{is_directory_driver}
use Rattle.any_store.specs.Choice.{Formats, stored_driver}
use Rattle.mail_tree.specs.Changes.{with_nodes}
use Rattle.mail_tree.specs.Trees.{Meaning, TreeNode, unknown_file, file_mailbox, folder, Tree, seen_node}

-- ---- The mailbox that a name sees

-- a mailbox: its driver, and what its files say
pub record Found : Type 0 where
  pub driver : Driver
  pub contents : StoreContents

abbrev pub found_if : Driver → Meaning → Option Found
found_if driver (Ok contents) = Some (record { driver = driver; contents = contents })
found_if driver (Err fault) = None

abbrev pub found_in : (mix mh : Option Meaning) → Option Found
found_in (Some meaning) mh = found_if Mix meaning
found_in None (Some meaning) = found_if Mh meaning
found_in None None = None

abbrev pub found_node : Option TreeNode → Option Found
found_node None = None
found_node (Some unknown_file) = None
found_node (Some (file_mailbox driver meaning)) = found_if driver meaning
found_node (Some (folder d)) = found_in d.mix d.mh

-- the mailbox that a name sees and that can be opened; where there is none, `due_open` says why
abbrev pub found_at : Tree → (name : List ℕ) → Option Found
found_at tree name = found_node (seen_node tree.nodes name)

-- a mailbox of a driver's kind stands at a node; a file may have become another driver's
abbrev pub HasMailboxOf : Driver → Option TreeNode → Type 0
HasMailboxOf Mix (Some (folder d)) = is_some d.mix ≡ true
HasMailboxOf Mh (Some (folder d)) = (is_none d.mix ≡ true) × (is_some d.mh ≡ true)
HasMailboxOf driver (Some (file_mailbox other meaning)) = is_directory_driver driver ≡ false
HasMailboxOf driver _ = ⊥

-- ---- What its files say afterwards

-- the driver by which the file is opened again
abbrev pub meant_driver : Driver → Meaning → Driver
meant_driver driver (Ok contents) = stored_driver driver contents
meant_driver driver (Err fault) = driver

abbrev pub stored_node : Driver → Meaning → Option TreeNode → TreeNode
stored_node Mix meaning (Some (folder d)) = folder (record d { mix = Some meaning })
stored_node Mh meaning (Some (folder d)) = folder (record d { mh = Some meaning })
stored_node driver meaning _ = file_mailbox (meant_driver driver meaning) meaning

-- the tree in which the files of the mailbox that a name sees mean this
abbrev pub stored_tree : Tree → (name : List ℕ) → Driver → Meaning → Tree
stored_tree tree name driver meaning = with_nodes (insert tree.nodes name (stored_node driver meaning (seen_node tree.nodes name))) tree

-- the length of a driver's one file for a mailbox
abbrev pub written_length : Formats → Driver → Mailbox → ℕ
written_length formats driver m = length ((formats.forms.file driver).written m)

-- the tree after a change of the mailbox at a name, by what its files said and what it was; a change of nothing writes nothing
abbrev pub changed_tree : Formats → Tree → (name : List ℕ) → Driver → StoreContents → Mailbox → Change → Tree
changed_tree formats tree name driver before prior change =
    if is_nothing prior.words change then tree
    else stored_tree tree name driver (changed_meaning (written_length formats driver) driver before prior change)
