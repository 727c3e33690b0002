-- What each call makes of the tree, and which refusal is due.
use Rattle.std.specs.Prelude.{ℕ, Bool, true, false, List, [], ◌∷◌, ◌≡◌, ◌⊎◌, ◌&&◌, ◌||◌, not, bytes_eq, map, Option, Some, None, is_some, is_none, Result, Ok, Err, if◌then◌else◌}
use Rattle.std.specs.FinMap.{get, insert, remove, retain_keys, entries, from_entries}
use Rattle.file_model.specs.Disk.{moved_path}
use Rattle.file_model.specs.Paths.{is_inside, is_at_or_inside}
use Rattle.mail_types.specs.declared.driver.Driver.{Driver}
use Rattle.mail_types.specs.declared.driver.Driver.TheVariants.{Mh, Mix}
use Rattle.mail_types.specs.Stored.{created_contents}
use Rattle.store_trait.specs.declared.faults.OpenFault.TheVariants.{Absent as NothingThere}
use Rattle.store_trait.specs.OwnPaths.{is_directory_driver}
use Rattle.any_store.specs.Choice.{reopened_driver}
use Rattle.any_store.specs.Stores.{is_known}
use Rattle.mail_tree.specs.declared.fault.TreeFault.{TreeFault}
use Rattle.mail_tree.specs.declared.fault.TreeFault.TheVariants.{There, Absent, NotStore, HasChildren, Reserved, Selected, Open, Failed, Memory}
use Rattle.mail_tree.specs.Names.{inbox, prefixes}
use Rattle.mail_tree.specs.Trees.{Meaning, Directory, TreeNode, unknown_file, file_mailbox, folder, Nodes, Tree, seen_node, is_blocked, is_plain_directory, is_free}
use Rattle.mail_tree.specs.Subscriptions.{with_name, without_name, is_among}

-- ---- Answers

-- the fault is a failed call, or want of memory
abbrev pub breaks_tree : TreeFault → Bool
breaks_tree Failed = true
breaks_tree Memory = true
breaks_tree fault = false

-- the refusal that is due, or none, unless a call failed or memory lacked
abbrev pub AnswersTree : {T : Type 0} → Option TreeFault → Result T TreeFault → Type 0
AnswersTree due (Ok value) = due ≡ None
AnswersTree due (Err fault) = (due ≡ Some fault) ⊎ (breaks_tree fault ≡ true)

-- the first test that fails names the refusal
abbrev pub first_refusal : List (Bool × TreeFault) → Option TreeFault
first_refusal [] = None
first_refusal (test ∷ rest) = if test.0 then Some test.1 else first_refusal rest

-- ---- Opening

abbrev pub meaning_refusal : Meaning → Option TreeFault
meaning_refusal (Ok contents) = None
meaning_refusal (Err NothingThere) = Some Absent
meaning_refusal (Err fault) = Some (Open fault)

abbrev pub directory_refusal : (mix mh : Option Meaning) → Option TreeFault
directory_refusal (Some meaning) mh = meaning_refusal meaning
directory_refusal None (Some meaning) = meaning_refusal meaning
directory_refusal None None = Some NotStore

abbrev pub open_refusal : Option TreeNode → Option TreeFault
open_refusal None = Some Absent
open_refusal (Some unknown_file) = Some NotStore
open_refusal (Some (file_mailbox driver meaning)) = meaning_refusal meaning
open_refusal (Some (folder d)) = directory_refusal d.mix d.mh

abbrev pub due_open : Tree → (name : List ℕ) → Option TreeFault
due_open tree name = open_refusal (seen_node tree.nodes name)

-- ---- Making

abbrev pub empty_directory : Directory
empty_directory = record { mix = None; mh = None; other = false; leftover = false }

-- the missing directories above a path, the topmost first
abbrev pub put_missing : List (List ℕ) → Nodes → Nodes
put_missing [] nodes = nodes
put_missing (path ∷ rest) nodes = put_missing rest (if is_some (get nodes path) then nodes else insert nodes path (folder empty_directory))

abbrev pub with_parents : List ℕ → Nodes → Nodes
with_parents path nodes = put_missing (prefixes path) nodes

abbrev pub with_nodes : Nodes → Tree → Tree
with_nodes nodes tree = record { nodes = nodes; subscribed = tree.subscribed }

-- a mailbox of a directory driver comes into a free directory
abbrev pub is_free_node : Nodes → List ℕ → Option TreeNode → Bool
is_free_node nodes path None = false
is_free_node nodes path (Some unknown_file) = false
is_free_node nodes path (Some (file_mailbox driver meaning)) = false
is_free_node nodes path (Some (folder d)) = is_free nodes path d

abbrev pub due_create : Tree → (name : List ℕ) → Driver → Option TreeFault
due_create tree name driver =
    if is_blocked tree.nodes name || (is_some (get tree.nodes name) && not (is_directory_driver driver && is_free_node tree.nodes name (get tree.nodes name))) then Some There else None

abbrev pub created_node : Driver → (fresh : ℕ) → TreeNode
created_node Mix fresh = folder (record { mix = Some (Ok (created_contents Mix fresh)); mh = None; other = false; leftover = false })
created_node Mh fresh = folder (record { mix = None; mh = Some (Ok (created_contents Mh fresh)); other = false; leftover = false })
created_node driver fresh = file_mailbox (reopened_driver driver) (Ok (created_contents driver fresh))

abbrev pub created_tree : Tree → (name : List ℕ) → Driver → (fresh : ℕ) → Tree
created_tree tree name driver fresh = with_nodes (insert (with_parents name tree.nodes) name (created_node driver fresh)) tree

abbrev pub due_create_dir : Tree → (name : List ℕ) → Option TreeFault
due_create_dir tree name = if is_blocked tree.nodes name || is_some (get tree.nodes name) then Some There else None

abbrev pub tree_with_directory : Tree → (name : List ℕ) → Tree
tree_with_directory tree name = with_nodes (insert (with_parents name tree.nodes) name (folder empty_directory)) tree

-- ---- Deleting

abbrev pub same_name : Option (List ℕ) → List ℕ → Bool
same_name None name = false
same_name (Some selected) name = bytes_eq selected name

-- of a directory the mailbox that is opened in it is deleted, whose driver has to stand
abbrev pub delete_directory_refusal : Nodes → (name : List ℕ) → Directory → Option TreeFault
delete_directory_refusal nodes name d =
    if is_some d.mix then (if is_known Mix then None else Some NotStore)
    else if is_some d.mh then (if is_known Mh then None else Some NotStore)
    else if is_free nodes name d then None else Some HasChildren

abbrev pub delete_refusal : Nodes → (name : List ℕ) → Option TreeNode → Option TreeFault
delete_refusal nodes name None = Some Absent
delete_refusal nodes name (Some unknown_file) = Some NotStore
delete_refusal nodes name (Some (file_mailbox driver meaning)) = if is_known driver then None else Some NotStore
delete_refusal nodes name (Some (folder d)) = delete_directory_refusal nodes name d

abbrev pub due_delete : Tree → (name : List ℕ) → (selected : Option (List ℕ)) → Option TreeFault
due_delete tree name selected =
    if bytes_eq name inbox then Some Reserved
    else if same_name selected name then Some Selected
    else delete_refusal tree.nodes name (seen_node tree.nodes name)

-- a directory without the mailbox that is opened in it; with mix all leftover files go
abbrev pub without_mailbox : Directory → Directory
without_mailbox d =
    if is_some d.mix then record { mix = None; mh = d.mh; other = d.other; leftover = false }
    else record { mix = None; mh = None; other = d.other; leftover = false }

-- where nothing at all is left, the directory goes too; a leftover file beside an mh mailbox is left
abbrev pub left_behind : Nodes → List ℕ → (leftover : Bool) → Directory → Nodes
left_behind nodes path leftover d = if is_free nodes path d && not leftover then remove nodes path else insert nodes path (folder d)

-- a mailbox goes, and a plain directory with its leftover files
abbrev pub deleted_nodes : Nodes → (name : List ℕ) → Option TreeNode → Nodes
deleted_nodes nodes name None = nodes
deleted_nodes nodes name (Some unknown_file) = nodes
deleted_nodes nodes name (Some (file_mailbox driver meaning)) = remove nodes name
deleted_nodes nodes name (Some (folder d)) = if is_plain_directory d then remove nodes name else left_behind nodes name d.leftover (without_mailbox d)

abbrev pub deleted_tree : Tree → (name : List ℕ) → Tree
deleted_tree tree name = with_nodes (deleted_nodes tree.nodes name (get tree.nodes name)) tree

-- ---- Renaming

-- the selected mailbox is the one that moves, or in it
abbrev pub is_selected_below : Option (List ℕ) → List ℕ → Bool
is_selected_below None name = false
is_selected_below (Some selected) name = bytes_eq selected name || is_inside name selected

abbrev pub due_rename : Tree → (from to : List ℕ) → (selected : Option (List ℕ)) → Option TreeFault
due_rename tree from to selected = first_refusal (
    (bytes_eq from inbox, Reserved)
    ∷ (is_selected_below selected from, Selected)
    ∷ (is_none (seen_node tree.nodes from), Absent)
    ∷ (is_some (get tree.nodes to) || is_blocked tree.nodes to || is_inside from to, There)
    ∷ [])

-- what stands at a path, and all in it, stands at another
abbrev pub moved_nodes : (from to : List ℕ) → Nodes → Nodes
moved_nodes from to nodes = from_entries (map (λ e. (moved_path from to e.0, e.1)) (entries (retain_keys nodes (λ path. not (is_at_or_inside to path)))))

abbrev pub renamed_tree : Tree → (from to : List ℕ) → Tree
renamed_tree tree from to = with_nodes (moved_nodes from to (with_parents to tree.nodes)) tree

-- ---- Subscribing

abbrev pub with_subscribed : Tree → List (List ℕ) → Tree
with_subscribed tree names = record { nodes = tree.nodes; subscribed = names }

abbrev pub subscribed_tree : Tree → (name : List ℕ) → Tree
subscribed_tree tree name = with_subscribed tree (with_name name tree.subscribed)

abbrev pub due_unsubscribe : Tree → (name : List ℕ) → Option TreeFault
due_unsubscribe tree name = if is_among tree.subscribed name then None else Some Absent

abbrev pub unsubscribed_tree : Tree → (name : List ℕ) → Tree
unsubscribed_tree tree name = with_subscribed tree (without_name name tree.subscribed)
