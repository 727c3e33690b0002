-- Trees of mailboxes, and the tree that an image has below a root.
use Rattle.store_trait.specs.Forms.{grammar_of}
use Rattle.std.specs.Prelude.{ℕ, Bool, true, false, List, ◌≡◌, ◌⊎◌, ◌↔◌, ◌&&◌, ◌||◌, not, bytes_eq, codes, Option, Some, None, is_some, is_none, Result, IsTrue, length, if◌then◌else◌}
use Rattle.std.specs.List.{list_all, list_any}
use Rattle.std.specs.FinMap.{FinMap, get, keys}
use Rattle.file_model.specs.Images.{Image, nothing, file, node_at, is_directory, text_at, path_cmp}
use Rattle.file_model.specs.Paths.{child, split_path, parent, last_part, is_inside, HasNoSlash}
use Rattle.file_model.specs.Reserved.{is_leftover}
use Rattle.mail_types.specs.declared.contents.StoreContents.{StoreContents}
use Rattle.mail_types.specs.declared.driver.Driver.{Driver}
use Rattle.mail_types.specs.declared.driver.Driver.TheVariants.{Mh, Mix}
use Rattle.store_trait.specs.declared.faults.OpenFault.{OpenFault}
use Rattle.store_trait.specs.Commits.{mark_of}
use Rattle.store_trait.specs.Meaning.{Means, Stands}
use Rattle.store_trait.specs.OwnPaths.{is_message_number}
use Rattle.any_store.specs.Choice.{Formats, has_file, mh_mark_of}
use Rattle.mail_tree.specs.Names.{is_part, is_path, prefixes}
use Rattle.mail_tree.specs.Subscriptions.{subscribed_in}

-- ---- Trees

-- what the files of a mailbox mean: its contents, or why it can't be opened
abbrev pub Meaning : Type 0
Meaning = Result StoreContents OpenFault

-- A directory: the mix mailbox and the mh mailbox in it, where there is one; whether a name stands in it that is no part of names,
-- no leftover file and none of the two files that make it a mailbox; and whether a leftover file stands beside the mh mailbox that is
-- opened in it. (Elsewhere leftover files come and go as mailboxes change, and nothing rests on them.)
pub record Directory : Type 0 where
  pub mix : Option Meaning
  pub mh : Option Meaning
  pub other : Bool
  pub leftover : Bool

-- all that stands at a path, also where no name sees it
pub data TreeNode : Type 0 where
  unknown_file : TreeNode
  file_mailbox : Driver → Meaning → TreeNode
  folder : Directory → TreeNode

-- by the path below the root
abbrev pub Nodes : Type 0
Nodes = FinMap path_cmp TreeNode

-- the nodes, and the subscribed names in their order
pub record Tree : Type 0 where
  pub nodes : Nodes
  pub subscribed : List (List ℕ)

-- ---- What a name sees

-- a directory that is no mailbox
abbrev pub is_plain_directory : Directory → Bool
is_plain_directory d = is_none d.mix && is_none d.mh

abbrev pub is_plain : Option TreeNode → Bool
is_plain None = false
is_plain (Some unknown_file) = false
is_plain (Some (file_mailbox driver meaning)) = false
is_plain (Some (folder d)) = is_plain_directory d

-- a name sees what stands at its path through plain directories alone
abbrev pub sees : Nodes → List ℕ → Bool
sees nodes name = list_all (λ front. is_plain (get nodes front)) (prefixes name)

abbrev pub seen_node : Nodes → List ℕ → Option TreeNode
seen_node nodes name = if sees nodes name then get nodes name else None

-- something else than a plain directory stands above the path
abbrev pub is_blocked : Nodes → List ℕ → Bool
is_blocked nodes path = list_any (λ front. is_some (get nodes front) && not (is_plain (get nodes front))) (prefixes path)

-- something stands in the directory at a path
abbrev pub has_inside : Nodes → List ℕ → Bool
has_inside nodes path = list_any (is_inside path) (keys nodes)

-- nothing but leftover files stands in a plain directory
abbrev pub is_free : Nodes → List ℕ → Directory → Bool
is_free nodes path d = is_plain_directory d && not d.other && not (has_inside nodes path)

-- ---- The tree of an image

-- the files that make a directory a mailbox, or may be left in one
abbrev pub is_own_name : List ℕ → Bool
is_own_name name = is_leftover name || bytes_eq name (codes ".mixmeta") || bytes_eq name (codes ".mh_sequences")

-- a name stands in a directory that is no part of names and no file of a mailbox
pub record HasOther (path : List ℕ) (image : Image) : Type 0 where
  pub name : List ℕ
  pub plain : HasNoSlash name
  pub no_part : is_part name ≡ false
  pub stands : Stands (child path name) image
  pub no_own : (is_own_name name && has_file image (child path name)) ≡ false

-- a leftover file stands in the directory of an mh mailbox, and no mix mailbox hides that
pub record HasLeftover (path : List ℕ) (image : Image) : Type 0 where
  pub name : List ℕ
  pub plain : HasNoSlash name
  pub is_left : is_leftover name ≡ true
  pub stands : has_file image (child path name) ≡ true
  pub no_mix : has_file image (mark_of path) ≡ false
  pub mh : has_file image (mh_mark_of path) ≡ true

-- the mailbox of a driver in a directory, which a file marks
abbrev pub HasMeaning : Formats → Driver → (mark path : List ℕ) → Image → Option Meaning → Type 0
HasMeaning formats driver mark path image None = has_file image mark ≡ false
HasMeaning formats driver mark path image (Some meaning) = (has_file image mark ≡ true) × Means (grammar_of formats.forms driver path) driver path image meaning

pub record IsFolder (formats : Formats) (path : List ℕ) (image : Image) (d : Directory) : Type 0 where
  pub stands : is_directory image path ≡ true
  pub mix : HasMeaning formats Mix (mark_of path) path image d.mix
  pub mh : HasMeaning formats Mh (mh_mark_of path) path image d.mh
  pub other : IsTrue d.other ↔ HasOther path image
  pub leftover : IsTrue d.leftover ↔ HasLeftover path image

-- the file at a path below the root is a message of an mh mailbox
abbrev pub is_message : List ℕ → Image → List ℕ → Bool
is_message root image path = is_some (split_path path) && is_message_number (last_part path)
    && has_file image (child root path) && has_file image (mh_mark_of (child root (parent path)))

abbrev pub IsNodeOf : Formats → (path : List ℕ) → Image → (message : Bool) → Option TreeNode → Type 0
IsNodeOf formats path image message None = (node_at image path ≡ nothing) ⊎ (message ≡ true)
IsNodeOf formats path image message (Some unknown_file) = (message ≡ false) × ((bytes : List ℕ) × (node_at image path ≡ file bytes) × (formats.chosen bytes ≡ None))
IsNodeOf formats path image message (Some (file_mailbox driver meaning)) =
    (message ≡ false) × ((bytes : List ℕ) × (node_at image path ≡ file bytes) × (formats.chosen bytes ≡ Some driver)) × Means (grammar_of formats.forms driver path) driver path image meaning
IsNodeOf formats path image message (Some (folder d)) = IsFolder formats path image d

-- what a tree has at a path is what the image has there
pub record IsNodeAt (formats : Formats) (root : List ℕ) (image : Image) (path : List ℕ) (node : Option TreeNode) : Type 0 where
  pub is : IsNodeOf formats (child root path) image (is_message root image path) node

-- the file of the subscribed names
abbrev pub list_of : List ℕ → List ℕ
list_of root = child root (codes ".mailboxlist")

-- a file of so many bytes stands at a path
abbrev pub HasText : List ℕ → ℕ → Image → Type 0
HasText path size image = (bytes : List ℕ) × (node_at image path ≡ file bytes) × (length bytes ≡ size)

-- The image has the tree below the root: at each path the node, and the subscribed names.
pub record HasTree (formats : Formats) (root : List ℕ) (image : Image) (tree : Tree) : Type 0 where
  pub nodes : (path : List ℕ) → is_path path ≡ true → IsNodeAt formats root image path (get tree.nodes path)
  pub keys : (path : List ℕ) → is_path path ≡ false → get tree.nodes path ≡ None
  pub subscribed : tree.subscribed ≡ subscribed_in (text_at image (list_of root))
