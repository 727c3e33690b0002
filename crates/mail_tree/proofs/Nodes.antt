-- When a node stays what it is, or is the same at another path.
use Rattle.store_trait.specs.Forms.{grammar_of}
use Rattle.std.proofs.Common.{◌≡◌, ◌⊎◌, inl, inr, ⊎_elim, ℕ, List, Bool, true, false, ◌&&◌, ◌||◌, Option, Some, None, refl, sym, ◌∙◌, ap}
use Rattle.std.specs.Prelude.{codes, is_some, is_none, bytes_eq}
use Rattle.std.proofs.lemmas.Bool.{and_left, and_right, and_parts}
use Rattle.file_model.specs.Images.{Image, Node, nothing, file, directory, node_at, bytes_of, directory_test}
use Rattle.file_model.specs.Paths.{child, HasNoSlash}
use Rattle.file_model.specs.Reserved.{is_leftover}
use Rattle.file_model.proofs.NamesIn.{plain_is}
use Rattle.mail_types.specs.declared.driver.Driver.{Driver}
use Rattle.mail_types.specs.declared.driver.Driver.TheVariants.{Unix, Mmdf, Mbx, Mtx, Tenex, Mh, Mix}
use Rattle.store_trait.specs.Meaning.{Means}
use Rattle.store_trait.specs.OwnPaths.{is_directory_driver, is_content_name}
use Rattle.any_store.specs.Choice.{Formats, has_file, mh_mark_of}
use Rattle.any_store.specs.Promises.{IsChoice}
use Rattle.store_trait.specs.Laws.{IsReading}
use Rattle.store_trait.proofs.MovedMeaning.{means_moves}
use Rattle.mail_tree.specs.Names.{is_part}
use Rattle.mail_tree.specs.Trees.{Meaning, Directory, TreeNode, unknown_file, file_mailbox, folder, is_plain, is_plain_directory, is_own_name, is_message, HasOther, HasLeftover, HasMeaning, IsFolder, IsNodeOf, IsNodeAt}

-- the laws of the formats
pub record AreFormats (formats : Formats) : Type 0 where
  pub choice : IsChoice formats
  pub reads : (driver : Driver) → IsReading driver formats.forms

true_false : true ≡ false → ⊥
true_false h = cc

-- two nodes are the same, or of a leftover name and no directories
abbrev pub SameSpecial : (name : List ℕ) → (one other : Node) → Type 0
SameSpecial name one other = (other ≡ one) ⊎ ((is_leftover name ≡ true) × (directory_test other ≡ false) × (directory_test one ≡ false))

-- What an image has at a path and in the directory there, another has at another path: but where it is no mailbox, only the names that are no parts count,
-- and of these leftover files may come and go.
pub record IsCopied (one other : Image) (from to : List ℕ) (node : Option TreeNode) : Type 0 where
  pub here : node_at other to ≡ node_at one from
  pub special : (name : List ℕ) → HasNoSlash name → is_part name ≡ false → SameSpecial name (node_at one (child from name)) (node_at other (child to name))
  pub inside : (is_plain node ≡ true) ⊎ ((name : List ℕ) → HasNoSlash name → node_at other (child to name) ≡ node_at one (child from name))

-- of a name that isn't leftover the same stands there
pub special_same : (name : List ℕ) (one other : Node) → is_leftover name ≡ false → SameSpecial name one other → other ≡ one
special_same name one other kept (inl same) = same
special_same name one other kept (inr left) = absurd (true_false (sym left.0 ∙ kept))

-- only drivers of directories have files with content in one
content_inside : (driver : Driver) (name : List ℕ) → is_content_name driver name ≡ true → is_directory_driver driver ≡ true
content_inside Mh name kind = refl
content_inside Mix name kind = refl
content_inside Unix name kind = absurd (true_false (sym kind))
content_inside Mmdf name kind = absurd (true_false (sym kind))
content_inside Mbx name kind = absurd (true_false (sym kind))
content_inside Mtx name kind = absurd (true_false (sym kind))
content_inside Tenex name kind = absurd (true_false (sym kind))

-- the two marks
pub meta_plain : HasNoSlash (codes ".mixmeta")
meta_plain = plain_is (codes ".mixmeta") refl

pub sequences_plain : HasNoSlash (codes ".mh_sequences")
sequences_plain = plain_is (codes ".mh_sequences") refl

module _ (formats : Formats) (laws : AreFormats formats) (one other : Image) (from to : List ℕ) where
  means_copied : (driver : Driver) → node_at other to ≡ node_at one from
      → (is_directory_driver driver ≡ true → (name : List ℕ) → HasNoSlash name → node_at other (child to name) ≡ node_at one (child from name))
      → (meaning : Meaning) → Means (grammar_of formats.forms driver from) driver from one meaning → Means (grammar_of formats.forms driver to) driver to other meaning
  means_copied driver here inside meaning means =
      means_moves formats.forms driver (laws.reads driver) from to one other
      (record { here = here; inside = λ name plain kind. inside (content_inside driver name kind) name plain }) meaning means

  mark_copied : (mark : List ℕ) (o : Option TreeNode) → IsCopied one other from to o → HasNoSlash mark → is_part mark ≡ false → is_leftover mark ≡ false → node_at other (child to mark) ≡ node_at one (child from mark)
  mark_copied mark o c plain no_part kept = special_same mark (node_at one (child from mark)) (node_at other (child to mark)) kept (c.special mark plain no_part)

  -- of a directory that may be plain
  meaning_copied : (driver : Driver) (mark : List ℕ) (d : Directory) (o : Option Meaning) → IsCopied one other from to (Some (folder d)) → HasNoSlash mark → is_part mark ≡ false → is_leftover mark ≡ false
      → (is_some o ≡ true → is_plain_directory d ≡ false)
      → HasMeaning formats driver (child from mark) from one o → HasMeaning formats driver (child to mark) to other o
  meaning_copied driver mark d None c plain no_part kept some has = ap (λ n. is_some (bytes_of n)) (mark_copied mark (Some (folder d)) c plain no_part kept) ∙ has
  meaning_copied driver mark d (Some meaning) c plain no_part kept some has = (
    ap (λ n. is_some (bytes_of n)) (mark_copied mark (Some (folder d)) c plain no_part kept) ∙ has.0,
    means_copied driver c.here (λ is name no_slash. ⊎_elim (λ is_plain. absurd (true_false (sym is_plain ∙ some refl))) (λ all. all name no_slash) c.inside) meaning has.1,
  )

  -- a leftover file isn't another name
  no_left : (name : List ℕ) (node : Node) → is_leftover name ≡ true → directory_test node ≡ false → (node ≡ nothing → ⊥) → (is_own_name name && is_some (bytes_of node)) ≡ false → ⊥
  no_left name nothing left no_directory stands no_own = stands refl
  no_left name directory left no_directory stands no_own = true_false no_directory
  no_left name (file bytes) left no_directory stands no_own = true_false (sym (ap (λ b. ((b || bytes_eq name (codes ".mixmeta")) || bytes_eq name (codes ".mh_sequences")) && true) left) ∙ no_own)

  other_copied : (o : Option TreeNode) → IsCopied one other from to o → HasOther from one → HasOther to other
  other_copied o c has = at (c.special has.name has.plain has.no_part)
    where
      at : SameSpecial has.name (node_at one (child from has.name)) (node_at other (child to has.name)) → HasOther to other
      at (inl same) = record {
        name = has.name;
        plain = has.plain;
        no_part = has.no_part;
        stands = λ none. has.stands (sym same ∙ none);
        no_own = ap (λ n. is_own_name has.name && is_some (bytes_of n)) same ∙ has.no_own;
      }
      at (inr left) = absurd (no_left has.name (node_at one (child from has.name)) left.0 left.2 has.stands has.no_own)

  -- where the file stands that marks a mailbox there is one
  marked_some : (driver : Driver) (mark : List ℕ) (o : Option Meaning) → HasMeaning formats driver mark from one o → has_file one mark ≡ true → is_none o ≡ false
  marked_some driver mark None has there = absurd (true_false (sym there ∙ has))
  marked_some driver mark (Some meaning) has there = refl

  leftover_copied : (d : Directory) → HasMeaning formats Mh (mh_mark_of from) from one d.mh → IsCopied one other from to (Some (folder d)) → HasLeftover from one → HasLeftover to other
  leftover_copied d mh c has = record {
    name = has.name;
    plain = has.plain;
    is_left = has.is_left;
    stands = ap (λ n. is_some (bytes_of n)) (⊎_elim (λ is_plain. absurd (true_false (sym (and_parts (is_none d.mix) (is_none d.mh) is_plain).1 ∙ marked_some Mh (mh_mark_of from) d.mh mh has.mh))) (λ all. all has.name has.plain) c.inside) ∙ has.stands;
    no_mix = ap (λ n. is_some (bytes_of n)) (mark_copied (codes ".mixmeta") (Some (folder d)) c meta_plain refl refl) ∙ has.no_mix;
    mh = ap (λ n. is_some (bytes_of n)) (mark_copied (codes ".mh_sequences") (Some (folder d)) c sequences_plain refl refl) ∙ has.mh;
  }

copied_back : (one other : Image) (from to : List ℕ) (o : Option TreeNode) → IsCopied one other from to o → IsCopied other one to from o
copied_back one other from to o c = record {
  here = sym c.here;
  special = λ name plain no_part. ⊎_elim (λ same. inl (sym same)) (λ left. inr (left.0, left.2, left.1)) (c.special name plain no_part);
  inside = ⊎_elim (λ plain. inl plain) (λ all. inr (λ name plain. sym (all name plain))) c.inside;
}

module _ (formats : Formats) (laws : AreFormats formats) (one other : Image) (from to : List ℕ) where
  folder_copied : (d : Directory) → IsCopied one other from to (Some (folder d)) → IsFolder formats from one d → IsFolder formats to other d
  folder_copied d c is =
      let there = meaning_copied formats laws one other from to Mh (codes ".mh_sequences") d d.mh c sequences_plain refl refl (λ some. and_right (is_none d.mix) (is_none d.mh) (none_of d.mh some)) is.mh in
      record {
        stands = ap directory_test c.here ∙ is.stands;
        mix = meaning_copied formats laws one other from to Mix (codes ".mixmeta") d d.mix c meta_plain refl refl (λ some. and_left (is_none d.mix) (is_none d.mh) (none_of d.mix some)) is.mix;
        mh = there;
        other = ((λ so. other_copied formats laws one other from to (Some (folder d)) c (is.other.0 so)), (λ has. is.other.1 (other_copied formats laws other one to from (Some (folder d)) (copied_back one other from to (Some (folder d)) c) has)));
        leftover = ((λ so. leftover_copied formats laws one other from to d is.mh c (is.leftover.0 so)), (λ has. is.leftover.1 (leftover_copied formats laws other one to from d there (copied_back one other from to (Some (folder d)) c) has)));
      }
    where
      none_of : (o : Option Meaning) → is_some o ≡ true → is_none o ≡ false
      none_of None is = absurd (cc)
      none_of (Some m) is = refl

  node_of_copied : (message messages : Bool) → messages ≡ message → (node : Option TreeNode) → IsCopied one other from to node → IsNodeOf formats from one message node → IsNodeOf formats to other messages node
  node_of_copied message messages same None c is = ⊎_elim (λ none. inl (c.here ∙ none)) (λ is. inr (same ∙ is)) is
  node_of_copied message messages same (Some unknown_file) c is = (same ∙ is.0, (is.1.0, c.here ∙ is.1.1, is.1.2))
  node_of_copied message messages same (Some (file_mailbox driver meaning)) c is = (
    same ∙ is.0,
    (is.1.0, c.here ∙ is.1.1, is.1.2),
    means_copied formats laws one other from to driver c.here (λ folder. absurd (true_false (sym folder ∙ laws.choice.files is.1.0 driver is.1.2))) meaning is.2,
  )
  node_of_copied message messages same (Some (folder d)) c is = folder_copied d c is

-- a node that is copied is the same
pub node_copied : (formats : Formats) → AreFormats formats → (root : List ℕ) (one other : Image) (from to : List ℕ) (node : Option TreeNode)
    → IsCopied one other (child root from) (child root to) node → is_message root other to ≡ is_message root one from → IsNodeAt formats root one from node → IsNodeAt formats root other to node
node_copied formats laws root one other from to node c same is =
    record { is = node_of_copied formats laws one other (child root from) (child root to) (is_message root one from) (is_message root other to) same node c is.is }
