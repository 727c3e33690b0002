-- What a new file of subscribed names makes of the tree, and what it leaves alone.
use Rattle.std.proofs.Common.{◌≡◌, ◌≢◌, ◌⊎◌, inl, inr, ⊎_elim, ℕ, true, false, cond, List, [], ◌∷◌, ◌++◌, ◌≤◌, ◌==◌, length, Option, Some, None, Result, Ok, Err, OnOk, IsErr, Bool, refl, sym, ◌∙◌, ap, subst}
use Rattle.std.specs.Prelude.{codes, unwrap_or}
use Rattle.std.specs.FinMap.{get}
use Rattle.file_model.specs.Disk.{Disk, seen}
use Rattle.file_model.specs.Histories.{History, Now, Ran, Ended}
use Rattle.file_model.specs.Images.{Image, Agree, is_directory, text_at}
use Rattle.file_model.specs.Kept.{Keeps, Sees, Replaces, HasOnly, IsSound, NonePending, IsBeside}
use Rattle.file_model.specs.Kinds.{IsTarget}
use Rattle.file_model.specs.Paths.{child, parent, last_part, temporary_of, is_top, HasNoSlash}
use Rattle.file_model.specs.Reserved.{is_reserved_name}
use Rattle.file_model.proofs.Leaving.{ended_with, ended_weaker}
use Rattle.file_model.proofs.Names.{all_may_stand, cases_path}
use Rattle.file_model.proofs.NamesIn.{plain_is}
use Rattle.file_model.proofs.Paths.{child_apart, parent_child, last_part_child}
use Rattle.file_model.proofs.Runs.{ran_weaker, ran_none, now_all, now_weaker}
use Rattle.mail_types.specs.declared.driver.Driver.TheVariants.{Mix}
use Rattle.store_trait.specs.Commits.{mark_of}
use Rattle.store_trait.specs.OwnPaths.{IsNoPath, IsOwn}
use Rattle.store_trait.specs.Promises.{RanOnFiles}
use Rattle.store_trait.specs.Touching.{SeesBut}
use Rattle.any_store.specs.Choice.{Formats, mh_mark_of}
use Rattle.mail_tree.specs.declared.fault.TreeFault.{TreeFault}
use Rattle.mail_tree.specs.declared.fault.TreeFault.TheVariants.{Absent}
use Rattle.mail_tree.specs.Agreement.{mix_of}
use Rattle.mail_tree.specs.Changes.{AnswersTree, with_subscribed, due_unsubscribe}
use Rattle.mail_tree.specs.Names.{is_path}
use Rattle.mail_tree.specs.Promises.{AnswersBy, BreaksTree, ChangesTree, LeavesList, LeavesBut, WritesList, CommitsTree, HasRoot}
use Rattle.mail_tree.specs.Subscriptions.{subscribed_in, subscription_text, is_among}
use Rattle.mail_tree.specs.Trees.{Meaning, Tree, IsNodeAt, HasTree, list_of}
use Rattle.mail_tree.proofs.Above.{below_no_top}
use Rattle.mail_tree.proofs.Below.{one_below, child_below}
use Rattle.mail_tree.proofs.Beside.{IsMixApart, SameMix, commits_beside}
use Rattle.store_trait.proofs.Touched.{IsBut}
use Rattle.mail_tree.proofs.Joined.{ended_weaker as known_weaker, ok_map, no_refusal}
use Rattle.mail_tree.proofs.Made.{message_same}
use Rattle.mail_tree.proofs.Nodes.{AreFormats, node_copied}

-- ---- Two files in the root that are no mailbox's

list_plain : HasNoSlash (codes ".mailboxlist")
list_plain = plain_is (codes ".mailboxlist") refl

new_plain : HasNoSlash (codes ".new.mailboxlist")
new_plain = plain_is (codes ".new.mailboxlist") refl

no_list_path : is_path (codes ".mailboxlist") ≡ true → ⊥
unfolding is_path
no_list_path h = cc

no_new_path : is_path (codes ".new.mailboxlist") ≡ true → ⊥
unfolding is_path
no_new_path h = cc

temporary_is : (root : List ℕ) → temporary_of (list_of root) ≡ child root (codes ".new.mailboxlist")
temporary_is root =
    ap (λ dir. child dir (codes ".new" ++ last_part (list_of root))) (parent_child root (codes ".mailboxlist") list_plain)
    ∙ ap (λ name. child root (codes ".new" ++ name)) (last_part_child root (codes ".mailboxlist") list_plain)

slash_inside : (front rest : List ℕ) → HasNoSlash (front ++ 47 ∷ rest) → ⊥
slash_inside [] rest plain = slash plain.0
  where
    slash : (47 == 47) ≡ false → ⊥
    slash h = cc
slash_inside (x ∷ front) rest plain = slash_inside front rest plain.1

-- such a name is none of a path, and none in a directory below the root
name_apart : (root name m : List ℕ) → (is_path name ≡ true → ⊥) → is_path m ≡ true → child root m ≢ child root name
name_apart root name m no_path is same = no_path (subst (λ z. is_path z ≡ true) (one_below root m name same) is)

inside_apart : (root name q inside : List ℕ) → HasNoSlash name → child (child root q) inside ≢ child root name
inside_apart root name q inside plain same = slash_inside q inside (subst HasNoSlash (sym (one_below root (child q inside) name (sym (child_below root q inside) ∙ same))) plain)

-- a name's path is beside them
pub path_beside : (root m : List ℕ) → is_path m ≡ true → IsBeside (list_of root) (child root m)
path_beside root m is = ((λ same. name_apart root (codes ".new.mailboxlist") m no_new_path is (same ∙ temporary_is root)), name_apart root (codes ".mailboxlist") m no_list_path is)

inside_beside : (root q inside : List ℕ) → IsBeside (list_of root) (child (child root q) inside)
inside_beside root q inside = ((λ same. inside_apart root (codes ".new.mailboxlist") q inside new_plain (same ∙ temporary_is root)), inside_apart root (codes ".mailboxlist") q inside list_plain)

-- the root isn't the temporary file
pub list_temporary : (root : List ℕ) → root ≢ temporary_of (list_of root)
list_temporary root same = child_apart root (codes ".new.mailboxlist") (same ∙ temporary_is root)

-- ---- The tree

module _ (formats : Formats) (laws : AreFormats formats) (root : List ℕ) (start end : Image) (same : (q : List ℕ) → IsBeside (list_of root) q → Agree q end start) where
  node_listed : (tree : Tree) → HasTree formats root start tree → (q : List ℕ) → is_path q ≡ true → IsNodeAt formats root end q (get tree.nodes q)
  node_listed tree has q is =
      node_copied formats laws root start end q q (get tree.nodes q) (record {
        here = same (child root q) (path_beside root q is);
        special = λ name plain no_part. inl (same (child (child root q) name) (inside_beside root q name));
        inside = inr (λ name plain. same (child (child root q) name) (inside_beside root q name));
      }) (message_same root start end q (same (child root q) (path_beside root q is)) (same (mh_mark_of (child root (parent q))) (inside_beside root (parent q) (codes ".mh_sequences")))) (has.nodes q is)

  -- the tree after a new file of names
  pub tree_listed : (names : List (List ℕ)) → subscribed_in (text_at end (list_of root)) ≡ names → (tree : Tree) → HasTree formats root start tree → HasTree formats root end (with_subscribed tree names)
  tree_listed names reads tree has = record { nodes = node_listed tree has; keys = has.keys; subscribed = sym reads }

-- ---- What is written

pub list_no_top : (root : List ℕ) → 1 ≤ length root → is_top (list_of root) ≡ false
list_no_top root some = below_no_top root (codes ".mailboxlist") some

pub list_room : (root : List ℕ) (old : History) → HasRoot root old → Now old (λ w. is_directory (seen w.disk) (parent (list_of root)) ≡ true)
list_room root old has = subst (λ dir. Now old (λ w. is_directory (seen w.disk) dir ≡ true)) (sym (parent_child root (codes ".mailboxlist") list_plain)) has

reserved : is_reserved_name (codes ".mailboxlist") ≡ true
unfolding is_reserved_name
reserved = refl

pub list_target : (root : List ℕ) (old : History) → Now old (λ w. IsTarget (seen w.disk) (list_of root))
list_target root old = now_all (λ w. IsTarget (seen w.disk) (list_of root)) (λ w. λ stands. ap is_reserved_name (last_part_child root (codes ".mailboxlist") list_plain) ∙ reserved) old

pub list_written : (root text : List ℕ) (old new : History) → Ended (Sees (IsBeside (list_of root))) old new → Now new (λ w. HasOnly (list_of root) text w.disk) → Now new (λ w. IsSound w.disk) → Ended (WritesList root text) old new
list_written root text old new sees only sound =
    ended_weaker (λ a b. (Sees (IsBeside (list_of root)) a b × HasOnly (list_of root) text b) × IsSound b) (WritesList root text)
    (λ a b r. record { beside = r.0.0; written = ap (λ o. unwrap_or o []) (r.0.1.each (seen b) (record { names = all_may_stand b.durable b.pending; bytes = r.1.possible })) }) old new
    (ended_with (λ a b. Sees (IsBeside (list_of root)) a b × HasOnly (list_of root) text b) IsSound old new
    (ended_with (Sees (IsBeside (list_of root))) (HasOnly (list_of root) text) old new sees only) sound)

pub replaces_keeps : (path bytes : List ℕ) (at : List ℕ → Type 0) (old new : History) → Ran (Replaces path bytes at) old new → Ran (Keeps at) old new
replaces_keeps path bytes at old new ran = ran_weaker (λ a b r. record { each = λ image left. let before = r.each image left in (before.0, before.1, before.2) }) old new ran

-- ---- What it leaves alone

-- the file and the temporary file beside it
abbrev pub IsListFile : (root q : List ℕ) → Type 0
IsListFile root q = (q ≡ temporary_of (list_of root)) ⊎ (q ≡ list_of root)

but_list : (root q : List ℕ) (image before : Image) → (IsBeside (list_of root) q → Agree q image before) → Agree q image before ⊎ IsListFile root q
but_list root q image before agree = ⊎_elim (λ is. inr (inl is)) (λ no_new. ⊎_elim (λ is. inr (inr is)) (λ no_list. inl (agree (no_new, no_list))) (cases_path q (list_of root))) (cases_path q (temporary_of (list_of root)))

list_leaves : {T : Type 0} → (root : List ℕ) (result : Result T TreeFault) (old new : History) → LeavesList root result old new → LeavesBut IsNoPath (λ start. IsListFile root) result old new
list_leaves root result old new leaves = record {
  instants = λ none. ran_weaker (λ a b keeps. record {
    each = λ image left.
        let before = keeps.each image left in
        (before.0, before.1, λ q. ⊎_elim (λ same. inl same) (λ is. inr (inr is)) (but_list root q image before.0 (before.2 q)));
  }) old new (leaves.instants none);
  sees = λ not_failed. ended_weaker (Sees (IsBeside (list_of root))) (SeesBut IsNoPath (IsListFile root)) (λ a b sees. record { each = λ q. ⊎_elim (λ same. inl same) (λ is. inr (inr is)) (but_list root q (seen b) (seen a) (sees.each q)) }) old new (leaves.sees not_failed);
}

-- ---- The crash half

module _ (root : List ℕ) where
  beside_but : (q : List ℕ) → IsBeside (list_of root) q → IsBut IsNoPath (IsListFile root) q
  beside_but q beside = ((λ never. never), (λ is. ⊎_elim beside.0 beside.1 is))

  mix_beside : (path : List ℕ) → is_path path ≡ true → (o : Option Meaning) → IsMixApart IsNoPath (IsListFile root) (child root path) o
  mix_beside path is None = beside_but (mark_of (child root path)) (inside_beside root path (codes ".mixmeta"))
  mix_beside path is (Some meaning) = at
    where
      at : (q : List ℕ) → IsOwn Mix (child root path) q → IsBut IsNoPath (IsListFile root) q
      at q (inl here) = subst (IsBut IsNoPath (IsListFile root)) (sym here) (beside_but (child root path) (path_beside root path is))
      at q (inr named) = subst (IsBut IsNoPath (IsListFile root)) (sym named.whole) (beside_but (child (child root path) named.name) (inside_beside root path named.name))

  same_nodes : (tree : Tree) (names : List (List ℕ)) → SameMix tree (with_subscribed tree names)
  same_nodes tree names = record { each = λ path is. refl }

  pub list_commits : {T : Type 0} → (formats : Formats) → AreFormats formats → (change : List (List ℕ) → List (List ℕ)) (result : Result T TreeFault) (old new : History) → Now new (λ w. IsSound w.disk)
      → LeavesList root result old new → (Now old (λ w. NonePending w.disk) → OnOk result (Now new (λ w. NonePending w.disk)))
      → CommitsTree formats root (λ tree. with_subscribed tree (change tree.subscribed)) result old new
  list_commits {T} formats laws change result old new sound leaves pending =
      commits_beside formats laws root (λ tree. with_subscribed tree (change tree.subscribed)) result IsNoPath (λ start. IsListFile root) (λ a. Unit {0}) old new (now_all (λ w. Unit {0}) (λ w. tt) old) sound
      (λ tree a known has. record { each = λ path is. mix_beside path is (mix_of (get tree.nodes path)) })
      (λ tree a known has. on_ok result (same_nodes tree (change tree.subscribed)))
      (list_leaves root result old new leaves) pending
    where
      on_ok : {E P : Type 0} → (r : Result T E) → P → OnOk r P
      on_ok (Ok v) p = p
      on_ok (Err e) p = tt

-- ---- The whole change

-- what the names known at the start are
abbrev pub IsKnown : (root : List ℕ) (known : List (List ℕ)) → Disk → Type 0
IsKnown root known disk = known ≡ subscribed_in (text_at (seen disk) (list_of root))

ended_same : (P : Disk → Type 0) (R : Disk → Disk → Type 0) → ((a : Disk) → P a → R a a) → (old : History) → Now old (λ w. P w.disk) → Ended R old old
ended_same P R on [] now = refl
ended_same P R on (w ∷ past) now = on w.disk now

module _ (formats : Formats) (laws : AreFormats formats) (root : List ℕ) (change : List (List ℕ) → List (List ℕ)) (known names : List (List ℕ)) (old new : History) (is : Now old (λ w. IsKnown root known w.disk)) where
  pub list_changes : (result : Result (Unit {0}) TreeFault) → ((text : List ℕ) → known ≡ subscribed_in text → names ≡ change known)
      → ((text : List ℕ) → subscribed_in (subscription_text (change (subscribed_in text))) ≡ change (subscribed_in text))
      → OnOk result (Ended (WritesList root (subscription_text names)) old new) → (IsErr result → BreaksTree result)
      → (Now old (λ w. NonePending w.disk) → OnOk result (Now new (λ w. NonePending w.disk))) → RanOnFiles old new
      → ChangesTree formats root (λ tree. with_subscribed tree (change tree.subscribed)) result old new
  list_changes result written back ended breaks pending files = record {
    done = ok_map result (λ writes. known_weaker (IsKnown root known) (WritesList root (subscription_text names))
        (λ a b. (tree : Tree) → HasTree formats root (seen a) tree → HasTree formats root (seen b) (with_subscribed tree (change tree.subscribed)))
        (λ a b p r tree has. tree_listed formats laws root (seen a) (seen b) r.beside.each (change tree.subscribed)
        (ap subscribed_in r.written ∙ ap (λ l. subscribed_in (subscription_text l)) (written (text_at (seen a) (list_of root)) p ∙ ap change p)
        ∙ back (text_at (seen a) (list_of root)) ∙ ap change (sym has.subscribed)) tree has) old new is writes) ended;
    refused = λ refuses. absurd (no_refusal result breaks refuses);
    none_pending = pending;
    files = files;
  }

  pub none_changes : change known ≡ known → new ≡ old → ChangesTree {T = Unit {0}} formats root (λ tree. with_subscribed tree (change tree.subscribed)) (Ok tt) old new
  none_changes kept same = subst (λ h. ChangesTree {T = Unit {0}} formats root (λ tree. with_subscribed tree (change tree.subscribed)) (Ok tt) old h) (sym same) (record {
    done = ended_same (IsKnown root known) (λ a b. (tree : Tree) → HasTree formats root (seen a) tree → HasTree formats root (seen b) (with_subscribed tree (change tree.subscribed)))
        (λ a p tree has. subst (λ l. HasTree formats root (seen a) (with_subscribed tree l)) (has.subscribed ∙ sym p ∙ sym kept ∙ ap change (p ∙ sym has.subscribed)) has) old is;
    refused = λ refuses. absurd refuses;
    none_pending = λ none. none;
    files = ran_none (λ start instant. Unit {0}) old;
  })

  pub known_due : (name : List ℕ) (found : Bool) (result : Result (Unit {0}) TreeFault) → found ≡ is_among known name
      → ((due : Option TreeFault) → due ≡ cond found None (Some Absent) → AnswersTree due result) → AnswersBy formats root (λ tree. due_unsubscribe tree name) result old
  known_due name found result tells answers =
      now_weaker (λ w. IsKnown root known w.disk) (λ w. (tree : Tree) → HasTree formats root (seen w.disk) tree → AnswersTree (due_unsubscribe tree name) result)
      (λ w p tree has. answers (due_unsubscribe tree name) (ap (λ l. cond (is_among l name) None (Some Absent)) (has.subscribed ∙ sym p) ∙ ap (λ b. cond b None (Some Absent)) (sym tells))) old is
