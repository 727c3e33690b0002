-- An open mailbox stands on through a call of the tree on another name.
use Rattle.std.proofs.Common.{◌≡◌, ◌≢◌, ◌⊎◌, inl, inr, ⊎_elim, ℕ, List, [], ◌∷◌, ◌++◌, drop, length, append_assoc, Bool, true, false, cond, not, ◌&&◌, ◌||◌, Option, Some, None, refl, sym, ◌∙◌, ap, subst}
use Rattle.std.specs.Prelude.{is_some, is_none, bytes_eq}
use Rattle.std.specs.FinMap.{get, keys, insert, remove, get-remove}
use Rattle.std.proofs.lemmas.Bool.{false≢true, false_from_ne_true, and_parts}
use Rattle.std.proofs.lemmas.List.{append-nil}
use Rattle.std.proofs.lemmas.Slice.Eq.{bytes_eq-Decides}
use Rattle.std.proofs.lemmas.Cmp.{nat_list_cmp_total}
use Rattle.file_model.specs.Disk.{Disk, seen}
use Rattle.file_model.specs.Images.{Image, nothing, file, node_at}
use Rattle.file_model.specs.Kept.{Sees, IsBeside, moved_node}
use Rattle.file_model.specs.Paths.{child, is_inside, is_at_or_inside}
use Rattle.file_model.proofs.Inside.{Under, Slash, child_inside, inside_is, is_under, not_both, under_is, under_test}
use Rattle.file_model.proofs.Names.{other_path}
use Rattle.mail_types.specs.declared.driver.Driver.{Driver}
use Rattle.mail_types.specs.declared.driver.Driver.TheVariants.{Unix, Mmdf, Mbx, Mtx, Tenex, Mh, Mix}
use Rattle.store_trait.specs.declared.change.Change.{Change}
use Rattle.store_trait.specs.Changes.{is_nothing}
use Rattle.store_trait.specs.Laws.{IsReading, IsView}
use Rattle.store_trait.specs.Meaning.{AgreeAt}
use Rattle.store_trait.specs.OwnPaths.{is_directory_driver, IsNoPath, MayChange, MayClear, RestsOn}
use Rattle.store_trait.specs.Touching.{SeesBut}
use Rattle.store_trait.specs.Views.{View}
use Rattle.store_trait.proofs.Grammars.{written_stays}
use Rattle.store_trait.proofs.Touched.{IsBut, sees_but}
use Rattle.any_store.specs.Choice.{Formats}
use Rattle.any_store.proofs.Lengths.{none_passes}
use Rattle.mail_tree.specs.declared.fault.TreeFault.{TreeFault}
use Rattle.mail_tree.specs.declared.fault.TreeFault.TheVariants.{Absent, HasChildren, Reserved, Selected, There}
use Rattle.mail_tree.specs.Changes.{empty_directory, put_missing, with_parents, created_node, created_tree, tree_with_directory, delete_refusal, deleted_nodes, deleted_tree, same_name, due_create, due_create_dir, due_delete, due_rename, is_selected_below, moved_nodes, renamed_tree, with_subscribed}
use Rattle.mail_tree.specs.Changing.{Placed, IsInTree, IsMailboxAt, tree_after}
use Rattle.mail_tree.specs.Mailboxes.{HasMailboxOf, stored_node, stored_tree}
use Rattle.mail_tree.specs.Names.{inbox, prefixes}
use Rattle.mail_tree.specs.Promises.{IsDeletable, IsMadeAbove, IsMadeAt, IsMadeFor, IsMovedOrNot}
use Rattle.mail_tree.specs.Trees.{Directory, Meaning, TreeNode, unknown_file, file_mailbox, folder, Nodes, Tree, HasTree, IsNodeOf, has_inside, is_blocked, is_free, is_message, list_of, is_plain, is_plain_directory, sees, seen_node}
use Rattle.mail_tree.proofs.Below.{one_below, child_below}
use Rattle.mail_tree.proofs.ChangedFile.{path_apart}
use Rattle.mail_tree.proofs.Emptied.{plain_refusal}
use Rattle.mail_tree.proofs.Followed.{IsFileSeen, file_seen}
use Rattle.mail_tree.proofs.FreeDirectory.{key_in}
use Rattle.mail_tree.proofs.Made.{get_put_other}
use Rattle.mail_tree.proofs.MovedKeys.{Apart, get_moved}
use Rattle.mail_tree.proofs.NamesWritten.{path_beside}
use Rattle.mail_tree.proofs.NewMailbox.{same_due}
use Rattle.mail_tree.proofs.OneFile.{may_change, may_clear, no_home}
use Rattle.mail_tree.proofs.Sighted.{all_same, sees_front}

-- ---- On another image

-- it stands for the same where what it rests on is the same, and its node is
pub kept_at : (formats : Formats) → ((driver : Driver) → IsReading driver formats.forms) → (root : List ℕ) (view : View) → IsView formats.forms view → (one other : Image) (tree later : Tree) (m : Placed) → IsMailboxAt formats root view one tree m
    → AgreeAt (RestsOn view.driver view.path) other one → HasTree formats root other later → seen_node later.nodes m.name ≡ seen_node tree.nodes m.name → IsMailboxAt formats root view other later m
kept_at formats reads root view law one other tree later m at agree has same = record {
  tree_seen = has;
  store = record {
    driver = at.store.driver;
    path = at.store.path;
    works = at.store.works;
    stands = stays.0;
    mailbox = stays.1 ∙ at.store.mailbox;
    written = (at.store.written.0, written_stays formats.forms m.driver (reads m.driver) (child root m.name) one other m.contents at.store.written.0 (subst (λ p. AgreeAt (RestsOn m.driver p) other one) at.store.path (subst (λ d. AgreeAt (RestsOn d view.path) other one) at.store.driver agree)) at.store.written.1);
  };
  in_tree = subst (HasMailboxOf m.driver) (sym same) at.in_tree;
}
  where
    stays : view.stands other × (view.mailbox other ≡ view.mailbox one)
    stays = law.stays one other agree at.store.stands

-- a mailbox of one file rests on it alone
rests_is : (driver : Driver) (path q : List ℕ) → is_directory_driver driver ≡ false → RestsOn driver path q → q ≡ path
rests_is Unix path q one is = is
rests_is Mmdf path q one is = is
rests_is Mbx path q one is = is
rests_is Mtx path q one is = is
rests_is Tenex path q one is = is
rests_is Mh path q one is = absurd (false≢true (sym one))
rests_is Mix path q one is = absurd (false≢true (sym one))

-- ---- On another tree

-- all nodes but one are there again, and that one isn't above the name
seen_again : (tree later : Tree) (m name : List ℕ) → sees tree.nodes m ≡ true → m ≢ name → ((rest : List ℕ) → m ≡ child name rest → ⊥) → ((q : List ℕ) → q ≢ name → is_some (get tree.nodes q) ≡ true → get later.nodes q ≡ get tree.nodes q)
    → is_some (get tree.nodes m) ≡ true → seen_node later.nodes m ≡ seen_node tree.nodes m
seen_again tree later m name seen apart not_front same some =
    ap (λ b. cond b (get later.nodes m) None) (fronts ∙ seen) ∙ same m apart some ∙ sym (ap (λ b. cond b (get tree.nodes m) None) seen)
  where
    plain_some : (o : Option TreeNode) → is_plain o ≡ true → is_some o ≡ true
    plain_some None plain = plain
    plain_some (Some n) plain = refl

    fronts : sees later.nodes m ≡ sees tree.nodes m
    fronts = all_same (λ q. is_plain (get later.nodes q)) (λ q. is_plain (get tree.nodes q)) m
        (λ q rest whole. ap is_plain (same q (λ here. not_front rest (whole ∙ ap (λ l. child l rest) here)) (plain_some (get tree.nodes q) (sees_front tree.nodes m q rest seen whole))))

missing_kept : (paths : List (List ℕ)) (nodes : Nodes) (q : List ℕ) → is_some (get nodes q) ≡ true → get (put_missing paths nodes) q ≡ get nodes q
missing_kept [] nodes q some = refl
missing_kept (p ∷ paths) nodes q some = missing_kept paths (cond (is_some (get nodes p)) nodes (insert nodes p (folder empty_directory))) q (ap is_some here ∙ some) ∙ here
  where
    at : (b : Bool) → is_some (get nodes p) ≡ b → get (cond b nodes (insert nodes p (folder empty_directory))) q ≡ get nodes q
    at true e = refl
    at false e = get_put_other nodes p (folder empty_directory) q (λ same. false≢true (sym e ∙ ap (λ z. is_some (get nodes z)) (sym same) ∙ some))

    here : get (cond (is_some (get nodes p)) nodes (insert nodes p (folder empty_directory))) q ≡ get nodes q
    here = at (is_some (get nodes p)) refl

-- a new node at a name where none was
put_kept : (tree : Tree) (name : List ℕ) (n : TreeNode) (q : List ℕ) → q ≢ name → is_some (get tree.nodes q) ≡ true → get (insert (with_parents name tree.nodes) name n) q ≡ get tree.nodes q
put_kept tree name n q apart some = get_put_other (with_parents name tree.nodes) name n q apart ∙ missing_kept (prefixes name) tree.nodes q some

deleted_kept : (nodes : Nodes) (name : List ℕ) (o : Option TreeNode) (q : List ℕ) → q ≢ name → get (deleted_nodes nodes name o) q ≡ get nodes q
deleted_kept nodes name o q apart = at o
  where
    gone : get (remove nodes name) q ≡ get nodes q
    gone = get-remove nat_list_cmp_total nodes name q ∙ ap (λ b. cond b None (get nodes q)) (other_path name q apart)

    left : (b : Bool) (d : Directory) → get (cond b (remove nodes name) (insert nodes name (folder d))) q ≡ get nodes q
    left true d = gone
    left false d = get_put_other nodes name (folder d) q apart

    either : (b : Bool) (left_nodes : Nodes) → get left_nodes q ≡ get nodes q → get (cond b (remove nodes name) left_nodes) q ≡ get nodes q
    either true left_nodes same = gone
    either false left_nodes same = same

    at : (o : Option TreeNode) → get (deleted_nodes nodes name o) q ≡ get nodes q
    at None = refl
    at (Some unknown_file) = refl
    at (Some (file_mailbox driver meaning)) = gone
    at (Some (folder d)) = either (is_plain_directory d) _ (left _ _)

-- the same where each node on the way is kept
seen_kept : (tree later : Tree) (m : List ℕ) → sees tree.nodes m ≡ true → ((q rest : List ℕ) → m ≡ child q rest → is_some (get tree.nodes q) ≡ true → get later.nodes q ≡ get tree.nodes q)
    → get later.nodes m ≡ get tree.nodes m → seen_node later.nodes m ≡ seen_node tree.nodes m
seen_kept tree later m seen same here =
    ap (λ b. cond b (get later.nodes m) None) (fronts ∙ seen) ∙ here ∙ sym (ap (λ b. cond b (get tree.nodes m) None) seen)
  where
    plain_some : (o : Option TreeNode) → is_plain o ≡ true → is_some o ≡ true
    plain_some None plain = plain
    plain_some (Some n) plain = refl

    fronts : sees later.nodes m ≡ sees tree.nodes m
    fronts = all_same (λ q. is_plain (get later.nodes q)) (λ q. is_plain (get tree.nodes q)) m
        (λ q rest whole. ap is_plain (same q rest whole (plain_some (get tree.nodes q) (sees_front tree.nodes m q rest seen whole))))

-- what is under a path, and above another, leads there
front_under : (dir q rest m : List ℕ) → m ≡ child q rest → is_at_or_inside dir q ≡ true → is_at_or_inside dir m ≡ true
front_under dir q rest m whole is =
    let u = under_is dir q is in
    under_test dir m (record { rest = u.rest ++ 47 ∷ rest; whole = whole ∙ ap (λ l. l ++ 47 ∷ rest) u.whole ∙ append_assoc dir u.rest (47 ∷ rest); slash = longer u.rest u.slash })
  where
    longer : (r : List ℕ) → Slash r → Slash (r ++ 47 ∷ rest)
    longer r (inl none) = inr (rest, ap (λ l. l ++ 47 ∷ rest) none)
    longer r (inr more) = inr (more.0 ++ 47 ∷ rest, ap (λ l. l ++ 47 ∷ rest) more.1)

-- what isn't under a name isn't under its path
path_beside_of : (root dir m : List ℕ) → is_at_or_inside dir m ≡ false → is_at_or_inside (child root dir) (child root m) ≡ false
path_beside_of root dir m none = false_from_ne_true (is_at_or_inside (child root dir) (child root m)) (λ is.
    let u = under_is (child root dir) (child root m) is in
    not_both (is_at_or_inside dir m) (under_test dir m (record { rest = u.rest; whole = one_below root m (dir ++ u.rest) (u.whole ∙ append_assoc root (47 ∷ dir) u.rest); slash = u.slash })) none)

-- what is under neither path stays there
pub beside_moves : (from to : List ℕ) (image : Image) (q : List ℕ) → is_at_or_inside to q ≡ false → is_at_or_inside from q ≡ false → moved_node from to image q ≡ node_at image q
beside_moves from to image q no_to no_from = λ i. cond (no_to i) (node_at image (from ++ drop (length to) q)) (cond (no_from i) nothing (node_at image q))

-- a test that refuses nothing
no_fault : (test : Bool) (fault : TreeFault) (rest : Option TreeFault) → cond test (Some fault) rest ≡ None → (test ≡ false) × (rest ≡ None)
no_fault true fault rest none = absurd (cc)
no_fault false fault rest none = (refl, none)

-- ---- Through a call

module _ (formats : Formats) (reads : (driver : Driver) → IsReading driver formats.forms) (root : List ℕ) (view : View) (law : IsView formats.forms view) (one : is_directory_driver view.driver ≡ false) (a b : Disk) (tree : Tree) (m : Placed)
    (at : IsMailboxAt formats root view (seen a) tree m) where
  shown : IsFileSeen tree m.name
  shown = file_seen formats root (seen a) tree m.name m.driver at.tree_seen (ap is_directory_driver (sym at.store.driver) ∙ one) at.in_tree

  some_node : is_some (get tree.nodes m.name) ≡ true
  some_node = ap is_some shown.node.is

  -- where its file is the same
  through_node : node_at (seen b) (child root m.name) ≡ node_at (seen a) (child root m.name) → (later : Tree) → HasTree formats root (seen b) later → seen_node later.nodes m.name ≡ seen_node tree.nodes m.name
      → IsMailboxAt formats root view (seen b) later m
  through_node kept later has same =
      kept_at formats reads root view law (seen a) (seen b) tree later m at
      (λ q rests. let here : q ≡ child root m.name = rests_is view.driver view.path q one rests ∙ at.store.path in
      subst (λ r. node_at (seen b) r ≡ node_at (seen a) r) (sym here) kept) has same

  -- a call that leaves its file alone
  through : (files free : List ℕ → Type 0) → IsBut files free (child root m.name) → SeesBut files free a b → (later : Tree) → HasTree formats root (seen b) later → seen_node later.nodes m.name ≡ seen_node tree.nodes m.name
      → IsMailboxAt formats root view (seen b) later m
  through files free apart sees later has same =
      through_node ((sees_but files free a b sees).each (child root m.name) apart) later has same

  -- what is above a name where nothing stood was nothing too, or stood
  stands_here : node_at (seen a) (child root m.name) ≡ nothing → ⊥
  stands_here none = file_there (get tree.nodes m.name) shown.node.is (at.tree_seen.nodes m.name shown.is_path).is
    where
      no_file : (bytes : List ℕ) → file bytes ≡ nothing → ⊥
      no_file bytes h = cc

      file_there : (o : Option TreeNode) → o ≡ Some (file_mailbox shown.node.driver shown.node.meaning) → IsNodeOf formats (child root m.name) (seen a) (is_message root (seen a) m.name) o → ⊥
      file_there o same node =
          let is = subst (IsNodeOf formats (child root m.name) (seen a) (is_message root (seen a) m.name)) same node in
          no_file is.1.0 (sym is.1.1 ∙ none)

  not_made : (name : List ℕ) → IsMadeAbove root name a (child root m.name) → ⊥
  not_made name above = stands_here above.absent

  module _ (name : List ℕ) (none : get tree.nodes name ≡ None) where
    other_name : m.name ≢ name
    other_name same = false≢true (sym (ap is_some none) ∙ ap (λ z. is_some (get tree.nodes z)) (sym same) ∙ some_node)

    not_above : (rest : List ℕ) → m.name ≡ child name rest → ⊥
    not_above rest whole = false≢true (sym (ap is_plain none) ∙ sees_front tree.nodes m.name name rest shown.seen whole)

    -- where a mailbox is made at another name
    pub through_create : (driver : Driver) (fresh : ℕ) → is_directory_driver driver ≡ false → SeesBut (MayClear driver (child root name)) (IsMadeFor driver root name a) a b → HasTree formats root (seen b) (created_tree tree name driver fresh)
        → IsMailboxAt formats root view (seen b) (created_tree tree name driver fresh) m
    through_create driver fresh file_driver sees has =
        through (MayClear driver (child root name)) (IsMadeFor driver root name a) (
          (λ may. ⊎_elim (λ same. other_name (one_below root m.name name same)) (path_apart root name m.name shown.is_path) (may_clear driver (child root name) (child root m.name) file_driver may)),
          (λ made. ⊎_elim (no_home driver (child root name) (child root m.name) file_driver) (not_made name) made),
        )
        sees (created_tree tree name driver fresh) has
        (seen_again tree (created_tree tree name driver fresh) m.name name shown.seen other_name not_above (λ q apart some. put_kept tree name (created_node driver fresh) q apart some) some_node)

    -- or a directory
    pub through_create_dir : SeesBut IsNoPath (IsMadeAt root name a) a b → HasTree formats root (seen b) (tree_with_directory tree name) → IsMailboxAt formats root view (seen b) (tree_with_directory tree name) m
    through_create_dir sees has =
        through IsNoPath (IsMadeAt root name a) ((λ never. never), (λ made. ⊎_elim (λ same. other_name (one_below root m.name name same)) (not_made name) made))
        sees (tree_with_directory tree name) has
        (seen_again tree (tree_with_directory tree name) m.name name shown.seen other_name not_above (λ q apart some. put_kept tree name (folder empty_directory) q apart some) some_node)

  -- where another name is deleted
  module _ (name : List ℕ) (other : m.name ≢ name) (due : delete_refusal tree.nodes name (seen_node tree.nodes name) ≡ None) where
    not_below : (rest : List ℕ) → m.name ≡ child name rest → ⊥
    not_below rest whole = by_node (get tree.nodes name) refl (sees_front tree.nodes m.name name rest shown.seen whole)
      where
        inside_name : has_inside tree.nodes name ≡ false → ⊥
        inside_name none = none_passes (is_inside name) (keys tree.nodes) m.name none (key_in tree.nodes m.name some_node) (ap (is_inside name) whole ∙ child_inside name rest)

        absent : Some Absent ≡ None → ⊥
        absent h = cc

        children : Some HasChildren ≡ None → ⊥
        children h = cc

        seen_name : (n : Option TreeNode) → get tree.nodes name ≡ n → delete_refusal tree.nodes name n ≡ None
        seen_name n here = at_sees (sees tree.nodes name) refl
          where
            at_sees : (t : Bool) → sees tree.nodes name ≡ t → delete_refusal tree.nodes name n ≡ None
            at_sees true e = ap (delete_refusal tree.nodes name) (sym (ap (λ t. cond t (get tree.nodes name) None) e ∙ here)) ∙ due
            at_sees false e = absurd (absent (sym (ap (λ t. delete_refusal tree.nodes name (cond t (get tree.nodes name) None)) e) ∙ due))

        free_of : (d : Directory) (t : Bool) → is_free tree.nodes name d ≡ t → cond t None (Some HasChildren) ≡ None → has_inside tree.nodes name ≡ false
        free_of d true e none = was (has_inside tree.nodes name) (and_parts (is_plain_directory d && not d.other) (not (has_inside tree.nodes name)) e).1
          where
            was : (t : Bool) → not t ≡ true → t ≡ false
            was true h = absurd (false≢true h)
            was false h = refl
        free_of d false e none = absurd (children none)

        by_node : (n : Option TreeNode) → get tree.nodes name ≡ n → is_plain n ≡ true → ⊥
        by_node None here plain = false≢true plain
        by_node (Some unknown_file) here plain = false≢true plain
        by_node (Some (file_mailbox driver meaning)) here plain = false≢true plain
        by_node (Some (folder d)) here plain = inside_name (free_of d (is_free tree.nodes name d) refl (sym (plain_refusal tree.nodes name d plain) ∙ seen_name (Some (folder d)) here))

    pub through_delete : SeesBut (IsDeletable (child root name)) (λ q. q ≡ child root name) a b → HasTree formats root (seen b) (deleted_tree tree name) → IsMailboxAt formats root view (seen b) (deleted_tree tree name) m
    through_delete sees has =
        through (IsDeletable (child root name)) (λ q. q ≡ child root name) (
          (λ may. ⊎_elim (λ same. other (one_below root m.name name same))
              (λ more. ⊎_elim (path_apart root name m.name shown.is_path) (λ named. not_below named.name (one_below root m.name (child name named.name) (named.whole ∙ child_below root name named.name))) more) may),
          (λ same. other (one_below root m.name name same)),
        )
        sees (deleted_tree tree name) has
        (seen_again tree (deleted_tree tree name) m.name name shown.seen other not_below (λ q apart some. deleted_kept tree.nodes name (get tree.nodes name) q apart) some_node)

  -- where the subscribed names change
  pub through_listed : (names : List (List ℕ)) → Sees (IsBeside (list_of root)) a b → HasTree formats root (seen b) (with_subscribed tree names) → IsMailboxAt formats root view (seen b) (with_subscribed tree names) m
  through_listed names sees has = through_node (sees.each (child root m.name) (path_beside root m.name shown.is_path)) (with_subscribed tree names) has refl

  -- where the mailbox of another name changes, which is a file
  module _ (changed : Placed) (change : Change) (apart : m.name ≢ changed.name) (file_driver : is_directory_driver changed.driver ≡ false) (in_tree : IsInTree tree changed) where
    changed_file : IsFileSeen tree changed.name
    changed_file = file_seen formats root (seen a) tree changed.name changed.driver at.tree_seen file_driver in_tree

    not_within : (rest : List ℕ) → m.name ≡ child changed.name rest → ⊥
    not_within rest whole = false≢true (sym (ap is_plain changed_file.node.is) ∙ sees_front tree.nodes m.name changed.name rest shown.seen whole)

    change_kept : (q : List ℕ) → q ≢ changed.name → get (tree_after formats tree changed change).nodes q ≡ get tree.nodes q
    change_kept q other = by_test (is_nothing changed.mailbox.words change) _
      where
        by_test : (test : Bool) (meaning : Meaning) → get (cond test tree (stored_tree tree changed.name changed.driver meaning)).nodes q ≡ get tree.nodes q
        by_test true meaning = refl
        by_test false meaning = get_put_other tree.nodes changed.name (stored_node changed.driver meaning (seen_node tree.nodes changed.name)) q other

    pub through_change : SeesBut (MayChange changed.driver (child root changed.name)) IsNoPath a b → HasTree formats root (seen b) (tree_after formats tree changed change)
        → IsMailboxAt formats root view (seen b) (tree_after formats tree changed change) m
    through_change sees has =
        through (MayChange changed.driver (child root changed.name)) IsNoPath (
          (λ may. ⊎_elim (λ same. apart (one_below root m.name changed.name same)) (path_apart root changed.name m.name shown.is_path) (may_change changed.driver (child root changed.name) (child root m.name) file_driver may)),
          (λ never. never),
        )
        sees (tree_after formats tree changed change) has
        (seen_again tree (tree_after formats tree changed change) m.name changed.name shown.seen apart not_within (λ q other some. change_kept q other) some_node)

  -- where another name moves, and what is in it
  module _ (from to : List ℕ) (beside : is_at_or_inside from m.name ≡ false) (free : get tree.nodes to ≡ None) (apart : Apart from to) where
    -- it isn't under the new name
    outside : is_at_or_inside to m.name ≡ false
    outside = false_from_ne_true (is_at_or_inside to m.name) (λ is.
        let u = under_is to m.name is in
        ⊎_elim (λ none. other_name to free (u.whole ∙ ap (λ r. to ++ r) none ∙ append-nil to)) (λ more. not_above to free more.0 (u.whole ∙ ap (λ r. to ++ r) more.1)) u.slash)

    moved_kept : (q : List ℕ) → is_at_or_inside to q ≡ false → is_at_or_inside from q ≡ false → is_some (get tree.nodes q) ≡ true → get (renamed_tree tree from to).nodes q ≡ get tree.nodes q
    moved_kept q no_to no_from some =
        get_moved from to apart (with_parents to tree.nodes) q
        ∙ (λ i. cond (no_to i) (get (with_parents to tree.nodes) (from ++ drop (length to) q)) (cond (no_from i) None (get (with_parents to tree.nodes) q)))
        ∙ missing_kept (prefixes to) tree.nodes q some

    front_beside : (dir : List ℕ) → is_at_or_inside dir m.name ≡ false → (q rest : List ℕ) → m.name ≡ child q rest → is_at_or_inside dir q ≡ false
    front_beside dir none q rest whole = false_from_ne_true (is_at_or_inside dir q) (λ is. not_both (is_at_or_inside dir m.name) (front_under dir q rest m.name whole is) none)

    seen_moved : seen_node (renamed_tree tree from to).nodes m.name ≡ seen_node tree.nodes m.name
    seen_moved =
        seen_kept tree (renamed_tree tree from to) m.name shown.seen
        (λ q rest whole some. moved_kept q (front_beside to outside q rest whole) (front_beside from beside q rest whole) some)
        (moved_kept m.name outside beside some_node)

    node_moved : IsMovedOrNot root from to a (seen a) (seen b) → node_at (seen b) (child root m.name) ≡ node_at (seen a) (child root m.name)
    node_moved moved = ⊎_elim (λ same. same (child root m.name) (not_made to))
        (λ goes. goes (child root m.name) (not_made to) ∙ beside_moves (child root from) (child root to) (seen a) (child root m.name)
        (path_beside_of root to m.name outside) (path_beside_of root from m.name beside)) moved.each

    pub through_rename : IsMovedOrNot root from to a (seen a) (seen b) → HasTree formats root (seen b) (renamed_tree tree from to) → IsMailboxAt formats root view (seen b) (renamed_tree tree from to) m
    through_rename moved has = through_node (node_moved moved) (renamed_tree tree from to) has seen_moved

-- ---- By the refusal that isn't due

none_got : (o : Option TreeNode) → is_some o ≡ false → o ≡ None
none_got None none = refl
none_got (Some n) none = absurd (false≢true (sym none))

or_false : (x y : Bool) → (x || y) ≡ false → (x ≡ false) × (y ≡ false)
or_false true y e = absurd (false≢true (sym e))
or_false false y e = (refl, e)

pub free_dir : (tree : Tree) (name : List ℕ) → due_create_dir tree name ≡ None → get tree.nodes name ≡ None
free_dir tree name due = none_got (get tree.nodes name) (or_false (is_blocked tree.nodes name) (is_some (get tree.nodes name)) (no_fault (is_blocked tree.nodes name || is_some (get tree.nodes name)) There None due).0).1

pub free_file : (tree : Tree) (name : List ℕ) (driver : Driver) → is_directory_driver driver ≡ false → due_create tree name driver ≡ None → get tree.nodes name ≡ None
free_file tree name driver one due = free_dir tree name (sym (same_due tree name driver one) ∙ due)

-- the deleted name isn't the selected one, and nothing else refuses
pub record IsDoomed (tree : Tree) (name : List ℕ) (selected : Option (List ℕ)) : Type 0 where
  pub other : same_name selected name ≡ false
  pub due : delete_refusal tree.nodes name (seen_node tree.nodes name) ≡ None

pub is_doomed : (tree : Tree) (name : List ℕ) (selected : Option (List ℕ)) → due_delete tree name selected ≡ None → IsDoomed tree name selected
is_doomed tree name selected due =
    let rest = (no_fault (bytes_eq name inbox) Reserved (cond (same_name selected name) (Some Selected) (delete_refusal tree.nodes name (seen_node tree.nodes name))) due).1 in
    let last = no_fault (same_name selected name) Selected (delete_refusal tree.nodes name (seen_node tree.nodes name)) rest in
    record { other = last.0; due = last.1 }

pub other_selected : (selected name : List ℕ) → same_name (Some selected) name ≡ false → selected ≢ name
other_selected selected name other same = not_both (bytes_eq selected name) ((bytes_eq-Decides selected name).1 same) other

-- the selected name isn't under the one that moves, and the new name is free and apart
pub record IsMovable (tree : Tree) (from to : List ℕ) (selected : Option (List ℕ)) : Type 0 where
  pub beside : is_selected_below selected from ≡ false
  pub free : get tree.nodes to ≡ None
  pub apart : Apart from to

pub is_movable : (tree : Tree) (from to : List ℕ) (selected : Option (List ℕ)) → due_rename tree from to selected ≡ None → IsMovable tree from to selected
is_movable tree from to selected due = record { beside = second.0; free = free; apart = (from_apart, to_apart) }
  where
    taken : Option TreeFault
    taken = cond ((is_some (get tree.nodes to) || is_blocked tree.nodes to) || is_inside from to) (Some There) None

    second : (is_selected_below selected from ≡ false) × (cond (is_none (seen_node tree.nodes from)) (Some Absent) taken ≡ None)
    second = no_fault (is_selected_below selected from) Selected (cond (is_none (seen_node tree.nodes from)) (Some Absent) taken)
        (no_fault (bytes_eq from inbox) Reserved (cond (is_selected_below selected from) (Some Selected) (cond (is_none (seen_node tree.nodes from)) (Some Absent) taken)) due).1

    third : (is_none (seen_node tree.nodes from) ≡ false) × (taken ≡ None)
    third = no_fault (is_none (seen_node tree.nodes from)) Absent taken second.1

    tests : ((is_some (get tree.nodes to) || is_blocked tree.nodes to) ≡ false) × (is_inside from to ≡ false)
    tests = or_false (is_some (get tree.nodes to) || is_blocked tree.nodes to) (is_inside from to) (no_fault ((is_some (get tree.nodes to) || is_blocked tree.nodes to) || is_inside from to) There None third.1).0

    free : get tree.nodes to ≡ None
    free = none_got (get tree.nodes to) (or_false (is_some (get tree.nodes to)) (is_blocked tree.nodes to) tests.0).0

    seen_from : (sees tree.nodes from ≡ true) × (is_some (get tree.nodes from) ≡ true)
    seen_from = at (sees tree.nodes from) (get tree.nodes from) third.0
      where
        at : (b : Bool) (o : Option TreeNode) → is_none (cond b o None) ≡ false → (b ≡ true) × (is_some o ≡ true)
        at true (Some n) e = (refl, refl)
        at true None e = absurd (false≢true (sym e))
        at false o e = absurd (false≢true (sym e))

    other : from ≢ to
    other same = false≢true (sym (ap is_some free) ∙ ap (λ z. is_some (get tree.nodes z)) (sym same) ∙ seen_from.1)

    from_apart : is_at_or_inside from to ≡ false
    from_apart = false_from_ne_true (is_at_or_inside from to) (λ is.
        let u = under_is from to is in
        ⊎_elim (λ none. other (sym (u.whole ∙ ap (λ r. from ++ r) none ∙ append-nil from)))
        (λ more. not_both (is_inside from to) (ap (is_inside from) (u.whole ∙ ap (λ r. from ++ r) more.1) ∙ child_inside from more.0) tests.1) u.slash)

    to_apart : is_at_or_inside to from ≡ false
    to_apart = false_from_ne_true (is_at_or_inside to from) (λ is.
        let u = under_is to from is in
        ⊎_elim (λ none. other (u.whole ∙ ap (λ r. to ++ r) none ∙ append-nil to))
        (λ more. false≢true (sym (ap is_plain free) ∙ sees_front tree.nodes from to more.0 seen_from.0 (u.whole ∙ ap (λ r. to ++ r) more.1))) u.slash)

-- a selected name that isn't below a name isn't under it
pub not_under : (selected name : List ℕ) → is_selected_below (Some selected) name ≡ false → is_at_or_inside name selected ≡ false
not_under selected name none = false_from_ne_true (is_at_or_inside name selected) (λ is.
    let u = under_is name selected is in
    let parts = or_false (bytes_eq selected name) (is_inside name selected) none in
    ⊎_elim (λ same. not_both (bytes_eq selected name) ((bytes_eq-Decides selected name).1 (u.whole ∙ ap (λ r. name ++ r) same ∙ append-nil name)) parts.0)
    (λ more. not_both (is_inside name selected) (ap (is_inside name) (u.whole ∙ ap (λ r. name ++ r) more.1) ∙ child_inside name more.0) parts.1) u.slash)
