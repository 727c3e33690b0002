-- Each image has a tree.
use Rattle.std.proofs.Common.{◌≡◌, ◌≢◌, ◌⊎◌, inl, inr, ℕ, suc, arith, List, [], ◌∷◌, ◌+◌, drop, length, map, not, Bool, true, false, cond, ◌&&◌, Option, Some, None, refl, sym, ◌∙◌, ap, subst}
use Rattle.std.specs.Prelude.{Contains, is_some}
use Rattle.std.specs.List.{list_any}
use Rattle.std.specs.Ordering.{eq_by_cmp}
use Rattle.std.specs.FinMap.{get, insert, empty, entries, get-empty, get-insert, get-entries}
use Rattle.std.specs.FinMap.Entries.{find}
use Rattle.std.proofs.lemmas.Bool.{false≢true, and_parts, and_from}
use Rattle.std.proofs.lemmas.Cmp.{nat_list_cmp_total}
use Rattle.file_model.specs.Images.{Entry, Image, Node, nothing, file, directory, node_of, node_at, is_directory, directory_test, text_at, path_cmp, names_in, bytes_of}
use Rattle.file_model.specs.Paths.{child}
use Rattle.file_model.specs.Reserved.{is_leftover}
use Rattle.file_model.proofs.Names.{cases_path, same_path, other_path}
use Rattle.file_model.proofs.NamesIn.{names_in_has}
use Rattle.mail_types.specs.declared.driver.Driver.{Driver}
use Rattle.mail_types.specs.declared.driver.Driver.TheVariants.{Mh, Mix}
use Rattle.store_trait.specs.Commits.{mark_of}
use Rattle.store_trait.specs.Forms.{grammar_of}
use Rattle.store_trait.specs.Laws.{IsReading}
use Rattle.store_trait.specs.Meaning.{Means}
use Rattle.store_trait.proofs.AllMean.{meaning_exists}
use Rattle.any_store.specs.Choice.{Formats, has_file, mh_mark_of}
use Rattle.any_store.proofs.Lengths.{large_decided, witness, none_passes}
use Rattle.mail_tree.specs.Names.{is_part, is_path}
use Rattle.mail_tree.specs.Subscriptions.{subscribed_in}
use Rattle.mail_tree.specs.Trees.{Meaning, Directory, TreeNode, unknown_file, file_mailbox, folder, Nodes, Tree, HasTree, HasOther, HasLeftover, HasMeaning, IsFolder, IsNodeOf, IsNodeAt, is_own_name, is_message, list_of}

-- something stands there
abbrev is_there : Node → Bool
is_there nothing = false
is_there (file bytes) = true
is_there directory = true

there_is : (node : Node) → (node ≡ nothing → ⊥) → is_there node ≡ true
there_is nothing some = absurd (some refl)
there_is (file bytes) some = refl
there_is directory some = refl

-- what stands behind a root and a slash
behind_root : (root q : List ℕ) → drop (length root + 1) (child root q) ≡ q
behind_root [] q = refl
behind_root (b ∷ root) q = ap (λ k. drop k (b ∷ child root q)) (more (length root)) ∙ behind_root root q
  where
    more : (n : ℕ) → suc n + 1 ≡ suc (n + 1)
    more n = omega arith

module _ (formats : Formats) (reads : (driver : Driver) → IsReading driver formats.forms) (image : Image) where
  -- ---- A node at each path

  meant : (driver : Driver) (path : List ℕ) → (meaning : Meaning) × Means (grammar_of formats.forms driver path) driver path image meaning
  meant driver path = meaning_exists formats.forms driver (reads driver) path image (large_decided driver image path)

  marked : (driver : Driver) (mark path : List ℕ) → (o : Option Meaning) × HasMeaning formats driver mark path image o
  marked driver mark path = step (has_file image mark) refl
    where
      step : (b : Bool) → has_file image mark ≡ b → (o : Option Meaning) × HasMeaning formats driver mark path image o
      step false here = (None, here)
      step true here = let m = meant driver path in (Some m.0, (here, m.1))

  -- a name that is no part of names and no file of a mailbox
  abbrev is_other_name : List ℕ → List ℕ → Bool
  is_other_name path name = (not (is_part name) && not (is_own_name name && has_file image (child path name))) && is_there (node_at image (child path name))

  no_of : (b : Bool) → not b ≡ true → b ≡ false
  no_of false is = refl
  no_of true is = absurd (false≢true is)

  of_no : (b : Bool) → b ≡ false → not b ≡ true
  of_no false is = refl
  of_no true is = absurd (false≢true (sym is))

  other_some : (path : List ℕ) → list_any (is_other_name path) (names_in image path) ≡ true → HasOther path image
  other_some path is =
      let w = witness (is_other_name path) (names_in image path) is in
      let named = (names_in_has image path w.0).0 w.1 in
      let own = is_own_name w.0 && has_file image (child path w.0) in
      let three = and_parts (not (is_part w.0) && not own) (is_there (node_at image (child path w.0))) w.2 in
      let both = and_parts (not (is_part w.0)) (not own) three.0 in
      record { name = w.0; plain = named.0; no_part = no_of (is_part w.0) both.0; stands = λ none. false≢true (sym (ap is_there none) ∙ three.1); no_own = no_of own both.1 }

  other_none : (path : List ℕ) → list_any (is_other_name path) (names_in image path) ≡ false → HasOther path image → ⊥
  other_none path none has = none_passes (is_other_name path) (names_in image path) has.name none (among (node_at image (child path has.name)) refl)
      (and_from (not (is_part has.name) && not (is_own_name has.name && has_file image (child path has.name))) (is_there (node_at image (child path has.name)))
      (and_from (not (is_part has.name)) (not (is_own_name has.name && has_file image (child path has.name))) (of_no (is_part has.name) has.no_part) (of_no (is_own_name has.name && has_file image (child path has.name)) has.no_own))
      (there_is (node_at image (child path has.name)) has.stands))
    where
      among : (node : Node) → node_at image (child path has.name) ≡ node → Contains (names_in image path) has.name
      among nothing here = absurd (has.stands here)
      among (file bytes) here = (names_in_has image path has.name).1 (has.plain, rw (here) refl)
      among directory here = (names_in_has image path has.name).1 (has.plain, rw (here) refl)

  -- a leftover file, beside an mh mailbox that is opened
  abbrev is_left_file : List ℕ → List ℕ → Bool
  is_left_file path name = is_leftover name && has_file image (child path name)

  abbrev is_left_there : List ℕ → Bool
  is_left_there path = (not (has_file image (mark_of path)) && has_file image (mh_mark_of path)) && list_any (is_left_file path) (names_in image path)

  leftover_some : (path : List ℕ) → is_left_there path ≡ true → HasLeftover path image
  leftover_some path is =
      let all = and_parts (not (has_file image (mark_of path)) && has_file image (mh_mark_of path)) (list_any (is_left_file path) (names_in image path)) is in
      let marks = and_parts (not (has_file image (mark_of path))) (has_file image (mh_mark_of path)) all.0 in
      let w = witness (is_left_file path) (names_in image path) all.1 in
      let both = and_parts (is_leftover w.0) (has_file image (child path w.0)) w.2 in
      record { name = w.0; plain = ((names_in_has image path w.0).0 w.1).0; is_left = both.0; stands = both.1; no_mix = no_of (has_file image (mark_of path)) marks.0; mh = marks.1 }

  leftover_none : (path : List ℕ) → HasLeftover path image → list_any (is_left_file path) (names_in image path) ≡ false → ⊥
  leftover_none path has none = none_passes (is_left_file path) (names_in image path) has.name none (among (node_at image (child path has.name)) refl)
      (and_from (is_leftover has.name) (has_file image (child path has.name)) has.is_left has.stands)
    where
      among : (node : Node) → node_at image (child path has.name) ≡ node → Contains (names_in image path) has.name
      among nothing here = absurd (false≢true (sym (ap (λ n. is_some (bytes_of n)) here) ∙ has.stands))
      among (file bytes) here = (names_in_has image path has.name).1 (has.plain, rw (here) refl)
      among directory here = (names_in_has image path has.name).1 (has.plain, rw (here) refl)

  leftover_is : (path : List ℕ) → HasLeftover path image → is_left_there path ≡ true
  leftover_is path has =
      and_from (not (has_file image (mark_of path)) && has_file image (mh_mark_of path)) (list_any (is_left_file path) (names_in image path))
      (and_from (not (has_file image (mark_of path))) (has_file image (mh_mark_of path)) (of_no (has_file image (mark_of path)) has.no_mix) has.mh)
      (not_none (list_any (is_left_file path) (names_in image path)) refl)
    where
      not_none : (b : Bool) → list_any (is_left_file path) (names_in image path) ≡ b → list_any (is_left_file path) (names_in image path) ≡ true
      not_none true is = is
      not_none false is = absurd (leftover_none path has is)

  folder_is : (path : List ℕ) → is_directory image path ≡ true → (d : Directory) × IsFolder formats path image d
  folder_is path stands =
      let mix = marked Mix (mark_of path) path in
      let mh = marked Mh (mh_mark_of path) path in (
        record { mix = mix.0; mh = mh.0; other = list_any (is_other_name path) (names_in image path); leftover = is_left_there path },
        record { stands = stands; mix = mix.1; mh = mh.1; other = ((λ so. other_some path so), (λ has. other_is path has (list_any (is_other_name path) (names_in image path)) refl)); leftover = ((λ so. leftover_some path so), (λ has. leftover_is path has)) },
      )
    where
      other_is : (path : List ℕ) → HasOther path image → (b : Bool) → list_any (is_other_name path) (names_in image path) ≡ b → list_any (is_other_name path) (names_in image path) ≡ true
      other_is path has true is = is
      other_is path has false is = absurd (other_none path is has)

  node_is : (path : List ℕ) (message : Bool) → (o : Option TreeNode) × IsNodeOf formats path image message o
  node_is path message = step (node_at image path) refl message
    where
      by_driver : (bytes : List ℕ) → node_at image path ≡ file bytes → (found : Option Driver) → formats.chosen bytes ≡ found → (o : Option TreeNode) × IsNodeOf formats path image false o
      by_driver bytes here None is = (Some unknown_file, (refl, (bytes, here, is)))
      by_driver bytes here (Some d) is = let m = meant d path in (Some (file_mailbox d m.0), (refl, (bytes, here, is), m.1))

      step : (node : Node) → node_at image path ≡ node → (message : Bool) → (o : Option TreeNode) × IsNodeOf formats path image message o
      step nothing here message = (None, inl here)
      step (file bytes) here true = (None, inr refl)
      step (file bytes) here false = by_driver bytes here (formats.chosen bytes) refl
      step directory here message = let f = folder_is path (ap directory_test here) in (Some (folder f.0), f.1)

  -- ---- The map of all nodes

  module _ (root : List ℕ) where
    abbrev node_below : List ℕ → Option TreeNode
    node_below path = cond (is_path path) (node_is (child root path) (is_message root image path)).0 None

    -- with the node of one more path
    abbrev put : List ℕ → Option TreeNode → Nodes → Nodes
    put path None nodes = nodes
    put path (Some node) nodes = insert nodes path node

    abbrev built : List (List ℕ) → Nodes
    built [] = empty
    built (path ∷ rest) = put path (node_below path) (built rest)

    -- at each path it has the node of the path, or nothing where the path is none of these
    abbrev IsBuilt : List (List ℕ) → List ℕ → Type 0
    IsBuilt paths q = (get (built paths) q ≡ node_below q) ⊎ ((get (built paths) q ≡ None) × (list_any (eq_by_cmp path_cmp q) paths ≡ false))

    built_is : (paths : List (List ℕ)) (q : List ℕ) → IsBuilt paths q
    built_is [] q = inr (get-empty path_cmp q, refl)
    built_is (p ∷ rest) q = at (node_below p) refl (cases_path q p) (built_is rest q)
      where
        at : (o : Option TreeNode) → node_below p ≡ o → (q ≡ p) ⊎ (q ≢ p) → IsBuilt rest q → IsBuilt (p ∷ rest) q
        at (Some node) here (inl same) later = inl (ap (λ o. get (put p o (built rest)) q) here ∙ get-insert nat_list_cmp_total (built rest) p node q
            ∙ ap (λ b. cond b (Some node) (get (built rest) q)) (ap (λ z. eq_by_cmp path_cmp z p) same ∙ same_path p) ∙ sym here ∙ ap node_below (sym same))
        at None here (inl same) (inl later) = inl (ap (λ o. get (put p o (built rest)) q) here ∙ later)
        at None here (inl same) (inr later) = inl (ap (λ o. get (put p o (built rest)) q) here ∙ later.0 ∙ sym here ∙ ap node_below (sym same))
        at (Some node) here (inr apart) (inl later) = inl (ap (λ o. get (put p o (built rest)) q) here ∙ get-insert nat_list_cmp_total (built rest) p node q
            ∙ ap (λ b. cond b (Some node) (get (built rest) q)) (other_path p q apart) ∙ later)
        at (Some node) here (inr apart) (inr later) = inr (
          ap (λ o. get (put p o (built rest)) q) here ∙ get-insert nat_list_cmp_total (built rest) p node q
              ∙ ap (λ b. cond b (Some node) (get (built rest) q)) (other_path p q apart) ∙ later.0,
          rw (other_path p q apart) later.1,
        )
        at None here (inr apart) (inl later) = inl (ap (λ o. get (put p o (built rest)) q) here ∙ later)
        at None here (inr apart) (inr later) = inr (ap (λ o. get (put p o (built rest)) q) here ∙ later.0, rw (other_path p q apart) later.1)

    -- the path below the root, of a path that stands there
    abbrev below : List ℕ × Entry → List ℕ
    below entry = drop (length root + 1) entry.0

    below_child : (q : List ℕ) → drop (length root + 1) (child root q) ≡ q
    below_child q = behind_root root q

    -- what isn't among them stands nowhere
    absent : (es : List (List ℕ × Entry)) (q : List ℕ) → list_any (eq_by_cmp path_cmp q) (map below es) ≡ false → find path_cmp (child root q) es ≡ None
    absent [] q none = refl
    absent (e ∷ es) q none = at (cases_path (child root q) e.0) (cases_path q (below e)) (λ rest. absent es q rest)
      where
        at : (child root q ≡ e.0) ⊎ (child root q ≢ e.0) → (q ≡ below e) ⊎ (q ≢ below e) → (list_any (eq_by_cmp path_cmp q) (map below es) ≡ false → find path_cmp (child root q) es ≡ None) → find path_cmp (child root q) (e ∷ es) ≡ None
        at first (inl same) later = absurd (false≢true (sym none ∙ rw (ap (λ z. eq_by_cmp path_cmp z (below e)) same ∙ same_path (below e)) refl))
        at (inl whole) (inr apart) later = absurd (apart (sym (below_child q) ∙ ap (drop (length root + 1)) whole))
        at (inr other) (inr apart) later = rw (other_path e.0 (child root q) other) (later (sym (rw (other_path (below e) q apart) refl) ∙ none))

    abbrev all_paths : List (List ℕ)
    all_paths = map below (entries image.names)

    node_found : (path : List ℕ) → is_path path ≡ true → IsBuilt all_paths path → IsNodeAt formats root image path (get (built all_paths) path)
    node_found path is (inl same) = record {
      is = subst (IsNodeOf formats (child root path) image (is_message root image path)) (sym (same ∙ ap (λ b. cond b (node_is (child root path) (is_message root image path)).0 None) is)) (node_is (child root path) (is_message root image path)).1;
    }
    node_found path is (inr none) = record {
      is = subst (IsNodeOf formats (child root path) image (is_message root image path)) (sym none.0)
          (inl (ap (node_of image.bytes) (get-entries image.names (child root path) ∙ absent (entries image.names) path none.1)));
    }

    no_node : (path : List ℕ) → is_path path ≡ false → IsBuilt all_paths path → get (built all_paths) path ≡ None
    no_node path is (inl same) = same ∙ ap (λ b. cond b (node_is (child root path) (is_message root image path)).0 None) is
    no_node path is (inr none) = none.0

    -- Each image has a tree below each root.
    pub has_tree : (tree : Tree) × HasTree formats root image tree
    has_tree = (
      record { nodes = built all_paths; subscribed = subscribed_in (text_at image (list_of root)) },
      record {
        nodes = λ path is. node_found path is (built_is all_paths path);
        keys = λ path is. no_node path is (built_is all_paths path);
        subscribed = refl;
      },
    )
