-- What a walk has found is what LIST gives by the tree.
use Rattle.std.proofs.Common.{◌≡◌, ℕ, List, [], ◌∷◌, ◌++◌, map, length, Bool, true, false, cond, ◌&&◌, ◌==◌, Option, Some, None, refl, sym, ◌∙◌, ap, subst, T}
use Rattle.std.specs.Prelude.{is_some}
use Rattle.std.specs.List.{filter_map, cons_option}
use Rattle.std.specs.FinMap.{entries, get, empty, entries_sorted, get-entries, get-empty, slice_cmp-IsAntisymmetric, nat_cmp-IsAntisymmetric}
use Rattle.std.specs.FinMap.Entries.{find, is_sorted, below_all, where_key, is_sorted-where_key, find-where_key, same_entries}
use Rattle.std.specs.Ordering.{eq_by_cmp, is_lt}
use Rattle.std.proofs.lemmas.Cmp.{nat_list_cmp_total}
use Rattle.std.proofs.lemmas.Map.Lookups.{exact_bytes}
use Rattle.file_model.specs.Disk.{seen}
use Rattle.file_model.specs.Histories.{History, Now}
use Rattle.file_model.specs.Images.{Image, path_cmp}
use Rattle.file_model.specs.Kept.{IsSound}
use Rattle.file_model.proofs.Runs.{now_weaker, now_both}
use Rattle.file_model.specs.Paths.{child}
use Rattle.any_store.specs.Choice.{Formats}
use Rattle.mail_tree.specs.Listing.{ListedName, listed_node, listed, as_listed, fits_name}
use Rattle.mail_tree.specs.Names.{is_name, is_path, IsName}
use Rattle.mail_tree.specs.Sights.{stands_at, sees_at}
use Rattle.mail_tree.specs.Trees.{TreeNode, Tree, HasTree, is_plain, sees}
use Rattle.mail_tree.specs.Walks.{is_listed, is_plain_at, WalkedAll}
use Rattle.mail_tree.proofs.Below.{IsRooted, rooted_seen}
use Rattle.mail_tree.proofs.Creating.{name_path}
use Rattle.mail_tree.proofs.Parents.{node_stands}
use Rattle.mail_tree.proofs.Sighted.{sees_same, sees_free, plain_seen}
use Rattle.mail_tree.proofs.Walking.{name_is}
use Rattle.mail_tree.proofs.Found.{entries_empty}

-- ---- Entries with what LIST says of them

split_and : (a b : Bool) → T (a && b) → T a × T b
split_and true b h = (tt, h)
split_and false b h = absurd h

join_and : (a b : Bool) → T a → T b → T (a && b)
join_and true b p q = q
join_and false b p q = p

abbrev plains : List (List ℕ × TreeNode) → List (List ℕ × Bool)
plains es = map (λ (e : List ℕ × TreeNode). (e.0, is_plain (Some e.1))) es

below_plains : (k : List ℕ) (es : List (List ℕ × TreeNode)) → T (below_all path_cmp k es) → T (below_all path_cmp k (plains es))
below_plains k [] h = tt
below_plains k (e ∷ es) h = let p = split_and (is_lt (path_cmp k e.0)) (below_all path_cmp k es) h in join_and (is_lt (path_cmp k e.0)) (below_all path_cmp k (plains es)) p.0 (below_plains k es p.1)

sorted_plains : (es : List (List ℕ × TreeNode)) → T (is_sorted path_cmp es) → T (is_sorted path_cmp (plains es))
sorted_plains [] h = tt
sorted_plains (e ∷ es) h = let p = split_and (below_all path_cmp e.0 es) (is_sorted path_cmp es) h in join_and (below_all path_cmp e.0 (plains es)) (is_sorted path_cmp (plains es)) (below_plains e.0 es p.0) (sorted_plains es p.1)

abbrev plain_of : Option TreeNode → Option Bool
plain_of None = None
plain_of (Some n) = Some (is_plain (Some n))

find_plains : (q : List ℕ) (es : List (List ℕ × TreeNode)) → find path_cmp q (plains es) ≡ plain_of (find path_cmp q es)
find_plains q [] = refl
find_plains q (e ∷ es) = at (eq_by_cmp path_cmp q e.0) (find_plains q es)
  where
    at : (b : Bool) → find path_cmp q (plains es) ≡ plain_of (find path_cmp q es) → cond b (Some (is_plain (Some e.1))) (find path_cmp q (plains es)) ≡ plain_of (cond b (Some e.1) (find path_cmp q es))
    at true rest = refl
    at false rest = rest

module _ (formats : Formats) (root pattern : List ℕ) (image : Image) (rooted : IsRooted image) (tree : Tree) (has : HasTree formats root image tree) where
  -- a name of the tree is listed
  abbrev passes : List ℕ → Bool
  passes name = is_name name && sees tree.nodes name && fits_name pattern name

  listed_entries : (es : List (List ℕ × TreeNode)) → filter_map (listed_node tree.nodes pattern) es ≡ as_listed (plains (where_key path_cmp passes es))
  listed_entries [] = refl
  listed_entries (e ∷ es) = at (passes e.0) (listed_entries es)
    where
      at : (b : Bool) → filter_map (listed_node tree.nodes pattern) es ≡ as_listed (plains (where_key path_cmp passes es))
          → cons_option (cond b (Some (record { name = e.0; directory = is_plain (Some e.1) })) None) (filter_map (listed_node tree.nodes pattern) es) ≡ as_listed (plains (cond b (e ∷ where_key path_cmp passes es) (where_key path_cmp passes es)))
      at true rest = ap (λ l. record { name = e.0; directory = is_plain (Some e.1) } ∷ l) rest
      at false rest = rest

  -- what the image says of a name is what the tree says
  said : (name : List ℕ) → cond (is_listed root pattern image name) (Some (is_plain_at image (child root name))) None ≡ cond (passes name) (plain_of (get tree.nodes name)) None
  said name = at (is_name name) refl
    where
      seen_node : is_path name ≡ true → (o : Option TreeNode) → get tree.nodes name ≡ o → is_some o ≡ stands_at image (child root name)
          → (fits : Bool) → cond (stands_at image (child root name) && fits) (Some (is_plain_at image (child root name))) None ≡ cond fits (plain_of o) None
      seen_node is None e some fits = ap (λ b. cond (b && fits) (Some (is_plain_at image (child root name))) None) (sym some) ∙ neither fits
        where
          neither : (b : Bool) → ◌≡◌ {A = Option Bool} None (cond b None None)
          neither true = refl
          neither false = refl
      seen_node is (Some n) e some fits =
          ap (λ b. cond (b && fits) (Some (is_plain_at image (child root name))) None) (sym some)
          ∙ ap (λ p. cond fits (Some p) None) (sym (plain_seen formats root image name (get tree.nodes name) (has.nodes name is)) ∙ ap is_plain e)

      seen : IsName name → (b : Bool) → sees_at root image name ≡ b
          → cond ((b && stands_at image (child root name)) && fits_name pattern name) (Some (is_plain_at image (child root name))) None ≡ cond (b && fits_name pattern name) (plain_of (get tree.nodes name)) None
      seen named false e = refl
      seen named true e =
          let is = name_path name named in
          seen_node is (get tree.nodes name) refl (node_stands formats root name is image rooted tree has (sees_free tree.nodes name (sees_same formats root image tree has name is ∙ e))) (fits_name pattern name)

      at : (b : Bool) → is_name name ≡ b → cond (is_listed root pattern image name) (Some (is_plain_at image (child root name))) None ≡ cond (passes name) (plain_of (get tree.nodes name)) None
      at false e =
          ap (λ b. cond (b && sees_at root image name && stands_at image (child root name) && fits_name pattern name) (Some (is_plain_at image (child root name))) None) e
          ∙ sym (ap (λ b. cond (b && sees tree.nodes name && fits_name pattern name) (plain_of (get tree.nodes name)) None) e)
      at true e =
          let named = name_is name e in
          ap (λ b. cond (b && sees_at root image name && stands_at image (child root name) && fits_name pattern name) (Some (is_plain_at image (child root name))) None) e
          ∙ seen named (sees_at root image name) refl
          ∙ ap (λ b. cond (b && fits_name pattern name) (plain_of (get tree.nodes name)) None) (sym (sees_same formats root image tree has name (name_path name named)))
          ∙ sym (ap (λ b. cond (b && sees tree.nodes name && fits_name pattern name) (plain_of (get tree.nodes name)) None) e)

  pub found_listed : (found : List (List ℕ × Bool)) → WalkedAll root pattern image [] found → as_listed found ≡ filter_map (listed_node tree.nodes pattern) (entries tree.nodes)
  found_listed found walked =
      let n = walked.each empty entries_empty in
      ap as_listed (sym n.1 ∙ same_entries path_cmp nat_list_cmp_total (slice_cmp-IsAntisymmetric nat_cmp-IsAntisymmetric) (entries n.0) (plains (where_key path_cmp passes (entries tree.nodes)))
      (entries_sorted n.0) (sorted_plains (where_key path_cmp passes (entries tree.nodes)) (is_sorted-where_key path_cmp passes (entries tree.nodes) (entries_sorted tree.nodes)))
      (λ q. sym (get-entries n.0 q) ∙ n.2 q ∙ ap (λ g. cond (is_listed root pattern image q) (Some (is_plain_at image (child root q))) g) (get-empty path_cmp q) ∙ said q
      ∙ sym (find_plains q (where_key path_cmp passes (entries tree.nodes))
      ∙ ap plain_of (find-where_key path_cmp passes q (λ x tied. ap passes (sym (exact_bytes q x tied))) (entries tree.nodes) ∙ ap (λ o. cond (passes q) o None) (sym (get-entries tree.nodes q)))
      ∙ pushed (passes q) (get tree.nodes q))))
      ∙ sym (listed_entries (entries tree.nodes))
    where
      pushed : (b : Bool) (o : Option TreeNode) → plain_of (cond b o None) ≡ cond b (plain_of o) None
      pushed true o = refl
      pushed false o = refl

-- ---- On histories

pub lists_found : (formats : Formats) (root reference pattern whole : List ℕ) (texts : List ListedName) (before found : List (List ℕ × Bool)) → whole ≡ reference ++ pattern → (length pattern == 0) ≡ false → texts ≡ as_listed found → before ≡ []
    → (old : History) → Now old (λ w. WalkedAll root whole (seen w.disk) before found) → Now old (λ w. IsSound w.disk) → Now old (λ w. (tree : Tree) → HasTree formats root (seen w.disk) tree → texts ≡ listed tree reference pattern)
lists_found formats root reference pattern whole texts before found is some texts_are none old walked sound =
    now_weaker (λ w. WalkedAll root whole (seen w.disk) before found × IsSound w.disk) (λ w. (tree : Tree) → HasTree formats root (seen w.disk) tree → texts ≡ listed tree reference pattern)
    (λ w both tree has.
    texts_are ∙ found_listed formats root whole (seen w.disk) (rooted_seen w.disk both.1) tree has found (subst (λ es. WalkedAll root whole (seen w.disk) es found) none both.0)
    ∙ ap (λ p. filter_map (listed_node tree.nodes p) (entries tree.nodes)) is
    ∙ ap (λ b. cond b [] (filter_map (listed_node tree.nodes (reference ++ pattern)) (entries tree.nodes))) (sym some)) old
    (now_both (λ w. WalkedAll root whole (seen w.disk) before found) (λ w. IsSound w.disk) old walked sound)
