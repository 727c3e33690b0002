-- A plain directory is free just where nothing but leftover files stands in it.
use Rattle.std.proofs.Common.{◌≡◌, ⊎_elim, ℕ, ◌≤◌, zero, suc, List, [], ◌∷◌, length, Bool, true, false, not, ◌&&◌, ◌||◌, Option, Some, None, refl, sym, ◌∙◌, ap, subst, arith, length-append}
use Rattle.std.specs.Prelude.{Contains, codes, bytes_eq, is_some, is_none}
use Rattle.std.specs.List.{list_all, list_any}
use Rattle.std.specs.Ordering.{eq_by_cmp}
use Rattle.std.specs.FinMap.{get, keys, contains_key-keys}
use Rattle.std.proofs.lemmas.Bool.{false≢true, cases_Bool, and_parts, and_from}
use Rattle.std.proofs.lemmas.Cmp.{nat_list_cmp_total, eq_by_cmp_equiv}
use Rattle.std.proofs.lemmas.Map.Text.{is_eq-slice_cmp}
use Rattle.std.proofs.lemmas.Map.Views.{list_any-from_Contains, Contains-from_any}
use Rattle.std.proofs.lemmas.Slice.Eq.{bytes_eq-Decides}
use Rattle.file_model.specs.Images.{Image, Node, nothing, file, directory, node_at, is_directory, directory_test, path_cmp, names_in}
use Rattle.file_model.specs.Paths.{child, split_path, parent, is_inside, HasNoSlash}
use Rattle.file_model.specs.Reserved.{is_leftover}
use Rattle.file_model.proofs.Inside.{inside_is, child_inside}
use Rattle.file_model.proofs.NamesIn.{names_in_has}
use Rattle.file_model.proofs.Paths.{parent_child, plain_name}
use Rattle.mail_types.specs.declared.driver.Driver.TheVariants.{Mh, Mix}
use Rattle.store_trait.specs.Commits.{mark_of}
use Rattle.store_trait.specs.Meaning.{Stands}
use Rattle.any_store.specs.Choice.{Formats, has_file, mh_mark_of}
use Rattle.any_store.proofs.Lengths.{witness, none_passes}
use Rattle.mail_tree.specs.Deleting.{is_left_file, holds_left_files}
use Rattle.mail_tree.specs.Names.{is_part, is_path}
use Rattle.mail_tree.specs.Trees.{Meaning, Directory, TreeNode, unknown_file, file_mailbox, folder, Nodes, Tree, HasTree, HasOther, HasMeaning, IsNodeOf, is_free, has_inside, is_own_name, is_message, is_plain_directory}
use Rattle.mail_tree.proofs.Above.{split_at}
use Rattle.mail_tree.proofs.Below.{IsRooted, child_below, child_no_top}
use Rattle.mail_tree.proofs.LeftFiles.{all_by_any}
use Rattle.mail_tree.proofs.PathParts.{path_child, path_name, part_plain}
use Rattle.mail_tree.proofs.ReservedNames.{leftover_no_part}

-- ---- Lists

pub all_has : {X : Type 0} → (p : X → Bool) (xs : List X) (x : X) → list_all p xs ≡ true → Contains xs x → p x ≡ true
all_has p xs x all has = ⊎_elim (λ yes. yes) (λ no. absurd (none_passes (λ y. not (p y)) xs x (none (list_any (λ y. not (p y)) xs) (sym (all_by_any p xs) ∙ all)) has (ap not no))) (cases_Bool (p x))
  where
    none : (b : Bool) → not b ≡ true → b ≡ false
    none true e = absurd (false≢true e)
    none false e = refl

all_from : {X : Type 0} → (p : X → Bool) (xs : List X) → ((x : X) → Contains xs x → p x ≡ true) → list_all p xs ≡ true
all_from p xs each = ⊎_elim
    (λ some. let w = witness (λ y. not (p y)) xs some in absurd (false≢true (sym (ap not (each w.0 w.1)) ∙ w.2)))
    (λ none. all_by_any p xs ∙ ap not none) (cases_Bool (list_any (λ y. not (p y)) xs))

file_apart : (bytes : List ℕ) → file bytes ≡ nothing → ⊥
file_apart bytes h = cc

-- ---- Names and keys

pub standing : (image : Image) (dir name : List ℕ) → Contains (names_in image dir) name → HasNoSlash name × Stands (child dir name) image
standing image dir name among =
    let it = (names_in_has image dir name).0 among in
    (it.0, λ none. let e : None ≡ Some tt = sym (rw (none) refl) ∙ it.1 in absurd (cc))

pub is_standing : (image : Image) (dir name : List ℕ) → HasNoSlash name → Stands (child dir name) image → Contains (names_in image dir) name
is_standing image dir name plain stands = at (node_at image (child dir name)) refl
  where
    at : (n : Node) → node_at image (child dir name) ≡ n → Contains (names_in image dir) name
    at nothing here = absurd (stands here)
    at (file bytes) here = (names_in_has image dir name).1 (plain, rw (here) refl)
    at directory here = (names_in_has image dir name).1 (plain, rw (here) refl)

same_key : (x y : List ℕ) → eq_by_cmp path_cmp x y ≡ true → x ≡ y
same_key x y same = (bytes_eq-Decides x y).0 (sym (is_eq-slice_cmp x y) ∙ same)

pub key_in : (nodes : Nodes) (q : List ℕ) → is_some (get nodes q) ≡ true → Contains (keys nodes) q
key_in nodes q some = Contains-from_any same_key q (keys nodes) (sym (contains_key-keys nodes q) ∙ some)

in_key : (nodes : Nodes) (q : List ℕ) → Contains (keys nodes) q → is_some (get nodes q) ≡ true
in_key nodes q among = contains_key-keys nodes q ∙ list_any-from_Contains (eq_by_cmp_equiv nat_list_cmp_total) q (keys nodes) among

-- ---- What stands in a directory

-- the first of the parts that lead to what stands below it
record FirstPart (dir : List ℕ) (image : Image) : Type 0 where
  name : List ℕ
  is : is_part name ≡ true
  stands : Stands (child dir name) image

no_rest : (rest : List ℕ) → length rest ≤ 0 → is_path rest ≡ true → ⊥
unfolding is_path
no_rest [] short is = cc
no_rest (x ∷ rest) short is = omega (arith, short)

first_part : (image : Image) → IsRooted image → (root m rest : List ℕ) (most : ℕ) → length rest ≤ most → is_path rest ≡ true → Stands (child (child root m) rest) image → FirstPart (child root m) image
first_part image rooted root m rest zero short is stands = absurd (no_rest rest short is)
first_part image rooted root m rest (suc most) short is stands = at (split_path rest) refl (λ dir. first_part image rooted root m dir most)
  where
    at : (s : Option (List ℕ × List ℕ)) → split_path rest ≡ s → ((dir : List ℕ) → length dir ≤ most → is_path dir ≡ true → Stands (child (child root m) dir) image → FirstPart (child root m) image) → FirstPart (child root m) image
    at None e again = let plain = plain_name rest e in record { name = rest; is = sym (path_name rest plain) ∙ is; stands = stands }
    at (Some p) e again =
        let w = split_at rest p e in
        let below : child (child root m) rest ≡ child (child root (child m p.0)) p.1 =
        ap (child (child root m)) w.whole ∙ sym (child_below (child root m) p.0 p.1) ∙ ap (λ d. child d p.1) (child_below root m p.0) in
        let there = rooted.above (child (child root (child m p.0)) p.1) (subst (λ q. Stands q image) below stands) (child_no_top root (child m p.0) p.1 w.plain) in
        again p.0 (omega (arith, short, ap length w.whole, length-append p.0 (47 ∷ p.1)))
        (and_parts (is_path p.0) (is_path p.1) (sym (path_child p.0 p.1) ∙ ap is_path (sym w.whole) ∙ is)).0
        (λ none. false≢true (sym (ap directory_test none)
        ∙ ap (is_directory image) (child_below root m p.0 ∙ sym (parent_child (child root (child m p.0)) p.1 w.plain)) ∙ there))

module _ (formats : Formats) (root m : List ℕ) (is_m : is_path m ≡ true) (image : Image) (rooted : IsRooted image) (tree : Tree) (has : HasTree formats root image tree) (d : Directory)
    (node : IsNodeOf formats (child root m) image false (Some (folder d))) (plain : is_plain_directory d ≡ true) where
  abbrev place : List ℕ
  place = child root m

  -- neither mark stands
  no_mix : has_file image (mark_of place) ≡ false
  no_mix = at d.mix node.mix (and_parts (is_none d.mix) (is_none d.mh) plain).0
    where
      at : (o : Option Meaning) → HasMeaning formats Mix (mark_of place) place image o → is_none o ≡ true → has_file image (mark_of place) ≡ false
      at None has none = has
      at (Some meaning) has none = absurd (false≢true none)

  no_mh : has_file image (mh_mark_of place) ≡ false
  no_mh = at d.mh node.mh (and_parts (is_none d.mix) (is_none d.mh) plain).1
    where
      at : (o : Option Meaning) → HasMeaning formats Mh (mh_mark_of place) place image o → is_none o ≡ true → has_file image (mh_mark_of place) ≡ false
      at None has none = has
      at (Some meaning) has none = absurd (false≢true none)

  -- ---- Where only leftover files stand

  module _ (left : holds_left_files image place ≡ true) where
    is_left : (name : List ℕ) → HasNoSlash name → Stands (child place name) image → is_left_file image place name ≡ true
    is_left name no_slash stands = all_has (is_left_file image place) (names_in image place) name left (is_standing image place name no_slash stands)

    no_other : d.other ≡ false
    no_other = ⊎_elim (λ some. absurd (other (node.other.0 some))) (λ none. none) (cases_Bool d.other)
      where
        other : HasOther place image → ⊥
        other o =
            let is = and_parts (is_leftover o.name) (has_file image (child place o.name)) (is_left o.name o.plain o.stands) in
            false≢true (sym o.no_own ∙ ap (λ b. ((b || bytes_eq o.name (codes ".mixmeta")) || bytes_eq o.name (codes ".mh_sequences")) && has_file image (child place o.name)) is.0 ∙ is.1)

    none_inside : has_inside tree.nodes m ≡ false
    none_inside = ⊎_elim (λ some. absurd (inside (witness (is_inside m) (keys tree.nodes) some))) (λ none. none) (cases_Bool (has_inside tree.nodes m))
      where
        stands_there : (q : List ℕ) (o : Option TreeNode) → is_some o ≡ true → IsNodeOf formats (child root q) image (is_message root image q) o → Stands (child root q) image
        stands_there q None some is = absurd (false≢true some)
        stands_there q (Some unknown_file) some is = λ none. file_apart is.1.0 (sym is.1.1 ∙ none)
        stands_there q (Some (file_mailbox driver meaning)) some is = λ none. file_apart is.1.0 (sym is.1.1 ∙ none)
        stands_there q (Some (folder c)) some is = λ none. false≢true (sym (ap directory_test none) ∙ is.stands)

        inside : (q : List ℕ) × Contains (keys tree.nodes) q × (is_inside m q ≡ true) → ⊥
        inside w =
            let some = in_key tree.nodes w.0 w.1 in
            let at = inside_is m w.0 w.2 in
            let is_q : is_path w.0 ≡ true = ⊎_elim (λ yes. yes) (λ no. absurd (false≢true (sym (ap is_some (has.keys w.0 no)) ∙ some))) (cases_Bool (is_path w.0)) in
            let there = subst (λ p. Stands p image) (ap (child root) at.1 ∙ sym (child_below root m at.0)) (stands_there w.0 (get tree.nodes w.0) some (has.nodes w.0 is_q).is) in
            let first = first_part image rooted root m at.0 (length at.0) (omega arith) (and_parts (is_path m) (is_path at.0) (sym (path_child m at.0) ∙ ap is_path (sym at.1) ∙ is_q)).1 there in
            let left_one = and_parts (is_leftover first.name) (has_file image (child place first.name)) (is_left first.name (part_plain first.name first.is) first.stands) in
            false≢true (sym (leftover_no_part first.name left_one.0) ∙ first.is)

    pub left_free : is_free tree.nodes m d ≡ true
    left_free = and_from (is_plain_directory d && not d.other) (not (has_inside tree.nodes m)) (and_from (is_plain_directory d) (not d.other) plain (ap not no_other)) (ap not none_inside)

  -- ---- Where the directory is free

  module _ (free : is_free tree.nodes m d ≡ true) where
    other_free : d.other ≡ false
    other_free = was d.other (and_parts (is_plain_directory d) (not d.other) (and_parts (is_plain_directory d && not d.other) (not (has_inside tree.nodes m)) free).0).1
      where
        was : (b : Bool) → not b ≡ true → b ≡ false
        was true e = absurd (false≢true e)
        was false e = refl

    inside_free : has_inside tree.nodes m ≡ false
    inside_free = was (has_inside tree.nodes m) (and_parts (is_plain_directory d && not d.other) (not (has_inside tree.nodes m)) free).1
      where
        was : (b : Bool) → not b ≡ true → b ≡ false
        was true e = absurd (false≢true e)
        was false e = refl

    -- a part of a name has a node
    no_part : (name : List ℕ) → HasNoSlash name → Stands (child place name) image → is_part name ≡ false
    no_part name no_slash stands = ⊎_elim (λ is. absurd (at (get tree.nodes (child m name)) refl (has.nodes (child m name) (is_q is)).is)) (λ no. no) (cases_Bool (is_part name))
      where
        is_q : is_part name ≡ true → is_path (child m name) ≡ true
        is_q is = path_child m name ∙ and_from (is_path m) (is_path name) is_m (path_name name no_slash ∙ is)

        message : is_message root image (child m name) ≡ true → ⊥
        message is = false≢true (sym no_mh ∙ ap (λ dir. has_file image (mh_mark_of (child root dir))) (sym (parent_child m name no_slash))
            ∙ (and_parts _ (has_file image (mh_mark_of (child root (parent (child m name))))) is).1)

        at : (o : Option TreeNode) → get tree.nodes (child m name) ≡ o → IsNodeOf formats (child root (child m name)) image (is_message root image (child m name)) o → ⊥
        at None here is = ⊎_elim (λ none. stands (ap (node_at image) (child_below root m name) ∙ none)) message is
        at (Some n) here is = none_passes (is_inside m) (keys tree.nodes) (child m name) inside_free (key_in tree.nodes (child m name) (ap is_some here)) (child_inside m name)

    pub free_left : holds_left_files image place ≡ true
    free_left = all_from (is_left_file image place) (names_in image place) (λ name among. let it = standing image place name among in own name it.0 it.1)
      where
        own : (name : List ℕ) → HasNoSlash name → Stands (child place name) image → is_left_file image place name ≡ true
        own name no_slash stands = ⊎_elim (λ yes. left_name name yes)
            (λ no. absurd (false≢true (sym other_free ∙ node.other.1 (record { name = name; plain = no_slash; no_part = no_part name no_slash stands; stands = stands; no_own = no }))))
            (cases_Bool (is_own_name name && has_file image (child place name)))
          where
            left_name : (name : List ℕ) → (is_own_name name && has_file image (child place name)) ≡ true → is_left_file image place name ≡ true
            left_name name is = which (is_leftover name) (bytes_eq name (codes ".mixmeta")) (bytes_eq name (codes ".mh_sequences")) refl refl refl (and_parts (is_own_name name) (has_file image (child place name)) is)
              where
                which : (left mix mh : Bool) → is_leftover name ≡ left → bytes_eq name (codes ".mixmeta") ≡ mix → bytes_eq name (codes ".mh_sequences") ≡ mh
                    → (is_own_name name ≡ true) × (has_file image (child place name) ≡ true) → is_left_file image place name ≡ true
                which true mix mh one two three both = and_from (is_leftover name) (has_file image (child place name)) one both.1
                which false true mh one two three both = absurd (false≢true (sym no_mix ∙ ap (λ n. has_file image (child place n)) (sym ((bytes_eq-Decides name (codes ".mixmeta")).0 two)) ∙ both.1))
                which false false true one two three both = absurd (false≢true (sym no_mh ∙ ap (λ n. has_file image (child place n)) (sym ((bytes_eq-Decides name (codes ".mh_sequences")).0 three)) ∙ both.1))
                which false false false one two three both = absurd (false≢true (sym (rw (one, two, three) refl) ∙ both.0))

  pub free_same : is_free tree.nodes m d ≡ holds_left_files image place
  free_same = ⊎_elim (λ left. left_free left ∙ sym left)
      (λ kept. ⊎_elim (λ free. absurd (false≢true (sym kept ∙ free_left free))) (λ not_free. not_free ∙ sym kept) (cases_Bool (is_free tree.nodes m d)))
      (cases_Bool (holds_left_files image place))
