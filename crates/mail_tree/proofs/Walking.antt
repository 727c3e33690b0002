-- What a walk has found, put together from its parts.
use Rattle.std.proofs.Common.{◌≡◌, ◌≢◌, ◌⊎◌, inl, inr, ⊎_elim, ℕ, zero, suc, ◌+◌, ◌<◌, ◌≤◌, ◌==◌, ◌-◌, List, [], ◌∷◌, ◌++◌, map, take, drop, length, get_or, Bool, true, false, cond, not, ◌&&◌, ◌||◌, Option, Some, None, refl, sym, ◌∙◌, ap, subst, arith, append_assoc, append-nil, length-append, length-drop}
use Rattle.std.specs.Prelude.{bytes_eq, Contains}
use Rattle.std.specs.List.{list_all, list_any}
use Rattle.std.specs.FinMap.{FinMap, entries, get, insert, get-insert}
use Rattle.std.proofs.lemmas.Cmp.{nat_list_cmp_total}
use Rattle.std.specs.List.Sorted.{IsPermutation}
use Rattle.std.proofs.lemmas.Bool.{and_parts, and_from, or_left, or_right, false_from_ne_true, false≢true}
use Rattle.std.proofs.lemmas.List.Sorted.{Contains-permutation, IsPermutation-sym}
use Rattle.std.proofs.lemmas.List.{take_all, take_more, map-append}
use Rattle.std.proofs.Math.Seq.{drop-append-add}
use Rattle.std.proofs.lemmas.Slice.Eq.{bytes_eq-Decides}
use Rattle.file_model.specs.Disk.{seen}
use Rattle.file_model.specs.Histories.{History, Now}
use Rattle.file_model.proofs.Runs.{now_all, now_weaker, now_both}
use Rattle.file_model.specs.Images.{Image, Node, nothing, file, directory, node_at, path_cmp, names_in, is_directory, directory_test}
use Rattle.file_model.specs.Paths.{child, is_inside, is_at_or_inside, HasNoSlash}
use Rattle.file_model.proofs.Inside.{under_is, under_test, inside_is, child_inside, not_both}
use Rattle.file_model.proofs.Names.{cases_path, same_path, other_path}
use Rattle.file_model.proofs.NamesIn.{names_in_has}
use Rattle.mail_tree.specs.declared.sight.Sight.{Sight}
use Rattle.mail_tree.specs.declared.sight.Sight.TheVariants.{Plain, Other}
use Rattle.mail_tree.specs.Listing.{fits_name}
use Rattle.mail_tree.specs.Names.{is_name, may_be_name, with_inbox, read_name, IsName}
use Rattle.mail_tree.specs.Sights.{is_standing, stands_at, sight_of, sight_at, is_plain_sight, sees_at}
use Rattle.mail_tree.specs.Walks.{leads, may_lead, name_as, is_something, is_listed, is_plain_at, Walked, covers_names, IsBelowRoot, IsWithin, IsOpen, IsPassed, AreNames}
use Rattle.any_store.specs.Choice.{directory_driver}
use Rattle.mail_tree.proofs.Above.{sees_above}
use Rattle.mail_tree.proofs.Below.{one_below, child_below}
use Rattle.mail_tree.proofs.Found.{front_name}
use Rattle.mail_tree.proofs.Leading.{not_led}
use Rattle.mail_tree.proofs.PathParts.{prefixes_name}
use Rattle.mail_tree.proofs.RenamedTree.{all_holds}

-- ---- Names

pub name_is : (name : List ℕ) → is_name name ≡ true → IsName name
name_is name is = let p = and_parts (may_be_name name) (bytes_eq (with_inbox name) name) is in record { may_be = p.0; written = (bytes_eq-Decides (with_inbox name) name).0 p.1 }

pub is_name_of : (name : List ℕ) → IsName name → is_name name ≡ true
is_name_of name is = and_from (may_be_name name) (bytes_eq (with_inbox name) name) is.may_be ((bytes_eq-Decides (with_inbox name) name).1 is.written)

-- what reads as a name, and as it stands
pub read_as : (text name : List ℕ) → read_name text ≡ Some name → bytes_eq name text ≡ true → Some name ≡ name_as text
read_as text name read same = at (may_be_name text) refl read
  where
    one : (x y : List ℕ) → Some x ≡ Some y → x ≡ y
    one x y e = cc

    at : (b : Bool) → may_be_name text ≡ b → cond b (Some (with_inbox text)) None ≡ Some name → Some name ≡ name_as text
    at false e h = absurd (cc)
    at true e h =
        let is = one (with_inbox text) name h in
        ap (λ n. Some n) ((bytes_eq-Decides name text).0 same)
        ∙ ap (λ b. cond b (Some text) None) (sym (and_from (may_be_name text) (bytes_eq (with_inbox text) text) e (ap (λ n. bytes_eq n text) is ∙ same)))

pub read_other : (text name : List ℕ) → read_name text ≡ Some name → bytes_eq name text ≡ false → None ≡ name_as text
read_other text name read other = at (may_be_name text) refl read
  where
    one : (x y : List ℕ) → Some x ≡ Some y → x ≡ y
    one x y e = cc

    at : (b : Bool) → may_be_name text ≡ b → cond b (Some (with_inbox text)) None ≡ Some name → None ≡ name_as text
    at false e h = absurd (cc)
    at true e h = ap (λ b. cond b (Some text) None) (sym (ap (λ b. b && bytes_eq (with_inbox text) text) e ∙ ap (λ n. bytes_eq n text) (one (with_inbox text) name h) ∙ other))

-- ---- What is listed

something_is : (image : Image) (path : List ℕ) → is_something (sight_at image path) ≡ stands_at image path
something_is image path = at (node_at image path)
  where
    tests : (t : Bool) → is_something (cond t Plain Other) ≡ true
    tests true = refl
    tests false = refl

    at : (n : Node) → is_something (sight_of (directory_driver image path) n) ≡ is_standing n
    at nothing = refl
    at (file bytes) = refl
    at directory = tests _

pub not_true : (b : Bool) → not b ≡ true → b ≡ false
not_true false h = refl
not_true true h = absurd (cc)

pub not_false : (b : Bool) → not b ≡ false → b ≡ true
not_false true h = refl
not_false false h = absurd (cc)

-- ---- Maps of names

get_same : (m : FinMap path_cmp Bool) (k : List ℕ) (v : Bool) → get (insert m k v) k ≡ Some v
get_same m k v = get-insert nat_list_cmp_total m k v k ∙ ap (λ b. cond b (Some v) (get m k)) (same_path k)

get_other : (m : FinMap path_cmp Bool) (k : List ℕ) (v : Bool) (q : List ℕ) → q ≢ k → get (insert m k v) q ≡ get m q
get_other m k v q apart = get-insert nat_list_cmp_total m k v q ∙ ap (λ b. cond b (Some v) (get m q)) (other_path k q apart)

twice : (one two is : Bool) (some rest : Option Bool) → cond (two && is) some (cond (one && is) some rest) ≡ cond ((one || two) && is) some rest
twice true true true some rest = refl
twice true true false some rest = refl
twice true false true some rest = refl
twice true false false some rest = refl
twice false true is some rest = refl
twice false false is some rest = refl

and_false : (b : Bool) → (b && false) ≡ false
and_false true = refl
and_false false = refl

-- ---- Walks

module _ (root pattern : List ℕ) (image : Image) where
  abbrev listed : List ℕ → Bool
  listed name = is_listed root pattern image name

  pub record ListedParts (name : List ℕ) : Type 0 where
    pub named : IsName name
    pub sees : sees_at root image name ≡ true
    pub stands : stands_at image (child root name) ≡ true
    pub fits : fits_name pattern name ≡ true

  pub listed_parts : (name : List ℕ) → is_listed root pattern image name ≡ true → ListedParts name
  listed_parts name is =
      let a = and_parts (is_name name && sees_at root image name && stands_at image (child root name)) (fits_name pattern name) is in
      let b = and_parts (is_name name && sees_at root image name) (stands_at image (child root name)) a.0 in
      let c = and_parts (is_name name) (sees_at root image name) b.0 in
      record { named = name_is name c.0; sees = c.1; stands = b.1; fits = a.1 }

  pub walked_none : (covers : List ℕ → Bool) (es : List (List ℕ × Bool)) → ((name : List ℕ) → covers (child root name) ≡ true → is_listed root pattern image name ≡ false) → Walked root pattern covers image es es
  walked_none covers es none = record {
    each = λ m same. (
      m,
      same,
      λ name. sym (ap (λ b. cond b (Some (is_plain_at image (child root name))) (get m name))
          (false_from_ne_true (covers (child root name) && is_listed root pattern image name) (λ h. let p = and_parts (covers (child root name)) (is_listed root pattern image name) h in not_both (is_listed root pattern image name) p.1 (none name p.0)))),
    );
  }

  pub walked_then : (one two : List ℕ → Bool) (a b c : List (List ℕ × Bool)) → Walked root pattern one image a b → Walked root pattern two image b c → Walked root pattern (λ q. one q || two q) image a c
  walked_then one two a b c first second = record {
    each = λ m same.
        let n = first.each m same in
        let o = second.each n.0 n.1 in (
          o.0,
          o.1,
          λ name. o.2 name
              ∙ ap (λ g. cond (two (child root name) && is_listed root pattern image name) (Some (is_plain_at image (child root name))) g) (n.2 name)
              ∙ twice (one (child root name)) (two (child root name)) (is_listed root pattern image name) (Some (is_plain_at image (child root name))) (get m name),
        );
  }

  pub walked_same : (one two : List ℕ → Bool) (a b : List (List ℕ × Bool)) → ((name : List ℕ) → is_listed root pattern image name ≡ true → one (child root name) ≡ two (child root name)) → Walked root pattern one image a b → Walked root pattern two image a b
  walked_same one two a b same walked = record {
    each = λ m is.
        let n = walked.each m is in
        (n.0, n.1, λ name. n.2 name ∙ ap (λ t. cond t (Some (is_plain_at image (child root name))) (get m name)) (at name (is_listed root pattern image name) refl));
  }
    where
      at : (name : List ℕ) (t : Bool) → is_listed root pattern image name ≡ t → (one (child root name) && is_listed root pattern image name) ≡ (two (child root name) && is_listed root pattern image name)
      at name true e = ap (λ b. b && is_listed root pattern image name) (same name e)
      at name false e = ap (λ t. one (child root name) && t) e ∙ and_false (one (child root name)) ∙ sym (ap (λ t. two (child root name) && t) e ∙ and_false (two (child root name)))

  -- ---- One path

  module _ (path name : List ℕ) (whole : path ≡ child root name) where
    at_path : (q : List ℕ) → bytes_eq path (child root q) ≡ true → q ≡ name
    at_path q same = one_below root q name (sym ((bytes_eq-Decides path (child root q)).0 same) ∙ whole)

    inside_path : (q : List ℕ) → is_inside path (child root q) ≡ true → (rest : List ℕ) × (q ≡ child name rest)
    inside_path q is =
        let w = inside_is path (child root q) is in
        (w.0, one_below root q (child name w.0) (w.1 ∙ ap (λ d. child d w.0) whole ∙ child_below root name w.0))

    unnamed : is_name name ≡ false → (q : List ℕ) → is_listed root pattern image q ≡ true → IsName q → (q ≡ name) ⊎ ((rest : List ℕ) × (q ≡ child name rest)) → ⊥
    unnamed fails q is named (inl same) = not_both (is_name name) (is_name_of name (subst IsName same named)) fails
    unnamed fails q is named (inr w) = not_both (is_name name) (is_name_of name (front_name name w.0 (subst IsName w.1 named))) fails

    -- nothing at it or in it is a name
    pub unnamed_walked : (es : List (List ℕ × Bool)) → is_name name ≡ false → Walked root pattern (bytes_eq path) image es es
    unnamed_walked es fails = walked_none (bytes_eq path) es (λ q same. false_from_ne_true (is_listed root pattern image q) (λ is. unnamed fails q is (listed_parts q is).named (inl (at_path q same))))

    pub unnamed_passed : is_name name ≡ false → IsPassed root pattern path image
    unnamed_passed fails = record { each = λ q inside. false_from_ne_true (is_listed root pattern image q) (λ is. unnamed fails q is (listed_parts q is).named (inr (inside_path q inside))) }

    -- no plain directory stands there
    pub other_passed : is_plain_at image path ≡ false → IsPassed root pattern path image
    other_passed fails = record {
      each = λ q inside. false_from_ne_true (is_listed root pattern image q) (λ is.
          let w = inside_path q inside in
          not_both (is_plain_at image path) (ap (is_plain_at image) whole ∙ all_holds (λ front. is_plain_sight (sight_at image (child root front))) q (listed_parts q is).sees name w.0 w.1) fails);
    }

    -- the pattern matches nothing in it
    pub unled_passed : leads pattern (name ++ 47 ∷ []) ≡ false → IsPassed root pattern path image
    unled_passed fails = record {
      each = λ q inside. false_from_ne_true (is_listed root pattern image q) (λ is.
          let w = inside_path q inside in
          not_both (fits_name pattern q) (listed_parts q is).fits (ap (fits_name pattern) w.1 ∙ not_led pattern name fails w.0));
    }

    -- what stands there was put, if it matches
    module _ (sight : Sight) (is : sight ≡ sight_at image path) (named : IsName name) (sees : sees_at root image name ≡ true) (before after : List (List ℕ × Bool))
        (put : (m : FinMap path_cmp Bool) → entries m ≡ before → after ≡ cond (is_something sight && fits_name pattern name) (entries (insert m name (is_plain_sight sight))) (entries m)) where
      listed_here : is_listed root pattern image name ≡ (is_something sight && fits_name pattern name)
      listed_here = (λ i. is_name_of name named i && sees i && (sym (something_is image (child root name)) ∙ sym (ap is_something (is ∙ ap (sight_at image) whole))) i && fits_name pattern name)

      walked_put : (t : Bool) → (is_something sight && fits_name pattern name) ≡ t → Walked root pattern (bytes_eq path) image before after
      walked_put true e = record {
        each = λ m same. (insert m name (is_plain_sight sight), sym (put m same ∙ ap (λ b. cond b (entries (insert m name (is_plain_sight sight))) (entries m)) e), λ q. ⊎_elim (here m q) (there m q) (cases_path q name));
      }
        where
          here : (m : FinMap path_cmp Bool) (q : List ℕ) → q ≡ name → get (insert m name (is_plain_sight sight)) q ≡ cond (bytes_eq path (child root q) && is_listed root pattern image q) (Some (is_plain_at image (child root q))) (get m q)
          here m q same =
              ap (get (insert m name (is_plain_sight sight))) same ∙ get_same m name (is_plain_sight sight)
              ∙ ap (λ s. Some (is_plain_sight s)) (is ∙ ap (sight_at image) (whole ∙ ap (child root) (sym same)))
              ∙ ap (λ b. cond b (Some (is_plain_at image (child root q))) (get m q))
              (sym (and_from (bytes_eq path (child root q)) (is_listed root pattern image q) ((bytes_eq-Decides path (child root q)).1 (whole ∙ ap (child root) (sym same))) (ap (is_listed root pattern image) same ∙ listed_here ∙ e)))

          there : (m : FinMap path_cmp Bool) (q : List ℕ) → (q ≡ name → ⊥) → get (insert m name (is_plain_sight sight)) q ≡ cond (bytes_eq path (child root q) && is_listed root pattern image q) (Some (is_plain_at image (child root q))) (get m q)
          there m q apart =
              get_other m name (is_plain_sight sight) q apart
              ∙ ap (λ b. cond (b && is_listed root pattern image q) (Some (is_plain_at image (child root q))) (get m q)) (sym (false_from_ne_true (bytes_eq path (child root q)) (λ same. apart (at_path q same))))
      walked_put false e = record {
        each = λ m same.
            let w = (walked_none (bytes_eq path) before (λ q same. ap (is_listed root pattern image) (at_path q same) ∙ listed_here ∙ e)).each m same in
            (w.0, w.1 ∙ sym same ∙ sym (put m same ∙ ap (λ b. cond b (entries (insert m name (is_plain_sight sight))) (entries m)) e), w.2);
      }

      pub path_walked : Walked root pattern (bytes_eq path) image before after
      path_walked = walked_put (is_something sight && fits_name pattern name) refl

  -- ---- What stands at a path, and in it

  pub walked_at : (path : List ℕ) (a b c : List (List ℕ × Bool)) → Walked root pattern (bytes_eq path) image a b → Walked root pattern (is_inside path) image b c → Walked root pattern (is_at_or_inside path) image a c
  walked_at path a b c one two = walked_then (bytes_eq path) (is_inside path) a b c one two

  pub passed_at : (path : List ℕ) (a b : List (List ℕ × Bool)) → Walked root pattern (bytes_eq path) image a b → IsPassed root pattern path image → Walked root pattern (is_at_or_inside path) image a b
  passed_at path a b one passed = walked_at path a b b one (walked_none (is_inside path) b passed.each)

  -- ---- The names in a directory

  any_last : (test : List ℕ → Bool) (xs : List (List ℕ)) (y : List ℕ) → list_any test (xs ++ y ∷ []) ≡ (list_any test xs || test y)
  any_last test [] y = at (test y)
    where
      at : (b : Bool) → (b || false) ≡ b
      at true = refl
      at false = refl
  any_last test (x ∷ xs) y = at (test x) (any_last test xs y)
    where
      at : (b : Bool) → list_any test (xs ++ y ∷ []) ≡ (list_any test xs || test y) → (b || list_any test (xs ++ y ∷ [])) ≡ ((b || list_any test xs) || test y)
      at true rest = refl
      at false rest = rest

  pub walked_start : (dir : List ℕ) (es : List (List ℕ × Bool)) → Walked root pattern (covers_names dir []) image es es
  walked_start dir es = walked_none (covers_names dir []) es (λ name h. absurd (false≢true h))

  pub walked_more : (dir : List ℕ) (names : List (List ℕ)) (name : List ℕ) (a b c : List (List ℕ × Bool)) → Walked root pattern (covers_names dir names) image a b → Walked root pattern (is_at_or_inside (child dir name)) image b c
      → Walked root pattern (covers_names dir (names ++ name ∷ [])) image a c
  walked_more dir names name a b c one two =
      walked_same (λ q. covers_names dir names q || is_at_or_inside (child dir name) q) (covers_names dir (names ++ name ∷ [])) a c
      (λ q is. sym (any_last (λ n. is_at_or_inside (child dir n) (child root q)) names name))
      (walked_then (covers_names dir names) (is_at_or_inside (child dir name)) a b c one two)

  any_is : (test : List ℕ → Bool) (xs : List (List ℕ)) → list_any test xs ≡ true → (x : List ℕ) × (test x ≡ true)
  any_is test [] h = absurd (false≢true h)
  any_is test (x ∷ xs) h = at (test x) refl h (any_is test xs)
    where
      at : (b : Bool) → test x ≡ b → (b || list_any test xs) ≡ true → (list_any test xs ≡ true → (y : List ℕ) × (test y ≡ true)) → (y : List ℕ) × (test y ≡ true)
      at true e h rest = (x, e)
      at false e h rest = rest h

  is_any : (test : List ℕ → Bool) (xs : List (List ℕ)) (x : List ℕ) → Contains xs x → test x ≡ true → list_any test xs ≡ true
  is_any test [] x among is = absurd (omega (arith, among.1))
  is_any test (y ∷ xs) x (zero, below, e) is = or_left (test y) (list_any test xs) (ap test e ∙ is)
  is_any test (y ∷ xs) x (suc k, below, e) is = or_right (test y) (list_any test xs) (is_any test xs x (k, omega (arith, below), e) is)

  -- ---- All that stands in a directory

  -- what a path below begins with
  first_part : (rest : List ℕ) → HasNoSlash rest ⊎ ((part : List ℕ) × ((more : List ℕ) × (HasNoSlash part × (rest ≡ child part more))))
  first_part [] = inl tt
  first_part (b ∷ rest) = at (b == 47) refl (first_part rest)
    where
      slash : (b : ℕ) → (b == 47) ≡ true → b ≡ 47
      slash b e = grind arith

      at : (t : Bool) → (b == 47) ≡ t → HasNoSlash rest ⊎ ((part : List ℕ) × ((more : List ℕ) × (HasNoSlash part × (rest ≡ child part more)))) → HasNoSlash (b ∷ rest) ⊎ ((part : List ℕ) × ((more : List ℕ) × (HasNoSlash part × (b ∷ rest ≡ child part more))))
      at true e it = inr ([], (rest, (tt, ap (λ x. x ∷ rest) (slash b e))))
      at false e (inl plain) = inl (e, plain)
      at false e (inr it) = inr (b ∷ it.0, (it.1.0, ((e, it.1.1.0), ap (λ l. b ∷ l) it.1.1.1)))

  standing_plain : (path : List ℕ) → is_plain_at image path ≡ true → stands_at image path ≡ true
  standing_plain path is = at (node_at image path) is
    where
      at : (n : Node) → is_plain_sight (sight_of (directory_driver image path) n) ≡ true → is_standing n ≡ true
      at nothing h = absurd (false≢true h)
      at (file bytes) h = refl
      at directory h = refl

  module _ (dir : List ℕ) (names : List (List ℕ)) (are : AreNames dir names image) (within : IsWithin root dir) where
    covered : (q : List ℕ) → is_listed root pattern image q ≡ true → is_inside dir (child root q) ≡ true → covers_names dir names (child root q) ≡ true
    covered q is inside = let w = inside_is dir (child root q) inside in at w.0 w.1 (first_part w.0)
      where
        at : (rest : List ℕ) → child root q ≡ child dir rest → HasNoSlash rest ⊎ ((part : List ℕ) × ((more : List ℕ) × (HasNoSlash part × (rest ≡ child part more)))) → covers_names dir names (child root q) ≡ true
        at rest whole (inl plain) =
            is_any (λ n. is_at_or_inside (child dir n) (child root q)) names rest (are.all rest plain (ap (stands_at image) (sym whole) ∙ (listed_parts q is).stands))
            (under_test (child dir rest) (child root q) (record { rest = []; whole = whole ∙ sym (append-nil (child dir rest)); slash = inl refl }))
        at rest whole (inr it) =
            let part = it.0 in
            let more = it.1.0 in
            let there = whole ∙ ap (child dir) it.1.1.1 ∙ sym (child_below dir part more) in
            let below = within.each part in
            let front : q ≡ child below.name more = one_below root q (child below.name more) (there ∙ ap (λ d. child d more) below.whole ∙ child_below root below.name more) in
            is_any (λ n. is_at_or_inside (child dir n) (child root q)) names part
            (are.all part it.1.1.0 (standing_plain (child dir part) (ap (is_plain_at image) below.whole
            ∙ all_holds (λ l. is_plain_sight (sight_at image (child root l))) q (listed_parts q is).sees below.name more front)))
            (under_test (child dir part) (child root q) (record { rest = 47 ∷ more; whole = there; slash = inr (more, refl) }))

    inside_of : (q : List ℕ) → covers_names dir names (child root q) ≡ true → is_inside dir (child root q) ≡ true
    inside_of q h =
        let n = any_is (λ l. is_at_or_inside (child dir l) (child root q)) names h in
        let u = under_is (child dir n.0) (child root q) n.1 in
        ap (is_inside dir) (u.whole ∙ append_assoc dir (47 ∷ n.0) u.rest) ∙ child_inside dir (n.0 ++ u.rest)

    same_tests : (q : List ℕ) → is_listed root pattern image q ≡ true → covers_names dir names (child root q) ≡ is_inside dir (child root q)
    same_tests q is = at (is_inside dir (child root q)) refl
      where
        at : (t : Bool) → is_inside dir (child root q) ≡ t → covers_names dir names (child root q) ≡ is_inside dir (child root q)
        at true e = covered q is e ∙ sym e
        at false e = false_from_ne_true (covers_names dir names (child root q)) (λ h. not_both (is_inside dir (child root q)) (inside_of q h) e) ∙ sym e

    pub walked_all : (a b : List (List ℕ × Bool)) → Walked root pattern (covers_names dir names) image a b → Walked root pattern (is_inside dir) image a b
    walked_all a b walked = walked_same (covers_names dir names) (is_inside dir) a b same_tests walked

  -- all that is listed is in one directory
  pub walked_whole : (dir : List ℕ) → ((q : List ℕ) → is_listed root pattern image q ≡ true → is_inside dir (child root q) ≡ true) → (a b : List (List ℕ × Bool)) → Walked root pattern (is_inside dir) image a b → Walked root pattern (λ q. true) image a b
  walked_whole dir inside a b walked = walked_same (is_inside dir) (λ q. true) a b inside walked

-- ---- Directories

pub below_root : (root name path : List ℕ) → path ≡ child root name → take (length path - (length root + 1)) (drop (length root + 1) path) ≡ name
below_root root name path whole =
    take_all (length path - (length root + 1)) (drop (length root + 1) path) (omega (arith, length-drop (length root + 1) path))
    ∙ ap (drop (length root + 1)) whole ∙ drop-append-add root (47 ∷ name) 1

pub within_root : (root : List ℕ) → IsWithin root root
within_root root = record { each = λ rest. record { name = rest; whole = refl } }

pub within_below : (root path : List ℕ) → IsBelowRoot root path → IsWithin root path
within_below root path w = record { each = λ rest. record { name = child w.name rest; whole = ap (λ d. child d rest) w.whole ∙ child_below root w.name rest } }

pub open_root : (root : List ℕ) (image : Image) → is_directory image root ≡ true → IsOpen root root image
open_root root image stands = record {
  stands = stands;
  sees = λ part name plain whole. ap (sees_at root image) (sym (one_below root part name whole)) ∙ ap (list_all (λ front. is_plain_sight (sight_at image (child root front)))) (prefixes_name part plain);
}

plain_directory : (image : Image) (path : List ℕ) → is_plain_at image path ≡ true → is_directory image path ≡ true
plain_directory image path is = at (node_at image path) is
  where
    at : (n : Node) → is_plain_sight (sight_of (directory_driver image path) n) ≡ true → directory_test n ≡ true
    at nothing h = absurd (false≢true h)
    at (file bytes) h = absurd (false≢true h)
    at directory h = refl

pub open_below : (root path name : List ℕ) → path ≡ child root name → (image : Image) → sees_at root image name ≡ true → is_plain_at image path ≡ true → IsOpen root path image
open_below root path name is image sees plain = record {
  stands = plain_directory image path plain;
  sees = λ part other no_slash whole.
      let same : other ≡ child name part = one_below root other (child name part) (sym whole ∙ ap (λ d. child d part) is ∙ child_below root name part) in
      sees_above root other path (record { front = name; last = part; plain = no_slash; whole = same; is = is }) image ∙ and_from (sees_at root image name) (is_plain_sight (sight_at image path)) sees plain;
}

pub are_names : (dir : List ℕ) (names : List (List ℕ)) (image : Image) → IsPermutation names (names_in image dir) → AreNames dir names image
are_names dir names image same = record {
  plain = λ name among. ((names_in_has image dir name).0 (Contains-permutation names (names_in image dir) name same among)).0;
  all = λ name plain stands. Contains-permutation (names_in image dir) names name (IsPermutation-sym names (names_in image dir) same) (at name plain (node_at image (child dir name)) refl stands);
}
  where
    at : (name : List ℕ) → HasNoSlash name → (n : Node) → node_at image (child dir name) ≡ n → is_standing n ≡ true → Contains (names_in image dir) name
    at name plain nothing here stands = absurd (false≢true stands)
    at name plain (file bytes) here stands = (names_in_has image dir name).1 (plain, rw (here) refl)
    at name plain directory here stands = (names_in_has image dir name).1 (plain, rw (here) refl)

-- ---- On histories

pub no_name : (text : List ℕ) → name_as text ≡ None → is_name text ≡ false
no_name text none = at (is_name text) refl none
  where
    at : (b : Bool) → is_name text ≡ b → cond b (Some text) None ≡ None → is_name text ≡ false
    at false e h = e
    at true e h = absurd (cc)

pub one_name : (text name : List ℕ) → name_as text ≡ Some name → (name ≡ text) × IsName name
one_name text name some = at (is_name text) refl some
  where
    one : (x y : List ℕ) → Some x ≡ Some y → x ≡ y
    one x y e = cc

    at : (b : Bool) → is_name text ≡ b → cond b (Some text) None ≡ Some name → (name ≡ text) × IsName name
    at false e h = absurd (cc)
    at true e h = let same = one text name h in (sym same, subst IsName same (name_is text e))

module _ (root pattern path name : List ℕ) (whole : path ≡ child root name) (old : History) where
  pub unnamed_now : (es : List (List ℕ × Bool)) → is_name name ≡ false → Now old (λ w. Walked root pattern (bytes_eq path) (seen w.disk) es es)
  unnamed_now es fails = now_all (λ w. Walked root pattern (bytes_eq path) (seen w.disk) es es) (λ w. unnamed_walked root pattern (seen w.disk) path name whole es fails) old

  -- whether names in it may match
  pub unnamed_lead : is_name name ≡ false → Now old (λ w. false ≡ may_lead root pattern (seen w.disk) name)
  unnamed_lead fails = now_all (λ w. false ≡ may_lead root pattern (seen w.disk) name) (λ w. sym (ap (λ b. (b && leads pattern (name ++ 47 ∷ [])) && is_plain_at (seen w.disk) (child root name)) fails)) old

  pub unled_lead : leads pattern (name ++ 47 ∷ []) ≡ false → Now old (λ w. false ≡ may_lead root pattern (seen w.disk) name)
  unled_lead fails = now_all (λ w. false ≡ may_lead root pattern (seen w.disk) name)
      (λ w. sym (ap (λ b. (is_name name && b) && is_plain_at (seen w.disk) (child root name)) fails ∙ ap (λ b. b && is_plain_at (seen w.disk) (child root name)) (and_false (is_name name)))) old

  pub other_lead : (sight : Sight) → Now old (λ w. sight ≡ sight_at (seen w.disk) path) → is_plain_sight sight ≡ false → Now old (λ w. false ≡ may_lead root pattern (seen w.disk) name)
  other_lead sight now fails = now_weaker (λ w. sight ≡ sight_at (seen w.disk) path) (λ w. false ≡ may_lead root pattern (seen w.disk) name)
      (λ w is. sym (ap (λ s. (is_name name && leads pattern (name ++ 47 ∷ [])) && is_plain_sight s) (sym (is ∙ ap (sight_at (seen w.disk)) whole))
      ∙ ap (λ b. (is_name name && leads pattern (name ++ 47 ∷ [])) && b) fails ∙ and_false (is_name name && leads pattern (name ++ 47 ∷ [])))) old now

  pub plain_lead : (into : Bool) → into ≡ leads pattern (name ++ 47 ∷ []) → IsName name → (sight : Sight) → Now old (λ w. sight ≡ sight_at (seen w.disk) path) → is_plain_sight sight ≡ true → Now old (λ w. into ≡ may_lead root pattern (seen w.disk) name)
  plain_lead into same named sight now plain = now_weaker (λ w. sight ≡ sight_at (seen w.disk) path) (λ w. into ≡ may_lead root pattern (seen w.disk) name)
      (λ w is. same ∙ sym ((λ i. (is_name_of name named i && leads pattern (name ++ 47 ∷ [])) && (ap is_plain_sight (sym (is ∙ ap (sight_at (seen w.disk)) whole)) ∙ plain) i) ∙ and_true (leads pattern (name ++ 47 ∷ [])))) old now
    where
      and_true : (b : Bool) → (b && true) ≡ b
      and_true true = refl
      and_true false = refl

  pub lead_plain : (enters : Bool) → enters ≡ true → Now old (λ w. enters ≡ may_lead root pattern (seen w.disk) name) → Now old (λ w. is_plain_at (seen w.disk) path ≡ true)
  lead_plain enters is now = now_weaker (λ w. enters ≡ may_lead root pattern (seen w.disk) name) (λ w. is_plain_at (seen w.disk) path ≡ true)
      (λ w same. ap (is_plain_at (seen w.disk)) whole ∙ (and_parts (is_name name && leads pattern (name ++ 47 ∷ [])) (is_plain_at (seen w.disk) (child root name)) (sym same ∙ is)).1) old now

  pub lead_passes : (enters : Bool) → enters ≡ false → Now old (λ w. enters ≡ may_lead root pattern (seen w.disk) name) → Now old (λ w. IsPassed root pattern path (seen w.disk))
  lead_passes enters is now = now_weaker (λ w. enters ≡ may_lead root pattern (seen w.disk) name) (λ w. IsPassed root pattern path (seen w.disk)) (λ w same. at (seen w.disk) (is_name name) (leads pattern (name ++ 47 ∷ [])) refl refl (sym same ∙ is)) old now
    where
      at : (image : Image) (n l : Bool) → is_name name ≡ n → leads pattern (name ++ 47 ∷ []) ≡ l → ((is_name name && leads pattern (name ++ 47 ∷ [])) && is_plain_at image (child root name)) ≡ false → IsPassed root pattern path image
      at image false l e f h = unnamed_passed root pattern image path name whole e
      at image true false e f h = unled_passed root pattern image path name whole f
      at image true true e f h = other_passed root pattern image path name whole (ap (is_plain_at image) whole ∙ (λ i. (sym e i && sym f i) && is_plain_at image (child root name)) ∙ h)

  pub put_now : (sight : Sight) → IsName name → (before after : List (List ℕ × Bool)) → Now old (λ w. sight ≡ sight_at (seen w.disk) path) → Now old (λ w. sees_at root (seen w.disk) name ≡ true)
      → ((m : FinMap path_cmp Bool) → entries m ≡ before → after ≡ cond (is_something sight && fits_name pattern name) (entries (insert m name (is_plain_sight sight))) (entries m))
      → Now old (λ w. Walked root pattern (bytes_eq path) (seen w.disk) before after)
  put_now sight named before after now sees put = now_weaker (λ w. (sight ≡ sight_at (seen w.disk) path) × (sees_at root (seen w.disk) name ≡ true)) (λ w. Walked root pattern (bytes_eq path) (seen w.disk) before after)
      (λ w both. path_walked root pattern (seen w.disk) path name whole sight both.0 named both.1 before after put) old
      (now_both (λ w. sight ≡ sight_at (seen w.disk) path) (λ w. sees_at root (seen w.disk) name ≡ true) old now sees)

module _ (root pattern path : List ℕ) (old : History) where
  pub passed_now : (a b : List (List ℕ × Bool)) → Now old (λ w. Walked root pattern (bytes_eq path) (seen w.disk) a b) → Now old (λ w. IsPassed root pattern path (seen w.disk)) → Now old (λ w. Walked root pattern (is_at_or_inside path) (seen w.disk) a b)
  passed_now a b walked passed = now_weaker (λ w. Walked root pattern (bytes_eq path) (seen w.disk) a b × IsPassed root pattern path (seen w.disk)) (λ w. Walked root pattern (is_at_or_inside path) (seen w.disk) a b)
      (λ w both. passed_at root pattern (seen w.disk) path a b both.0 both.1) old (now_both (λ w. Walked root pattern (bytes_eq path) (seen w.disk) a b) (λ w. IsPassed root pattern path (seen w.disk)) old walked passed)

  pub walked_now : (a b c : List (List ℕ × Bool)) → Now old (λ w. Walked root pattern (bytes_eq path) (seen w.disk) a b) → Now old (λ w. Walked root pattern (is_inside path) (seen w.disk) b c) → Now old (λ w. Walked root pattern (is_at_or_inside path) (seen w.disk) a c)
  walked_now a b c one two = now_weaker (λ w. Walked root pattern (bytes_eq path) (seen w.disk) a b × Walked root pattern (is_inside path) (seen w.disk) b c) (λ w. Walked root pattern (is_at_or_inside path) (seen w.disk) a c)
      (λ w both. walked_at root pattern (seen w.disk) path a b c both.0 both.1) old (now_both (λ w. Walked root pattern (bytes_eq path) (seen w.disk) a b) (λ w. Walked root pattern (is_inside path) (seen w.disk) b c) old one two)

  pub open_now : (name : List ℕ) → path ≡ child root name → Now old (λ w. sees_at root (seen w.disk) name ≡ true) → Now old (λ w. is_plain_at (seen w.disk) path ≡ true) → Now old (λ w. IsOpen root path (seen w.disk))
  open_now name whole sees plain = now_weaker (λ w. (sees_at root (seen w.disk) name ≡ true) × (is_plain_at (seen w.disk) path ≡ true)) (λ w. IsOpen root path (seen w.disk))
      (λ w both. open_below root path name whole (seen w.disk) both.0 both.1) old (now_both (λ w. sees_at root (seen w.disk) name ≡ true) (λ w. is_plain_at (seen w.disk) path ≡ true) old sees plain)

module _ (root pattern dir : List ℕ) (old : History) where
  pub start_now : (es : List (List ℕ × Bool)) → Now old (λ w. Walked root pattern (covers_names dir []) (seen w.disk) es es)
  start_now es = now_all (λ w. Walked root pattern (covers_names dir []) (seen w.disk) es es) (λ w. walked_start root pattern (seen w.disk) dir es) old

  pub more_now : (names : List (List ℕ)) (name : List ℕ) (a b c : List (List ℕ × Bool)) → Now old (λ w. Walked root pattern (covers_names dir names) (seen w.disk) a b)
      → Now old (λ w. Walked root pattern (is_at_or_inside (child dir name)) (seen w.disk) b c) → Now old (λ w. Walked root pattern (covers_names dir (names ++ name ∷ [])) (seen w.disk) a c)
  more_now names name a b c one two = now_weaker (λ w. Walked root pattern (covers_names dir names) (seen w.disk) a b × Walked root pattern (is_at_or_inside (child dir name)) (seen w.disk) b c) (λ w. Walked root pattern (covers_names dir (names ++ name ∷ [])) (seen w.disk) a c)
      (λ w both. walked_more root pattern (seen w.disk) dir names name a b c both.0 both.1) old
      (now_both (λ w. Walked root pattern (covers_names dir names) (seen w.disk) a b) (λ w. Walked root pattern (is_at_or_inside (child dir name)) (seen w.disk) b c) old one two)

  pub all_now : (names : List (List ℕ)) (a b : List (List ℕ × Bool)) → IsWithin root dir → Now old (λ w. AreNames dir names (seen w.disk)) → Now old (λ w. Walked root pattern (covers_names dir names) (seen w.disk) a b)
      → Now old (λ w. Walked root pattern (is_inside dir) (seen w.disk) a b)
  all_now names a b within are walked = now_weaker (λ w. AreNames dir names (seen w.disk) × Walked root pattern (covers_names dir names) (seen w.disk) a b) (λ w. Walked root pattern (is_inside dir) (seen w.disk) a b)
      (λ w both. walked_all root pattern (seen w.disk) dir names both.0 within a b both.1) old
      (now_both (λ w. AreNames dir names (seen w.disk)) (λ w. Walked root pattern (covers_names dir names) (seen w.disk) a b) old are walked)

  -- what a name in an open directory sees
  pub sees_now : (names : List (List ℕ)) (part : List ℕ) → Contains names part → Now old (λ w. AreNames dir names (seen w.disk)) → Now old (λ w. IsOpen root dir (seen w.disk))
      → (name : List ℕ) → child dir part ≡ child root name → Now old (λ w. sees_at root (seen w.disk) name ≡ true)
  sees_now names part among are opened name whole = now_weaker (λ w. AreNames dir names (seen w.disk) × IsOpen root dir (seen w.disk)) (λ w. sees_at root (seen w.disk) name ≡ true)
      (λ w both. both.1.sees part name (both.0.plain part among) whole) old
      (now_both (λ w. AreNames dir names (seen w.disk)) (λ w. IsOpen root dir (seen w.disk)) old are opened)

-- the text of one of some things
pub among_texts : {A : Type 0} → (text : A → List ℕ) (things : List A) (i : ℕ) (default : A) → i < length things → Contains (map text things) (text (get_or things i default))
among_texts text [] i default below = absurd (omega (arith, below))
among_texts text (x ∷ things) zero default below = (0, omega arith, refl)
among_texts text (x ∷ things) (suc i) default below = let w = among_texts text things i default (omega (arith, below)) in (suc w.0, omega (arith, w.1), w.2)

pub one_more : {A : Type 0} → (text : A → List ℕ) (things : List A) (i : ℕ) (default : A) → i < length things → map text (take i things) ++ text (get_or things i default) ∷ [] ≡ map text (take (i + 1) things)
one_more text things i default below = sym (ap (map text) (take_more things i default below) ∙ map-append text (take i things) (get_or things i default ∷ []))

-- a walk in a directory has further to go than one at a path in it
pub deeper : (root dir path : ℕ) → dir ≤ root + 256 → dir + 1 ≤ path → (root + 257 - path) + (root + 257 - path) + (root + 257 - path) + 3 < (root + 257 - dir) + (root + 257 - dir) + (root + 257 - dir) + 1
deeper root dir path short longer = omega (arith, short, longer)

pub longer_path : (dir name path : List ℕ) → path ≡ child dir name → length dir + 1 ≤ length path
longer_path dir name path whole = omega (arith, ap length whole, length-append dir (47 ∷ name))

module _ (root pattern path name : List ℕ) (whole : path ≡ child root name) (old : History) where
  -- what doesn't match isn't listed
  pub unfit_now : fits_name pattern name ≡ false → (es : List (List ℕ × Bool)) → Now old (λ w. Walked root pattern (bytes_eq path) (seen w.disk) es es)
  unfit_now fails es = now_all (λ w. Walked root pattern (bytes_eq path) (seen w.disk) es es)
      (λ w. walked_none root pattern (seen w.disk) (bytes_eq path) es (λ q same. false_from_ne_true (is_listed root pattern (seen w.disk) q)
      (λ is. not_both (fits_name pattern q) (listed_parts root pattern (seen w.disk) q is).fits (ap (fits_name pattern) (at_path root pattern (seen w.disk) path name whole q same) ∙ fails)))) old

-- the path of a name that was read from what stands behind the root
pub path_named : (root path text name : List ℕ) → IsBelowRoot root path → ((n : List ℕ) → path ≡ child root n → text ≡ n) → name_as text ≡ Some name → (path ≡ child root name) × IsName name
path_named root path text name below behind some =
    let one = one_name text name some in
    (below.whole ∙ ap (child root) (sym (behind below.name below.whole) ∙ sym one.0), one.1)

pub path_unnamed : (root path text : List ℕ) (below : IsBelowRoot root path) → ((n : List ℕ) → path ≡ child root n → text ≡ n) → name_as text ≡ None → is_name below.name ≡ false
path_unnamed root path text below behind none = ap is_name (sym (behind below.name below.whole)) ∙ no_name text none

pub name_same : (root path text name : List ℕ) → ((n : List ℕ) → path ≡ child root n → text ≡ n) → name_as text ≡ Some name → (other : List ℕ) → path ≡ child root other → name ≡ other
name_same root path text name behind some other whole = (one_name text name some).0 ∙ behind other whole
