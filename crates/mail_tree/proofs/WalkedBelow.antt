-- A walk from the directory that a pattern names finds all that is listed.
use Rattle.std.proofs.Common.{◌≡◌, ℕ, List, [], ◌∷◌, ◌++◌, Bool, true, false, refl, sym, ◌∙◌, ap, subst, append_assoc}
use Rattle.std.specs.List.{list_all}
use Rattle.std.proofs.lemmas.Bool.{false_from_ne_true}
use Rattle.file_model.specs.Disk.{seen}
use Rattle.file_model.specs.Histories.{History, Now}
use Rattle.file_model.specs.Images.{Image, is_directory}
use Rattle.file_model.specs.Paths.{child, is_inside}
use Rattle.file_model.proofs.Inside.{child_inside, not_both}
use Rattle.file_model.proofs.Runs.{now_all, now_weaker}
use Rattle.mail_tree.specs.declared.sight.Sight.{Sight}
use Rattle.mail_tree.specs.Listing.{fits_name}
use Rattle.mail_tree.specs.Names.{is_name, prefixes, IsName}
use Rattle.mail_tree.specs.Promises.{HasRoot}
use Rattle.mail_tree.specs.Sights.{sight_at, is_plain_sight, sees_at}
use Rattle.mail_tree.specs.Walks.{is_listed, is_plain_at, Walked, WalkedAll, IsOpen}
use Rattle.mail_tree.proofs.Below.{child_below}
use Rattle.mail_tree.proofs.Found.{front_name}
use Rattle.mail_tree.proofs.RenamedTree.{all_holds}
use Rattle.mail_tree.proofs.Sighted.{all_same}
use Rattle.mail_tree.proofs.Walking.{is_name_of, listed_parts, walked_none, walked_whole, open_root, open_now}

-- what is above the directory of a path is above the path
above_all : (f : List ℕ → Bool) (dir rest : List ℕ) → list_all f (prefixes (child dir rest)) ≡ true → list_all f (prefixes dir) ≡ true
above_all f dir rest all = all_same f (λ q. true) dir (λ q more whole. all_holds f (child dir rest) all q (more ++ 47 ∷ rest) (ap (λ d. child d rest) whole ∙ append_assoc q (47 ∷ more) (47 ∷ rest))) ∙ all_true (prefixes dir)
  where
    all_true : (xs : List (List ℕ)) → list_all (λ (q : List ℕ). true) xs ≡ true
    all_true [] = refl
    all_true (x ∷ xs) = all_true xs

module _ (root pattern name : List ℕ) (front : (n : List ℕ) → fits_name pattern n ≡ true → (rest : List ℕ) × (n ≡ child name rest)) (image : Image) where
  in_front : (q : List ℕ) → is_listed root pattern image q ≡ true → (rest : List ℕ) × (q ≡ child name rest)
  in_front q is = front q (listed_parts root pattern image q is).fits

  none_listed : ((q rest : List ℕ) → is_listed root pattern image q ≡ true → q ≡ child name rest → ⊥) → (es : List (List ℕ × Bool)) → WalkedAll root pattern image es es
  none_listed never es = walked_none root pattern image (λ q. true) es (λ q all. false_from_ne_true (is_listed root pattern image q) (λ is. let w = in_front q is in never q w.0 is w.1))

  no_name : is_name name ≡ false → (es : List (List ℕ × Bool)) → WalkedAll root pattern image es es
  no_name fails es = none_listed (λ q rest is whole. not_both (is_name name) (is_name_of name (front_name name rest (subst IsName whole (listed_parts root pattern image q is).named))) fails) es

  unseen : sees_at root image name ≡ false → (es : List (List ℕ × Bool)) → WalkedAll root pattern image es es
  unseen fails es = none_listed (λ q rest is whole. not_both (sees_at root image name)
      (above_all (λ l. is_plain_sight (sight_at image (child root l))) name rest (ap (sees_at root image) (sym whole) ∙ (listed_parts root pattern image q is).sees)) fails) es

  not_plain : is_plain_at image (child root name) ≡ false → (es : List (List ℕ × Bool)) → WalkedAll root pattern image es es
  not_plain fails es = none_listed (λ q rest is whole. not_both (is_plain_at image (child root name))
      (all_holds (λ l. is_plain_sight (sight_at image (child root l))) q (listed_parts root pattern image q is).sees name rest whole) fails) es

  all_inside : (a b : List (List ℕ × Bool)) → Walked root pattern (is_inside (child root name)) image a b → WalkedAll root pattern image a b
  all_inside a b walked = walked_whole root pattern image (child root name)
      (λ q is. let w = in_front q is in ap (is_inside (child root name)) (ap (child root) w.1 ∙ sym (child_below root name w.0)) ∙ child_inside (child root name) w.0) a b walked

-- ---- On histories

module _ (root pattern name : List ℕ) (front : (n : List ℕ) → fits_name pattern n ≡ true → (rest : List ℕ) × (n ≡ child name rest)) (old : History) where
  pub no_name_now : is_name name ≡ false → (es : List (List ℕ × Bool)) → Now old (λ w. WalkedAll root pattern (seen w.disk) es es)
  no_name_now fails es = now_all (λ w. WalkedAll root pattern (seen w.disk) es es) (λ w. no_name root pattern name front (seen w.disk) fails es) old

  pub unseen_now : (sees : Bool) → sees ≡ false → (es : List (List ℕ × Bool)) → Now old (λ w. sees ≡ sees_at root (seen w.disk) name) → Now old (λ w. WalkedAll root pattern (seen w.disk) es es)
  unseen_now sees fails es now = now_weaker (λ w. sees ≡ sees_at root (seen w.disk) name) (λ w. WalkedAll root pattern (seen w.disk) es es) (λ w is. unseen root pattern name front (seen w.disk) (sym is ∙ fails) es) old now

  pub not_plain_now : (sight : Sight) → is_plain_sight sight ≡ false → (es : List (List ℕ × Bool)) → Now old (λ w. sight ≡ sight_at (seen w.disk) (child root name)) → Now old (λ w. WalkedAll root pattern (seen w.disk) es es)
  not_plain_now sight fails es now = now_weaker (λ w. sight ≡ sight_at (seen w.disk) (child root name)) (λ w. WalkedAll root pattern (seen w.disk) es es)
      (λ w is. not_plain root pattern name front (seen w.disk) (sym (ap is_plain_sight is) ∙ fails) es) old now

  pub inside_now : (a b : List (List ℕ × Bool)) → Now old (λ w. Walked root pattern (is_inside (child root name)) (seen w.disk) a b) → Now old (λ w. WalkedAll root pattern (seen w.disk) a b)
  inside_now a b now = now_weaker (λ w. Walked root pattern (is_inside (child root name)) (seen w.disk) a b) (λ w. WalkedAll root pattern (seen w.disk) a b) (λ w walked. all_inside root pattern name front (seen w.disk) a b walked) old now

pub open_name : (root pattern name : List ℕ) (sees : Bool) (sight : Sight) → sees ≡ true → is_plain_sight sight ≡ true → (old : History) → Now old (λ w. sees ≡ sees_at root (seen w.disk) name) → Now old (λ w. sight ≡ sight_at (seen w.disk) (child root name))
    → Now old (λ w. IsOpen root (child root name) (seen w.disk))
open_name root pattern name sees sight one two old now look = open_now root pattern (child root name) old name refl
    (now_weaker (λ w. sees ≡ sees_at root (seen w.disk) name) (λ w. sees_at root (seen w.disk) name ≡ true) (λ w is. sym is ∙ one) old now)
    (now_weaker (λ w. sight ≡ sight_at (seen w.disk) (child root name)) (λ w. is_plain_at (seen w.disk) (child root name) ≡ true) (λ w is. sym (ap is_plain_sight is) ∙ two) old look)

pub open_root_now : (root : List ℕ) (old : History) → HasRoot root old → Now old (λ w. IsOpen root root (seen w.disk))
open_root_now root old has = now_weaker (λ w. is_directory (seen w.disk) root ≡ true) (λ w. IsOpen root root (seen w.disk)) (λ w stands. open_root root (seen w.disk) stands) old has

pub root_now : (root pattern : List ℕ) (old : History) (a b : List (List ℕ × Bool)) → Now old (λ w. Walked root pattern (is_inside root) (seen w.disk) a b) → Now old (λ w. WalkedAll root pattern (seen w.disk) a b)
root_now root pattern old a b now = now_weaker (λ w. Walked root pattern (is_inside root) (seen w.disk) a b) (λ w. WalkedAll root pattern (seen w.disk) a b)
    (λ w walked. walked_whole root pattern (seen w.disk) root (λ q is. child_inside root q) a b walked) old now
