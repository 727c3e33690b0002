-- Directories, and the paths at them and in them.
use Rattle.std.proofs.Common.{◌≡◌, ◌⊎◌, inl, inr, ⊎_elim, ℕ, List, [], ◌∷◌, ◌++◌, take, drop, length, Bool, true, false, ◌||◌, ◌==◌, Option, Some, None, refl, sym, ◌∙◌, ap, subst, append_assoc, append-nil, arith}
use Rattle.std.specs.Prelude.{IsSome}
use Rattle.std.specs.Str.{bytes_eq}
use Rattle.std.proofs.lemmas.List.{take-append-drop, append_cancel_left}
use Rattle.std.proofs.lemmas.Bool.{false_from_ne_true}
use Rattle.std.proofs.lemmas.Slice.Eq.{bytes_eq-Decides}
use Rattle.std.proofs.Math.Seq.{take-append_seam, drop-append_seam}
use Rattle.file_model.specs.Paths.{child, split_path, with_front, front_of, parent, is_top, is_inside, is_at_or_inside, IsInDirectory, HasNoSlash}
use Rattle.file_model.proofs.Paths.{parts}

-- what may follow a directory's path: nothing, or a slash and more
abbrev pub Slash : List ℕ → Type 0
Slash rest = (rest ≡ []) ⊎ ((more : List ℕ) × (rest ≡ 47 ∷ more))

-- a path is a directory's, or leads into it
pub record Under (dir path : List ℕ) : Type 0 where
  pub rest : List ℕ
  pub whole : path ≡ dir ++ rest
  pub slash : Slash rest

-- a test says one thing
pub not_both : (b : Bool) → b ≡ true → b ≡ false → ⊥
not_both b holds fails = cc

pub inside_is : (dir path : List ℕ) → is_inside dir path ≡ true → (rest : List ℕ) × (path ≡ child dir rest)
unfolding is_inside
inside_is dir path is =
    let n = length (dir ++ 47 ∷ []) in (
      drop n path,
      sym (take-append-drop n path) ∙ ap (λ l. l ++ drop n path) (sym ((bytes_eq-Decides (dir ++ 47 ∷ []) (take n path)).0 is)) ∙ append_assoc dir (47 ∷ []) (drop n path),
    )

pub child_inside : (dir rest : List ℕ) → is_inside dir (child dir rest) ≡ true
unfolding is_inside
child_inside dir rest =
    let front = dir ++ 47 ∷ [] in
    (bytes_eq-Decides front (take (length front) (child dir rest))).1 (sym (ap (take (length front)) (sym (append_assoc dir (47 ∷ []) rest)) ∙ take-append_seam front rest))

pub under_is : (dir path : List ℕ) → is_at_or_inside dir path ≡ true → Under dir path
under_is dir path is = at (bytes_eq dir path) refl is
  where
    at : (b : Bool) → bytes_eq dir path ≡ b → (b || is_inside dir path) ≡ true → Under dir path
    at true same h = record { rest = []; whole = sym ((bytes_eq-Decides dir path).0 same) ∙ sym (append-nil dir); slash = inl refl }
    at false apart h = let w = inside_is dir path h in record { rest = 47 ∷ w.0; whole = w.1; slash = inr (w.0, refl) }

or_true : (a b : Bool) → b ≡ true → (a || b) ≡ true
or_true true b e = refl
or_true false b e = e

or_first : (a b : Bool) → a ≡ true → (a || b) ≡ true
or_first a b e = ap (λ x. x || b) e

pub is_under : (dir rest : List ℕ) → Slash rest → is_at_or_inside dir (dir ++ rest) ≡ true
is_under dir rest (inl none) = subst (λ r. is_at_or_inside dir (dir ++ r) ≡ true) (sym none)
    (or_first (bytes_eq dir (dir ++ [])) (is_inside dir (dir ++ [])) ((bytes_eq-Decides dir (dir ++ [])).1 (sym (append-nil dir))))
is_under dir rest (inr more) = subst (λ r. is_at_or_inside dir (dir ++ r) ≡ true) (sym more.1) (or_true (bytes_eq dir (child dir more.0)) (is_inside dir (child dir more.0)) (child_inside dir more.0))

pub under_test : (dir path : List ℕ) → Under dir path → is_at_or_inside dir path ≡ true
under_test dir path u = subst (λ p. is_at_or_inside dir p ≡ true) (sym u.whole) (is_under dir u.rest u.slash)

-- of two directories that a path is under, one is under the other
head_is : (x : ℕ) (l r : List ℕ) → Slash r → r ≡ x ∷ l → x ≡ 47
head_is x l r (inl none) e = absurd (cc)
head_is x l r (inr more) e = cc

begins : (b s r : List ℕ) → r ≡ b ++ s → Slash r → Slash b
begins [] s r e slash = inl refl
begins (x ∷ b) s r e slash = inr (b, ap (λ y. y ∷ b) (head_is x (b ++ s) r slash e))

pub one_head : (x y : ℕ) (l m : List ℕ) → x ∷ l ≡ y ∷ m → (x ≡ y) × (l ≡ m)
one_head x y l m e = (cc, cc)

pub comparable : (a b r s : List ℕ) → a ++ r ≡ b ++ s → Slash r → Slash s → Under a b ⊎ Under b a
comparable [] b r s e one other = inl (record { rest = b; whole = refl; slash = begins b s r e one })
comparable (x ∷ a) [] r s e one other = inr (record { rest = x ∷ a; whole = refl; slash = begins (x ∷ a) r s (sym e) other })
comparable (x ∷ a) (y ∷ b) r s e one other =
    let parts = one_head x y (a ++ r) (b ++ s) e in
    ⊎_elim
    (λ (u : Under a b). inl (record { rest = u.rest; whole = ap (λ l. y ∷ l) u.whole ∙ ap (λ z. z ∷ (a ++ u.rest)) (sym parts.0); slash = u.slash }))
    (λ (u : Under b a). inr (record { rest = u.rest; whole = ap (λ l. x ∷ l) u.whole ∙ ap (λ z. z ∷ (b ++ u.rest)) parts.0; slash = u.slash }))
    (comparable a b r s parts.1 one other)

-- a path below a top has a slash
pub in_directory : (path : List ℕ) → is_top path ≡ false → IsInDirectory path
in_directory path below = at (split_path path) refl
  where
    at : (s : Option (List ℕ × List ℕ)) → split_path path ≡ s → IsSome s
    at (Some p) e = refl
    at None e = absurd (not_both (is_top path) ((bytes_eq-Decides (parent path) []).1 (ap front_of e)) below)

-- it is its directory's, with a name
pub record Named (path : List ℕ) : Type 0 where
  pub name : List ℕ
  pub whole : path ≡ child (parent path) name
  pub plain : HasNoSlash name

pub named : (path : List ℕ) → is_top path ≡ false → Named path
named path below =
    let p = parts path (in_directory path below) in
    record { name = p.name; whole = p.whole ∙ ap (λ d. child d p.name) (sym (ap front_of p.split)); plain = p.plain }

-- what stands in a directory is under what the directory is under
pub under_up : (dir path : List ℕ) → is_top path ≡ false → is_at_or_inside dir (parent path) ≡ true → is_at_or_inside dir path ≡ true
under_up dir path below is =
    let u = under_is dir (parent path) is in
    let w = named path below in
    under_test dir path (record {
      rest = u.rest ++ 47 ∷ w.name;
      whole = w.whole ∙ ap (λ d. child d w.name) u.whole ∙ append_assoc dir u.rest (47 ∷ w.name);
      slash = more u.rest u.slash w.name;
    })
  where
    more : (rest : List ℕ) → Slash rest → (name : List ℕ) → Slash (rest ++ 47 ∷ name)
    more rest (inl none) name = inr (name, ap (λ r. r ++ 47 ∷ name) none)
    more rest (inr m) name = inr (m.0 ++ 47 ∷ name, ap (λ r. r ++ 47 ∷ name) m.1)

-- the directory of what is inside a directory is under it
pub split_behind : (dir rest x y : List ℕ) → split_path rest ≡ Some (x, y) → split_path (dir ++ rest) ≡ Some (dir ++ x, y)
unfolding split_path
split_behind [] rest x y e = e
split_behind (b ∷ dir) rest x y e = ap (with_front b (dir ++ rest)) (split_behind dir rest x y e)

record SlashSplit (more : List ℕ) (s : Option (List ℕ × List ℕ)) : Type 0 where
  x : List ℕ
  y : List ℕ
  slash : Slash x
  is : with_front 47 more s ≡ Some (x, y)

slash_split : (more : List ℕ) (s : Option (List ℕ × List ℕ)) → SlashSplit more s
slash_split more None = record { x = []; y = more; slash = inl refl; is = refl }
slash_split more (Some p) = record { x = 47 ∷ p.0; y = p.1; slash = inr (p.0, refl); is = refl }

-- the directories of what is in one directory and what is in another in the same way
pub record SameUp (more : List ℕ) : Type 0 where
  pub up : List ℕ
  pub slash : Slash up
  pub is : (dir : List ℕ) → parent (child dir more) ≡ dir ++ up

pub same_up : (more : List ℕ) → SameUp more
unfolding split_path
same_up more =
    let s = slash_split more (split_path more) in
    record { up = s.x; slash = s.slash; is = λ dir. ap front_of (split_behind dir (47 ∷ more) s.x s.y s.is) }

pub drop_dir : (dir rest : List ℕ) → drop (length dir) (dir ++ rest) ≡ rest
drop_dir dir rest = drop-append_seam dir rest

-- whether nothing follows a directory's path, or a slash does
abbrev pub slash_test : List ℕ → Bool
slash_test [] = true
slash_test (b ∷ rest) = b == 47

pub at_or_inside_rest : (dir rest : List ℕ) → is_at_or_inside dir (dir ++ rest) ≡ slash_test rest
at_or_inside_rest dir [] = is_under dir [] (inl refl)
at_or_inside_rest dir (b ∷ rest) = at (b == 47) refl
  where
    at : (t : Bool) → (b == 47) ≡ t → is_at_or_inside dir (dir ++ b ∷ rest) ≡ t
    at true e = let is : b ≡ 47 = grind arith in is_under dir (b ∷ rest) (inr (rest, ap (λ z. z ∷ rest) is))
    at false e = false_from_ne_true (is_at_or_inside dir (dir ++ b ∷ rest)) (λ is.
        let u = under_is dir (dir ++ b ∷ rest) is in
        other (append_cancel_left dir (b ∷ rest) u.rest u.whole) u.slash)
      where
        other : {more : List ℕ} → b ∷ rest ≡ more → Slash more → ⊥
        other same (inl none) = absurd (some (same ∙ none))
          where
            some : b ∷ rest ≡ [] → ⊥
            some h = cc
        other same (inr m) = let is : b ≡ 47 = head_is b rest (b ∷ rest) (inr (m.0, same ∙ m.1)) refl in absurd (grind arith)

pub at_or_inside_none : (dir path : List ℕ) → ((rest : List ℕ) → path ≡ dir ++ rest → ⊥) → is_at_or_inside dir path ≡ false
at_or_inside_none dir path none = false_from_ne_true (is_at_or_inside dir path) (λ is. let u = under_is dir path is in none u.rest u.whole)
