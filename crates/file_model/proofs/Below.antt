-- Paths below a root: where they are split, and what stands above them.
use Rattle.std.proofs.Common.{◌≡◌, ◌⊎◌, inl, inr, ⊎_elim, ℕ, ◌≤◌, List, [], ◌∷◌, length, Bool, true, false, ◌==◌, Option, Some, None, refl, sym, ◌∙◌, ap, subst, arith, length-append}
use Rattle.std.specs.Prelude.{IsSome, bytes_eq}
use Rattle.std.proofs.lemmas.List.{append_cancel_left}
use Rattle.std.proofs.lemmas.Slice.Eq.{bytes_eq-Decides}
use Rattle.std.specs.FinMap.{get}
use Rattle.file_model.specs.Disk.{Disk, seen, seen_names}
use Rattle.file_model.specs.Images.{Image, Entry, node_of, directory_test, is_directory, HasNothing, IsRooted}
use Rattle.file_model.specs.Kept.{IsSound}
use Rattle.file_model.specs.Paths.{child, split_path, with_front, front_of, back_of, parent, is_top, HasNoSlash, SplitAt, IsAbove}
use Rattle.file_model.proofs.Inside.{one_head, not_both}
use Rattle.file_model.proofs.Names.{all_may_stand}
use Rattle.file_model.proofs.Paths.{parts, parent_child}

-- ---- Where a path is split

pub split_at : (path : List ℕ) (p : List ℕ × List ℕ) → split_path path ≡ Some p → SplitAt path p.0 p.1
split_at path p e =
    let w = parts path (subst IsSome (sym e) refl) in
    let one : Some (w.dir, w.name) ≡ Some p = sym w.split ∙ e in
    record {
      whole = w.whole ∙ (λ i. child (front_of (one i)) (back_of [] (one i)));
      plain = subst HasNoSlash (ap (back_of []) one) w.plain;
    }

-- a path below a root is split
pub some_split : (root q : List ℕ) → IsSome (split_path (child root q))
unfolding split_path
some_split [] q = at (split_path q)
  where
    at : (s : Option (List ℕ × List ℕ)) → IsSome (with_front 47 q s)
    at None = refl
    at (Some p) = refl
some_split (r ∷ root) q = at (split_path (child root q)) (some_split root q)
  where
    at : (s : Option (List ℕ × List ℕ)) → IsSome s → IsSome (with_front r (child root q) s)
    at None h = absurd (cc)
    at (Some p) h = refl

pub never_whole : (root q : List ℕ) → split_path (child root q) ≡ None → ⊥
never_whole root q none = some_none (subst IsSome none (some_split root q))
  where
    some_none : IsSome {T = List ℕ × List ℕ} None → ⊥
    some_none h = cc

pub slash_in : (root q last : List ℕ) → last ≡ child root q → HasNoSlash last → ⊥
slash_in [] q [] e plain = absurd (cc)
slash_in [] q (b ∷ last) e plain = let h = one_head b 47 last q e in absurd (not_slash b h.0 plain.0)
  where
    not_slash : (b : ℕ) → b ≡ 47 → (b == 47) ≡ false → ⊥
    not_slash b is fails = absurd (grind arith)
slash_in (r ∷ root) q [] e plain = absurd (cc)
slash_in (r ∷ root) q (b ∷ last) e plain = slash_in root q last (one_head b r last (child root q) e).1 plain.1

-- the directory of a path below a root is the root, or below it
pub split_below : (root q dir last : List ℕ) → child root q ≡ child dir last → HasNoSlash last → ((dir ≡ root) × (q ≡ last)) ⊎ IsAbove root q dir
split_below [] q [] last e plain = inl (refl, (one_head 47 47 q last e).1)
split_below [] q (x ∷ dir) last e plain = let h = one_head 47 x q (child dir last) e in
    inr (record { front = dir; last = last; plain = plain; whole = h.1; is = ap (λ b. b ∷ dir) (sym h.0) })
split_below (r ∷ root) q [] last e plain = absurd (slash_in root q last (sym (one_head r 47 (child root q) last e).1) plain)
split_below (r ∷ root) q (x ∷ dir) last e plain =
    let h = one_head r x (child root q) (child dir last) e in
    ⊎_elim (λ here. inl ((λ i. sym h.0 i ∷ here.0 i), here.1))
    (λ (w : IsAbove root q dir). inr (record { front = w.front; last = w.last; plain = w.plain; whole = w.whole; is = λ i. sym h.0 i ∷ w.is i }))
    (split_below root q dir last h.1 plain)

-- a path below a root is no top
pub below_no_top : (root q : List ℕ) → 1 ≤ length root → is_top (child root q) ≡ false
below_no_top root q some = at (split_path (child root q)) refl
  where
    long : (dir : List ℕ) → 1 ≤ length dir → bytes_eq dir [] ≡ false
    long [] few = absurd (omega (arith, few))
    long (x ∷ dir) few = refl

    front : (dir last : List ℕ) → child root q ≡ child dir last → HasNoSlash last → 1 ≤ length dir
    front dir last e plain = ⊎_elim
        (λ here. subst (λ d. 1 ≤ length d) (sym here.0) some)
        (λ (w : IsAbove root q dir). omega (arith, ap length w.is, length-append root (47 ∷ w.front), some))
        (split_below root q dir last e plain)

    at : (s : Option (List ℕ × List ℕ)) → split_path (child root q) ≡ s → is_top (child root q) ≡ false
    at None e = absurd (never_whole root q e)
    at (Some p) e = let w = split_at (child root q) p e in ap (λ s. bytes_eq (front_of s) []) e ∙ long p.0 (front p.0 p.1 w.whole w.plain)

tail_same : (x y : List ℕ) → 47 ∷ x ≡ 47 ∷ y → x ≡ y
tail_same x y e = cc

-- what a path is below a root, is one
pub one_below : (root p q : List ℕ) → child root p ≡ child root q → p ≡ q
one_below root p q e = tail_same p q (append_cancel_left root (47 ∷ p) (47 ∷ q) e)

-- a child of a path below a root is below it too
pub child_below : (root p name : List ℕ) → child (child root p) name ≡ child root (child p name)
child_below [] p name = refl
child_below (b ∷ root) p name = ap (λ l. b ∷ l) (child_below root p name)

-- ---- What stands in what

not_empty : (root p : List ℕ) → child root p ≡ [] → ⊥
not_empty [] p e = cc
not_empty (x ∷ root) p e = cc

-- a name in a directory below a root is no top
pub child_no_top : (root p name : List ℕ) → HasNoSlash name → is_top (child (child root p) name) ≡ false
child_no_top root p name plain = at (is_top (child (child root p) name)) refl
  where
    at : (b : Bool) → is_top (child (child root p) name) ≡ b → is_top (child (child root p) name) ≡ false
    at false e = e
    at true e = absurd (not_empty root p (sym (parent_child (child root p) name plain) ∙ (bytes_eq-Decides (parent (child (child root p) name)) []).0 e))

-- nothing stands in nothing
pub none_inside : (image : Image) → IsRooted image → (root p name : List ℕ) → HasNoSlash name → HasNothing (child root p) image → (HasNothing (child (child root p) name) image → ⊥) → ⊥
none_inside image rooted root p name plain none stands =
    let is = rooted.above (child (child root p) name) stands (child_no_top root p name plain) in
    not_both (is_directory image (child root p)) (ap (is_directory image) (sym (parent_child (child root p) name plain)) ∙ is) (ap directory_test none)

-- what reads see of a sound disk has directories above
pub rooted_seen : (disk : Disk) → IsSound disk → IsRooted (seen disk)
rooted_seen disk sound = record { above = λ path stands below. at path (get (seen_names disk) path) refl stands below }
  where
    at : (path : List ℕ) (o : Option Entry) → get (seen_names disk) path ≡ o → (HasNothing path (seen disk) → ⊥) → is_top path ≡ false → is_directory (seen disk) (parent path) ≡ true
    at path None e stands below = absurd (stands (ap (node_of (seen disk).bytes) e))
    at path (Some entry) e stands below = ap (λ o. directory_test (node_of (seen disk).bytes o)) (sound.rooted (seen_names disk) (all_may_stand disk.durable disk.pending) path entry e below)
