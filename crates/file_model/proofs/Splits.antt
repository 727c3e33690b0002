-- Where a path is split.
use Rattle.std.proofs.Common.{◌≡◌, ◌≢◌, ℕ, suc, ◌+◌, ◌<◌, ◌≤◌, List, [], ◌∷◌, ◌++◌, length, take, drop, get_or, Option, Some, None, refl, sym, ◌∙◌, ap, subst, arith, length-append, take-append-drop, length-drop, lit<}
use Rattle.std.specs.Prelude.{IsSome}
use Rattle.std.proofs.Math.Seq.{get_or-append_seam}
use Rattle.std.proofs.lemmas.Str.Pattern.{rfind_char}
use Rattle.std.specs.Str.{IsCharBoundary}
use Rattle.std.specs.Str.Pattern.{RFindsChar}
use Rattle.std.specs.Option.{MatchOption}
use Rattle.std.proofs.lemmas.List.{get_or-drop, drop_more}
use Rattle.file_model.specs.Paths.{child, split_path, HasNoSlash}
use Rattle.file_model.proofs.Paths.{parts, split_child}

no_slash : (name : List ℕ) → ((i : ℕ) → i < length name → get_or name i 0 ≢ 47) → HasNoSlash name
no_slash [] h = tt
no_slash (b ∷ name) h = (let other : b ≢ 47 = h 0 (omega arith) in grind arith, no_slash name (λ i l. h (suc i) (omega (arith, l))))

abbrev pub Finds : List ℕ → Option ℕ → Type 0
Finds path r = MatchOption r (RFindsChar 47 path None) (λ i. (j : ℕ) × RFindsChar 47 path (Some (i, j)) × (i ≤ j) × IsCharBoundary path i × IsCharBoundary path j)

-- without a slash
pub found_none : (path : List ℕ) → Finds path None → split_path path ≡ None
found_none path h = at (split_path path) refl
  where
    none : (i : ℕ) → i < length path → get_or path i 0 ≢ 47
    none = rfind_char 47 path None h (lit< tt)

    at : (s : Option (List ℕ × List ℕ)) → split_path path ≡ s → split_path path ≡ None
    at None e = e
    at (Some p) e =
        let w = parts path (subst IsSome (sym e) refl) in
        absurd (none (length w.dir) (omega (arith, ap length w.whole, length-append w.dir (47 ∷ w.name))) (ap (λ l. get_or l (length w.dir) 0) w.whole ∙ get_or-append_seam w.dir 47 w.name 0))

-- the last slash splits it
pub record Found (path : List ℕ) (slash : ℕ) : Type 0 where
  pub below : slash < length path
  pub boundary : IsCharBoundary path (slash + 1)
  pub split : split_path path ≡ Some (take slash path, drop (slash + 1) path)

pub found : (path : List ℕ) (k : ℕ) → Finds path (Some k) → Found path k
found path k h =
    let facts = rfind_char 47 path (Some k) h (lit< tt) in
    let whole : path ≡ child (take k path) (drop (k + 1) path) =
    sym (take-append-drop k path) ∙ ap (λ l. take k path ++ l) (drop_more path k 0 facts.0 ∙ ap (λ b. b ∷ drop (k + 1) path) facts.1) in
    let plain : HasNoSlash (drop (k + 1) path) = no_slash (drop (k + 1) path) (λ i l. λ e.
    facts.2 (k + 1 + i) (omega arith) (omega (arith, l, length-drop (k + 1) path)) (sym (get_or-drop (k + 1) path i 0) ∙ e)) in
    record { below = facts.0; boundary = h.1.1.after; split = ap split_path whole ∙ split_child (take k path) (drop (k + 1) path) plain }
