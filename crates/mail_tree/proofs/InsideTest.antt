-- Whether a path leads into a directory: it begins with the directory's path, and a slash follows.
use Rattle.std.proofs.Common.{◌≡◌, ℕ, List, [], ◌∷◌, ◌++◌, take, drop, length, Bool, true, false, ◌-◌, refl, sym, ◌∙◌, ap, arith}
use Rattle.std.specs.Prelude.{nat_eq}
use Rattle.std.specs.List.{starts_with}
use Rattle.std.proofs.lemmas.Bool.{false_from_ne_true}
use Rattle.std.proofs.lemmas.List.{append_cancel_left, length-append, length-drop, take-append-drop, take_all, append-nil}
use Rattle.std.proofs.Math.Seq.{take-append_seam}
use Rattle.std.proofs.lemmas.Slice.Eq.{bytes_eq-Decides}
use Rattle.file_model.specs.Paths.{is_inside}
use Rattle.file_model.proofs.Inside.{inside_is, child_inside, not_both}

heads : (x y : ℕ) (l m : List ℕ) → x ∷ l ≡ y ∷ m → x ≡ y
heads x y l m e = cc

-- by what follows the directory's path
behind : (dir rest : List ℕ) → is_inside dir (dir ++ rest) ≡ starts_with nat_eq rest (47 ∷ [])
behind dir [] = false_from_ne_true (is_inside dir (dir ++ [])) (λ is.
    let w = inside_is dir (dir ++ []) is in
    absurd (omega (arith, ap length (sym (append-nil dir) ∙ w.1), length-append dir (47 ∷ w.0))))
behind dir (b ∷ rest) = at (nat_eq 47 b) refl
  where
    is_same : (b : ℕ) → nat_eq 47 b ≡ true → 47 ≡ b
    is_same b h = grind arith

    at : (t : Bool) → nat_eq 47 b ≡ t → is_inside dir (dir ++ b ∷ rest) ≡ starts_with nat_eq (b ∷ rest) (47 ∷ [])
    at true e = ap (λ z. is_inside dir (dir ++ z ∷ rest)) (sym (is_same b e)) ∙ child_inside dir rest ∙ sym ((bytes_eq-Decides (47 ∷ []) (b ∷ [])).1 (ap (λ z. z ∷ []) (is_same b e)))
    at false e = false_from_ne_true (is_inside dir (dir ++ b ∷ rest)) (λ is.
        let w = inside_is dir (dir ++ b ∷ rest) is in
        let head : b ≡ 47 = heads b 47 rest w.0 (append_cancel_left dir (b ∷ rest) (47 ∷ w.0) w.1) in
        absurd (grind arith))
        ∙ sym (false_from_ne_true (starts_with nat_eq (b ∷ rest) (47 ∷ [])) (λ is. let head = heads 47 b [] [] ((bytes_eq-Decides (47 ∷ []) (b ∷ [])).0 is) in absurd (grind arith)))

pub inside_then : (dir path : List ℕ) → starts_with nat_eq path dir ≡ true → starts_with nat_eq (take (length path - length dir) (drop (length dir) path)) (47 ∷ []) ≡ is_inside dir path
inside_then dir path is = ap (λ l. starts_with nat_eq l (47 ∷ [])) (take_all (length path - length dir) (drop (length dir) path) (omega (arith, length-drop (length dir) path))) ∙ sym (ap (is_inside dir) whole ∙ behind dir (drop (length dir) path))
  where
    whole : path ≡ dir ++ drop (length dir) path
    whole = sym (take-append-drop (length dir) path) ∙ ap (λ l. l ++ drop (length dir) path) (sym ((bytes_eq-Decides dir (take (length dir) path)).0 is))

pub inside_else : (dir path : List ℕ) → starts_with nat_eq path dir ≡ false → false ≡ is_inside dir path
inside_else dir path fails = sym (false_from_ne_true (is_inside dir path) (λ is.
    let w = inside_is dir path is in
    not_both (starts_with nat_eq path dir) ((bytes_eq-Decides dir (take (length dir) path)).1 (sym (ap (take (length dir)) w.1 ∙ take-append_seam dir (47 ∷ w.0)))) fails))
