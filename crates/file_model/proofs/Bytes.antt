-- A crash leaves bytes alone in a file.
use Rattle.std.proofs.Common.{◌⊎◌, ⊎_elim, ℕ, ◌+◌, ◌-◌, ◌<◌, ◌≤◌, List, [], ◌∷◌, ◌++◌, length, take, drop, sym, subst, arith, length-append, length-take, length-drop, get_or-take}
use Rattle.std.proofs.Math.ListN.{get_or-append}
use Rattle.std.proofs.Math.Seq.{get_or-append_right}
use Rattle.std.proofs.lemmas.List.{get_or-drop}
use Rattle.file_model.specs.Disk.{AreBytes, Edit, wrote, shortened, IsPossible, written}

pub bytes_take : (n : ℕ) (l : List ℕ) → AreBytes l → AreBytes (take n l)
bytes_take n l bytes k below =
    let long = length-take n l in
    subst (λ b. b < 256) (sym (get_or-take n l k 0 (omega (arith, long)))) (bytes k (omega (arith, long)))

pub bytes_drop : (n : ℕ) (l : List ℕ) → AreBytes l → AreBytes (drop n l)
bytes_drop n l bytes k below =
    let long = length-drop n l in
    subst (λ b. b < 256) (sym (get_or-drop n l k 0)) (bytes (n + k) (omega (arith, long)))

pub bytes_append : (l m : List ℕ) → AreBytes l → AreBytes m → AreBytes (l ++ m)
bytes_append l m one other k below = ⊎_elim
    (λ early. subst (λ b. b < 256) (sym (get_or-append l m 0 k early)) (one k early))
    (λ late. subst (λ b. b < 256) (sym (get_or-append_right l m k 0 late)) (other (k - length l) (omega (arith, length-append l m))))
    (split k (length l))
  where
    split : (k n : ℕ) → (k < n) ⊎ (n ≤ k)
    split k n = grind arith

pub bytes_written : (place : ℕ) (bytes old : List ℕ) → AreBytes bytes → AreBytes old → AreBytes (written place bytes old)
bytes_written place bytes old new was =
    bytes_append (take place old ++ bytes) (drop (place + length bytes) old) (bytes_append (take place old) bytes (bytes_take place old was) new) (bytes_drop (place + length bytes) old was)

pub bytes_possible : (durable : List ℕ) (edits : List Edit) (bytes : List ℕ) → AreBytes durable → IsPossible durable edits bytes → AreBytes bytes
bytes_possible durable [] bytes all is = subst AreBytes (sym is) all
bytes_possible durable (wrote place new ∷ earlier) bytes all is = is.2.any (bytes_possible durable earlier is.0 all is.1)
bytes_possible durable (shortened l ∷ earlier) bytes all is = ⊎_elim
    (λ same. subst AreBytes (sym same) (bytes_possible durable earlier is.0 all is.1))
    (λ shorter. subst AreBytes (sym shorter) (bytes_take l is.0 (bytes_possible durable earlier is.0 all is.1)))
    is.2
