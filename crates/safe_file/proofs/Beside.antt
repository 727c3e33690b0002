-- Where the temporary file stands.
use Rattle.std.proofs.Common.{◌≡◌, ◌≢◌, ℕ, ◌+◌, List, [], ◌∷◌, ◌++◌, length, drop, refl, sym, ◌∙◌, ap, subst, arith, length-append, false, Result, Ok, Err, OnOk}
use Rattle.std.specs.Result.{is_err}
use Rattle.std.specs.Prelude.{codes, bytes_eq}
use Rattle.std.proofs.lemmas.List.{append-nil}
use Rattle.file_model.specs.Paths.{parent, last_part, front_of, back_of, IsInDirectory, HasNoSlash, temporary_of, is_top}
use Rattle.file_model.specs.Disk.{written}
use Rattle.file_model.specs.declared.files.Failed.{Failed}
use Rattle.file_model.proofs.Paths.{parts, parent_child, child_apart}

-- what is written to an empty file
pub written_empty : (bytes : List ℕ) → written 0 bytes [] ≡ bytes
written_empty bytes = let none : drop (0 + length bytes) (let l : List ℕ = [] in l) ≡ [] = grind arith in ap (λ (l : List ℕ). bytes ++ l) none ∙ append-nil bytes

-- in the same directory
pub parent_temporary : (path : List ℕ) → IsInDirectory path → parent (temporary_of path) ≡ parent path
parent_temporary path has =
    let p = parts path has in
    let name : last_part path ≡ p.name = ap (back_of path) p.split in
    parent_child (parent path) (codes ".new" ++ last_part path) (refl, (refl, (refl, (refl, subst HasNoSlash (sym name) p.plain))))

-- a path below a top has its temporary file there too
pub temporary_below : (path : List ℕ) → IsInDirectory path → is_top path ≡ false → is_top (temporary_of path) ≡ false
temporary_below path has below = ap (λ dir. bytes_eq dir []) (parent_temporary path has) ∙ below

pub directory_apart : (path : List ℕ) → parent path ≢ temporary_of path
directory_apart path = child_apart (parent path) (codes ".new" ++ last_part path)

pub temporary_apart : (path : List ℕ) → IsInDirectory path → temporary_of path ≢ path
temporary_apart path has e =
    let p = parts path has in
    let dir : parent path ≡ p.dir = ap front_of p.split in
    let name : last_part path ≡ p.name = ap (back_of path) p.split in
    absurd (omega (arith, ap length e, ap length p.whole, ap length dir, ap length name, length-append (parent path) (47 ∷ (codes ".new" ++ last_part path)), length-append p.dir (47 ∷ p.name)))

-- what stands after a call that didn't fail
pub ok_here : (result : Result (Unit {0}) Failed) (P : Type 0) → is_err result ≡ false → OnOk result P → P
ok_here (Ok u) P is here = here
ok_here (Err e) P is here = absurd (cc)
