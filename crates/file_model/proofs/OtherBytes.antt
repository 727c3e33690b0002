-- Images that are made of others, for crates that speak of no number of a file.
use Rattle.std.proofs.Common.{◌≡◌, ◌≢◌, ℕ, suc, ◌-◌, List, [], ◌∷◌, map, Bool, true, false, cond, if◌then◌else◌, Option, Some, None, refl, sym, ◌∙◌, ap, arith, ◌==◌}
use Rattle.std.specs.FinMap.{get, empty, insert, entries, from_entries, get-entries, get-from_entries}
use Rattle.std.specs.FinMap.Entries.{find}
use Rattle.std.specs.Ordering.{eq_by_cmp}
use Rattle.std.proofs.lemmas.Cmp.{nat_list_cmp_total}
use Rattle.file_model.specs.Images.{Image, Entry, a_file, a_directory, Names, file, node_of, node_at, path_cmp}
use Rattle.file_model.proofs.Names.{get-insert_same, get-insert_other}

-- each file gets the next number, so that 0 is free
abbrev next_entry : Entry → Entry
next_entry (a_file id) = a_file (suc id)
next_entry a_directory = a_directory

abbrev next_option : Option Entry → Option Entry
next_option None = None
next_option (Some e) = Some (next_entry e)

abbrev shifted : Names → Names
shifted names = from_entries (map (λ (e : List ℕ × Entry). (e.0, next_entry e.1)) (entries names))

abbrev shifted_bytes : List ℕ → (ℕ → List ℕ) → ℕ → List ℕ
shifted_bytes new bytes n = if n == 0 then new else bytes (n - 1)

find_next : (q : List ℕ) (es : List (List ℕ × Entry)) → find path_cmp q (map (λ (e : List ℕ × Entry). (e.0, next_entry e.1)) es) ≡ next_option (find path_cmp q es)
find_next q [] = refl
find_next q (e ∷ es) = at (eq_by_cmp path_cmp q e.0) (find_next q es)
  where
    at : (b : Bool) → find path_cmp q (map (λ (e : List ℕ × Entry). (e.0, next_entry e.1)) es) ≡ next_option (find path_cmp q es)
        → cond b (Some (next_entry e.1)) (find path_cmp q (map (λ (e : List ℕ × Entry). (e.0, next_entry e.1)) es)) ≡ next_option (cond b (Some e.1) (find path_cmp q es))
    at true rest = refl
    at false rest = rest

get_shifted : (names : Names) (q : List ℕ) → get (shifted names) q ≡ next_option (get names q)
get_shifted names q = get-from_entries nat_list_cmp_total (map (λ (e : List ℕ × Entry). (e.0, next_entry e.1)) (entries names)) q
    ∙ find_next q (entries names) ∙ ap next_option (sym (get-entries names q))

node_shifted : (new : List ℕ) (bytes : ℕ → List ℕ) (e : Option Entry) → node_of (shifted_bytes new bytes) (next_option e) ≡ node_of bytes e
node_shifted new bytes None = refl
node_shifted new bytes (Some a_directory) = refl
node_shifted new bytes (Some (a_file id)) = ap (λ b. file (cond b new (bytes (suc id - 1)))) (not_zero id) ∙ ap (λ n. file (bytes n)) (back id)
  where
    not_zero : (n : ℕ) → (suc n == 0) ≡ false
    not_zero n = grind arith

    back : (n : ℕ) → suc n - 1 ≡ n
    back n = omega arith

-- an image with other bytes in the file at a path
pub with_bytes : List ℕ → List ℕ → Image → Image
with_bytes path new image = record { names = insert (shifted image.names) path (a_file 0); bytes = shifted_bytes new image.bytes }

pub node_with_same : (path new : List ℕ) (image : Image) → node_at (with_bytes path new image) path ≡ file new
unfolding with_bytes
node_with_same path new image = ap (node_of (shifted_bytes new image.bytes)) (get-insert_same (shifted image.names) path (a_file 0))

pub node_with_other : (path new : List ℕ) (image : Image) (q : List ℕ) → q ≢ path → node_at (with_bytes path new image) q ≡ node_at image q
unfolding with_bytes
node_with_other path new image q apart = ap (node_of (shifted_bytes new image.bytes)) (get-insert_other (shifted image.names) path (a_file 0) q apart ∙ get_shifted image.names q)
    ∙ node_shifted new image.bytes (get image.names q)

-- an image with one file and nothing else
pub one_file : List ℕ → List ℕ → Image
one_file path bytes = record { names = insert empty path (a_file 0); bytes = λ id. bytes }

pub one_file_has : (path bytes : List ℕ) → node_at (one_file path bytes) path ≡ file bytes
unfolding one_file
one_file_has path bytes = ap (node_of (λ id. bytes)) (get-insert_same empty path (a_file 0))
