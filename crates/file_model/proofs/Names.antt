-- What stands at a path after a call on names.
use Rattle.std.proofs.Common.{◌≡◌, ◌≢◌, ◌⊎◌, inl, inr, ℕ, List, [], ◌∷◌, Bool, true, false, cond, Some, None, refl, ◌∙◌, ap}
use Rattle.std.specs.Str.{bytes_eq}
use Rattle.std.specs.Ordering.{eq_by_cmp}
use Rattle.std.specs.FinMap.{get, insert, remove, get-insert, get-remove}
use Rattle.std.proofs.lemmas.Cmp.{nat_list_cmp_total}
use Rattle.std.proofs.lemmas.Slice.Eq.{bytes_eq-Decides}
use Rattle.std.proofs.lemmas.Map.Text.{is_eq-slice_cmp}
use Rattle.file_model.specs.Images.{Entry, Names, path_cmp}
use Rattle.file_model.specs.Disk.{DirectoryOperation, done, all_done, MayStand, durable_by, left_pending_by, names_something_in}

pub cases_path : (p q : List ℕ) → (p ≡ q) ⊎ (p ≢ q)
cases_path p q = elim (decided (bytes_eq p q)) [
  | inl holds ↦ inl ((bytes_eq-Decides p q).0 holds)
  | inr fails ↦ inr (λ same. absurd_true (bytes_eq p q) ((bytes_eq-Decides p q).1 same) fails)
]
  where
    decided : (b : Bool) → (b ≡ true) ⊎ (b ≡ false)
    decided true = inl refl
    decided false = inr refl

    absurd_true : (b : Bool) → b ≡ true → b ≡ false → ⊥
    absurd_true b holds fails = cc

pub same_path : (p : List ℕ) → eq_by_cmp path_cmp p p ≡ true
same_path p = is_eq-slice_cmp p p ∙ (bytes_eq-Decides p p).1 refl

pub other_path : (p q : List ℕ) → q ≢ p → eq_by_cmp path_cmp q p ≡ false
other_path p q apart = is_eq-slice_cmp q p ∙ not_true (bytes_eq q p) (λ holds. apart ((bytes_eq-Decides q p).0 holds))
  where
    not_true : (b : Bool) → (b ≡ true → ⊥) → b ≡ false
    not_true true h = absurd (h refl)
    not_true false h = refl

pub get-insert_same : (names : Names) (p : List ℕ) (e : Entry) → get (insert names p e) p ≡ Some e
get-insert_same names p e = get-insert nat_list_cmp_total names p e p ∙ ap (λ b. cond b (Some e) (get names p)) (same_path p)

pub get-insert_other : (names : Names) (p : List ℕ) (e : Entry) (q : List ℕ) → q ≢ p → get (insert names p e) q ≡ get names q
get-insert_other names p e q apart = get-insert nat_list_cmp_total names p e q ∙ ap (λ b. cond b (Some e) (get names q)) (other_path p q apart)

pub get-remove_same : (names : Names) (p : List ℕ) → get (remove names p) p ≡ None
get-remove_same names p = get-remove nat_list_cmp_total names p p ∙ ap (λ b. cond b None (get names p)) (same_path p)

pub get-remove_other : (names : Names) (p q : List ℕ) → q ≢ p → get (remove names p) q ≡ get names q
get-remove_other names p q apart = get-remove nat_list_cmp_total names p q ∙ ap (λ b. cond b None (get names q)) (other_path p q apart)

-- all calls done is one of the outcomes
pub all_may_stand : (durable : Names) (calls : List DirectoryOperation) → MayStand durable calls (all_done calls durable)
all_may_stand durable [] = refl
all_may_stand durable (call ∷ earlier) = inl refl

-- durable calls and those left open are all
all_split : (b : Bool) (dir : List ℕ) (call : DirectoryOperation) (earlier : List DirectoryOperation) (base : Names)
    → all_done (left_pending_by dir earlier) (all_done (durable_by dir earlier) base) ≡ all_done earlier base
    → all_done (cond b [] (call ∷ left_pending_by dir earlier)) (all_done (cond b (call ∷ earlier) (durable_by dir earlier)) base) ≡ all_done (call ∷ earlier) base
all_split true dir call earlier base rest = refl
all_split false dir call earlier base rest = ap (done call) rest

pub all_durable : (dir : List ℕ) (calls : List DirectoryOperation) (base : Names)
    → all_done (left_pending_by dir calls) (all_done (durable_by dir calls) base) ≡ all_done calls base
all_durable dir [] base = refl
all_durable dir (call ∷ earlier) base = all_split (names_something_in dir call) dir call earlier base (all_durable dir earlier base)

stood_split : (b : Bool) (dir : List ℕ) (durable : Names) (call : DirectoryOperation) (earlier : List DirectoryOperation) (names : Names)
    → (MayStand (all_done (durable_by dir earlier) durable) (left_pending_by dir earlier) names → MayStand durable earlier names)
    → MayStand (all_done (cond b (call ∷ earlier) (durable_by dir earlier)) durable) (cond b [] (call ∷ left_pending_by dir earlier)) names
    → MayStand durable (call ∷ earlier) names
stood_split true dir durable call earlier names rest h = inl h
stood_split false dir durable call earlier names rest (inl h) = inl (h ∙ ap (done call) (all_durable dir earlier durable))
stood_split false dir durable call earlier names rest (inr h) = inr (rest h)

-- what may stand after the directory is durable might have stood before
pub stood_before : (dir : List ℕ) (durable : Names) (calls : List DirectoryOperation) (names : Names)
    → MayStand (all_done (durable_by dir calls) durable) (left_pending_by dir calls) names → MayStand durable calls names
stood_before dir durable [] names h = h
stood_before dir durable (call ∷ earlier) names h =
    stood_split (names_something_in dir call) dir durable call earlier names (stood_before dir durable earlier names) h
