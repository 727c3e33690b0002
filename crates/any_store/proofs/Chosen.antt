-- What the chosen driver says of a path, said of the forms of all.
use Rattle.std.proofs.Common.{◌≡◌, ◌≢◌, ◌⊎◌, ◌≤◌, ◌+◌, arith, ℕ, Bool, true, false, List, refl, sym, ◌∙◌, ap, subst, inr, Option, Some, None, Err}
use Rattle.std.specs.Prelude.{IfSome}
use Rattle.std.proofs.lemmas.Option.{same_Some}
use Rattle.file_model.specs.Disk.{seen}
use Rattle.file_model.specs.Histories.{History, Now}
use Rattle.file_model.specs.Images.{Image, Node, nothing, file, directory, node_at, directory_test}
use Rattle.file_model.proofs.Runs.{now_weaker, now_both}
use Rattle.mail_types.specs.declared.driver.Driver.{Driver}
use Rattle.mail_types.specs.declared.driver.Driver.TheVariants.{Unix, Mmdf, Mbx, Mtx, Tenex, Mh, Mix}
use Rattle.store_trait.specs.declared.faults.OpenFault.{OpenFault}
use Rattle.store_trait.specs.declared.faults.OpenFault.TheVariants.{Absent, IllFormed, TooLarge, Failed, Memory}
use Rattle.store_trait.specs.Commits.{mark_of}
use Rattle.store_trait.specs.Forms.{Forms, grammar_of}
use Rattle.store_trait.specs.Meaning.{IsOfKind, Means}
use Rattle.store_trait.specs.OwnPaths.{is_directory_driver}
use Rattle.store_trait.specs.Promises.{IsOpenAt, IsEnough, Opens, RefusesOpen}
use Rattle.store_trait.specs.Views.{View, Grammar}
use Rattle.any_store.specs.Arms.{SharesForm, same_grammar}
use Rattle.any_store.specs.Choice.{formats_of, chosen, front_length, driver_at, directory_driver, has_file, mh_mark_of}
use Rattle.any_store.specs.Fronts.{chosen_file}
use Rattle.any_store.specs.Stores.{no_forms, all_forms}
use Rattle.any_store.specs.Promises.{RefusesAny, OpensAny}

-- ---- A chosen driver is of the kind of what stands there

chosen_directory : (image : Image) (path : List ℕ) (d : Driver) → directory_driver image path ≡ Some d → is_directory_driver d ≡ true
chosen_directory image path d is = step (has_file image (mark_of path)) (has_file image (mh_mark_of path)) refl refl
  where
    step : (one two : Bool) → has_file image (mark_of path) ≡ one → has_file image (mh_mark_of path) ≡ two → is_directory_driver d ≡ true
    step true two a b = let e : Some Mix ≡ Some d = sym (rw (a) refl) ∙ is in ap is_directory_driver (sym (same_Some _ _ e))
    step false true a b = let e : Some Mh ≡ Some d = sym (rw (a, b) refl) ∙ is in ap is_directory_driver (sym (same_Some _ _ e))
    step false false a b = let e : None ≡ Some d = sym (rw (a, b) refl) ∙ is in absurd (cc)

-- something stands there, of the driver's kind
pub record IsChosen (d : Driver) (path : List ℕ) (image : Image) : Type 0 where
  pub stands : node_at image path ≢ nothing
  pub kind : IsOfKind d path image

pub chosen_is : (image : Image) (path : List ℕ) (d : Driver) → driver_at chosen image path ≡ Some d → IsChosen d path image
chosen_is image path d is = step (node_at image path) refl
  where
    step : (node : Node) → node_at image path ≡ node → IsChosen d path image
    step nothing here = let e : None ≡ Some d = sym (rw (here) refl) ∙ is in absurd (cc)
    step (file bytes) here = record {
      stands = λ none. let e : file bytes ≡ nothing = sym here ∙ none in absurd (cc);
      kind = ap directory_test here ∙ sym (chosen_file bytes d (sym (rw (here) refl) ∙ is));
    }
    step directory here = record {
      stands = λ none. let e : directory ≡ nothing = sym here ∙ none in absurd (cc);
      kind = ap directory_test here ∙ sym (chosen_directory image path d (sym (rw (here) refl) ∙ is));
    }

-- what a format asks of a path
pub chosen_kind : (path : List ℕ) (d : Driver) (old : History) → Now old (λ w. driver_at chosen (seen w.disk) path ≡ Some d)
    → Now old (λ w. (node_at (seen w.disk) path ≡ nothing) ⊎ IsOfKind d path (seen w.disk))
chosen_kind path d old is = now_weaker (λ w. driver_at chosen (seen w.disk) path ≡ Some d) (λ w. (node_at (seen w.disk) path ≡ nothing) ⊎ IsOfKind d path (seen w.disk)) (λ w e. inr (chosen_is (seen w.disk) path d e).kind) old is

pub chosen_stands : (path : List ℕ) (d : Driver) (old : History) → Now old (λ w. driver_at chosen (seen w.disk) path ≡ Some d) → Now old (λ w. (node_at (seen w.disk) path ≢ nothing) × IsOfKind d path (seen w.disk))
chosen_stands path d old is = now_weaker (λ w. driver_at chosen (seen w.disk) path ≡ Some d) (λ w. (node_at (seen w.disk) path ≢ nothing) × IsOfKind d path (seen w.disk)) (λ w e. let k = chosen_is (seen w.disk) path d e in (k.stands, k.kind)) old is

-- ---- What its opening says

module _ (mine all : Forms) (d : Driver) (shares : SharesForm d mine all) (path : List ℕ) (old : History) (is : Now old (λ w. driver_at chosen (seen w.disk) path ≡ Some d)) where
  fault_any : (fault : OpenFault) → Now old (λ w. Means (grammar_of mine d path) d path (seen w.disk) (Err fault))
      → Now old (λ w. (driver : Driver) × (driver_at chosen (seen w.disk) path ≡ Some driver) × Means (grammar_of all driver path) driver path (seen w.disk) (Err fault))
  fault_any fault means = now_weaker (λ w. (driver_at chosen (seen w.disk) path ≡ Some d) × Means (grammar_of mine d path) d path (seen w.disk) (Err fault))
      (λ w. (driver : Driver) × (driver_at chosen (seen w.disk) path ≡ Some driver) × Means (grammar_of all driver path) driver path (seen w.disk) (Err fault))
      (λ w both. (d, both.0, subst (λ g. Means g d path (seen w.disk) (Err fault)) (same_grammar mine all d path shares) both.1)) old
      (now_both (λ w. driver_at chosen (seen w.disk) path ≡ Some d) (λ w. Means (grammar_of mine d path) d path (seen w.disk) (Err fault)) old is means)

  pub refuses_any : (fault : OpenFault) → RefusesOpen (grammar_of mine d path) d path fault old → RefusesAny (formats_of all chosen) path fault old
  refuses_any Failed refuses = tt
  refuses_any Memory refuses = tt
  refuses_any Absent refuses = now_weaker (λ w. Means (grammar_of mine d path) d path (seen w.disk) (Err Absent)) (λ w. node_at (seen w.disk) path ≡ nothing) (λ w m. m.is) old refuses
  refuses_any (IllFormed named n) refuses = fault_any (IllFormed named n) refuses
  refuses_any (TooLarge limit) refuses = fault_any (TooLarge limit) refuses

  pub opens_any : (view : View) (fresh : ℕ) → IsOpenAt d path view → Opens (grammar_of mine d path) d path view fresh old → OpensAny (formats_of all chosen) path view fresh old
  opens_any view fresh made opens = record {
    chosen = subst (λ driver. Now old (λ w. driver_at chosen (seen w.disk) path ≡ Some driver)) (sym made.driver_is) is;
    opens = subst (λ driver. Opens (grammar_of all driver path) driver path view fresh old) (sym made.driver_is)
        (subst (λ g. Opens g d path view fresh old) (same_grammar mine all d path shares) opens);
  }

-- what a look found, by the driver of an arm
pub found_as : (found : Option Driver) (d e : Driver) (path : List ℕ) (old : History) → IfSome found (λ driver. Now old (λ w. driver_at chosen (seen w.disk) path ≡ Some driver)) → found ≡ Some d → d ≡ e
    → Now old (λ w. driver_at chosen (seen w.disk) path ≡ Some e)
found_as found d e path old is some same =
    subst (λ driver. Now old (λ w. driver_at chosen (seen w.disk) path ≡ Some driver)) same (subst (λ f. IfSome f (λ driver. Now old (λ w. driver_at chosen (seen w.disk) path ≡ Some driver))) some is)

-- how much an opening reads, beside the front of the file
enough_as : (one other : List ℕ → Image → ℕ → Type 0) (g : Grammar) (d : Driver) (path : List ℕ) (image : Image) (n : ℕ) → (d ≡ Mix → ⊥) → IsEnough one g d path image n → IsEnough other g d path image n
enough_as one other g Unix path image n plain is = is
enough_as one other g Mmdf path image n plain is = is
enough_as one other g Mbx path image n plain is = is
enough_as one other g Mtx path image n plain is = is
enough_as one other g Tenex path image n plain is = is
enough_as one other g Mh path image n plain is = is
enough_as one other g Mix path image n plain is = absurd (plain refl)

pub reads_any : (mine all : Forms) (d : Driver) → SharesForm d mine all → (d ≡ Mix → ⊥) → (of_mine of_all : List ℕ → Image → ℕ → Type 0) (path : List ℕ) (old mid : History) (before between after : ℕ) → mid ≡ old
    → Now old (λ w. driver_at chosen (seen w.disk) path ≡ Some d) → Now old (λ w. between ≤ before + front_length)
    → ((n : ℕ) → Now mid (λ w. IsEnough of_mine (grammar_of mine d path) d path (seen w.disk) n → after ≤ between + n))
    → (n : ℕ) (driver : Driver) → Now old (λ w. driver_at chosen (seen w.disk) path ≡ Some driver → IsEnough of_all (grammar_of all driver path) driver path (seen w.disk) n → after ≤ before + (n + front_length))
reads_any mine all d shares plain of_mine of_all path old mid before between after same is front opens n driver =
    now_weaker (λ w. ((driver_at chosen (seen w.disk) path ≡ Some d) × (between ≤ before + front_length)) × (IsEnough of_mine (grammar_of mine d path) d path (seen w.disk) n → after ≤ between + n))
    (λ w. driver_at chosen (seen w.disk) path ≡ Some driver → IsEnough of_all (grammar_of all driver path) driver path (seen w.disk) n → after ≤ before + (n + front_length))
    (λ w all_of at enough.
    let this : driver ≡ d = same_Some _ _ (sym at ∙ all_of.0.0) in
    let here : IsEnough of_all (grammar_of all d path) d path (seen w.disk) n = subst (λ e. IsEnough of_all (grammar_of all e path) e path (seen w.disk) n) this enough in
    let mine_is : IsEnough of_all (grammar_of mine d path) d path (seen w.disk) n = subst (λ g. IsEnough of_all g d path (seen w.disk) n) (sym (same_grammar mine all d path shares)) here in
    let more = all_of.1 (enough_as of_all of_mine (grammar_of mine d path) d path (seen w.disk) n plain mine_is) in
    let few = all_of.0.1 in
    omega (arith, more, few)) old
    (now_both _ _ old (now_both _ _ old is front) (subst (λ h. Now h (λ w. IsEnough of_mine (grammar_of mine d path) d path (seen w.disk) n → after ≤ between + n)) same (opens n)))

-- the forms of a driver that doesn't stand are those by which nothing is said
pub shares_unknown : (d : Driver) → (d ≡ Unix → ⊥) → (d ≡ Mbx → ⊥) → SharesForm d no_forms all_forms
shares_unknown Unix one two = absurd (one refl)
shares_unknown Mbx one two = absurd (two refl)
shares_unknown Mmdf one two = record { file = refl; directory = refl }
shares_unknown Mtx one two = record { file = refl; directory = refl }
shares_unknown Tenex one two = record { file = refl; directory = refl }
shares_unknown Mh one two = record { file = refl; directory = refl }
shares_unknown Mix one two = record { file = refl; directory = refl }
