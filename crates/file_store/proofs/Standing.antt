-- What a call knows of a store that isn't broken.
use Rattle.std.proofs.Common.{◌≡◌, ℕ, List, false, inl, inr, Result, Ok, Err, OnOk, IfOk, IfErr, sym, subst}
use Rattle.file_model.specs.Disk.{seen}
use Rattle.file_model.specs.Histories.{History, Now}
use Rattle.mail_types.specs.declared.driver.Driver.{Driver}
use Rattle.store_trait.specs.declared.change.Change.{Change}
use Rattle.store_trait.specs.declared.faults.StoreFault.{StoreFault}
use Rattle.store_trait.specs.Changes.{IsSized}
use Rattle.store_trait.specs.Promises.{CanAsk}
use Rattle.store_index.specs.States.{ToldState, told_as}
use Rattle.store_index.specs.Fronts.{FrontState}
use Rattle.file_store.specs.Forms.{ReadForm}
use Rattle.file_store.specs.Standing.{StandsOn, file_view}

pub asked : (driver : Driver) (form : ReadForm) (holds : List ℕ → Type 0) (s : FrontState) (h : History) → CanAsk (file_view driver form holds s) h → s.broken ≡ false → Now h (λ w. StandsOn driver form holds s.path s.told (seen w.disk))
asked driver form holds s h (inl broken) whole = absurd (cc)
asked driver form holds s h (inr stands) whole = stands

pub on_ok_sized : (was is next : ToldState) (change : Change) (result : Result (Unit {0}) StoreFault) → OnOk result (is ≡ next) → IsSized (told_as was) change (told_as next) → OnOk result (IsSized (told_as was) change (told_as is))
on_ok_sized was is next change (Ok u) same sized = subst (λ (t : ToldState). IsSized (told_as was) change (told_as t)) (sym same) sized
on_ok_sized was is next change (Err fault) same sized = tt

-- what an answer within an answer says
pub inner_ok : {T E : Type 0} (P : T → Type 0) (r : Result T E) (x : T) → r ≡ Ok x → IfOk r P → P x
inner_ok P r x is says = subst (λ q. IfOk q P) is says

pub inner_err : {T E : Type 0} (P : E → Type 0) (r : Result T E) (x : E) → r ≡ Err x → IfErr r P → P x
inner_err P r x is says = subst (λ q. IfErr q P) is says
