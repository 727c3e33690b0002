-- The forms of the drivers that stand, and what an open mailbox of any of them stands for.
use Rattle.std.specs.Prelude.{Bool, true, false, [], ◌≡◌}
use Rattle.mail_types.specs.declared.driver.Driver.{Driver}
use Rattle.mail_types.specs.declared.driver.Driver.TheVariants.{Unix as UnixDriver, Mbx as MbxDriver}
use Rattle.store_trait.specs.Forms.{Forms}
use Rattle.store_trait.specs.Views.{View}
use Rattle.file_store.specs.declared.store.FileStore.{FileStore}
use Rattle.file_store.specs.Forms.{ReadForm, read_form, forms_of}
use Rattle.file_store.specs.Standing.{file_view}
use Rattle.unix_layout.specs.declared.layout.UnixLayout.{UnixLayout}
use Rattle.unix_layout.specs.Forms.{unix_read}
use Rattle.mbx_store.specs.declared.place.MbxLayout.{MbxLayout}
use Rattle.mbx_store.specs.Places.{HasPlaces}
use Rattle.mbx_form.specs.Form.{mbx_form}
use Rattle.mbx_form.proofs.MbxForm.{mbx_is_form}
use Rattle.any_store.specs.declared.any.AnyStore.{AnyStore}
use Rattle.any_store.specs.declared.any.AnyStore.TheVariants.{Unix, Mbx}

-- the drivers that stand
abbrev pub is_known : Driver → Bool
is_known UnixDriver = true
is_known MbxDriver = true
is_known driver = false

-- Of a driver that doesn't stand yet no file and no directory says anything.
abbrev pub no_forms : Forms
no_forms = record {
  knows = λ driver. ⊥;
  file = λ driver. record { spells = λ bytes contents records. ⊥; written = λ m. []; rewritten = λ bytes prior now. [] };
  directory = λ driver. record { says = λ files contents records. ⊥; rewritten = λ files prior change after. ⊥ };
}

-- the texts and the form of mbx files
abbrev pub mbx_read : ReadForm
mbx_read = read_form MbxDriver mbx_form mbx_is_form

abbrev pub unix_forms : Forms
unix_forms = forms_of UnixDriver unix_read

abbrev pub mbx_forms : Forms
mbx_forms = forms_of MbxDriver mbx_read

-- the forms that tell of a driver
abbrev pub forms_by : Driver → Forms
forms_by UnixDriver = unix_forms
forms_by MbxDriver = mbx_forms
forms_by driver = no_forms

-- each driver's form is its own
abbrev pub all_forms : Forms
all_forms = record {
  knows = λ driver. is_known driver ≡ true;
  file = λ driver. (forms_by driver).file driver;
  directory = λ driver. (forms_by driver).directory driver;
}

-- what an open unix mailbox stands for
abbrev pub unix_view : FileStore UnixLayout → View
unix_view s = file_view UnixDriver unix_read (λ bytes. unix_read.texts bytes ≡ s.layout.texts.items) s.front

-- what an open mbx mailbox stands for
abbrev pub mbx_view : FileStore MbxLayout → View
mbx_view s = file_view MbxDriver mbx_read (λ bytes. HasPlaces s.layout bytes) s.front

-- what an open mailbox stands for
abbrev pub view_of : AnyStore → View
view_of (Unix s) = unix_view s
view_of (Mbx s) = mbx_view s
