-- The files by which directories are known: a change of an mh mailbox leaves its file, and what is written of a mix mailbox has it.
use Rattle.std.proofs.Common.{◌≡◌, ◌∙◌, ℕ, List, ◌∷◌, Some, codes, ap}
use Rattle.std.specs.Prelude.{drop}
use Rattle.std.proofs.lemmas.Bool.{false≢true}
use Rattle.std.proofs.lemmas.List.{append_cancel_left}
use Rattle.file_model.specs.Disk.{Disk, seen}
use Rattle.file_model.specs.Images.{Image, Agree, bytes_at, bytes_of}
use Rattle.file_model.specs.Paths.{child}
use Rattle.mail_types.specs.declared.driver.Driver.TheVariants.{Mh, Mix}
use Rattle.mail_types.specs.declared.contents.StoreContents.{StoreContents}
use Rattle.store_trait.specs.Commits.{mark_of}
use Rattle.store_trait.specs.Forms.{Forms, directory_at, grammar_of}
use Rattle.store_trait.specs.Laws.{IsReading}
use Rattle.store_trait.specs.Meaning.{IsWritten}
use Rattle.store_trait.specs.OwnPaths.{MayChange, IsNoPath, is_content_name}
use Rattle.store_trait.specs.Touching.{SeesBut}
use Rattle.store_trait.proofs.Touched.{sees_but}

abbrev pub mh_mark : List ℕ
mh_mark = codes ".mh_sequences"

no_message : (path : List ℕ) → MayChange Mh path (child path mh_mark) → ⊥
no_message path may =
    let same : mh_mark ≡ may.name = ap (drop 1) (append_cancel_left path (47 ∷ mh_mark) (47 ∷ may.name) may.whole) in
    false≢true (ap (is_content_name Mh) same ∙ may.is_kind)

pub mark_stays : (path : List ℕ) (old new : Disk) → SeesBut (MayChange Mh path) IsNoPath old new → Agree (child path mh_mark) (seen new) (seen old)
mark_stays path old new sees = (sees_but (MayChange Mh path) IsNoPath old new sees).each (child path mh_mark) (no_message path, λ never. never)

-- what says the contents of a mix mailbox has the file by which it is known, so after a creation and after each change it stands
pub mix_marked : (forms : Forms) → IsReading Mix forms → (path : List ℕ) (image : Image) (contents : StoreContents) → IsWritten (grammar_of forms Mix path) image contents
    → (bytes : List ℕ) × (bytes_at image (mark_of path) ≡ Some bytes)
mix_marked forms law path image contents (records, written) =
    let mark = law.marked (directory_at path image) contents records written.says in
    (mark.0, ap bytes_of mark.1)
