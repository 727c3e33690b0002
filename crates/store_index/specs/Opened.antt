-- What is told of a file that is opened.
use Rattle.std.specs.Prelude.{ℕ, List, [], ◌∷◌, map}
use Rattle.mail_types.specs.declared.contents.Placing.TheVariants.{InPlace}
use Rattle.mail_types.specs.declared.contents.StoreContents.{StoreContents}
use Rattle.mail_types.specs.Opening.{opened_numbering, opened_uids}
use Rattle.store_trait.specs.declared.store.Info.{Info}
use Rattle.store_index.specs.States.{ToldState}
use Rattle.store_index.specs.declared.opening.Found.{Found}
use Rattle.store_index.specs.Told.{records_at}

-- the contents that were found, with the texts of the file
abbrev pub contents_at : Found → List (List ℕ) → StoreContents
contents_at f texts = record { validity = f.validity; number = 0; last = f.last; words = f.words; records = records_at f.infos.items texts; placing = InPlace }

abbrev pub uids_told : List Info → List ℕ
uids_told infos = map (λ (i : Info). i.uid) infos

-- the same messages under these UIDs
abbrev pub infos_with : List ℕ → List Info → List Info
infos_with uids [] = []
infos_with [] (i ∷ infos) = []
infos_with (uid ∷ uids) (i ∷ infos) = record i { uid = uid } ∷ infos_with uids infos

-- what is told of the mailbox that is opened
abbrev pub opened_summary : Found → (fresh : ℕ) → ToldState
opened_summary f fresh =
    let uids = uids_told f.infos.items in
    let numbering = opened_numbering f.validity f.last uids fresh in
    record { validity = numbering.validity; last = numbering.last; words = f.words; infos = infos_with (opened_uids f.validity f.last uids) f.infos.items }
