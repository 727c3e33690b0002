-- A file that was read is scanned: what was found, with the texts that stand in it, is what its form says.
use Rattle.std.proofs.Common.{◌≡◌, ℕ, List, refl, sym, subst, ◌∙◌}
use Rattle.mail_types.specs.declared.driver.Driver.TheVariants.{Unix}
use Rattle.store_index.specs.declared.opening.Found.{Found}
use Rattle.store_index.specs.Opened.{contents_at}
use Rattle.file_store.specs.Forms.{is_read_form}
use Rattle.file_store.specs.Scans.{IsScanned}
use Rattle.file_store.specs.Standing.{IsSizedBy}
use Rattle.file_store.proofs.Sizing.{texts_at, texts_count}
use Rattle.unix_form.specs.Form.{IsUnixSpelled, file_records, unix_file_form}
use Rattle.unix_form.proofs.UnixForm.{unix_is_form}
use Rattle.unix_layout.specs.Files.{IsFoundIn}
use Rattle.unix_layout.specs.Forms.{unix_read}

pub scanned_of : (bytes : List ℕ) (found : Found) (texts : List (List ℕ)) → IsFoundIn bytes found texts → IsScanned unix_read (λ b. unix_read.texts b ≡ texts) found bytes
scanned_of bytes found texts is =
    let n = file_records is.file in
    let spelled : IsUnixSpelled bytes (contents_at found texts) n = record { file = is.file; reads = is.reads; says = is.says; counts = refl } in
    let stand : unix_read.texts bytes ≡ texts =
    (is_read_form Unix unix_file_form unix_is_form).texts bytes (contents_at found texts) n spelled ∙ texts_at found.infos.items texts (texts_count found.infos.items texts is.sized) in
    record {
      records = n;
      spelled = subst (λ t. IsUnixSpelled bytes (contents_at found t) n) (sym stand) spelled;
      sized = subst (IsSizedBy found.infos.items) (sym stand) is.sized;
      places = stand;
    }
