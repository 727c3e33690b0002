-- The form of unix files, with the texts that stand in a file.
use Rattle.mail_types.specs.declared.driver.Driver.TheVariants.{Unix}
use Rattle.file_store.specs.Forms.{ReadForm, read_form}
use Rattle.unix_form.specs.Form.{unix_file_form}
use Rattle.unix_form.proofs.UnixForm.{unix_is_form}

abbrev pub unix_read : ReadForm
unix_read = read_form Unix unix_file_form unix_is_form
