-- What is found in a unix file.
use Rattle.std.specs.Prelude.{ℕ, List, ◌≡◌, Some, option_map}
use Rattle.store_index.specs.declared.opening.Found.{Found}
use Rattle.store_index.specs.Opened.{contents_at}
use Rattle.file_store.specs.Standing.{IsSizedBy}
use Rattle.unix_form.specs.Form.{UnixFile, file_of, file_in, contents_in}
use Rattle.unix_form.specs.Messages.{messages_in}
use Rattle.text_lines.specs.Lines.{lines_of}

-- a file says what was found with these texts, and the sizes are those of the texts
pub record IsFoundIn (bytes : List ℕ) (found : Found) (texts : List (List ℕ)) : Type 0 where
  pub file : UnixFile
  pub reads : file_of bytes ≡ Some file
  pub says : contents_at found texts ≡ contents_in file
  pub sized : IsSizedBy found.infos.items texts

-- the same of a text without NUL
pub record IsFoundText (text : List ℕ) (found : Found) (texts : List (List ℕ)) : Type 0 where
  pub file : UnixFile
  pub reads : option_map file_in (messages_in (lines_of text)) ≡ Some file
  pub says : contents_at found texts ≡ contents_in file
  pub sized : IsSizedBy found.infos.items texts
