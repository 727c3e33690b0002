-- The form of a driver's files: which files say which contents, and what is written of a mailbox.
use Rattle.std.specs.Prelude.{ℕ, true, List, ◌≡◌, Some, length, Contains}
use Rattle.file_model.specs.Images.{Image, Node, nothing, node_at, bytes_at, is_directory}
use Rattle.file_model.specs.Paths.{child, HasNoSlash}
use Rattle.mail_types.specs.declared.contents.StoreContents.{StoreContents}
use Rattle.mail_types.specs.declared.driver.Driver.{Driver}
use Rattle.mail_types.specs.declared.driver.Driver.TheVariants.{Mh, Mix}
use Rattle.mail_types.specs.declared.mailbox.Mailbox.{Mailbox}
use Rattle.store_trait.specs.declared.change.Change.{Change}
use Rattle.store_trait.specs.Views.{Grammar}

-- The form of a mailbox in one file.
pub record FileForm : Type 1 where
  -- these bytes say these contents, with so many file records
  pub spells : List ℕ → StoreContents → ℕ → Type 0
  -- the text of a mailbox, from nothing
  pub written : Mailbox → List ℕ
  -- what a change of a mailbox leaves of the bytes of its file; which records remain is said by their places
  pub rewritten : List ℕ → (prior : Mailbox) → Change → List ℕ

-- what stands under each name of a directory
abbrev pub Directory : Type 0
Directory = List ℕ → Node

-- all that stands in a directory stands under one of these names
pub record HasNames (files : Directory) : Type 0 where
  pub names : List (List ℕ)
  pub all : (name : List ℕ) → HasNoSlash name → (files name ≡ nothing → ⊥) → Contains names name

-- The form of a mailbox in a directory. It sees names and no path, so what files say can't rest on where they stand.
pub record DirectoryForm : Type 1 where
  -- what stands in the directory says these contents, with so many file records
  pub says : Directory → StoreContents → ℕ → Type 0
  -- what a change of a mailbox may leave of the directory: also which files it doesn't speak of, and how the others are spelled
  pub rewritten : Directory → (prior : Mailbox) → Change → Directory → Type 0

-- The forms of the drivers that a store knows.
pub record Forms : Type 1 where
  pub knows : Driver → Type 0
  pub file : Driver → FileForm
  pub directory : Driver → DirectoryForm

-- ---- The grammar at a path

abbrev pub directory_at : List ℕ → Image → Directory
directory_at path image = λ name. node_at image (child path name)

-- a file stands at the path, and its bytes say these contents
pub record IsSpelledAt (form : FileForm) (path : List ℕ) (image : Image) (contents : StoreContents) (records : ℕ) : Type 0 where
  pub bytes : List ℕ
  pub has : bytes_at image path ≡ Some bytes
  pub spells : form.spells bytes contents records

-- a directory stands at the path, and what stands in it says these contents
pub record IsSaidIn (form : DirectoryForm) (path : List ℕ) (image : Image) (contents : StoreContents) (records : ℕ) : Type 0 where
  pub stands : is_directory image path ≡ true
  pub says : form.says (directory_at path image) contents records

abbrev pub written_by : Forms → Driver → List ℕ → Image → StoreContents → ℕ → Type 0
written_by forms Mh path image contents records = IsSaidIn (forms.directory Mh) path image contents records
written_by forms Mix path image contents records = IsSaidIn (forms.directory Mix) path image contents records
written_by forms driver path image contents records = IsSpelledAt (forms.file driver) path image contents records

-- which files at a path are written as which contents, and the length of what is written of a mailbox
abbrev pub grammar_of : Forms → Driver → List ℕ → Grammar
grammar_of forms driver path = record {
  written_as = λ image contents records. written_by forms driver path image contents records;
  written_length = λ m. length ((forms.file driver).written m);
}

-- the grammar of a form of one file, whoever's it is
abbrev pub file_grammar : FileForm → List ℕ → Grammar
file_grammar form path = record { written_as = λ image contents records. IsSpelledAt form path image contents records; written_length = λ m. length (form.written m) }
