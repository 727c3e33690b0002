-- The data files of a mix mailbox: `.mix` and a number of eight hex digits in lower case.
use Rattle.std.specs.Prelude.{ℕ, List, ◌++◌, codes, Option, Some, None, if◌then◌else◌, drop}
use Rattle.std.specs.List.{filter_map}
use Rattle.file_model.specs.Images.{Image, bytes_at, names_in}
use Rattle.file_model.specs.Paths.{child}
use Rattle.file_model.specs.Reserved.{is_data_file}
use Rattle.mail_fields.specs.Numbers.{◌>>=◌, number_in, digits_in}

-- the name of a data file
abbrev pub data_name : ℕ → List ℕ
data_name number = codes ".mix" ++ digits_in 16 8 number

-- its path
abbrev pub data_path : List ℕ → ℕ → List ℕ
data_path dir number = child dir (data_name number)

-- a data file: its number and its bytes
pub record DataFile : Type 0 where
  pub number : ℕ
  pub bytes : List ℕ

-- the number in the name of a data file
abbrev pub number_of_name : List ℕ → Option ℕ
number_of_name name = if is_data_file name then number_in 16 (drop 4 name) else None

-- the data file of a name, where a file stands there
abbrev pub data_file_at : Image → List ℕ → List ℕ → Option DataFile
data_file_at image dir name = do
  number ← number_of_name name
  bytes ← bytes_at image (child dir name)
  Some (record { number = number; bytes = bytes })

-- its number alone
abbrev pub number_at : Image → List ℕ → List ℕ → Option ℕ
number_at image dir name = data_file_at image dir name >>= λ file. Some file.number

-- the data files of a directory, by rising number, as the names in a directory rise
abbrev pub data_files_at : Image → List ℕ → List DataFile
data_files_at image dir = filter_map (data_file_at image dir) (names_in image dir)
