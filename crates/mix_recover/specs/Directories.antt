-- The files of a mix directory.
use Rattle.std.specs.Prelude.{ℕ, List, Option, codes}
use Rattle.file_model.specs.Images.{Image, bytes_at}
use Rattle.file_model.specs.Paths.{child}
use Rattle.mix_data.specs.DataFiles.{DataFile, data_files_at}

-- its three texts; a directory at one of these names reads as nothing there
pub record MixTexts : Type 0 where
  pub metadata : Option (List ℕ)
  pub index : Option (List ℕ)
  pub statuses : Option (List ℕ)

abbrev pub mix_texts_at : Image → List ℕ → MixTexts
mix_texts_at image dir = record {
  metadata = bytes_at image (child dir (codes ".mixmeta"));
  index = bytes_at image (child dir (codes ".mixindex"));
  statuses = bytes_at image (child dir (codes ".mixstatus"));
}

-- its texts, and its data files by rising number
pub record MixFiles : Type 0 where
  pub texts : MixTexts
  pub data_files : List DataFile

abbrev pub mix_files_at : Image → List ℕ → MixFiles
mix_files_at image dir = record { texts = mix_texts_at image dir; data_files = data_files_at image dir }
