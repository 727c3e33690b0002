-- Scans stand by rising file number, so that one can be searched for.
use Rattle.std.specs.Prelude.{ℕ, ◌<◌, ◌+◌, List, length, slice_index_or}
use Rattle.mix_recover.specs.declared.scans.FileScan.{FileScan}

abbrev pub NumbersRise : List FileScan → Type 0
NumbersRise scans = (k : ℕ) (d : FileScan) → k + 1 < length scans → (slice_index_or scans k d).number < (slice_index_or scans (k + 1) d).number
