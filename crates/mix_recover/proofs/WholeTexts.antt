-- A whole text is read.
use Rattle.std.proofs.Common.{◌≡◌, ℕ, List, length, take, Some, sym, ap, ◌∙◌, arith}
use Rattle.std.proofs.lemmas.List.{take_all}
use Rattle.file_model.specs.Disk.{seen}
use Rattle.file_model.specs.Histories.{History, Now}
use Rattle.file_model.specs.Images.{Image, node_at, file, bytes_of, bytes_at}
use Rattle.file_model.specs.Kinds.{Gives}
use Rattle.file_model.proofs.Runs.{now_both, now_weaker}

abbrev pub HasFile : List ℕ → ℕ → Image → Type 0
HasFile path long image = (bytes : List ℕ) × (node_at image path ≡ file bytes) × (length bytes ≡ long)

-- what was read of the whole file is all of it
module _ (path : List ℕ) (long n : ℕ) (buffer read : List ℕ) (h : History) where
  all_read : (image : Image) → HasFile path long image → length buffer ≡ long → Gives image path 0 n buffer → read ≡ take n buffer → bytes_at image path ≡ Some read
  all_read image there room gives is =
      let same : there.0 ≡ gives.0 = cc in
      let count : n ≡ length gives.0 = omega (arith, gives.2, room, there.2, ap length same) in
      ap bytes_of gives.1 ∙ ap (λ l. Some l) (sym (take_all n gives.0 (omega (arith, count))) ∙ sym gives.3 ∙ sym is)

  pub all_read_now : Now h (λ w. HasFile path long (seen w.disk)) → length buffer ≡ long → Now h (λ w. Gives (seen w.disk) path 0 n buffer) → read ≡ take n buffer → Now h (λ w. bytes_at (seen w.disk) path ≡ Some read)
  all_read_now there room gives is = now_weaker _ _ (λ w both. all_read (seen w.disk) both.0 room both.1 is) h (now_both _ _ h there gives)
