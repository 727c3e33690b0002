-- The bytes that are read of a file.
use Rattle.std.proofs.Common.{◌≡◌, ◌≤◌, ℕ, List, length, take, take_all, Some, ap, sym, ◌∙◌, arith}
use Rattle.std.proofs.lemmas.Option.{same_Some}
use Rattle.file_model.specs.Disk.{seen}
use Rattle.file_model.specs.Histories.{History, Now}
use Rattle.file_model.specs.Images.{Image, bytes_of, bytes_at}
use Rattle.file_model.specs.Kinds.{Gives}
use Rattle.file_model.proofs.Runs.{now_weaker, now_both}
use Rattle.file_store.specs.Scans.{OfFile}

all_given : (path : List ℕ) (got : ℕ) (buffer after : List ℕ) (image : Image) → Gives image path 0 got buffer → after ≡ take got buffer → (bytes : List ℕ) → bytes_at image path ≡ Some bytes → length bytes ≡ length buffer → after ≡ bytes
all_given path got buffer after image gives is bytes has long =
    let here : bytes ≡ gives.0 = same_Some bytes gives.0 (sym has ∙ ap bytes_of gives.1) in
    let full : length bytes ≤ got = omega (arith, gives.2, ap (λ (b : List ℕ). length b) here, long) in
    is ∙ gives.3 ∙ ap (take got) (sym here) ∙ take_all got bytes full

-- a buffer as long as the file gets all of it
pub whole_now : (path : List ℕ) (got : ℕ) (buffer after : List ℕ) (room : ℕ) (h : History) → length buffer ≡ room → Now h (λ w. Gives (seen w.disk) path 0 got buffer) → OfFile h path (λ bytes. length bytes ≡ room)
    → after ≡ take got buffer → OfFile h path (λ bytes. after ≡ bytes)
whole_now path got buffer after room h long given size is =
    now_weaker _ _ (λ w both bytes has. all_given path got buffer after (seen w.disk) both.0 is bytes has (both.1 bytes has ∙ sym long)) h (now_both _ _ h given size)
