-- What a renaming needs, and what it does to what reads see.
use Rattle.std.specs.Prelude.{ℕ, Bool, true, false, List, ◌≡◌, ◌&&◌, ◌||◌}
use Rattle.file_model.specs.Disk.{Disk}
use Rattle.file_model.specs.Images.{Image, HasNothing, is_directory}
use Rattle.file_model.specs.Kept.{Keeps, Sees}
use Rattle.file_model.specs.Kinds.{CanMove}
use Rattle.file_model.specs.Paths.{child, parent, is_inside, is_at_or_inside}
use Rattle.mail_tree.specs.Sights.{stands_at, sees_at, is_blocked_at}

-- a name sees something
abbrev pub sees_something : (root : List ℕ) → Image → List ℕ → Bool
sees_something root image name = sees_at root image name && stands_at image (child root name)

-- nothing can come to a name: it is in the directory that is to move, or something stands there or is in its way
abbrev pub is_taken : (root : List ℕ) → Image → (from to : List ℕ) → Bool
is_taken root image from to = is_inside from to || (stands_at image (child root to) || is_blocked_at root image to)

-- What one name sees can move to another.
pub record CanRename (root from to : List ℕ) (image : Image) : Type 0 where
  pub there : sees_something root image from ≡ true
  pub free : is_taken root image from to ≡ false

-- What stands at a path can move to another, where nothing stands, and neither is in the other.
pub record CanMoveWhole (from to : List ℕ) (image : Image) : Type 0 where
  pub can : CanMove image from to
  pub free : HasNothing to image
  pub outside : is_at_or_inside from to ≡ false
  pub beside : is_at_or_inside to from ≡ false
  pub room : is_directory image (parent from) ≡ true

-- whatever a crash leaves, it might have left before; and reads see the same
abbrev pub KeepsAll : Disk → Disk → Type 0
KeepsAll old new = Keeps (λ (q : List ℕ). Unit {0}) old new

abbrev pub SeesAll : Disk → Disk → Type 0
SeesAll old new = Sees (λ (q : List ℕ). Unit {0}) old new
