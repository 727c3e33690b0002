-- Reads of texts of an open mailbox.
use Rattle.std.specs.Prelude.{false, ◌≡◌}
use Rattle.file_model.specs.Disk.{seen}
use Rattle.file_model.specs.Histories.{History, Now}
use Rattle.store_trait.specs.Promises.{IsSame}
use Rattle.store_trait.specs.Views.{View}

-- A read leaves an open mailbox as it was, for the files that are seen: it may keep a cursor into a long text.
pub record ReadsOn (was is : View) (h : History) : Type 0 where
  pub same : IsSame was is
  pub summary : is.summary ≡ was.summary
  pub works : was.broken ≡ false → is.broken ≡ false
  pub stands : Now h (λ w. was.stands (seen w.disk) → is.stands (seen w.disk) × (is.mailbox (seen w.disk) ≡ was.mailbox (seen w.disk)))
