-- What is scanned of a file, where the host tells it.
use Rattle.std.proofs.Common.{◌≡◌, ◌≤◌, ◌+◌, ℕ, List, sym, subst, ◌∙◌}
use Rattle.std.proofs.lemmas.Option.{same_Some}
use Rattle.file_model.specs.Disk.{seen}
use Rattle.file_model.specs.Histories.{History, Now}
use Rattle.file_model.proofs.Runs.{now_all, now_weaker}
use Rattle.mail_types.specs.declared.driver.Driver.TheVariants.{Unix}
use Rattle.store_index.specs.declared.opening.Found.{Found}
use Rattle.file_store.specs.Scans.{OfFile, IsEnoughOf, IsRewritten, IsScanned}
use Rattle.file_store.specs.Standing.{IsTold, StandsOn, mailbox_in}
use Rattle.store_trait.specs.declared.change.Change.{Change}
use Rattle.store_index.specs.States.{ToldState}
use Rattle.unix_layout.specs.Files.{IsFoundIn}
use Rattle.unix_layout.specs.Forms.{unix_read}
use Rattle.unix_layout.proofs.ScansFound.{scanned_of}

pub scanned_now : (h : History) (path : List ℕ) (found : Found) (texts : List (List ℕ)) → OfFile h path (λ bytes. IsFoundIn bytes found texts) → OfFile h path (λ bytes. IsScanned unix_read (λ b. unix_read.texts b ≡ texts) found bytes)
scanned_now h path found texts is = now_weaker _ _ (λ w here bytes has. scanned_of bytes found texts (here bytes has)) h is

-- no number of bytes is promised
pub reads_none : (h : History) (path : List ℕ) (new old : ℕ) (n : ℕ) → OfFile h path (λ bytes. IsEnoughOf Unix unix_read bytes n → new ≤ old + n)
reads_none h path new old n = now_all _ (λ w bytes has enough. absurd enough) h

-- what is left of a file after a step, where the host tells it
pub rewritten_now : (h : History) (path : List ℕ) (s : ToldState) (texts after : List (List ℕ)) (change : Change) (written : List ℕ) → Now h (λ w. StandsOn Unix unix_read (λ b. unix_read.texts b ≡ texts) path s (seen w.disk))
    → ((bytes : List ℕ) → unix_read.texts bytes ≡ texts → IsTold Unix unix_read s bytes → written ≡ unix_read.file.rewritten bytes (mailbox_in unix_read s bytes) change)
    → ((bytes : List ℕ) → unix_read.texts bytes ≡ texts → IsTold Unix unix_read s bytes → unix_read.texts written ≡ after)
    → OfFile h path (λ bytes. IsRewritten unix_read s change bytes written (λ b. unix_read.texts b ≡ after))
rewritten_now h path s texts after change written stands is places =
    now_weaker _ _ (λ w stand bytes has.
    let same : stand.bytes ≡ bytes = same_Some stand.bytes bytes (sym stand.has ∙ has) in
    let holds : unix_read.texts bytes ≡ texts = subst (λ b. unix_read.texts b ≡ texts) same stand.places in
    let told : IsTold Unix unix_read s bytes = subst (IsTold Unix unix_read s) same stand.is in
    record { is = is bytes holds told; places = places bytes holds told }) h stands
