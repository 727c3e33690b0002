-- What one driver's store says of its forms, said of the forms of all. One lemma a record, for every driver.
use Rattle.std.proofs.Common.{◌≡◌, ℕ, List, true, false, sym, ◌∙◌, ap, subst, length, Some, Ok, OnOk, Result}
use Rattle.std.specs.Prelude.{IsSome, IsTrue}
use Rattle.file_model.specs.Disk.{seen}
use Rattle.file_model.specs.Histories.{History, Now, Ran, Ended}
use Rattle.file_model.specs.Images.{Image, bytes_at}
use Rattle.mail_types.specs.declared.contents.StoreContents.{StoreContents}
use Rattle.mail_types.specs.declared.driver.Driver.{Driver}
use Rattle.mail_types.specs.declared.driver.Driver.TheVariants.{Unix, Mmdf, Mbx, Mtx, Tenex, Mh, Mix}
use Rattle.mail_types.specs.declared.mailbox.Mailbox.{Mailbox}
use Rattle.mail_types.specs.Stored.{empty_mailbox, created_contents}
use Rattle.store_trait.specs.declared.change.Change.{Change}
use Rattle.store_trait.specs.declared.faults.StoreFault.{StoreFault}
use Rattle.store_trait.specs.Answers.{Answers}
use Rattle.store_trait.specs.Changes.{changed_contents, changed_meaning, due_refusal, is_nothing}
use Rattle.store_trait.specs.Commits.{IsDurable, LeavesEither}
use Rattle.store_trait.specs.Forms.{FileForm, DirectoryForm, Forms, IsSpelledAt, IsSaidIn, grammar_of, directory_at}
use Rattle.store_trait.specs.Having.{IsBacked}
use Rattle.store_trait.specs.Laws.{IsFileForm, IsDirectoryForm, IsForm, IsView}
use Rattle.store_trait.specs.Meaning.{IsWritten, Means, HasNoDataFile, HasMark}
use Rattle.store_trait.specs.OwnPaths.{is_crash_safe, is_directory_driver}
use Rattle.store_trait.specs.Promises.{AnswersChange, ChangesStore, CommitsChange, Creates, HasBytes}
use Rattle.store_trait.specs.Views.{View, Grammar}

-- two families have the same forms of a driver
pub record SharesForm (driver : Driver) (mine all : Forms) : Type 1 where
  pub file : mine.file driver ≡ all.file driver
  pub directory : mine.directory driver ≡ all.directory driver

abbrev file_grammar : List ℕ → FileForm → Grammar
file_grammar path form = record { written_as = λ image contents records. IsSpelledAt form path image contents records; written_length = λ m. length (form.written m) }

abbrev directory_grammar : List ℕ → FileForm → DirectoryForm → Grammar
directory_grammar path form directory = record { written_as = λ image contents records. IsSaidIn directory path image contents records; written_length = λ m. length (form.written m) }

same_directory : (path : List ℕ) (a b : FileForm) (c d : DirectoryForm) → a ≡ b → c ≡ d → directory_grammar path a c ≡ directory_grammar path b d
same_directory path a b c d one two = ap (λ form. directory_grammar path form c) one ∙ ap (directory_grammar path b) two

pub same_grammar : (mine all : Forms) (d : Driver) (path : List ℕ) → SharesForm d mine all → grammar_of mine d path ≡ grammar_of all d path
same_grammar mine all Unix path shares = ap (file_grammar path) shares.file
same_grammar mine all Mmdf path shares = ap (file_grammar path) shares.file
same_grammar mine all Mbx path shares = ap (file_grammar path) shares.file
same_grammar mine all Mtx path shares = ap (file_grammar path) shares.file
same_grammar mine all Tenex path shares = ap (file_grammar path) shares.file
same_grammar mine all Mh path shares = same_directory path (mine.file Mh) (all.file Mh) (mine.directory Mh) (all.directory Mh) shares.file shares.directory
same_grammar mine all Mix path shares = same_directory path (mine.file Mix) (all.file Mix) (mine.directory Mix) (all.directory Mix) shares.file shares.directory

-- an equation of drivers gives what is known of the one of the other
pub shares_at : (mine all : Forms) (d e : Driver) → e ≡ d → SharesForm d mine all → SharesForm e mine all
shares_at mine all d e same shares = subst (λ driver. SharesForm driver mine all) (sym same) shares

pub form_all : (mine all : Forms) (d : Driver) → SharesForm d mine all → IsForm d mine → IsForm d all
form_all mine all Unix shares law = subst (IsFileForm Unix) shares.file law
form_all mine all Mmdf shares law = subst (IsFileForm Mmdf) shares.file law
form_all mine all Mbx shares law = subst (IsFileForm Mbx) shares.file law
form_all mine all Mtx shares law = subst (IsFileForm Mtx) shares.file law
form_all mine all Tenex shares law = subst (IsFileForm Tenex) shares.file law
form_all mine all Mh shares law = subst (IsDirectoryForm Mh) shares.directory law
form_all mine all Mix shares law = subst (IsDirectoryForm Mix) shares.directory law

module _ (mine all : Forms) (v : View) (shares : SharesForm v.driver mine all) where
  same : grammar_of mine v.driver v.path ≡ grammar_of all v.driver v.path
  same = same_grammar mine all v.driver v.path shares

  pub view_all : all.knows v.driver → IsView mine v → IsView all v
  view_all known law = record {
    known = known;
    summarized = law.summarized;
    can_have = law.can_have;
    stays = law.stays;
    written = subst (λ g. (image : Image) → v.stands image → (contents : StoreContents) × IsWritten g image contents × IsBacked v.driver contents (v.mailbox image)) same law.written;
  }

  module _ (change : Change) (result : Result (Unit {0}) StoreFault) (old new : History) where
    pub answers_all : AnswersChange mine v change result old new → AnswersChange all v change result old new
    answers_all given = record {
      due = subst (λ g. v.broken ≡ false → Now old (λ w. (before : StoreContents) → IsWritten g (seen w.disk) before
          → Answers (due_refusal g.written_length v.driver before (v.mailbox (seen w.disk)) change) result)) same given.due;
      acts = subst (λ g. v.broken ≡ false → Now old (λ w. (before : StoreContents) → IsWritten g (seen w.disk) before
          → IsSome (due_refusal g.written_length v.driver before (v.mailbox (seen w.disk)) change) → new ≡ old)) same given.acts;
      nothing = given.nothing;
    }

    pub changes_all : (is : View) → ChangesStore mine v is change result old new → ChangesStore all v is change result old new
    changes_all is given = record {
      done = given.done;
      sized = given.sized;
      rewrites = subst (λ (form : FileForm). OnOk result (Ended (λ start end. is_nothing (v.mailbox (seen start)).words change ≡ false → (bytes : List ℕ) → bytes_at (seen start) v.path ≡ Some bytes
          → HasBytes v.driver v.path (seen end) (form.rewritten bytes (v.mailbox (seen start)) change)) old new)) shares.file given.rewrites;
      files = subst (λ (form : DirectoryForm). OnOk result (Ended (λ start end. is_nothing (v.mailbox (seen start)).words change ≡ false → is_directory_driver v.driver ≡ true
          → form.rewritten (directory_at v.path (seen start)) (v.mailbox (seen start)) change (directory_at v.path (seen end))) old new)) shares.directory given.files;
      stored = subst (λ g. OnOk result (Ended (λ start end. (before : StoreContents) → IsWritten g (seen start) before
          → IsWritten g (seen end) (changed_contents v.driver before (v.mailbox (seen start)) change)
          × (is_nothing (v.mailbox (seen start)).words change ≡ false
          → Means g v.driver v.path (seen end) (changed_meaning g.written_length v.driver before (v.mailbox (seen start)) change))) old new)) same given.stored;
      stands = given.stands;
      refused = given.refused;
    }

    pub commits_all : CommitsChange mine v change result old new → CommitsChange all v change result old new
    commits_all given = record {
      instants = subst (λ g. IsTrue (is_crash_safe v.driver) → (before : StoreContents) (prior : Mailbox)
          → Now old (λ w. IsDurable v.driver v.path w.disk × Means g v.driver v.path (seen w.disk) (Ok before) × (prior ≡ v.mailbox (seen w.disk)))
          → Ran (λ start instant. LeavesEither (λ image contents. Means g v.driver v.path image (Ok contents)) before (changed_contents v.driver before prior change) instant) old new) same given.instants;
      durable = given.durable;
    }

-- the same of a creation
pub creates_all : (mine all : Forms) (d : Driver) (path : List ℕ) (is : View) (fresh : ℕ) (new : History) → SharesForm d mine all → Creates mine d path is fresh new → Creates all d path is fresh new
creates_all mine all d path is fresh new shares given =
    subst (λ (form : FileForm). Now new (λ w. Means (grammar_of all d path) d path (seen w.disk) (Ok (created_contents d fresh)) × (is.mailbox (seen w.disk) ≡ empty_mailbox d fresh) × is.stands (seen w.disk)
    × HasBytes d path (seen w.disk) (form.written (empty_mailbox d fresh)) × HasNoDataFile d path (seen w.disk) × HasMark d path (seen w.disk))) shares.file
    (subst (λ g. Now new (λ w. Means g d path (seen w.disk) (Ok (created_contents d fresh)) × (is.mailbox (seen w.disk) ≡ empty_mailbox d fresh) × is.stands (seen w.disk)
    × HasBytes d path (seen w.disk) ((mine.file d).written (empty_mailbox d fresh)) × HasNoDataFile d path (seen w.disk) × HasMark d path (seen w.disk))) (same_grammar mine all d path shares) given)
