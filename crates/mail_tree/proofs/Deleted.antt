-- A mailbox of one file is deleted by its name.
use Rattle.std.proofs.Common.{◌≡◌, ℕ, List, [], ◌∷◌, true, false, cond, Some, None, Result, Ok, refl, sym, ◌∙◌, ap}
use Rattle.std.specs.Prelude.{IsErrOf}
use Rattle.std.specs.FinMap.{get}
use Rattle.std.proofs.lemmas.Bool.{false≢true}
use Rattle.file_model.specs.Disk.{Disk, seen}
use Rattle.file_model.specs.Histories.{History, Now, Ended}
use Rattle.file_model.specs.Images.{Node, nothing, file, directory, node_at, is_directory, directory_test}
use Rattle.file_model.specs.Kept.{IsSound}
use Rattle.file_model.specs.Paths.{child}
use Rattle.file_model.proofs.Runs.{ran_weaker}
use Rattle.mail_types.specs.declared.driver.Driver.{Driver}
use Rattle.store_trait.specs.declared.faults.StoreFault.{StoreFault}
use Rattle.store_trait.specs.declared.faults.StoreFault.TheVariants.{Failed as StoreFailed}
use Rattle.store_trait.specs.Forms.{Forms}
use Rattle.store_trait.specs.Laws.{IsReading}
use Rattle.store_trait.specs.Meaning.{IsRemoved}
use Rattle.store_trait.specs.OwnPaths.{is_directory_driver, MayRemove, IsHomeOf}
use Rattle.store_trait.specs.Promises.{LeavesAlone}
use Rattle.store_trait.specs.Touching.{SeesBut}
use Rattle.store_trait.proofs.Touched.{but_wider, sees_wider}
use Rattle.any_store.specs.Choice.{formats_of, chosen, driver_of_node, directory_driver}
use Rattle.any_store.specs.Stores.{is_known}
use Rattle.any_store.proofs.Chosen.{chosen_is}
use Rattle.mail_tree.specs.declared.deleting.Doomed.TheVariants.{Mailbox}
use Rattle.mail_tree.specs.declared.fault.TreeFault.{TreeFault}
use Rattle.mail_tree.specs.declared.fault.TreeFault.TheVariants.{NotStore, Failed}
use Rattle.mail_tree.specs.Changes.{delete_refusal, deleted_tree}
use Rattle.mail_tree.specs.Deleting.{SeesDoomed}
use Rattle.mail_tree.specs.Names.{IsName}
use Rattle.mail_tree.specs.Promises.{IsDeletable, LeavesBut}
use Rattle.mail_tree.specs.Trees.{Tree, HasTree, seen_node}
use Rattle.mail_tree.proofs.Below.{rooted_seen}
use Rattle.mail_tree.proofs.Beside.{ended_both}
use Rattle.mail_tree.proofs.Joined.{ended_weaker}
use Rattle.mail_tree.proofs.MadeDir.{any_now}
use Rattle.mail_tree.proofs.MailboxGone.{IsFileMailbox, may_delete, file_deleted}
use Rattle.mail_tree.proofs.Nodes.{AreFormats}
use Rattle.mail_tree.proofs.DueDelete.{seen_is, refusal_by}
use Rattle.mail_tree.proofs.OneFile.{no_home}
use Rattle.mail_tree.proofs.Refusals.{node_seen}

-- ---- What stands there

none_some : (driver : Driver) → None ≡ Some driver → ⊥
none_some driver h = cc

module _ (forms : Forms) (root name : List ℕ) (driver : Driver) (one : is_directory_driver driver ≡ false) where
  abbrev place : List ℕ
  place = child root name

  file_mailbox_is : (d : Disk) → IsSound d → SeesDoomed root name (Mailbox driver) (seen d) → IsFileMailbox (formats_of forms chosen) root name driver d
  file_mailbox_is d sound found = at (node_at (seen d) place) refl
    where
      kind : is_directory (seen d) place ≡ false
      kind = (chosen_is (seen d) place driver found.stands).kind ∙ one

      by_node : (n : Node) → node_at (seen d) place ≡ n → driver_of_node chosen (directory_driver (seen d) place) n ≡ Some driver
      by_node n here = sym (ap (driver_of_node chosen (directory_driver (seen d) place)) here) ∙ found.stands

      at : (n : Node) → node_at (seen d) place ≡ n → IsFileMailbox (formats_of forms chosen) root name driver d
      at nothing here = absurd (none_some driver (by_node nothing here))
      at directory here = absurd (false≢true (sym kind ∙ ap directory_test here))
      at (file bytes) here = record { sound = sound; sees = found.sees; bytes = bytes; here = here; chosen = by_node (file bytes) here }

  pub file_mailboxes : (old : History) → Now old (λ w. IsSound w.disk) → Now old (λ w. SeesDoomed root name (Mailbox driver) (seen w.disk)) → Now old (λ w. IsFileMailbox (formats_of forms chosen) root name driver w.disk)
  file_mailboxes [] sound found = tt
  file_mailboxes (w ∷ past) sound found = file_mailbox_is w.disk sound found

  -- its driver stands, so nothing is due
  pub mailbox_due : ((d : Driver) → IsReading d forms) → IsName name → is_known driver ≡ true → (old : History) → Now old (λ w. IsSound w.disk) → Now old (λ w. SeesDoomed root name (Mailbox driver) (seen w.disk))
      → Now old (λ w. (tree : Tree) → HasTree (formats_of forms chosen) root (seen w.disk) tree → delete_refusal tree.nodes name (seen_node tree.nodes name) ≡ None)
  mailbox_due reads is known [] sound found = tt
  mailbox_due reads is known (w ∷ past) sound found = λ tree has.
      ap (delete_refusal tree.nodes name) (seen_is forms reads root name is (seen w.disk) tree has found.sees)
      ∙ refusal_by forms place (seen w.disk) tree.nodes name (get tree.nodes name) (node_seen (formats_of forms chosen) reads root (seen w.disk) tree has name is (rooted_seen w.disk sound) found.sees) driver found.stands
      ∙ ap (λ b. cond b None (Some NotStore)) known

  -- ---- What is left

  pub deleted_done : AreFormats (formats_of forms chosen) → IsName name → (old new : History) → Now old (λ w. IsFileMailbox (formats_of forms chosen) root name driver w.disk) → Ended (SeesBut (MayRemove driver place) (IsHomeOf driver place)) old new
      → Ended (λ start end. IsRemoved driver place (seen end)) old new
      → Ended (λ start end. (tree : Tree) → HasTree (formats_of forms chosen) root (seen start) tree → HasTree (formats_of forms chosen) root (seen end) (deleted_tree tree name)) old new
  deleted_done laws is old new known sees removed =
      ended_weaker (IsFileMailbox (formats_of forms chosen) root name driver) (λ a b. SeesBut (MayRemove driver place) (IsHomeOf driver place) a b × IsRemoved driver place (seen b))
      (λ start end. (tree : Tree) → HasTree (formats_of forms chosen) root (seen start) tree → HasTree (formats_of forms chosen) root (seen end) (deleted_tree tree name))
      (λ a b at did tree has. file_deleted (formats_of forms chosen) laws root name is driver one tree a at has b did.0 did.1) old new known (ended_both _ _ old new sees removed)

  module _ {T U : Type 0} (given : Result T StoreFault) (result : Result U TreeFault) (failed : IsErrOf given StoreFailed → IsErrOf result Failed) (old new : History)
      (leaves : LeavesAlone (MayRemove driver place) (IsHomeOf driver place) given old new) where
    pub leaves_own : LeavesBut (MayRemove driver place) (λ start. IsHomeOf driver place) result old new
    leaves_own = record { instants = leaves.instants; sees = λ not_failed. leaves.sees (λ fails. not_failed (failed fails)) }

    pub leaves_deleted : LeavesBut (IsDeletable place) (λ start q. q ≡ place) result old new
    leaves_deleted = record {
      instants = λ none. ran_weaker (λ a b r. but_wider (MayRemove driver place) (IsHomeOf driver place) (IsDeletable place) (λ q. q ≡ place) (λ q may. may_delete driver place q one may) (λ q home. absurd (no_home driver place q one home)) a b r) old new (leaves.instants none);
      sees = λ not_failed. ended_weaker (λ a. Unit {0}) (SeesBut (MayRemove driver place) (IsHomeOf driver place)) (SeesBut (IsDeletable place) (λ q. q ≡ place))
          (λ a b u r. sees_wider (MayRemove driver place) (IsHomeOf driver place) (IsDeletable place) (λ q. q ≡ place) (λ q may. may_delete driver place q one may) (λ q home. absurd (no_home driver place q one home)) a b r) old new
          (any_now old) (leaves.sees (λ fails. not_failed (failed fails)));
    }

-- what went well didn't fail
pub ok_failed : (u : Unit {0}) → IsErrOf {T = Unit {0}} (Ok u) StoreFailed → IsErrOf {T = Unit {0}} (Ok u) Failed
ok_failed u failed = absurd (cc)
