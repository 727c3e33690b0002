-- The root stands on through each call of the tree, and the selected mailbox.
use Rattle.std.proofs.Common.{ℕ, false, List, ◌≡◌, ⊎_elim, sym, ◌∙◌, ap, subst, Option}
use Rattle.file_model.specs.Disk.{seen}
use Rattle.file_model.specs.Kept.{Sees, IsBeside}
use Rattle.file_model.specs.Paths.{child, is_at_or_inside}
use Rattle.store_trait.specs.Laws.{IsReading, IsView}
use Rattle.store_trait.specs.OwnPaths.{is_directory_driver, IsNoPath, MayClear}
use Rattle.store_trait.specs.Touching.{SeesBut}
use Rattle.store_trait.specs.Views.{View}
use Rattle.any_store.specs.Choice.{Formats}
use Rattle.mail_types.specs.declared.driver.Driver.{Driver}
use Rattle.mail_tree.specs.declared.fault.TreeFault.{TreeFault}
use Rattle.mail_tree.specs.Changes.{due_create, created_tree, due_create_dir, tree_with_directory, due_delete, deleted_tree, same_name, is_selected_below, due_rename, renamed_tree, with_subscribed}
use Rattle.mail_tree.specs.Promises.{IsDeletable, IsMadeAt, IsMadeFor, IsMovedOrNot}
use Rattle.mail_tree.specs.Trees.{Tree, list_of}
use Rattle.mail_tree.proofs.OneFile.{no_home}
use Rattle.mail_tree.proofs.StandsOn.{free_dir, free_file, is_doomed, is_movable, not_under, other_selected, through_create, through_create_dir, through_delete, through_listed, through_rename}
use Rattle.imap_session.specs.declared.session.Session.{Session}
use Rattle.imap_session.specs.Endings.{open_name}
use Rattle.file_model.proofs.Paths.{child_apart}
use Rattle.imap_session.proofs.Rooted.{root_listed, root_moved, root_not_made, root_stays}
use Rattle.imap_session.proofs.TreeChanges.{Stays, selection_on}

-- Each open store is a mailbox of one file, whose files say one thing.
pub record AreStores {S : Type 0} (formats : Formats) (view : S → View) : Type 0 where
  pub reads : (driver : Driver) → IsReading driver formats.forms
  pub is_view : (store : S) → IsView formats.forms (view store)
  pub of_files : (store : S) → is_directory_driver (view store).driver ≡ false

module _ {S : Type 0} (formats : Formats) (view : S → View) (session : Session S) (stores : AreStores formats view) where
  pub stays_create : (name : List ℕ) (driver : Driver) (fresh : ℕ) → is_directory_driver driver ≡ false
      → Stays formats view session (λ tree. due_create tree name driver) (λ tree. created_tree tree name driver fresh) (λ root a b. SeesBut (MayClear driver (child root name)) (IsMadeFor driver root name a) a b)
  stays_create name driver fresh one a b state stands due sees has = (
    root_stays (MayClear driver (child state.root name)) (IsMadeFor driver state.root name a) state.root a b sees
        (λ made. ⊎_elim (no_home driver (child state.root name) state.root one) (root_not_made state.root name a stands.stands) made) stands.stands,
    selection_on formats view state (created_tree state.tree name driver fresh) (seen a) (seen b) session.selected state.selected stands.tree
        (λ o s here is at. through_create formats stores.reads state.root (view o.store) (stores.is_view o.store) (stores.of_files o.store) a b state.tree s.placed at name (free_file state.tree name driver one due) driver fresh one sees has)
        stands.selected,
  )

  pub stays_create_dir : (name : List ℕ) → Stays formats view session (λ tree. due_create_dir tree name) (λ tree. tree_with_directory tree name) (λ root a b. SeesBut IsNoPath (IsMadeAt root name a) a b)
  stays_create_dir name a b state stands due sees has = (
    root_stays IsNoPath (IsMadeAt state.root name a) state.root a b sees (λ made. ⊎_elim (child_apart state.root name) (root_not_made state.root name a stands.stands) made) stands.stands,
    selection_on formats view state (tree_with_directory state.tree name) (seen a) (seen b) session.selected state.selected stands.tree
        (λ o s here is at. through_create_dir formats stores.reads state.root (view o.store) (stores.is_view o.store) (stores.of_files o.store) a b state.tree s.placed at name (free_dir state.tree name due) sees has)
        stands.selected,
  )

  pub stays_delete : (name : List ℕ) → Stays formats view session (λ tree. due_delete tree name (open_name session.selected)) (λ tree. deleted_tree tree name) (λ root a b. SeesBut (IsDeletable (child root name)) (λ q. q ≡ child root name) a b)
  stays_delete name a b state stands due sees has =
      let doomed = is_doomed state.tree name (open_name session.selected) due in (
        root_stays (IsDeletable (child state.root name)) (λ q. q ≡ child state.root name) state.root a b sees (child_apart state.root name) stands.stands,
        selection_on formats view state (deleted_tree state.tree name) (seen a) (seen b) session.selected state.selected stands.tree
            (λ o s here is at. through_delete formats stores.reads state.root (view o.store) (stores.is_view o.store) (stores.of_files o.store) a b state.tree s.placed at name
            (λ same. other_selected o.name name (ap (λ p. same_name (open_name p) name) (sym here) ∙ doomed.other) (is.name ∙ same)) doomed.due sees has)
            stands.selected,
      )

  pub stays_listed : (due : Tree → Option TreeFault) (change : Tree → List (List ℕ)) → Stays formats view session due (λ tree. with_subscribed tree (change tree)) (λ root a b. Sees (IsBeside (list_of root)) a b)
  stays_listed due change a b state stands none sees has = (
    root_listed state.root a b sees stands.stands,
    selection_on formats view state (with_subscribed state.tree (change state.tree)) (seen a) (seen b) session.selected state.selected stands.tree
        (λ o s here is at. through_listed formats stores.reads state.root (view o.store) (stores.is_view o.store) (stores.of_files o.store) a b state.tree s.placed at (change state.tree) sees has)
        stands.selected,
  )

  pub stays_rename : (from to : List ℕ) → Stays formats view session (λ tree. due_rename tree from to (open_name session.selected)) (λ tree. renamed_tree tree from to) (λ root a b. IsMovedOrNot root from to a (seen a) (seen b))
  stays_rename from to a b state stands due moved has =
      let movable = is_movable state.tree from to (open_name session.selected) due in (
        root_moved state.root from to a b moved stands.stands,
        selection_on formats view state (renamed_tree state.tree from to) (seen a) (seen b) session.selected state.selected stands.tree
            (λ o s here is at. through_rename formats stores.reads state.root (view o.store) (stores.is_view o.store) (stores.of_files o.store) a b state.tree s.placed at from to
            (subst (λ n. is_at_or_inside from n ≡ false) is.name (not_under o.name from (ap (λ p. is_selected_below (open_name p) from) (sym here) ∙ movable.beside))) movable.free movable.apart moved has)
            stands.selected,
      )
