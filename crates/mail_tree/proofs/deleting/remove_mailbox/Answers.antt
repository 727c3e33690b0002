use Rattle.std.proofs.Common.{◌≡◌, sym, ◌∙◌, ap, subst, refl, Ok, Err, Some}
use Rattle.file_model.specs.Disk.{seen}
use Rattle.file_model.specs.Histories.{Now, Ended}
use Rattle.file_model.specs.Paths.{child, is_top}
use Rattle.file_model.proofs.Inside.{not_both}
use Rattle.file_model.proofs.Runs.{now_weaker}
use Rattle.store_trait.specs.Meaning.{IsRemoved}
use Rattle.store_trait.specs.OwnPaths.{MayRemove, IsHomeOf}
use Rattle.store_trait.specs.Promises.{LeavesAlone}
use Rattle.any_store.specs.Choice.{formats_of, chosen, driver_at}
use Rattle.mail_tree.specs.Changes.{breaks_tree, delete_refusal, deleted_tree}
use Rattle.mail_tree.specs.Promises.{ChangesTree, CommitsTree, IsDeletable, LeavesBut}
use Rattle.mail_tree.specs.Sights.{broken_fault}
use Rattle.mail_tree.proofs.Above.{below_no_top}
use Rattle.mail_tree.proofs.Deleted.{file_mailboxes, mailbox_due, deleted_done, leaves_own, leaves_deleted, ok_failed}
use Rattle.mail_tree.proofs.Joined.{acts_undue}
use Rattle.mail_tree.specs.Trees.{seen_node}
use Rattle.mail_tree.proofs.MailboxGone.{file_commits}
use Rattle.mail_tree.proofs.NewMailbox.{broken_breaks, broken_failed}
use Rattle.mail_tree.proofs.Nodes.{AreFormats}
use Rattle.mail_tree.proofs.deleting.remove_mailbox.Goals as goal

pub remove-requires-clause-known : goal.remove-requires-clause-known
remove-requires-clause-known g c = (g.met.S.AnyMailbox.knows_standing c.args.driver).1 c.requires.known

pub remove-requires-clause-below : goal.remove-requires-clause-below
remove-requires-clause-below g c = ap is_top (c.as_str.ensures.value ∙ c.in_ok-path.ensures.path) ∙ below_no_top c.args.root.now c.args.name.now c.requires.some

pub remove-requires-clause-chosen : goal.remove-requires-clause-chosen
remove-requires-clause-chosen g c =
    subst (λ p. Now (g.F.Files.history c.args.files.now) (λ w. driver_at chosen (seen w.disk) p ≡ Some c.args.driver)) (sym (c.as_str.ensures.value ∙ c.in_ok-path.ensures.path))
    (now_weaker _ _ (λ w found. found.stands) (g.F.Files.history c.args.files.now) c.requires.found)

pub returns-in-Ok-clause-answer : goal.returns-in-Ok-clause-answer
returns-in-Ok-clause-answer g c =
    let forms = g.S.Store.forms in
    let fs = formats_of forms chosen in
    let root = c.args.root.now in
    let name = c.args.name.now in
    let driver = c.args.driver in
    let old = g.F.Files.history c.args.files.now in
    let one = g.met.S.AnyMailbox.of_files driver ((g.met.S.AnyMailbox.knows_standing driver).1 c.requires.known) in
    mailbox_due forms root name driver one (λ d. g.met.S.AnyMailbox.all_read d) c.in_ok-path.ensures.name c.requires.known old (g.met.F.Files.sound c.args.files.now) c.requires.found

pub returns-in-Ok-clause-changes : goal.returns-in-Ok-clause-changes
returns-in-Ok-clause-changes g c =
    let forms = g.S.Store.forms in
    let fs = formats_of forms chosen in
    let root = c.args.root.now in
    let name = c.args.name.now in
    let driver = c.args.driver in
    let old = g.F.Files.history c.args.files.now in
    let one = g.met.S.AnyMailbox.of_files driver ((g.met.S.AnyMailbox.knows_standing driver).1 c.requires.known) in
    let laws : AreFormats fs = record { choice = g.met.S.AnyMailbox.is_choice; reads = λ d. g.met.S.AnyMailbox.all_read d } in
    let new = g.F.Files.history c.remove.new.files in
    let is = c.in_ok-path.ensures.name in
    let known = file_mailboxes forms root name driver one old (g.met.F.Files.sound c.args.files.now) c.requires.found in
    let at = c.as_str.ensures.value ∙ c.in_ok-path.ensures.path in
    let alone : LeavesAlone (MayRemove driver (child root name)) (IsHomeOf driver (child root name)) (Ok tt) old new =
    subst (λ p. LeavesAlone (MayRemove driver p) (IsHomeOf driver p) (Ok tt) old new) at c.in-Ok.ensures.leaves in
    record {
      done = deleted_done forms root name driver one laws is old new known (alone.sees (λ failed. absurd (cc)))
          (subst (λ p. Ended (λ start end. IsRemoved driver p (seen end)) old new) at c.in-Ok.ensures.removed);
      refused = λ refuses. absurd refuses;
      none_pending = λ none. alone.none_pending none;
      files = alone.files;
    }

pub returns-in-Ok-clause-leaves : goal.returns-in-Ok-clause-leaves
returns-in-Ok-clause-leaves g c =
    let forms = g.S.Store.forms in
    let fs = formats_of forms chosen in
    let root = c.args.root.now in
    let name = c.args.name.now in
    let driver = c.args.driver in
    let old = g.F.Files.history c.args.files.now in
    let one = g.met.S.AnyMailbox.of_files driver ((g.met.S.AnyMailbox.knows_standing driver).1 c.requires.known) in
    let laws : AreFormats fs = record { choice = g.met.S.AnyMailbox.is_choice; reads = λ d. g.met.S.AnyMailbox.all_read d } in
    let new = g.F.Files.history c.remove.new.files in
    let is = c.in_ok-path.ensures.name in
    let known = file_mailboxes forms root name driver one old (g.met.F.Files.sound c.args.files.now) c.requires.found in
    let at = c.as_str.ensures.value ∙ c.in_ok-path.ensures.path in
    let alone : LeavesAlone (MayRemove driver (child root name)) (IsHomeOf driver (child root name)) (Ok tt) old new =
    subst (λ p. LeavesAlone (MayRemove driver p) (IsHomeOf driver p) (Ok tt) old new) at c.in-Ok.ensures.leaves in
    leaves_deleted forms root name driver one (Ok tt) (Ok tt) (ok_failed tt) old new alone

pub returns-in-Ok-clause-commits : goal.returns-in-Ok-clause-commits
returns-in-Ok-clause-commits g c =
    let forms = g.S.Store.forms in
    let fs = formats_of forms chosen in
    let root = c.args.root.now in
    let name = c.args.name.now in
    let driver = c.args.driver in
    let old = g.F.Files.history c.args.files.now in
    let one = g.met.S.AnyMailbox.of_files driver ((g.met.S.AnyMailbox.knows_standing driver).1 c.requires.known) in
    let laws : AreFormats fs = record { choice = g.met.S.AnyMailbox.is_choice; reads = λ d. g.met.S.AnyMailbox.all_read d } in
    let new = g.F.Files.history c.remove.new.files in
    let is = c.in_ok-path.ensures.name in
    let known = file_mailboxes forms root name driver one old (g.met.F.Files.sound c.args.files.now) c.requires.found in
    let at = c.as_str.ensures.value ∙ c.in_ok-path.ensures.path in
    let alone : LeavesAlone (MayRemove driver (child root name)) (IsHomeOf driver (child root name)) (Ok tt) old new =
    subst (λ p. LeavesAlone (MayRemove driver p) (IsHomeOf driver p) (Ok tt) old new) at c.in-Ok.ensures.leaves in
    file_commits fs laws root name is driver one (Ok tt) old new known (g.met.F.Files.sound c.remove.new.files)
    (leaves_own forms root name driver one (Ok tt) (Ok tt) (ok_failed tt) old new alone) (λ none. alone.none_pending none)

pub returns-clause-changes : goal.returns-clause-changes
returns-clause-changes g c =
    let forms = g.S.Store.forms in
    let fs = formats_of forms chosen in
    let root = c.args.root.now in
    let name = c.args.name.now in
    let driver = c.args.driver in
    let old = g.F.Files.history c.args.files.now in
    let one = g.met.S.AnyMailbox.of_files driver ((g.met.S.AnyMailbox.knows_standing driver).1 c.requires.known) in
    let laws : AreFormats fs = record { choice = g.met.S.AnyMailbox.is_choice; reads = λ d. g.met.S.AnyMailbox.all_read d } in
    let new = g.F.Files.history c.remove.new.files in
    let is = c.in_ok-path.ensures.name in
    let known = file_mailboxes forms root name driver one old (g.met.F.Files.sound c.args.files.now) c.requires.found in
    let at = c.as_str.ensures.value ∙ c.in_ok-path.ensures.path in
    let alone : LeavesAlone (MayRemove driver (child root name)) (IsHomeOf driver (child root name)) (Err c.in-Err.fault) old new =
    subst (λ p. LeavesAlone (MayRemove driver p) (IsHomeOf driver p) (Err c.in-Err.fault) old new) at c.in-Err.ensures.leaves in
    subst (λ f. ChangesTree {T = Unit {0}} fs root (λ tree. deleted_tree tree name) (Err f) old new) (sym c.broken.ensures)
    (record {
      done = tt;
      refused = λ refuses. absurd (not_both (breaks_tree (broken_fault c.in-Err.fault)) (broken_breaks c.in-Err.fault (c.in-Err.ensures.answer refl)) refuses);
      none_pending = λ none. tt;
      files = alone.files;
    })

pub returns-clause-leaves : goal.returns-clause-leaves
returns-clause-leaves g c =
    let forms = g.S.Store.forms in
    let fs = formats_of forms chosen in
    let root = c.args.root.now in
    let name = c.args.name.now in
    let driver = c.args.driver in
    let old = g.F.Files.history c.args.files.now in
    let one = g.met.S.AnyMailbox.of_files driver ((g.met.S.AnyMailbox.knows_standing driver).1 c.requires.known) in
    let laws : AreFormats fs = record { choice = g.met.S.AnyMailbox.is_choice; reads = λ d. g.met.S.AnyMailbox.all_read d } in
    let new = g.F.Files.history c.remove.new.files in
    let is = c.in_ok-path.ensures.name in
    let known = file_mailboxes forms root name driver one old (g.met.F.Files.sound c.args.files.now) c.requires.found in
    let at = c.as_str.ensures.value ∙ c.in_ok-path.ensures.path in
    let alone : LeavesAlone (MayRemove driver (child root name)) (IsHomeOf driver (child root name)) (Err c.in-Err.fault) old new =
    subst (λ p. LeavesAlone (MayRemove driver p) (IsHomeOf driver p) (Err c.in-Err.fault) old new) at c.in-Err.ensures.leaves in
    subst (λ f. LeavesBut {T = Unit {0}} (IsDeletable (child root name)) (λ start q. q ≡ child root name) (Err f) old new) (sym c.broken.ensures)
    (leaves_deleted forms root name driver one (Err c.in-Err.fault) (Err (broken_fault c.in-Err.fault)) (broken_failed c.in-Err.fault) old new alone)

pub returns-clause-commits : goal.returns-clause-commits
returns-clause-commits g c =
    let forms = g.S.Store.forms in
    let fs = formats_of forms chosen in
    let root = c.args.root.now in
    let name = c.args.name.now in
    let driver = c.args.driver in
    let old = g.F.Files.history c.args.files.now in
    let one = g.met.S.AnyMailbox.of_files driver ((g.met.S.AnyMailbox.knows_standing driver).1 c.requires.known) in
    let laws : AreFormats fs = record { choice = g.met.S.AnyMailbox.is_choice; reads = λ d. g.met.S.AnyMailbox.all_read d } in
    let new = g.F.Files.history c.remove.new.files in
    let is = c.in_ok-path.ensures.name in
    let known = file_mailboxes forms root name driver one old (g.met.F.Files.sound c.args.files.now) c.requires.found in
    let at = c.as_str.ensures.value ∙ c.in_ok-path.ensures.path in
    let alone : LeavesAlone (MayRemove driver (child root name)) (IsHomeOf driver (child root name)) (Err c.in-Err.fault) old new =
    subst (λ p. LeavesAlone (MayRemove driver p) (IsHomeOf driver p) (Err c.in-Err.fault) old new) at c.in-Err.ensures.leaves in
    let leaves : LeavesBut {T = Unit {0}} (MayRemove driver (child root name)) (λ start. IsHomeOf driver (child root name)) (Err (broken_fault c.in-Err.fault)) old new =
    leaves_own forms root name driver one (Err c.in-Err.fault) (Err (broken_fault c.in-Err.fault)) (broken_failed c.in-Err.fault) old new alone in
    subst (λ f. CommitsTree {T = Unit {0}} fs root (λ tree. deleted_tree tree name) (Err f) old new) (sym c.broken.ensures)
    (file_commits fs laws root name is driver one (Err (broken_fault c.in-Err.fault)) old new known (g.met.F.Files.sound c.remove.new.files) leaves (λ none. tt))

pub returns-in-Ok-clause-acts : goal.returns-in-Ok-clause-acts
returns-in-Ok-clause-acts g c =
    let forms = g.S.Store.forms in
    let old = g.F.Files.history c.args.files.now in
    let one = g.met.S.AnyMailbox.of_files c.args.driver ((g.met.S.AnyMailbox.knows_standing c.args.driver).1 c.requires.known) in
    acts_undue (formats_of forms chosen) c.args.root.now (λ tree. delete_refusal tree.nodes c.args.name.now (seen_node tree.nodes c.args.name.now)) old (g.F.Files.history c.remove.new.files)
    (mailbox_due forms c.args.root.now c.args.name.now c.args.driver one (λ d. g.met.S.AnyMailbox.all_read d) c.in_ok-path.ensures.name c.requires.known old (g.met.F.Files.sound c.args.files.now) c.requires.found)

pub returns-clause-acts : goal.returns-clause-acts
returns-clause-acts g c =
    let forms = g.S.Store.forms in
    let old = g.F.Files.history c.args.files.now in
    let one = g.met.S.AnyMailbox.of_files c.args.driver ((g.met.S.AnyMailbox.knows_standing c.args.driver).1 c.requires.known) in
    acts_undue (formats_of forms chosen) c.args.root.now (λ tree. delete_refusal tree.nodes c.args.name.now (seen_node tree.nodes c.args.name.now)) old (g.F.Files.history c.remove.new.files)
    (mailbox_due forms c.args.root.now c.args.name.now c.args.driver one (λ d. g.met.S.AnyMailbox.all_read d) c.in_ok-path.ensures.name c.requires.known old (g.met.F.Files.sound c.args.files.now) c.requires.found)
