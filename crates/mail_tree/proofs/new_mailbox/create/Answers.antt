use Rattle.std.proofs.Common.{rules, sym, ◌∙◌, ap, subst, refl, Ok, Err}
use Rattle.file_model.specs.Disk.{seen}
use Rattle.file_model.specs.Histories.{Now, Ran, Ended}
use Rattle.file_model.specs.Kept.{NonePending}
use Rattle.file_model.specs.Paths.{child, is_top}
use Rattle.file_model.proofs.Inside.{not_both}
use Rattle.file_model.proofs.Runs.{now_weaker}
use Rattle.store_trait.specs.OwnPaths.{MayClear, IsHomeOf}
use Rattle.store_trait.specs.Meaning.{IsFreeFor}
use Rattle.store_trait.specs.Promises.{Creates, LeavesAlone, RanOnFiles}
use Rattle.any_store.specs.Choice.{formats_of, chosen}
use Rattle.mail_tree.specs.Changes.{breaks_tree, due_create, created_tree}
use Rattle.mail_tree.specs.Making.{MakesAbove, SeesAbove, MakesParents, IsReady}
use Rattle.mail_tree.specs.Promises.{ChangesTree, CommitsTree, IsMadeFor, LeavesBut}
use Rattle.mail_tree.specs.Sights.{broken_fault}
use Rattle.mail_tree.proofs.Above.{below_no_top}
use Rattle.mail_tree.proofs.Below.{one_below}
use Rattle.mail_tree.proofs.Joined.{acts_undue, files_then}
use Rattle.mail_tree.proofs.NewMailbox.{free_ready, free_for, leaves_new, leaves_new_above, done_new, new_commits, new_due, broken_breaks, broken_failed}
use Rattle.mail_tree.proofs.Nodes.{AreFormats}
use Rattle.mail_tree.proofs.new_mailbox.create.Goals as goal

pub make_parents-requires-clause-ready : goal.make_parents-requires-clause-ready
make_parents-requires-clause-ready g c =
    let root = c.args.root.now in
    let name = c.args.name.now in
    let driver = c.args.driver in
    let old = g.F.Files.history c.args.files.now in
    λ other whole. subst (λ n. Now (g.F.Files.history c.free_path.new.files) (λ w. IsReady root n (seen w.disk))) (one_below root name other (sym (c.as_str.ensures.value ∙ c.in_ok-path.ensures.path) ∙ whole))
    (subst (λ h. Now h (λ w. IsReady root name (seen w.disk))) (sym c.in_ok-path.ensures.history) (free_ready root name old c.requires.root c.in_ok-path.ensures.free))

pub returns-in_err-make_parents-clause-leaves : goal.returns-in_err-make_parents-clause-leaves
returns-in_err-make_parents-clause-leaves g c =
    let root = c.args.root.now in
    let name = c.args.name.now in
    let driver = c.args.driver in
    let old = g.F.Files.history c.args.files.now in
    let same = c.in_ok-path.ensures.history in
    let mid = g.F.Files.history c.make_parents.new.files in
    leaves_new_above root name driver c.from_residual-in_err-make_parents.result old mid (search rules) (subst (λ h. Ran (MakesAbove root name) h mid) same (c.make_parents.ensures.kept name (c.as_str.ensures.value ∙ c.in_ok-path.ensures.path)))

pub returns-in_err-make_parents-clause-commits : goal.returns-in_err-make_parents-clause-commits
returns-in_err-make_parents-clause-commits g c =
    let fs = formats_of g.S.Store.forms chosen in
    let laws : AreFormats fs = record { choice = g.met.S.AnyMailbox.is_choice; reads = λ d. g.met.S.AnyMailbox.all_read d } in
    let root = c.args.root.now in
    let name = c.args.name.now in
    let driver = c.args.driver in
    let old = g.F.Files.history c.args.files.now in
    let same = c.in_ok-path.ensures.history in
    let mid = g.F.Files.history c.make_parents.new.files in
    let one = g.met.S.AnyMailbox.of_files driver c.requires.known in
    let leaves : LeavesBut (MayClear driver (child root name)) (IsMadeFor driver root name) c.from_residual-in_err-make_parents.result old mid =
    leaves_new_above root name driver c.from_residual-in_err-make_parents.result old mid (search rules) (subst (λ h. Ran (MakesAbove root name) h mid) same (c.make_parents.ensures.kept name (c.as_str.ensures.value ∙ c.in_ok-path.ensures.path))) in
    new_commits fs laws root name c.in_ok-path.ensures.name driver one c.args.fresh c.from_residual-in_err-make_parents.result old mid c.in_ok-path.ensures.free (g.met.F.Files.sound c.make_parents.new.files) leaves (search rules)

pub create-requires-clause-below : goal.create-requires-clause-below
create-requires-clause-below g c = ap is_top (c.as_str-2.ensures.value ∙ c.in_ok-path.ensures.path) ∙ below_no_top c.args.root.now c.args.name.now c.requires.some

pub create-requires-clause-free : goal.create-requires-clause-free
create-requires-clause-free g c =
    let fs = formats_of g.S.Store.forms chosen in
    let root = c.args.root.now in
    let name = c.args.name.now in
    let driver = c.args.driver in
    let old = g.F.Files.history c.args.files.now in
    let same = c.in_ok-path.ensures.history in
    let mid = g.F.Files.history c.make_parents.new.files in
    subst (λ p. Now mid (λ w. IsFreeFor driver p (seen w.disk))) (sym (c.as_str-2.ensures.value ∙ c.in_ok-path.ensures.path))
    (free_for fs root name c.in_ok-path.ensures.name c.requires.some driver old mid c.in_ok-path.ensures.free (subst (λ h. Ended (MakesParents fs root name) h mid) same (c.in_ok-make_parents.ensures.made name (c.as_str.ensures.value ∙ c.in_ok-path.ensures.path))))

pub returns-in-Ok-clause-answer : goal.returns-in-Ok-clause-answer
returns-in-Ok-clause-answer g c =
    let fs = formats_of g.S.Store.forms chosen in
    let root = c.args.root.now in
    let name = c.args.name.now in
    let driver = c.args.driver in
    let old = g.F.Files.history c.args.files.now in
    let one = g.met.S.AnyMailbox.of_files driver c.requires.known in
    new_due fs root name c.in_ok-path.ensures.name driver one old c.in_ok-path.ensures.free

pub returns-in-Ok-clause-changes : goal.returns-in-Ok-clause-changes
returns-in-Ok-clause-changes g c =
    let fs = formats_of g.S.Store.forms chosen in
    let laws : AreFormats fs = record { choice = g.met.S.AnyMailbox.is_choice; reads = λ d. g.met.S.AnyMailbox.all_read d } in
    let root = c.args.root.now in
    let name = c.args.name.now in
    let driver = c.args.driver in
    let old = g.F.Files.history c.args.files.now in
    let same = c.in_ok-path.ensures.history in
    let mid = g.F.Files.history c.make_parents.new.files in
    let one = g.met.S.AnyMailbox.of_files driver c.requires.known in
    let new = g.F.Files.history c.create.new.files in
    let at = c.as_str-2.ensures.value ∙ c.in_ok-path.ensures.path in
    let alone : LeavesAlone (MayClear driver (child root name)) (IsHomeOf driver (child root name)) (Ok c.in-Ok.store) mid new =
    (subst (λ p. LeavesAlone (MayClear driver p) (IsHomeOf driver p) (Ok c.in-Ok.store) mid new) at c.in-Ok.ensures.leaves) in
    record {
      done = done_new fs laws root name c.in_ok-path.ensures.name driver one c.args.fresh old mid new c.in_ok-path.ensures.free (g.met.F.Files.sound c.make_parents.new.files)
          (subst (λ h. Ended (MakesParents fs root name) h mid) same (c.in_ok-make_parents.ensures.made name (c.as_str.ensures.value ∙ c.in_ok-path.ensures.path))) (alone.sees (λ failed. absurd (cc)))
          (now_weaker _ _ (λ w made. made.0) new (subst (λ p. Creates g.S.Store.forms driver p (g.S.Store.view c.in-Ok.store) c.args.fresh new) at c.in-Ok.ensures.created));
      refused = λ refuses. absurd refuses;
      none_pending = λ none. alone.none_pending ((subst (λ h. Now h (λ w. NonePending w.disk) → Now mid (λ w. NonePending w.disk)) same c.in_ok-make_parents.ensures.none_pending) none);
      files = files_then old mid new (subst (λ h. RanOnFiles h mid) same c.in_ok-make_parents.ensures.files) alone.files;
    }

pub returns-in-Ok-clause-leaves : goal.returns-in-Ok-clause-leaves
returns-in-Ok-clause-leaves g c =
    let root = c.args.root.now in
    let name = c.args.name.now in
    let driver = c.args.driver in
    let old = g.F.Files.history c.args.files.now in
    let same = c.in_ok-path.ensures.history in
    let mid = g.F.Files.history c.make_parents.new.files in
    let new = g.F.Files.history c.create.new.files in
    let at = c.as_str-2.ensures.value ∙ c.in_ok-path.ensures.path in
    let alone : LeavesAlone (MayClear driver (child root name)) (IsHomeOf driver (child root name)) (Ok c.in-Ok.store) mid new =
    (subst (λ p. LeavesAlone (MayClear driver p) (IsHomeOf driver p) (Ok c.in-Ok.store) mid new) at c.in-Ok.ensures.leaves) in
    leaves_new root name driver (Ok c.in-Ok.store) (Ok c.in-Ok.store) (λ failed. absurd (cc)) old mid new (subst (λ h. Ran (MakesAbove root name) h mid) same (c.in_ok-make_parents.ensures.kept name (c.as_str.ensures.value ∙ c.in_ok-path.ensures.path))) (subst (λ h. Ended (SeesAbove root name) h mid) same (c.in_ok-make_parents.ensures.seen name (c.as_str.ensures.value ∙ c.in_ok-path.ensures.path))) (subst (λ h. Now h (λ w. NonePending w.disk) → Now mid (λ w. NonePending w.disk)) same c.in_ok-make_parents.ensures.none_pending) alone

pub returns-in-Ok-clause-commits : goal.returns-in-Ok-clause-commits
returns-in-Ok-clause-commits g c =
    let fs = formats_of g.S.Store.forms chosen in
    let laws : AreFormats fs = record { choice = g.met.S.AnyMailbox.is_choice; reads = λ d. g.met.S.AnyMailbox.all_read d } in
    let root = c.args.root.now in
    let name = c.args.name.now in
    let driver = c.args.driver in
    let old = g.F.Files.history c.args.files.now in
    let same = c.in_ok-path.ensures.history in
    let mid = g.F.Files.history c.make_parents.new.files in
    let one = g.met.S.AnyMailbox.of_files driver c.requires.known in
    let new = g.F.Files.history c.create.new.files in
    let at = c.as_str-2.ensures.value ∙ c.in_ok-path.ensures.path in
    let alone : LeavesAlone (MayClear driver (child root name)) (IsHomeOf driver (child root name)) (Ok c.in-Ok.store) mid new =
    (subst (λ p. LeavesAlone (MayClear driver p) (IsHomeOf driver p) (Ok c.in-Ok.store) mid new) at c.in-Ok.ensures.leaves) in
    let leaves : LeavesBut (MayClear driver (child root name)) (IsMadeFor driver root name) (Ok c.in-Ok.store) old new =
    leaves_new root name driver (Ok c.in-Ok.store) (Ok c.in-Ok.store) (λ failed. absurd (cc)) old mid new (subst (λ h. Ran (MakesAbove root name) h mid) same (c.in_ok-make_parents.ensures.kept name (c.as_str.ensures.value ∙ c.in_ok-path.ensures.path))) (subst (λ h. Ended (SeesAbove root name) h mid) same (c.in_ok-make_parents.ensures.seen name (c.as_str.ensures.value ∙ c.in_ok-path.ensures.path))) (subst (λ h. Now h (λ w. NonePending w.disk) → Now mid (λ w. NonePending w.disk)) same c.in_ok-make_parents.ensures.none_pending) alone in
    new_commits fs laws root name c.in_ok-path.ensures.name driver one c.args.fresh (Ok c.in-Ok.store) old new c.in_ok-path.ensures.free (g.met.F.Files.sound c.create.new.files) leaves
    (λ none. alone.none_pending ((subst (λ h. Now h (λ w. NonePending w.disk) → Now mid (λ w. NonePending w.disk)) same c.in_ok-make_parents.ensures.none_pending) none))

pub returns-clause-changes : goal.returns-clause-changes
returns-clause-changes g c =
    let fs = formats_of g.S.Store.forms chosen in
    let laws : AreFormats fs = record { choice = g.met.S.AnyMailbox.is_choice; reads = λ d. g.met.S.AnyMailbox.all_read d } in
    let root = c.args.root.now in
    let name = c.args.name.now in
    let driver = c.args.driver in
    let old = g.F.Files.history c.args.files.now in
    let same = c.in_ok-path.ensures.history in
    let mid = g.F.Files.history c.make_parents.new.files in
    let new = g.F.Files.history c.create.new.files in
    let at = c.as_str-2.ensures.value ∙ c.in_ok-path.ensures.path in
    let alone : LeavesAlone (MayClear driver (child root name)) (IsHomeOf driver (child root name)) (Err c.in-Err.fault) mid new =
    (subst (λ p. LeavesAlone (MayClear driver p) (IsHomeOf driver p) (Err c.in-Err.fault) mid new) at c.in-Err.ensures.leaves) in
    subst (λ f. ChangesTree {T = g.row.S.Denot} fs root (λ tree. created_tree tree name driver c.args.fresh) (Err f) old new) (sym c.broken.ensures)
    (record {
      done = tt;
      refused = λ refuses. absurd (not_both (breaks_tree (broken_fault c.in-Err.fault)) (broken_breaks c.in-Err.fault (c.in-Err.ensures.answer refl)) refuses);
      none_pending = λ none. tt;
      files = files_then old mid new (subst (λ h. RanOnFiles h mid) same c.in_ok-make_parents.ensures.files) alone.files;
    })

pub returns-clause-leaves : goal.returns-clause-leaves
returns-clause-leaves g c =
    let root = c.args.root.now in
    let name = c.args.name.now in
    let driver = c.args.driver in
    let old = g.F.Files.history c.args.files.now in
    let same = c.in_ok-path.ensures.history in
    let mid = g.F.Files.history c.make_parents.new.files in
    let new = g.F.Files.history c.create.new.files in
    let at = c.as_str-2.ensures.value ∙ c.in_ok-path.ensures.path in
    let alone : LeavesAlone (MayClear driver (child root name)) (IsHomeOf driver (child root name)) (Err c.in-Err.fault) mid new =
    (subst (λ p. LeavesAlone (MayClear driver p) (IsHomeOf driver p) (Err c.in-Err.fault) mid new) at c.in-Err.ensures.leaves) in
    subst (λ f. LeavesBut {T = g.row.S.Denot} (MayClear driver (child root name)) (IsMadeFor driver root name) (Err f) old new) (sym c.broken.ensures)
    (leaves_new root name driver (Err c.in-Err.fault) (Err (broken_fault c.in-Err.fault)) (broken_failed c.in-Err.fault) old mid new (subst (λ h. Ran (MakesAbove root name) h mid) same (c.in_ok-make_parents.ensures.kept name (c.as_str.ensures.value ∙ c.in_ok-path.ensures.path))) (subst (λ h. Ended (SeesAbove root name) h mid) same (c.in_ok-make_parents.ensures.seen name (c.as_str.ensures.value ∙ c.in_ok-path.ensures.path))) (subst (λ h. Now h (λ w. NonePending w.disk) → Now mid (λ w. NonePending w.disk)) same c.in_ok-make_parents.ensures.none_pending) alone)

pub returns-clause-commits : goal.returns-clause-commits
returns-clause-commits g c =
    let fs = formats_of g.S.Store.forms chosen in
    let laws : AreFormats fs = record { choice = g.met.S.AnyMailbox.is_choice; reads = λ d. g.met.S.AnyMailbox.all_read d } in
    let root = c.args.root.now in
    let name = c.args.name.now in
    let driver = c.args.driver in
    let old = g.F.Files.history c.args.files.now in
    let same = c.in_ok-path.ensures.history in
    let mid = g.F.Files.history c.make_parents.new.files in
    let one = g.met.S.AnyMailbox.of_files driver c.requires.known in
    let new = g.F.Files.history c.create.new.files in
    let at = c.as_str-2.ensures.value ∙ c.in_ok-path.ensures.path in
    let alone : LeavesAlone (MayClear driver (child root name)) (IsHomeOf driver (child root name)) (Err c.in-Err.fault) mid new =
    (subst (λ p. LeavesAlone (MayClear driver p) (IsHomeOf driver p) (Err c.in-Err.fault) mid new) at c.in-Err.ensures.leaves) in
    let leaves : LeavesBut {T = g.row.S.Denot} (MayClear driver (child root name)) (IsMadeFor driver root name) (Err (broken_fault c.in-Err.fault)) old new =
    leaves_new root name driver (Err c.in-Err.fault) (Err (broken_fault c.in-Err.fault)) (broken_failed c.in-Err.fault) old mid new (subst (λ h. Ran (MakesAbove root name) h mid) same (c.in_ok-make_parents.ensures.kept name (c.as_str.ensures.value ∙ c.in_ok-path.ensures.path))) (subst (λ h. Ended (SeesAbove root name) h mid) same (c.in_ok-make_parents.ensures.seen name (c.as_str.ensures.value ∙ c.in_ok-path.ensures.path))) (subst (λ h. Now h (λ w. NonePending w.disk) → Now mid (λ w. NonePending w.disk)) same c.in_ok-make_parents.ensures.none_pending) alone in
    subst (λ f. CommitsTree {T = g.row.S.Denot} fs root (λ tree. created_tree tree name driver c.args.fresh) (Err f) old new) (sym c.broken.ensures)
    (new_commits fs laws root name c.in_ok-path.ensures.name driver one c.args.fresh (Err (broken_fault c.in-Err.fault)) old new c.in_ok-path.ensures.free (g.met.F.Files.sound c.create.new.files) leaves (λ none. tt))

pub returns-in_err-make_parents-clause-acts : goal.returns-in_err-make_parents-clause-acts
returns-in_err-make_parents-clause-acts g c =
    let fs = formats_of g.S.Store.forms chosen in
    let root = c.args.root.now in
    let name = c.args.name.now in
    let driver = c.args.driver in
    let old = g.F.Files.history c.args.files.now in
    acts_undue fs root (λ tree. due_create tree name driver) old (g.F.Files.history c.make_parents.new.files)
    (new_due fs root name c.in_ok-path.ensures.name driver (g.met.S.AnyMailbox.of_files driver c.requires.known) old c.in_ok-path.ensures.free)

pub returns-in-Ok-clause-acts : goal.returns-in-Ok-clause-acts
returns-in-Ok-clause-acts g c =
    let fs = formats_of g.S.Store.forms chosen in
    let root = c.args.root.now in
    let name = c.args.name.now in
    let driver = c.args.driver in
    let old = g.F.Files.history c.args.files.now in
    acts_undue fs root (λ tree. due_create tree name driver) old (g.F.Files.history c.create.new.files)
    (new_due fs root name c.in_ok-path.ensures.name driver (g.met.S.AnyMailbox.of_files driver c.requires.known) old c.in_ok-path.ensures.free)

pub returns-clause-acts : goal.returns-clause-acts
returns-clause-acts g c =
    let fs = formats_of g.S.Store.forms chosen in
    let root = c.args.root.now in
    let name = c.args.name.now in
    let driver = c.args.driver in
    let old = g.F.Files.history c.args.files.now in
    acts_undue fs root (λ tree. due_create tree name driver) old (g.F.Files.history c.create.new.files)
    (new_due fs root name c.in_ok-path.ensures.name driver (g.met.S.AnyMailbox.of_files driver c.requires.known) old c.in_ok-path.ensures.free)
