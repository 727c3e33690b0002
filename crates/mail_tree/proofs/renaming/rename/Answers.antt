use Rattle.std.proofs.Common.{rules, sym, ◌∙◌, ap, subst, OnOk}
use Rattle.file_model.specs.Disk.{seen}
use Rattle.file_model.specs.Histories.{Now, Ran, Ended}
use Rattle.file_model.specs.Kept.{IsSound, MovesWhole, SeesMoved}
use Rattle.file_model.specs.Paths.{child, is_top}
use Rattle.file_model.proofs.Runs.{now_weaker, now_both, ran_weaker}
use Rattle.store_trait.specs.Promises.{RanOnFiles}
use Rattle.any_store.specs.Choice.{formats_of, chosen}
use Rattle.mail_tree.specs.Changes.{AnswersTree, due_rename, renamed_tree}
use Rattle.mail_tree.specs.Making.{IsReady, MakesAbove, SeesAbove, MakesParents}
use Rattle.mail_tree.specs.Renaming.{CanRename, CanMoveWhole}
use Rattle.mail_tree.specs.Trees.{Tree, HasTree}
use Rattle.mail_tree.proofs.Above.{below_no_top}
use Rattle.mail_tree.proofs.Below.{one_below}
use Rattle.mail_tree.proofs.Joined.{acts_undue, ended_two, known_gives, files_then, none_is_due, ok_map, no_refusal}
use Rattle.mail_tree.proofs.MovedImages.{ran_may, all_moved, leaves_moved, may_above, leaves_above}
use Rattle.mail_tree.proofs.MovedMix.{commits_renamed}
use Rattle.mail_tree.proofs.Nodes.{AreFormats}
use Rattle.mail_tree.proofs.RenamedTree.{IsRenamable, ready_to, can_move_whole, tree_renamed}
use Rattle.mail_tree.proofs.renaming.rename.Goals as goal

pub move_one-requires-clause-below : goal.move_one-requires-clause-below
move_one-requires-clause-below g c = ap is_top (c.as_str-2.ensures.value ∙ c.in_ok-source.ensures.path) ∙ below_no_top c.args.root.now c.args.from.now c.requires.some

pub move_one-requires-clause-under : goal.move_one-requires-clause-under
move_one-requires-clause-under g c = ap is_top (c.as_str-3.ensures.value ∙ c.in_ok-target.ensures.path) ∙ below_no_top c.args.root.now c.args.to.now c.requires.some

pub make_parents-requires-clause-ready : goal.make_parents-requires-clause-ready
make_parents-requires-clause-ready g c = λ name whole.
    subst (λ n. Now (g.F.Files.history c.check_rename.new.files) (λ w. IsReady c.args.root.now n (seen w.disk))) (one_below c.args.root.now c.args.to.now name (sym (c.as_str.ensures.value ∙ c.in_ok-target.ensures.path) ∙ whole))
    (subst (λ h. Now h (λ w. IsReady c.args.root.now c.args.to.now (seen w.disk))) (sym c.in_ok-check_rename.ensures.history)
    (ready_to c.args.root.now c.args.from.now c.args.to.now _ c.in_ok-check_rename.ensures.can c.requires.root))

pub move_one-requires-clause-can : goal.move_one-requires-clause-can
move_one-requires-clause-can g c =
    let fs = formats_of g.S.Store.forms chosen in
    let root = c.args.root.now in
    let from = c.args.from.now in
    let to = c.args.to.now in
    let old = g.F.Files.history c.args.files.now in
    let mid = g.F.Files.history c.make_parents.new.files in
    let parents = subst (λ h. Ended (MakesParents fs root to) h mid) c.in_ok-check_rename.ensures.history (c.in_ok-make_parents.ensures.made to (c.as_str.ensures.value ∙ c.in_ok-target.ensures.path)) in
    subst (λ q. Now mid (λ w. CanMoveWhole q c.as_str-3.result.now (seen w.disk))) (sym (c.as_str-2.ensures.value ∙ c.in_ok-source.ensures.path))
    (subst (λ q. Now mid (λ w. CanMoveWhole (child root from) q (seen w.disk))) (sym (c.as_str-3.ensures.value ∙ c.in_ok-target.ensures.path))
    (known_gives (λ d. CanRename root from to (seen d)) IsSound (λ d. CanMoveWhole (child root from) (child root to) (seen d)) (MakesParents fs root to)
    (λ a b can sound p. can_move_whole fs root from to c.in_ok-target.ensures.name c.requires.some a b can sound p) old mid c.in_ok-check_rename.ensures.can (g.met.F.Files.sound c.make_parents.new.files) parents))

pub returns-clause-answer : goal.returns-clause-answer
returns-clause-answer g c =
    now_weaker _ (λ w. (tree : Tree) → HasTree (formats_of g.S.Store.forms chosen) c.args.root.now (seen w.disk) tree → AnswersTree (due_rename tree c.args.from.now c.args.to.now _) c.move_one.result)
    (λ w due. λ tree has. none_is_due (due_rename tree c.args.from.now c.args.to.now _) c.move_one.result (due tree has) c.move_one.ensures.answer) _ c.in_ok-check_rename.ensures.answer

pub returns-clause-changes : goal.returns-clause-changes
returns-clause-changes g c =
    let fs = formats_of g.S.Store.forms chosen in
    let root = c.args.root.now in
    let from = c.args.from.now in
    let to = c.args.to.now in
    let old = g.F.Files.history c.args.files.now in
    let mid = g.F.Files.history c.make_parents.new.files in
    let new = g.F.Files.history c.move_one.new.files in
    let same = c.in_ok-check_rename.ensures.history in
    let laws : AreFormats fs = record { choice = g.met.S.AnyMailbox.is_choice; reads = λ d. g.met.S.AnyMailbox.all_read d } in
    let parents = subst (λ h. Ended (MakesParents fs root to) h mid) same (c.in_ok-make_parents.ensures.made to (c.as_str.ensures.value ∙ c.in_ok-target.ensures.path)) in
    let moved = subst (λ q. OnOk c.move_one.result (Ended (SeesMoved q (child root to)) mid new)) (c.as_str-2.ensures.value ∙ c.in_ok-source.ensures.path)
    (subst (λ q. OnOk c.move_one.result (Ended (SeesMoved c.as_str-2.result.now q) mid new)) (c.as_str-3.ensures.value ∙ c.in_ok-target.ensures.path) c.move_one.ensures.moved) in
    let known = now_both (λ w. CanRename root from to (seen w.disk)) (λ w. IsSound w.disk) old c.in_ok-check_rename.ensures.can (g.met.F.Files.sound c.args.files.now) in
    record {
      done = ok_map c.move_one.result (λ ended. ended_two (IsRenamable root from to) IsSound (MakesParents fs root to) (SeesMoved (child root from) (child root to))
          (λ a b. (tree : Tree) → HasTree fs root (seen a) tree → HasTree fs root (seen b) (renamed_tree tree from to))
          (λ a b e is sound p m. λ tree has. tree_renamed fs laws root from to c.in_ok-source.ensures.name c.in_ok-target.ensures.name a b e is.1 sound is.0 p m tree has) old mid new known (g.met.F.Files.sound c.make_parents.new.files) parents ended) moved;
      refused = λ refuses. absurd (no_refusal c.move_one.result c.move_one.ensures.answer refuses);
      none_pending = λ none. c.move_one.ensures.none_pending;
      files = files_then old mid new (subst (λ h. RanOnFiles h mid) same c.in_ok-make_parents.ensures.files) (ran_weaker (λ a b r. tt) mid new c.move_one.ensures.kept);
    }

pub returns-in_err-make_parents-clause-leaves : goal.returns-in_err-make_parents-clause-leaves
returns-in_err-make_parents-clause-leaves g c =
    let root = c.args.root.now in
    let to = c.args.to.now in
    let mid = g.F.Files.history c.make_parents.new.files in
    leaves_above root c.args.from.now to c.from_residual-in_err-make_parents.result (g.F.Files.history c.args.files.now) mid (search rules)
    (subst (λ h. Ran (MakesAbove root to) h mid) c.in_ok-check_rename.ensures.history (c.make_parents.ensures.kept to (c.as_str.ensures.value ∙ c.in_ok-target.ensures.path)))

pub returns-in_err-make_parents-clause-commits : goal.returns-in_err-make_parents-clause-commits
returns-in_err-make_parents-clause-commits g c =
    let root = c.args.root.now in
    let from = c.args.from.now in
    let to = c.args.to.now in
    let old = g.F.Files.history c.args.files.now in
    let mid = g.F.Files.history c.make_parents.new.files in
    let fs = formats_of g.S.Store.forms chosen in
    let laws : AreFormats fs = record { choice = g.met.S.AnyMailbox.is_choice; reads = λ d. g.met.S.AnyMailbox.all_read d } in
    commits_renamed fs laws root from to c.in_ok-source.ensures.name c.in_ok-target.ensures.name c.from_residual-in_err-make_parents.result old mid c.in_ok-check_rename.ensures.can
    (may_above root from to old mid (subst (λ h. Ran (MakesAbove root to) h mid) c.in_ok-check_rename.ensures.history (c.make_parents.ensures.kept to (c.as_str.ensures.value ∙ c.in_ok-target.ensures.path))))
    (search rules) (search rules)

pub returns-clause-leaves : goal.returns-clause-leaves
returns-clause-leaves g c =
    let root = c.args.root.now in
    let from = c.args.from.now in
    let to = c.args.to.now in
    let old = g.F.Files.history c.args.files.now in
    let mid = g.F.Files.history c.make_parents.new.files in
    let new = g.F.Files.history c.move_one.new.files in
    let same = c.in_ok-check_rename.ensures.history in
    let at = c.as_str.ensures.value ∙ c.in_ok-target.ensures.path in
    let here = c.as_str-2.ensures.value ∙ c.in_ok-source.ensures.path in
    let there = c.as_str-3.ensures.value ∙ c.in_ok-target.ensures.path in
    leaves_moved root from to c.move_one.result old mid new c.in_ok-check_rename.ensures.can c.move_one.ensures.failed
    (subst (λ h. Ran (MakesAbove root to) h mid) same (c.in_ok-make_parents.ensures.kept to at))
    (subst (λ q. Ran (MovesWhole q (child root to)) mid new) here (subst (λ q. Ran (MovesWhole c.as_str-2.result.now q) mid new) there c.move_one.ensures.kept))
    (subst (λ h. Ended (SeesAbove root to) h mid) same (c.in_ok-make_parents.ensures.seen to at))
    (subst (λ q. OnOk c.move_one.result (Ended (SeesMoved q (child root to)) mid new)) here (subst (λ q. OnOk c.move_one.result (Ended (SeesMoved c.as_str-2.result.now q) mid new)) there c.move_one.ensures.moved))

pub returns-clause-commits : goal.returns-clause-commits
returns-clause-commits g c =
    let root = c.args.root.now in
    let from = c.args.from.now in
    let to = c.args.to.now in
    let old = g.F.Files.history c.args.files.now in
    let mid = g.F.Files.history c.make_parents.new.files in
    let new = g.F.Files.history c.move_one.new.files in
    let fs = formats_of g.S.Store.forms chosen in
    let laws : AreFormats fs = record { choice = g.met.S.AnyMailbox.is_choice; reads = λ d. g.met.S.AnyMailbox.all_read d } in
    let same = c.in_ok-check_rename.ensures.history in
    let at = c.as_str.ensures.value ∙ c.in_ok-target.ensures.path in
    let here = c.as_str-2.ensures.value ∙ c.in_ok-source.ensures.path in
    let there = c.as_str-3.ensures.value ∙ c.in_ok-target.ensures.path in
    let can = c.in_ok-check_rename.ensures.can in
    let above = subst (λ h. Ran (MakesAbove root to) h mid) same (c.in_ok-make_parents.ensures.kept to at) in
    commits_renamed fs laws root from to c.in_ok-source.ensures.name c.in_ok-target.ensures.name c.move_one.result old new can
    (ran_may root from to c.move_one.result old mid new can c.move_one.ensures.failed above
    (subst (λ q. Ran (MovesWhole q (child root to)) mid new) here (subst (λ q. Ran (MovesWhole c.as_str-2.result.now q) mid new) there c.move_one.ensures.kept)))
    (all_moved root from to c.move_one.result old mid new can c.move_one.ensures.failed above
    (subst (λ h. Ended (SeesAbove root to) h mid) same (c.in_ok-make_parents.ensures.seen to at))
    (subst (λ q. OnOk c.move_one.result (Ended (SeesMoved q (child root to)) mid new)) here (subst (λ q. OnOk c.move_one.result (Ended (SeesMoved c.as_str-2.result.now q) mid new)) there c.move_one.ensures.moved)))
    c.move_one.ensures.none_pending

pub returns-in_err-make_parents-clause-acts : goal.returns-in_err-make_parents-clause-acts
returns-in_err-make_parents-clause-acts g c =
    acts_undue (formats_of g.S.Store.forms chosen) c.args.root.now (λ tree. due_rename tree c.args.from.now c.args.to.now _) (g.F.Files.history c.args.files.now) (g.F.Files.history c.make_parents.new.files) c.in_ok-check_rename.ensures.answer

pub returns-clause-acts : goal.returns-clause-acts
returns-clause-acts g c =
    acts_undue (formats_of g.S.Store.forms chosen) c.args.root.now (λ tree. due_rename tree c.args.from.now c.args.to.now _) (g.F.Files.history c.args.files.now) (g.F.Files.history c.move_one.new.files) c.in_ok-check_rename.ensures.answer
