use Rattle.std.proofs.Common.{subst, sym, refl}
use Rattle.store_trait.specs.declared.change.Change.TheVariants.{SetFlags}
use Rattle.store_trait.specs.Promises.{AnswersChange, ChangesStore}
use Rattle.any_store.specs.Arms.{answers_all, changes_all}
use Rattle.any_store.specs.Laws.{shares_unix, shares_mbx}
use Rattle.any_store.specs.Stores.{unix_forms, mbx_forms, all_forms, unix_view, mbx_view, view_of}
use Rattle.any_store.proofs.any.AnyStoreStore.set_flags.Goals as goal

pub returns-in-Unix-clause-answers : goal.returns-in-Unix-clause-answers
returns-in-Unix-clause-answers g c =
    let was = unix_view c.in-Unix.store in
    subst (λ s. AnswersChange all_forms (view_of s) (SetFlags c.args.changes.now c.args.words.now) c.set_flags.result (g.F.Files.history c.args.files.now) (g.F.Files.history c.set_flags.new.files)) (sym c.in-Unix.is)
    (answers_all unix_forms all_forms was (shares_unix was.driver refl) (SetFlags c.args.changes.now c.args.words.now) c.set_flags.result (g.F.Files.history c.args.files.now) (g.F.Files.history c.set_flags.new.files) c.set_flags.ensures.answers)

pub returns-in-Unix-clause-changes : goal.returns-in-Unix-clause-changes
returns-in-Unix-clause-changes g c =
    let was = unix_view c.in-Unix.store in
    subst (λ s. ChangesStore all_forms (view_of s) (unix_view c.set_flags.new.self) (SetFlags c.args.changes.now c.args.words.now) c.set_flags.result (g.F.Files.history c.args.files.now) (g.F.Files.history c.set_flags.new.files)) (sym c.in-Unix.is)
    (changes_all unix_forms all_forms was (shares_unix was.driver refl) (SetFlags c.args.changes.now c.args.words.now) c.set_flags.result (g.F.Files.history c.args.files.now) (g.F.Files.history c.set_flags.new.files) (unix_view c.set_flags.new.self) c.set_flags.ensures.changes)

pub returns-in-Mbx-clause-answers : goal.returns-in-Mbx-clause-answers
returns-in-Mbx-clause-answers g c =
    let was = mbx_view c.in-Mbx.store in
    subst (λ s. AnswersChange all_forms (view_of s) (SetFlags c.args.changes.now c.args.words.now) c.set_flags-in-Mbx.result (g.F.Files.history c.args.files.now) (g.F.Files.history c.set_flags-in-Mbx.new.files)) (sym c.in-Mbx.is)
    (answers_all mbx_forms all_forms was (shares_mbx was.driver refl) (SetFlags c.args.changes.now c.args.words.now) c.set_flags-in-Mbx.result (g.F.Files.history c.args.files.now) (g.F.Files.history c.set_flags-in-Mbx.new.files) c.set_flags-in-Mbx.ensures.answers)

pub returns-in-Mbx-clause-changes : goal.returns-in-Mbx-clause-changes
returns-in-Mbx-clause-changes g c =
    let was = mbx_view c.in-Mbx.store in
    subst (λ s. ChangesStore all_forms (view_of s) (mbx_view c.set_flags-in-Mbx.new.self) (SetFlags c.args.changes.now c.args.words.now) c.set_flags-in-Mbx.result (g.F.Files.history c.args.files.now) (g.F.Files.history c.set_flags-in-Mbx.new.files)) (sym c.in-Mbx.is)
    (changes_all mbx_forms all_forms was (shares_mbx was.driver refl) (SetFlags c.args.changes.now c.args.words.now) c.set_flags-in-Mbx.result (g.F.Files.history c.args.files.now) (g.F.Files.history c.set_flags-in-Mbx.new.files) (mbx_view c.set_flags-in-Mbx.new.self) c.set_flags-in-Mbx.ensures.changes)
