use Rattle.std.proofs.Common.{subst, sym, refl}
use Rattle.store_trait.specs.declared.change.Change.TheVariants.{Expunge}
use Rattle.store_trait.specs.Promises.{AnswersChange, ChangesStore}
use Rattle.any_store.specs.Arms.{answers_all, changes_all}
use Rattle.any_store.specs.Laws.{shares_unix, shares_mbx}
use Rattle.any_store.specs.Stores.{unix_forms, mbx_forms, all_forms, unix_view, mbx_view, view_of}
use Rattle.any_store.proofs.any.AnyStoreStore.expunge.Goals as goal

pub returns-in-Unix-clause-answers : goal.returns-in-Unix-clause-answers
returns-in-Unix-clause-answers g c =
    let was = unix_view c.in-Unix.store in
    subst (λ s. AnswersChange all_forms (view_of s) (Expunge c.args.places.now) c.expunge.result (g.F.Files.history c.args.files.now) (g.F.Files.history c.expunge.new.files)) (sym c.in-Unix.is)
    (answers_all unix_forms all_forms was (shares_unix was.driver refl) (Expunge c.args.places.now) c.expunge.result (g.F.Files.history c.args.files.now) (g.F.Files.history c.expunge.new.files) c.expunge.ensures.answers)

pub returns-in-Unix-clause-changes : goal.returns-in-Unix-clause-changes
returns-in-Unix-clause-changes g c =
    let was = unix_view c.in-Unix.store in
    subst (λ s. ChangesStore all_forms (view_of s) (unix_view c.expunge.new.self) (Expunge c.args.places.now) c.expunge.result (g.F.Files.history c.args.files.now) (g.F.Files.history c.expunge.new.files)) (sym c.in-Unix.is)
    (changes_all unix_forms all_forms was (shares_unix was.driver refl) (Expunge c.args.places.now) c.expunge.result (g.F.Files.history c.args.files.now) (g.F.Files.history c.expunge.new.files) (unix_view c.expunge.new.self) c.expunge.ensures.changes)

pub returns-in-Mbx-clause-answers : goal.returns-in-Mbx-clause-answers
returns-in-Mbx-clause-answers g c =
    let was = mbx_view c.in-Mbx.store in
    subst (λ s. AnswersChange all_forms (view_of s) (Expunge c.args.places.now) c.expunge-in-Mbx.result (g.F.Files.history c.args.files.now) (g.F.Files.history c.expunge-in-Mbx.new.files)) (sym c.in-Mbx.is)
    (answers_all mbx_forms all_forms was (shares_mbx was.driver refl) (Expunge c.args.places.now) c.expunge-in-Mbx.result (g.F.Files.history c.args.files.now) (g.F.Files.history c.expunge-in-Mbx.new.files) c.expunge-in-Mbx.ensures.answers)

pub returns-in-Mbx-clause-changes : goal.returns-in-Mbx-clause-changes
returns-in-Mbx-clause-changes g c =
    let was = mbx_view c.in-Mbx.store in
    subst (λ s. ChangesStore all_forms (view_of s) (mbx_view c.expunge-in-Mbx.new.self) (Expunge c.args.places.now) c.expunge-in-Mbx.result (g.F.Files.history c.args.files.now) (g.F.Files.history c.expunge-in-Mbx.new.files)) (sym c.in-Mbx.is)
    (changes_all mbx_forms all_forms was (shares_mbx was.driver refl) (Expunge c.args.places.now) c.expunge-in-Mbx.result (g.F.Files.history c.args.files.now) (g.F.Files.history c.expunge-in-Mbx.new.files) (mbx_view c.expunge-in-Mbx.new.self) c.expunge-in-Mbx.ensures.changes)
