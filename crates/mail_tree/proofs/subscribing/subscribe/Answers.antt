use Rattle.std.proofs.Common.{◌∙◌, ap, subst, OnOk}
use Rattle.file_model.specs.Histories.{Now, Ended}
use Rattle.file_model.specs.Kept.{NonePending}
use Rattle.store_trait.specs.Promises.{RanOnFiles}
use Rattle.any_store.specs.Choice.{formats_of, chosen}
use Rattle.mail_tree.specs.Promises.{WritesList, LeavesList}
use Rattle.mail_tree.specs.Subscriptions.{subscription_text, with_name}
use Rattle.mail_tree.proofs.NamesWritten.{list_changes, none_changes, list_commits}
use Rattle.mail_tree.proofs.Nodes.{AreFormats}
use Rattle.mail_tree.proofs.Subscribed.{with_back, stays_there}
use Rattle.mail_tree.proofs.subscribing.subscribe.Goals as goal

pub returns-in-Ok-true-clause-changes : goal.returns-in-Ok-true-clause-changes
returns-in-Ok-true-clause-changes g c =
    let fs = formats_of g.S.Store.forms chosen in
    let laws : AreFormats fs = record { choice = g.met.S.AnyMailbox.is_choice; reads = λ d. g.met.S.AnyMailbox.all_read d } in
    let root = c.args.root.now in
    let name = c.args.name.now in
    let old = g.F.Files.history c.args.files.now in
    let new = g.F.Files.history c.write_names.new.files in
    let same = c.in_ok-names.ensures.history in
    list_changes fs laws root (with_name name) c.in_ok-names.names.keys c.as_slice.result.now old new c.in_ok-names.ensures.value c.write_names.result
    (λ text is. c.as_slice.ensures.keys ∙ c.in-Ok-true.ensures.keys ∙ ap (λ n. with_name n c.in_ok-names.names.keys) c.in_ok-copy.ensures.copy)
    (λ text. with_back text name c.in_ok-copy.ensures.name)
    (subst (λ h. OnOk c.write_names.result (Ended (WritesList root (subscription_text c.as_slice.result.now)) h new)) same c.write_names.ensures.written)
    c.write_names.ensures.answer
    (subst (λ h. Now h (λ w. NonePending w.disk) → OnOk c.write_names.result (Now new (λ w. NonePending w.disk))) same c.write_names.ensures.none_pending)
    (subst (λ h. RanOnFiles h new) same c.write_names.ensures.files)

pub returns-in-Ok-true-clause-commits : goal.returns-in-Ok-true-clause-commits
returns-in-Ok-true-clause-commits g c =
    let fs = formats_of g.S.Store.forms chosen in
    let laws : AreFormats fs = record { choice = g.met.S.AnyMailbox.is_choice; reads = λ d. g.met.S.AnyMailbox.all_read d } in
    let root = c.args.root.now in
    let new = g.F.Files.history c.write_names.new.files in
    let same = c.in_ok-names.ensures.history in
    list_commits root fs laws (with_name c.args.name.now) c.write_names.result (g.F.Files.history c.args.files.now) new (g.met.F.Files.sound c.write_names.new.files)
    (subst (λ h. LeavesList root c.write_names.result h new) same c.write_names.ensures.leaves)
    (subst (λ h. Now h (λ w. NonePending w.disk) → OnOk c.write_names.result (Now new (λ w. NonePending w.disk))) same c.write_names.ensures.none_pending)

pub returns-in-Ok-false-clause-changes : goal.returns-in-Ok-false-clause-changes
returns-in-Ok-false-clause-changes g c =
    let fs = formats_of g.S.Store.forms chosen in
    let laws : AreFormats fs = record { choice = g.met.S.AnyMailbox.is_choice; reads = λ d. g.met.S.AnyMailbox.all_read d } in
    none_changes fs laws c.args.root.now (with_name c.args.name.now) c.in_ok-names.names.keys c.in_ok-names.names.keys (g.F.Files.history c.args.files.now) (g.F.Files.history c.subscribed.new.files) c.in_ok-names.ensures.value
    (stays_there c.in_ok-names.names.keys c.args.name.now c.in_ok-copy.copy c.in-Ok-false.field-0 c.in-Ok-false.ensures.added c.in-Ok-false.field-0-test c.in_ok-copy.ensures.copy) c.in_ok-names.ensures.history
