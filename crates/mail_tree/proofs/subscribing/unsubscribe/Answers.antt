use Rattle.std.proofs.Common.{inl, sym, ◌∙◌, ap, subst, true, false, OnOk, Ok, Err}
use Rattle.std.specs.Prelude.{bytes_eq}
use Rattle.file_model.specs.Histories.{Now, Ended}
use Rattle.file_model.specs.Kept.{NonePending}
use Rattle.indexmap.specs.IndexSet.{remove_key}
use Rattle.store_trait.specs.Promises.{RanOnFiles}
use Rattle.any_store.specs.Choice.{formats_of, chosen}
use Rattle.mail_tree.specs.declared.fault.TreeFault.TheVariants.{Absent}
use Rattle.mail_tree.specs.Changes.{due_unsubscribe}
use Rattle.mail_tree.specs.Promises.{WritesList, LeavesList}
use Rattle.mail_tree.specs.Subscriptions.{subscription_text, without_name}
use Rattle.mail_tree.proofs.Joined.{acts_undue, none_is_due}
use Rattle.mail_tree.proofs.NamesWritten.{list_changes, list_commits, known_due}
use Rattle.mail_tree.proofs.Nodes.{AreFormats}
use Rattle.mail_tree.proofs.Subscribed.{without_back, taken_out}
use Rattle.mail_tree.proofs.subscribing.unsubscribe.Goals as goal

pub returns-then-not-shift_remove-clause-answer : goal.returns-then-not-shift_remove-clause-answer
returns-then-not-shift_remove-clause-answer g c =
    let fs = formats_of g.S.Store.forms chosen in
    let laws : AreFormats fs = record { choice = g.met.S.AnyMailbox.is_choice; reads = λ d. g.met.S.AnyMailbox.all_read d } in
    let old = g.F.Files.history c.args.files.now in
    known_due fs laws c.args.root.now (without_name c.args.name.now) c.in_ok-names.names.keys c.in_ok-names.names.keys old old c.in_ok-names.ensures.value c.args.name.now false (Err Absent)
    (sym c.if-not-shift_remove.true ∙ c.shift_remove.ensures.found) (λ due is. inl is)

pub returns-clause-answer : goal.returns-clause-answer
returns-clause-answer g c =
    let fs = formats_of g.S.Store.forms chosen in
    let laws : AreFormats fs = record { choice = g.met.S.AnyMailbox.is_choice; reads = λ d. g.met.S.AnyMailbox.all_read d } in
    let old = g.F.Files.history c.args.files.now in
    known_due fs laws c.args.root.now (without_name c.args.name.now) c.in_ok-names.names.keys c.in_ok-names.names.keys old old c.in_ok-names.ensures.value c.args.name.now true c.write_names.result
    (sym c.if-not-shift_remove.false ∙ c.shift_remove.ensures.found) (λ due is. none_is_due due c.write_names.result is c.write_names.ensures.answer)

pub returns-clause-changes : goal.returns-clause-changes
returns-clause-changes g c =
    let fs = formats_of g.S.Store.forms chosen in
    let laws : AreFormats fs = record { choice = g.met.S.AnyMailbox.is_choice; reads = λ d. g.met.S.AnyMailbox.all_read d } in
    let root = c.args.root.now in
    let name = c.args.name.now in
    let old = g.F.Files.history c.args.files.now in
    let new = g.F.Files.history c.write_names.new.files in
    let same = c.in_ok-names.ensures.history in
    list_changes fs laws root (without_name name) c.in_ok-names.names.keys c.as_slice.result.now old new c.in_ok-names.ensures.value c.write_names.result
    (λ text is. c.as_slice.ensures.keys ∙ c.shift_remove.ensures.keys ∙ ap (remove_key (bytes_eq name)) is ∙ taken_out name text ∙ ap (without_name name) (sym is))
    (λ text. without_back text name)
    (subst (λ h. OnOk c.write_names.result (Ended (WritesList root (subscription_text c.as_slice.result.now)) h new)) same c.write_names.ensures.written)
    c.write_names.ensures.answer
    (subst (λ h. Now h (λ w. NonePending w.disk) → OnOk c.write_names.result (Now new (λ w. NonePending w.disk))) same c.write_names.ensures.none_pending)
    (subst (λ h. RanOnFiles h new) same c.write_names.ensures.files)

pub returns-clause-commits : goal.returns-clause-commits
returns-clause-commits g c =
    let fs = formats_of g.S.Store.forms chosen in
    let laws : AreFormats fs = record { choice = g.met.S.AnyMailbox.is_choice; reads = λ d. g.met.S.AnyMailbox.all_read d } in
    let root = c.args.root.now in
    let new = g.F.Files.history c.write_names.new.files in
    let same = c.in_ok-names.ensures.history in
    list_commits root fs laws (without_name c.args.name.now) c.write_names.result (g.F.Files.history c.args.files.now) new (g.met.F.Files.sound c.write_names.new.files)
    (subst (λ h. LeavesList root c.write_names.result h new) same c.write_names.ensures.leaves)
    (subst (λ h. Now h (λ w. NonePending w.disk) → OnOk c.write_names.result (Now new (λ w. NonePending w.disk))) same c.write_names.ensures.none_pending)

pub returns-clause-acts : goal.returns-clause-acts
returns-clause-acts g c =
    let fs = formats_of g.S.Store.forms chosen in
    let laws : AreFormats fs = record { choice = g.met.S.AnyMailbox.is_choice; reads = λ d. g.met.S.AnyMailbox.all_read d } in
    let name = c.args.name.now in
    let old = g.F.Files.history c.args.files.now in
    acts_undue fs c.args.root.now (λ tree. due_unsubscribe tree name) old (g.F.Files.history c.write_names.new.files)
    (known_due fs laws c.args.root.now (without_name name) c.in_ok-names.names.keys c.in_ok-names.names.keys old old c.in_ok-names.ensures.value name true (Ok tt)
    (sym c.if-not-shift_remove.false ∙ c.shift_remove.ensures.found) (λ due is. is))
