use Rattle.std.proofs.Common.{◌≡◌, ◌+◌, ◌%◌, ◌/◌, length, sym, ◌∙◌, ap, subst, arith}
use Rattle.std.proofs.lemmas.Grind.{common_steps}
use Rattle.mem_host.specs.Mirrored.{Shows}
use Rattle.mem_host.specs.Drafts.{AreDrafts}
use Rattle.mem_host.specs.Crashes.{names_left, bytes_left}
use Rattle.mem_host.specs.Finding.{AreContents}
use Rattle.mem_host.proofs.Found.{on_result}
use Rattle.mem_host.proofs.Leaving.{holds_left}
use Rattle.mem_host.proofs.Remaining.{length_operations}
use Rattle.mem_host.proofs.crash.leave.Goals as goal

pub returns-clause-holds : goal.returns-clause-holds
returns-clause-holds c = on_result c.leave_contents.result _ _ (λ contents are found sound finds.
    let disk = found.disk in let pending = c.args.crash.now.remains.pending.items in
    let many : c.len.result ≡ length disk.pending = grind (arith, common_steps, c.len.ensures, length_operations pending, ap length finds.remains.pending) in
    let files = c.as_slice.ensures.value ∙ ap (λ r. r.files.items) c.in_ok-leave_names.ensures.rest in
    let drafts = subst (λ l. AreDrafts l disk) (sym files) finds.remains.drafts in
    holds_left disk found.pick c.leave_names.new.self.durable contents.items (length c.as_slice.result.now) sound drafts.count
    (subst (λ n. Shows c.leave_names.new.self.durable (names_left disk n)) (λ i. finds.pick i % (many i + 1)) (c.in_ok-leave_names.ensures.names disk finds.remains))
    (subst (λ n. AreContents contents.items (length c.as_slice.result.now) (bytes_left disk.files n)) (λ i. finds.pick i / (many i + 1)) (are disk drafts))) c.leave_contents.ensures
