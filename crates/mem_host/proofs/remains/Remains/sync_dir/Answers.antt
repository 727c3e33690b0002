use Rattle.std.proofs.Common.{◌≡◌, ◌≤◌, length, take, drop, refl, sym, ◌∙◌, ap, subst}
use Rattle.file_model.specs.Disk.{durable_by, all_done}
use Rattle.mem_host.specs.Mirrored.{Shows}
use Rattle.mem_host.specs.Remains.{operations_of}
use Rattle.mem_host.proofs.Remaining.{sync_dir_remains, durable_front, pending_back, rest_of}
use Rattle.mem_host.proofs.remains.Remains.sync_dir.Goals as goal

pub returns : goal.returns
returns c disk is =
    let dir = c.args.dir.now in let pending = c.args.self.now.pending.items in
    let count : c.durable_count-count.result ≡ length (durable_by dir (operations_of pending)) =
    c.durable_count-count.ensures.count ∙ ap (λ l. length (durable_by dir (operations_of l))) c.as_slice.ensures.value in
    let within : c.durable_count-count.result ≤ length c.deref-2.result.now = subst (λ l. c.durable_count-count.result ≤ length l) (c.as_slice.ensures.value ∙ sym c.deref-2.ensures.value) c.durable_count-count.ensures.within in
    sync_dir_remains c.args.self.now _ dir disk refl
    (λ names shows. subst (λ l. Shows c.operate_all.new.names (all_done l names))
    ((λ i. operations_of (take (count i) (c.deref.ensures.value i))) ∙ durable_front dir pending)
    (c.in_ok-operate_all.ensures names shows))
    (ap operations_of (c.in_ok-left.ensures.items ∙ rest_of c.deref-2.result.now c.durable_count-count.result within) ∙ (λ i. operations_of (drop (count i) (c.deref-2.ensures.value i))) ∙ pending_back dir pending)
    refl is
