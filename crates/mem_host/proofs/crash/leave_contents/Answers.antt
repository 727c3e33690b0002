use Rattle.std.proofs.Common.{◌≡◌, ◌+◌, length, sym, subst, arith}
use Rattle.mem_host.specs.Crashes.{pick_before, bytes_left}
use Rattle.mem_host.specs.Finding.{AreContents}
use Rattle.mem_host.proofs.Leaving.{next_content}
use Rattle.mem_host.proofs.crash.leave_contents.Goals as goal

pub loop-file-preserved : goal.loop-file-preserved
loop-file-preserved c disk are =
    let k = c.loop-file.file-index in let inv = c.loop-file.invariant disk are in
    subst (λ l. AreContents l (k + 1) (bytes_left disk.files c.args.pick) × (c.in_ok-content.rest ≡ pick_before disk.files c.args.pick (k + 1))) (sym c.in_ok-push.ensures.items)
    (next_content c.args.files.now disk k c.args.pick c.loop-file.contents.items c.in_ok-content.content c.loop-file.left c.in_ok-content.rest c.file-item.result c.file-item.is c.loop-file-test.true
    c.in_ok-content.ensures are inv.0 inv.1)

pub returns : goal.returns
returns c disk are =
    let all : c.loop-file.file-index ≡ length c.args.files.now = omega (arith, c.loop-file-test.false, c.loop-file.auto.file-index-end) in
    subst (λ n. AreContents c.loop-file.contents.items n (bytes_left disk.files c.args.pick)) all (c.loop-file.invariant disk are).0
