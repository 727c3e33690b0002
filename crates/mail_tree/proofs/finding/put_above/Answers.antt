use Rattle.std.proofs.Common.{sym, subst, true, take, drop, ◌+◌}
use Rattle.mail_tree.specs.Names.{prefixes}
use Rattle.mail_tree.proofs.Found.{Reaches, reaches_start, above_all, front_at, above_from, above_then, above_else}
use Rattle.mail_tree.proofs.finding.put_above.Goals as goal
use Rattle.mail_tree.proofs.finding.put_above.Goals.{then-text-place-eq47+in_ok-put_if_fits, else-text-place-eq47}

pub loop-place-init : goal.loop-place-init
loop-place-init c =
    let text = c.as_slice-text.result.now in
    subst (λ l. Reaches true c.args.pattern.now l (prefixes text) c.args.found.now.entries c.args.found.now.entries) (sym (above_all text)) (reaches_start true c.args.pattern.now (prefixes text) c.args.found.now.entries)

pub put_if_fits-requires : goal.put_if_fits-requires
put_if_fits-requires c = front_at c.as_slice-text.result.now c.loop-place.place c.loop-place-test.true c.if-text-place-eq47.true c.as_slice-text.ensures.name

pub loop-place-preserved : goal.loop-place-preserved
loop-place-preserved c =
    let text = c.as_slice-text.result.now in
    elim c.if-text-place-eq47.branch [
      | then-text-place-eq47+in_ok-put_if_fits w ↦ subst (λ f. Reaches true c.args.pattern.now (above_from (take (c.loop-place.place + 1) text) (drop (c.loop-place.place + 1) text)) (prefixes text) c.args.found.now.entries f.entries) (sym w.found-is)
          (above_then c.args.pattern.now text c.loop-place.place c.loop-place-test.true (prefixes text) c.args.found.now.entries c.loop-place.found.entries c.loop-place.invariant w.put_if_fits.new.found.entries w.if-text-place-eq47.true (λ m same. w.in_ok-put_if_fits.ensures m same))
      | else-text-place-eq47 w ↦ subst (λ f. Reaches true c.args.pattern.now (above_from (take (c.loop-place.place + 1) text) (drop (c.loop-place.place + 1) text)) (prefixes text) c.args.found.now.entries f.entries) (sym w.found-is)
          (above_else c.args.pattern.now text c.loop-place.place c.loop-place-test.true (prefixes text) c.args.found.now.entries c.loop-place.found.entries c.loop-place.invariant w.if-text-place-eq47.false)
    ]
