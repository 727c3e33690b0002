use Rattle.std.proofs.Common.{◌≡◌, ◌<◌, List, ℕ, length, get_or, take, cond, sym, ◌∙◌, ap, subst, arith}
use Rattle.std.specs.List.{slice_range}
use Rattle.std.specs.Str.{bytes_eq}
use Rattle.std.proofs.lemmas.Grind.{common_steps}
use Rattle.file_model.specs.Images.{node_at, bytes_at, directory}
use Rattle.mem_host.specs.Fitting.{can_put}
use Rattle.mem_host.specs.Replay.{seen_after, said_after, AllPut}
use Rattle.mem_host.proofs.Putting.{room_next, is_above_before, next_parent, no_next_parent, all_parents, no_file_next}
use Rattle.mem_host.proofs.mirror.Mirror.put_parents.Goals as goal
use Rattle.mem_host.proofs.mirror.Mirror.put_parents.Goals.{then-byte-eq47+then-at-gt0+in_ok-put_directory, else-byte-eq47, else-byte-eq47-via-then-byte-eq47+else-at-gt0, else-byte-eq47-via-else-byte-eq47}

front_range : (path : List ℕ) (at : ℕ) → slice_range path 0 at ≡ take at path
front_range path at = grind (arith, common_steps)

pub put_directory-requires-clause-no_file : goal.put_directory-requires-clause-no_file
put_directory-requires-clause-no_file c =
    let path = c.args.path.now in let at = c.loop-at.at in
    let bytes = c.as_bytes-byte-items.ensures.value in
    let below : at < length path = subst (λ l. at < length l) bytes c.loop-at-test.true in
    let slash : get_or path at 0 ≡ 47 = subst (λ l. get_or l at 0 ≡ 47) bytes c.if-byte-eq47.true in
    ap (bytes_at (seen_after c.loop-at.self)) (c.range.ensures.value ∙ front_range path at)
    ∙ no_file_next path at (node_at (seen_after c.loop-at.self) (take at path)) (seen_after c.args.self.now) c.requires.clear below slash c.if-at-gt0.true (c.loop-at.invariant.stands (take at path))

pub put_directory-requires-clause-room : goal.put_directory-requires-clause-room
put_directory-requires-clause-room c =
    let path = c.args.path.now in let at = c.loop-at.at in
    let below : at < length path = subst (λ l. at < length l) c.as_bytes-byte-items.ensures.value c.loop-at-test.true in
    ap (can_put (seen_after c.loop-at.self)) (c.range.ensures.value ∙ front_range path at)
    ∙ room_next path at (node_at (seen_after c.loop-at.self)) (seen_after c.args.self.now) below c.loop-at.invariant.stands

pub loop-at-preserved : goal.loop-at-preserved
loop-at-preserved c =
    let path = c.args.path.now in let at = c.loop-at.at in let base = seen_after c.args.self.now in
    let bytes = c.as_bytes-byte-items.ensures.value in
    let below : at < length path = subst (λ l. at < length l) bytes c.loop-at-test.true in
    elim c.if-byte-eq47.branch [
      | then-byte-eq47+then-at-gt0+in_ok-put_directory w ↦ record {
        bytes = bytes;
        stands = λ q. ap (λ events. node_at (seen_after events) q) w.self-is
            ∙ next_parent path at (node_at (seen_after c.loop-at.self)) (node_at (seen_after w.put_directory.new.self)) base q below
            (subst (λ l. get_or l at 0 ≡ 47) bytes w.if-byte-eq47.true) w.if-at-gt0.true
            (λ p. w.in_ok-put_directory.ensures.ok p ∙ ap (λ dir. cond (bytes_eq p dir) directory (node_at (seen_after c.loop-at.self) p)) (w.range.ensures.value ∙ front_range path at))
            c.loop-at.invariant.stands;
        puts = subst AllPut (sym w.self-is) w.in_ok-put_directory.ensures.puts;
        said = ap said_after w.self-is ∙ w.in_ok-put_directory.ensures.said ∙ c.loop-at.invariant.said;
      }
      | else-byte-eq47 w ↦ record {
        bytes = bytes;
        stands = λ q. ap (λ events. node_at (seen_after events) q) w.self-is
            ∙ no_next_parent path at (node_at (seen_after c.loop-at.self) q) base q
            (elim w.else-byte-eq47.branch [
              | else-byte-eq47-via-then-byte-eq47+else-at-gt0 v ↦ λ slash some. absurd (omega (arith, v.if-at-gt0.false))
              | else-byte-eq47-via-else-byte-eq47 v ↦ λ slash some. absurd (v.if-byte-eq47.false (ap (λ l. get_or l at 0) bytes ∙ slash))
            ]) (c.loop-at.invariant.stands q);
        puts = subst AllPut (sym w.self-is) c.loop-at.invariant.puts;
        said = ap said_after w.self-is ∙ c.loop-at.invariant.said;
      }
    ]

pub returns-clause-ok : goal.returns-clause-ok
returns-clause-ok c q =
    let path = c.args.path.now in
    let bytes = c.as_bytes-byte-items.ensures.value in
    let end : c.loop-at.at ≡ length path = subst (λ l. c.loop-at.at ≡ length l) bytes (omega arith) in
    let node = node_at (seen_after c.loop-at.self) q in let base = seen_after c.args.self.now in
    all_parents path node base q (subst (λ n. node ≡ cond (is_above_before path n q) directory (node_at base q)) end (c.loop-at.invariant.stands q))
