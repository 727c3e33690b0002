use Rattle.std.proofs.Common.{◌≡◌, true, false, sym, ◌∙◌, ap, subst, cond, arith}
use Rattle.std.specs.Str.{bytes_eq}
use Rattle.file_model.specs.Images.{node_at, is_directory, file}
use Rattle.file_model.specs.Disk.{seen}
use Rattle.mem_host.specs.Fitted.{AllFit, CanPutFile}
use Rattle.mem_host.specs.Fitting.{can_put}
use Rattle.mem_host.specs.Mirrored.{Mirrors}
use Rattle.mem_host.specs.Replay.{world_after, seen_after, with_resting_file, AllPut}
use Rattle.mem_host.proofs.Fitted.{put_file_is}
use Rattle.mem_host.proofs.Mirrored.{mirrors_put_file}
use Rattle.mem_host.proofs.Putting.{node_put_file}
use Rattle.mem_host.proofs.Replayed.{sound_world}
use Rattle.mem_host.proofs.mirror.Mirror.put_file.Goals as goal

can_put_it : (c : goal.After-add) → CanPutFile c.args.path.now c.args.bytes.now c.self.inside.log
can_put_it c = record {
  puts = subst AllPut (sym c.self.view_is) c.requires.puts;
  room = subst (λ events. can_put (seen_after events) c.args.path.now ≡ true) (sym c.self.view_is) c.requires.room;
  no_directory = subst (λ events. is_directory (seen_after events) c.args.path.now ≡ false) (sym c.self.view_is) c.requires.no_directory;
  are_bytes = λ k below. omega (arith, c.type_inv.bytes k);
}

pub invariant_of-self-2 : goal.invariant_of-self-2
invariant_of-self-2 c =
    let log = c.self.inside.log in let disk = (world_after log).disk in let path = c.args.path.now in let bytes = c.args.bytes.now in
    let can = can_put_it c in
    let contents = subst (λ l. Mirrors c.put_content.new.names l (with_resting_file path bytes disk)) (sym c.in_ok-put_content.ensures.content)
    (mirrors_put_file c.self.inside.names c.put_content.new.names c.self.inside.contents.items c.in_ok-copy.copy path bytes disk c.in_ok-copy.ensures.items c.in_ok-put_content.ensures.name c.self.invariant.mirrors) in
    let mirrors = subst (Mirrors c.put_content.new.names c.put_content.new.contents.items) (sym (put_file_is path bytes disk can.room can.no_directory can.are_bytes)) contents in record {
      mirrors = subst (λ events. Mirrors c.put_content.new.names c.put_content.new.contents.items (world_after events).disk) (sym c.add.ensures) mirrors;
      fit = subst AllFit (sym c.add.ensures) (can, c.self.invariant.fit);
    }

pub returns-clause-ok : goal.returns-clause-ok
returns-clause-ok c q =
    let log = c.self.inside.log in let disk = (world_after log).disk in let path = c.args.path.now in let bytes = c.args.bytes.now in
    let can = can_put_it c in
    ap (λ events. node_at (seen_after events) q) c.add.ensures
    ∙ ap (λ d. node_at (seen d) q) (put_file_is path bytes disk can.room can.no_directory can.are_bytes)
    ∙ node_put_file path bytes disk q (sound_world log)
    ∙ ap (λ events. cond (bytes_eq q path) (file bytes) (node_at (seen_after events) q)) c.self.view_is
