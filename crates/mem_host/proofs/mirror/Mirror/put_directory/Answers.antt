use Rattle.std.proofs.Common.{◌≡◌, true, sym, ◌∙◌, ap, subst, cond}
use Rattle.std.specs.Str.{bytes_eq}
use Rattle.file_model.specs.Images.{node_at, directory}
use Rattle.file_model.specs.Disk.{seen}
use Rattle.mem_host.specs.Fitted.{AllFit}
use Rattle.mem_host.specs.Fitting.{can_put}
use Rattle.mem_host.specs.Mirrored.{Mirrors}
use Rattle.mem_host.specs.Replay.{world_after, seen_after, AllPut}
use Rattle.mem_host.proofs.Fitted.{put_directory_is}
use Rattle.mem_host.proofs.Mirrored.{mirrors_put_directory}
use Rattle.mem_host.proofs.Putting.{node_put_directory}
use Rattle.mem_host.proofs.mirror.Mirror.put_directory.Goals as goal

pub invariant_of-self-then-not-contains_key : goal.invariant_of-self-then-not-contains_key
invariant_of-self-then-not-contains_key c =
    let log = c.self.inside.log in let disk = (world_after log).disk in let path = c.args.path.now in
    let room = subst (λ events. can_put (seen_after events) path ≡ true) (sym c.self.view_is) c.requires.room in
    let mirrors = subst (Mirrors c.put_name.new.names c.self.inside.contents.items) (sym (put_directory_is path disk room))
    (mirrors_put_directory c.self.inside.names c.put_name.new.names c.self.inside.contents.items path disk c.in_ok-put_name.ensures.ok c.self.invariant.mirrors) in record {
      mirrors = subst (λ events. Mirrors c.put_name.new.names c.self.inside.contents.items (world_after events).disk) (sym c.add.ensures) mirrors;
      fit = subst AllFit (sym c.add.ensures) ((subst AllPut (sym c.self.view_is) c.requires.puts, room), c.self.invariant.fit);
    }

pub returns-in_ok-put_name-clause-ok : goal.returns-in_ok-put_name-clause-ok
returns-in_ok-put_name-clause-ok c q =
    let log = c.self.inside.log in let disk = (world_after log).disk in let path = c.args.path.now in
    let room = subst (λ events. can_put (seen_after events) path ≡ true) (sym c.self.view_is) c.requires.room in
    ap (λ events. node_at (seen_after events) q) c.add.ensures
    ∙ ap (λ d. node_at (seen d) q) (put_directory_is path disk room)
    ∙ node_put_directory path disk q
    ∙ ap (λ events. cond (bytes_eq q path) directory (node_at (seen_after events) q)) c.self.view_is
