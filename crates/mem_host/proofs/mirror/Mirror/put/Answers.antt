use Rattle.std.proofs.Common.{◌∙◌, ap, subst}
use Rattle.file_model.specs.Images.{node_at, directory_test}
use Rattle.mem_host.specs.Replay.{seen_after}
use Rattle.mem_host.specs.Finding.{HasRoomFor}
use Rattle.mem_host.proofs.Putting.{room_end, itself_stays}
use Rattle.mem_host.proofs.mirror.Mirror.put.Goals as goal

pub put_directory-requires-clause-room : goal.put_directory-requires-clause-room
put_directory-requires-clause-room c = room_end c.args.path.now (node_at (seen_after c.put_parents.new.self)) (seen_after c.args.self.now) c.in_ok-put_parents.ensures.ok

pub put_file-requires-clause-room : goal.put_file-requires-clause-room
put_file-requires-clause-room c = room_end c.args.path.now (node_at (seen_after c.put_parents.new.self)) (seen_after c.args.self.now) c.in_ok-put_parents.ensures.ok

pub put_file-requires-clause-no_directory : goal.put_file-requires-clause-no_directory
put_file-requires-clause-no_directory c =
    let path = c.args.path.now in let before = seen_after c.args.self.now in
    ap directory_test (c.in_ok-put_parents.ensures.ok path ∙ itself_stays path before)
    ∙ (subst (λ place. HasRoomFor place c.args.contents.now (node_at before path)) c.in-File.is c.requires.room).0
