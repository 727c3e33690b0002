use Rattle.std.proofs.lemmas.Map.Text.{btree_map_updates_text}
use Rattle.mem_host.proofs.names.take_name.Goals as goal

pub returns : goal.returns
returns c = record { left = λ q. btree_map_updates_text c.args.path.now c.args.names.now c.remove.new.self _ c.remove.ensures.updates q }
