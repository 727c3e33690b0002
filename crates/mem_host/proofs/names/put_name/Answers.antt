use Rattle.std.proofs.Common.{◌≡◌, Some, subst, string_bytes}
use Rattle.std.specs.Str.{bytes_eq}
use Rattle.std.specs.Map.{update}
use Rattle.std.specs.BTreeMap.{get_by_text}
use Rattle.std.proofs.lemmas.Map.Text.{btree_map_updates_text}
use Rattle.mem_host.proofs.names.put_name.Goals as goal

pub returns-clause-ok : goal.returns-clause-ok
returns-clause-ok c q =
    subst (λ p. get_by_text c.insert.new.self q ≡ update bytes_eq (get_by_text c.args.names.now) p (Some c.args.place) q) c.in_ok-key.ensures.ok
    (btree_map_updates_text (string_bytes c.in_ok-key.key) c.args.names.now c.insert.new.self _ c.in_ok-insert.ensures.updates q)
