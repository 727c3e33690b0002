use Rattle.std.proofs.Common.{rules}
use Rattle.mbx_store.proofs.ScanCode.{found_near}
use Rattle.mbx_store.proofs.place.MbxLayout.start_at.Goals as goal

pub returns-then-place-len-clause-near : goal.returns-then-place-len-clause-near
returns-then-place-len-clause-near c = found_near c.self.inside.places.items c.self.inside.starts.items c.args.place _ _ c.self.invariant.starts_are c.self.invariant.near (search rules) c.index.ensures
