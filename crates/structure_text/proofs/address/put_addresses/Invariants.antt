use Rattle.std.proofs.Common.{◌≡◌, ◌++◌, drop}
use Rattle.std.specs.List.{flat_map}
use Rattle.structure_text.specs.Envelopes.{address_text}
use Rattle.structure_text.proofs.address.put_addresses.Given as goal

abbrev pub invariant-loop-address : goal.invariant-loop-address
invariant-loop-address l = l.out.items ++ flat_map address_text (drop l.address-index l.addresses) ≡ l.initial.out.items ++ flat_map address_text l.addresses
