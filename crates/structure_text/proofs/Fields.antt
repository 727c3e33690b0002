-- What a field says of addresses.
use Rattle.std.proofs.Common.{◌≡◌, ℕ, List, [], Option, Some, None, sym, subst}
use Rattle.addr_list.specs.Addresses.{ReadsAddresses, HasNoReading}
use Rattle.addr_list.specs.declared.address.Address.{Address}
use Rattle.structure_text.specs.Envelopes.{HasAddresses, no_field, read, unread}

module _ (field : Option (List ℕ)) (addresses : List Address) where
  none-there : addresses ≡ [] → HasAddresses field [] → HasAddresses field addresses
  none-there empty is = subst (HasAddresses field) (sym empty) is

  pub field-absent : field ≡ None → addresses ≡ [] → HasAddresses field addresses
  field-absent absent empty = none-there empty (subst (λ f. HasAddresses f []) (sym absent) no_field)

  pub field-read : (body : List ℕ) → field ≡ Some body → ReadsAddresses body addresses → HasAddresses field addresses
  field-read body there reads = subst (λ f. HasAddresses f addresses) (sym there) (read body addresses reads)

  pub field-unread : (body : List ℕ) → field ≡ Some body → HasNoReading body → addresses ≡ [] → HasAddresses field addresses
  field-unread body there nothing empty = none-there empty (subst (λ f. HasAddresses f []) (sym there) (unread body nothing))
