-- The address list of a body, by its tokens.
use Rattle.std.proofs.Common.{List, ℕ, subst}
use Rattle.addr_list.specs.Tokens.{Token, AreOnlyTokens}
use Rattle.addr_list.specs.Addresses.{IsAddressList, IsOnlyList, HasNoList, IsOnlyReading, HasNoReading}
use Rattle.addr_list.specs.declared.address.Address.{Address}

pub body-only : (body : List ℕ) (tokens : List Token) (addresses : List Address) → AreOnlyTokens body tokens → IsOnlyList tokens addresses → IsOnlyReading body addresses
body-only body tokens addresses only list other reads =
    list other (subst (λ t. IsAddressList t other) (only reads.tokens reads.spelled) reads.list)

pub body-none : (body : List ℕ) (tokens : List Token) → AreOnlyTokens body tokens → HasNoList tokens → HasNoReading body
body-none body tokens only none addresses reads =
    none addresses (subst (λ t. IsAddressList t addresses) (only reads.tokens reads.spelled) reads.list)
