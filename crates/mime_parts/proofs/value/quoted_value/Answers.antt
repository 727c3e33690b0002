use Rattle.std.proofs.Common.{◌∙◌, ◌++◌, sym, ap, take}
use Rattle.addr_list.specs.Addresses.{unquoted}
use Rattle.mime_parts.proofs.Readings.{quoted-none, quoted-found}
use Rattle.mime_parts.proofs.value.quoted_value.Goals as goal

pub returns-in_default-clause-none : goal.returns-in_default-clause-none
returns-in_default-clause-none c = quoted-none c.args.inner.now (sym c.quotes_length.ensures.value ∙ c.in_default.is)

pub returns-clause-some : goal.returns-clause-some
returns-clause-some c =
    let inner = c.args.inner.now in
    let width = c.in-Some.width in
    quoted-found inner c.from_vec.result width (sym c.quotes_length.ensures.value ∙ c.in-Some.is)
    (c.from_vec.ensures ∙ c.in_ok-push_unquoted.ensures ∙ ap (λ t. t ++ unquoted (take width inner)) c.new-value.ensures.items)
