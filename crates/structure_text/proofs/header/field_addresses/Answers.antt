use Rattle.std.proofs.Common.{◌∙◌, sym, subst}
use Rattle.addr_list.specs.Addresses.{ReadsAddresses, HasNoReading}
use Rattle.mime_parts.proofs.Choices.{none-left, some-left}
use Rattle.structure_text.proofs.Fields.{field-absent, field-read, field-unread}
use Rattle.structure_text.proofs.header.field_addresses.Goals as goal

pub returns-in_default : goal.returns-in_default
returns-in_default c = field-absent _ _ (sym c.in_ok-body.ensures ∙ c.in_default.is) c.new.ensures.items

pub returns-in-Some-2 : goal.returns-in-Some-2
returns-in-Some-2 c =
    let reads = some-left (λ v. ReadsAddresses c.as_slice.result.now v.items) c.in_ok-items.field-0 c.in-Some-2.items c.in_ok-items.ensures.reading c.in-Some-2.is in
    field-read _ _ c.in-Some.body (sym c.in_ok-body.ensures ∙ c.in-Some.is) (subst (λ b. ReadsAddresses b c.in-Some-2.items.items) c.as_slice.ensures reads)

pub returns : goal.returns
returns c =
    let nothing = none-left (HasNoReading c.as_slice.result.now) c.in_ok-items.field-0 c.in_ok-items.ensures.none c.in-None.is in
    field-unread _ _ c.in-Some.body (sym c.in_ok-body.ensures ∙ c.in-Some.is) (subst HasNoReading c.as_slice.ensures nothing) c.new-in-None.ensures.items
