use Rattle.std.proofs.Common.{◌∙◌}
use Rattle.mbx_store.proofs.Written.{blank_short, blank_places}
use Rattle.mbx_store.proofs.layout.MbxLayoutLayout.blank.Goals as goal

pub returns-clause-short : goal.returns-clause-short
returns-clause-short c = blank_short c.args.validity c.in_ok-bytes.bytes.items c.in_ok-bytes.ensures

pub returns-clause-places : goal.returns-clause-places
returns-clause-places c = blank_places c.args.validity c.in_ok-bytes.bytes.items c.in_ok-layout.layout c.ranges.validity.fits c.in_ok-bytes.ensures (c.in_ok-layout.ensures ∙ c.new.ensures.items)
