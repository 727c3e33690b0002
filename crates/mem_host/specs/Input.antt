-- What an input stands for: what is still to come of it.
use Rattle.std.specs.Prelude.{◌≤◌, length, drop}
use Rattle.mem_host.specs.Coming.{Coming}
use Rattle.mem_host.specs.declared.input.Input.TheInside.{Inside}

-- what was not heard, and the cuts that no turn took
abbrev pub coming_of : Inside → Coming
coming_of a = record { bytes = drop a.heard a.bytes.items; cuts = drop a.next_cut a.cuts.items }

-- no more was heard than there is
pub record IsWithin (a : Inside) : Type 0 where
  pub bytes : a.heard ≤ length a.bytes.items
  pub cuts : a.next_cut ≤ length a.cuts.items
