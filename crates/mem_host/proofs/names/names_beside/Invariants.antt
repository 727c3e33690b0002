use Rattle.std.proofs.Common.{◌≡◌, map, string_bytes}
use Rattle.std.specs.List.{filter}
use Rattle.mem_host.specs.Mirrored.{shown, place_entry, stays}
use Rattle.mem_host.proofs.names.names_beside.Given as goal

abbrev pub invariant-loop-path : goal.invariant-loop-path
invariant-loop-path l = shown l.left.items ≡ filter (λ e. stays l.dir e.0) (map (λ e. (string_bytes e.0.now, place_entry e.1.now)) l.yielded)
