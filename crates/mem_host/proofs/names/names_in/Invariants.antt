use Rattle.std.proofs.Common.{◌≡◌, map, string_bytes}
use Rattle.std.specs.List.{filter_map}
use Rattle.file_model.specs.Images.{name_within}
use Rattle.mem_host.proofs.names.names_in.Given as goal

abbrev pub invariant-loop-path : goal.invariant-loop-path
invariant-loop-path l = map string_bytes l.found.items ≡ filter_map (name_within l.dir) (map (λ y. string_bytes y.0.now) l.yielded)
