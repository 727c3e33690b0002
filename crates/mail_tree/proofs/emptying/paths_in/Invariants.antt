use Rattle.std.proofs.Common.{◌≡◌, ◌++◌, drop, map}
use Rattle.std.specs.Prelude.{string_bytes}
use Rattle.file_model.specs.Paths.{child}
use Rattle.mail_tree.proofs.emptying.paths_in.Given as goal

abbrev pub invariant-loop-name : goal.invariant-loop-name
invariant-loop-name l = map string_bytes l.paths.items ++ map (child l.dir) (map string_bytes (drop l.name-index l.names)) ≡ map (child l.dir) (map string_bytes l.names)
