use Rattle.std.proofs.Common.{◌≡◌, ◌++◌, drop, map}
use Rattle.structure_text.specs.Strings.{after_spaces}
use Rattle.structure_text.specs.Bodies.{param_text}
use Rattle.structure_text.proofs.content.put_params.Given as goal

abbrev pub invariant-loop-param : goal.invariant-loop-param
invariant-loop-param l = l.out.items ++ after_spaces (map param_text (drop l.param-index l.more)) ≡ l.initial.out.items ++ after_spaces (map param_text l.more)
