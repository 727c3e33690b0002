use Rattle.std.proofs.Common.{◌≡◌, ◌++◌, drop, map}
use Rattle.structure_text.specs.Strings.{after_spaces, string_text}
use Rattle.structure_text.proofs.content.put_list.Given as goal

abbrev pub invariant-loop-language : goal.invariant-loop-language
invariant-loop-language l = l.out.items ++ after_spaces (map string_text (drop l.language-index l.more)) ≡ l.initial.out.items ++ after_spaces (map string_text l.more)
