use Rattle.std.proofs.Common.{◌≡◌, ◌++◌, map, take, drop}
use Rattle.text_forms.specs.Lines.{clean_byte}
use Rattle.text_forms.proofs.nul.clean_nul.Given as goal

abbrev pub invariant-loop-byte : goal.invariant-loop-byte
invariant-loop-byte l = take l.byte-index l.bytes ++ map clean_byte (drop l.byte-index l.bytes) ≡ map clean_byte l.fn.bytes
