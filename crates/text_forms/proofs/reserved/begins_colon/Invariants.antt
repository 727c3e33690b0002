use Rattle.std.proofs.Common.{◌≡◌, drop}
use Rattle.text_forms.specs.Lines.{begins_colon}
use Rattle.text_forms.proofs.reserved.begins_colon.Given as goal

abbrev pub invariant-loop-byte : goal.invariant-loop-byte
invariant-loop-byte l = begins_colon (drop l.byte-index l.bytes) ≡ begins_colon l.bytes
