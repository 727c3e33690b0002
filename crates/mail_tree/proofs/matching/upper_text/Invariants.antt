use Rattle.std.proofs.Common.{◌≡◌, ◌++◌, drop, map}
use Rattle.mail_tree.specs.Listing.{upper}
use Rattle.mail_tree.proofs.matching.upper_text.Given as goal

abbrev pub invariant-loop-byte : goal.invariant-loop-byte
invariant-loop-byte l = l.own.items ++ map upper (drop l.byte-index l.text) ≡ map upper l.text
