use Rattle.std.proofs.Common.{◌≡◌, ◌-◌, ◌<◌, ◌^◌, length, drop}
use Rattle.imap_session.specs.Names.{numbers_of}
use Rattle.imap_session.proofs.keywords.numbers_of.Given as goal

abbrev pub invariant-loop-k : goal.invariant-loop-k
invariant-loop-k l = record {
  are : l.bits ≡ numbers_of l.given (drop (length l.names - l.k) l.names);
  small : l.bits < 2 ^ l.k;
}
