use Rattle.std.proofs.Common.{◌≡◌, ◌+◌, ◌++◌, ◌<◌, ◌^◌, min}
use Rattle.mail_types.specs.Opening.{numbers_from}
use Rattle.imap_session.proofs.adding.with_new.Given as goal

abbrev pub invariant-loop : goal.invariant-loop
invariant-loop l = record {
  uid : l.uid ≡ min (l.last + l.counter) 4294967295;
  all : l.last + l.counter < 2 ^ 32 → l.all.items ≡ l.recent ++ numbers_from (l.last + 1) l.counter;
}
