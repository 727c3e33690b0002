use Rattle.std.proofs.Common.{◌≡◌, ◌-◌, [], length}
use Rattle.imap_arguments.specs.Tokens.{separated}
use Rattle.imap_syntax.specs.Keys.{add_key, key_at}
use Rattle.imap_syntax.proofs.search.inner_keys_at.Given as goal

abbrev pub invariant-loop : goal.invariant-loop
invariant-loop l =
    separated 32 (add_key (key_at 100)) (length l.bytes - l.counter) (record { keys = l.keys.items; literals = l.literals.items }) l.rest
    ≡ separated 32 (add_key (key_at 100)) (length l.bytes) (record { keys = []; literals = l.fn.literals.items }) l.bytes
