use Rattle.std.proofs.Common.{◌≡◌, drop, map}
use Rattle.addr_list.specs.Scanning.{token_of}
use Rattle.addr_list.specs.Addresses.{behind, more_words, phrase_of}
use Rattle.addr_list.proofs.word.phrase.Given as goal

abbrev pub invariant-loop-token : goal.invariant-loop-token
invariant-loop-token l = behind l.phrase.items (more_words (map token_of (drop l.token-index l.more))) ≡ phrase_of (map token_of l.tokens)
