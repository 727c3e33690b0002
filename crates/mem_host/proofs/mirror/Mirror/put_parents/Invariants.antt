use Rattle.std.proofs.Common.{◌≡◌, List, ℕ, cond}
use Rattle.file_model.specs.Images.{node_at, directory}
use Rattle.mem_host.specs.Replay.{seen_after, said_after, AllPut}
use Rattle.mem_host.proofs.Putting.{is_above_before}
use Rattle.mem_host.proofs.mirror.Mirror.put_parents.Given as goal

abbrev pub invariant-loop-at : goal.invariant-loop-at
invariant-loop-at l = record {
  bytes : l.byte-items ≡ l.path;
  stands : (q : List ℕ) → node_at (seen_after l.self) q ≡ cond (is_above_before l.path l.at q) directory (node_at (seen_after l.initial.self) q);
  puts : AllPut l.self;
  said : said_after l.self ≡ said_after l.initial.self;
}
