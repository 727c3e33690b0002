use Rattle.std.proofs.Common.{◌+◌, ◌-◌, ◌≤◌, length, map}
use Rattle.addr_list.specs.Readers.{progress}
use Rattle.addr_list.specs.Scanning.{token_of}
use Rattle.addr_list.proofs.Steps.{IsReading}
use Rattle.addr_list.proofs.list.read_list.Given as goal

abbrev pub invariant-loop-reader : goal.invariant-loop-reader
invariant-loop-reader l = record {
  within : l.reader.at ≤ length l.tokens;
  shallow : l.reader.depth ≤ l.reader.at;
  reading : IsReading (map token_of l.tokens) l.reader;
}

abbrev pub decreases-loop-reader : goal.decreases-loop-reader
decreases-loop-reader l = length l.tokens + length l.tokens + 2 - progress l.reader
