-- What a feed stands for.
use Rattle.std.specs.Prelude.{ℕ, ◌+◌, ◌-◌, ◌≤◌, ◌<◌, List, ◌++◌, ◌≡◌, true, false, length, take, map, flat_map}
use Rattle.raw_commands.specs.Limits.{Part, lines_size, literals_size}
use Rattle.raw_commands.specs.Steps.{ends_in_cr, run}
use Rattle.raw_commands.specs.Streams.{with_crlf, Left, in_line, in_literal, reading, raw_units_of}
use Rattle.raw_commands.specs.declared.command.RawUnit.{RawUnit}
use Rattle.raw_commands.specs.declared.feed.Feed.{Feed}

-- the earlier lines of a command, each with its CRLF
abbrev pub lines_of : List Part → List ℕ
lines_of parts = flat_map (λ part. with_crlf part.0) parts

-- a feed in the line of a command: of the line it keeps what a command can have, the CR of its end and a byte more
pub record InLine (feed : Feed) (parts : List Part) (line : List ℕ) : Type 0 where
  pub text : feed.text.items ≡ lines_of parts ++ take (65538 - lines_size parts) line
  pub start : feed.start ≡ length (lines_of parts)
  pub literals : feed.literals.items ≡ map (λ part. part.1) parts
  pub lines : feed.lines_size ≡ lines_size parts
  pub held : feed.literals_size ≡ literals_size parts
  pub fits : lines_size parts ≤ 65536
  pub holds : literals_size parts ≤ 16777216
  pub awaited : feed.awaited ≡ 0
  pub after_cr : feed.after_cr ≡ ends_in_cr line
  pub goes_on : feed.spent ≡ false

-- a feed at the end of a line that fits, without its CR
pub record AtEnd (feed : Feed) (parts : List Part) (line : List ℕ) : Type 0 where
  pub text : feed.text.items ≡ lines_of parts ++ line
  pub start : feed.start ≡ length (lines_of parts)
  pub literals : feed.literals.items ≡ map (λ part. part.1) parts
  pub lines : feed.lines_size ≡ lines_size parts
  pub held : feed.literals_size ≡ literals_size parts
  pub fits : lines_size parts + length line ≤ 65536
  pub holds : literals_size parts ≤ 16777216
  pub awaited : feed.awaited ≡ 0
  pub after_cr : feed.after_cr ≡ false
  pub goes_on : feed.spent ≡ false

-- a feed in a literal of this size, which is already counted
pub record InLiteral (feed : Feed) (parts : List Part) (line : List ℕ) (size : ℕ) (bytes : List ℕ) : Type 0 where
  pub text : feed.text.items ≡ lines_of parts ++ with_crlf line
  pub start : feed.start ≡ length (lines_of parts ++ with_crlf line)
  pub literals : feed.literals.items ≡ map (λ part. part.1) parts
  pub literal : feed.literal.items ≡ bytes
  pub lines : feed.lines_size ≡ lines_size parts + length line
  pub held : feed.literals_size ≡ literals_size parts + size
  pub fits : lines_size parts + length line ≤ 65536
  pub holds : literals_size parts + size ≤ 16777216
  pub awaited : feed.awaited + length bytes ≡ size
  pub after_cr : feed.after_cr ≡ false
  pub goes_on : feed.spent ≡ false

-- a feed where a stream leaves off
abbrev pub Holds : Feed → Left → Type 0
Holds feed (in_line parts line) = InLine feed parts line
Holds feed (in_literal parts line size bytes) = InLiteral feed parts line size bytes × (0 < feed.awaited)

-- a feed goes on by these bytes and adds their units, from wherever it is
abbrev pub Goes : Feed → Feed → List ℕ → List RawUnit → List RawUnit → Type 0
Goes old new bytes before after = (left : Left) → Holds old left → Holds new (run left bytes).left × (after ≡ before ++ (run left bytes).units)

-- only the first of their units were added
pub record AddsSome (left : Left) (bytes : List ℕ) (before after : List RawUnit) : Type 0 where
  pub more : List RawUnit
  pub added : after ≡ before ++ more
  pub missing : List RawUnit
  pub are_units : (run left bytes).units ≡ more ++ missing

abbrev pub GoesFirst : Feed → List ℕ → List RawUnit → List RawUnit → Type 0
GoesFirst old bytes before after = (left : Left) → Holds old left → AddsSome left bytes before after

-- a call of the feed answered an error, so that bytes may be lost
abbrev pub IsSpent : Feed → Type 0
IsSpent feed = feed.spent ≡ true

-- the feed has taken this stream, no other bytes and no error
abbrev pub HasTaken : Feed → List ℕ → Type 0
HasTaken feed stream = Holds feed (reading stream).left

-- a piece behind a stream adds these units, those that weren't there before it
pub record Adds (stream piece : List ℕ) (old new : List RawUnit) : Type 0 where
  pub more : List RawUnit
  pub added : new ≡ old ++ more
  pub are_units : raw_units_of (stream ++ piece) ≡ raw_units_of stream ++ more

-- of the units that the piece adds only the first were added, and the others are missing
pub record AddsFirst (stream piece : List ℕ) (old new : List RawUnit) : Type 0 where
  pub more : List RawUnit
  pub added : new ≡ old ++ more
  pub missing : List RawUnit
  pub are_units : raw_units_of (stream ++ piece) ≡ raw_units_of stream ++ more ++ missing

-- the units of a stream come first in those of a longer one
pub record UnitsFirst (stream piece : List ℕ) : Type 0 where
  pub more : List RawUnit
  pub are_units : raw_units_of (stream ++ piece) ≡ raw_units_of stream ++ more
