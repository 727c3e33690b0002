-- Keys that are begun, one in another, and what their reading still gives; `Keys` says what a key is.
use Rattle.std.specs.Prelude.{◌≡◌, ℕ, suc, ◌+◌, ◌*◌, ◌-◌, Bool, true, false, List, [], ◌∷◌, ◌++◌, Result, Ok, Err, length, drop}
use Rattle.imap_arguments.specs.Readings.{Read, ◌>>=◌, Fails}
use Rattle.imap_arguments.specs.declared.reason.Refused.{Refused}
use Rattle.imap_syntax.specs.Keys as keys_of
use Rattle.imap_syntax.specs.declared.search.Opening as search
use Rattle.imap_syntax.specs.declared.search.Opening.TheVariants as openings
use Rattle.imap_arguments.specs.Tokens.{begins, byte_at, separated}
use Rattle.imap_syntax.specs.Keys.{ReadKey, ReadKeys, Opening, found, add_key, closed, key_at, key_of}
use Rattle.imap_syntax.specs.declared.key.Key as keys
use Rattle.imap_syntax.specs.declared.key.Key.{Key}
use Rattle.imap_syntax.specs.declared.search.Frame.{Frame}
use Rattle.imap_syntax.specs.declared.search.Frame.TheVariants.{Negated, FirstOf, SecondOf, Among}
use Rattle.imap_syntax.specs.declared.search.Step.{Step}
use Rattle.imap_syntax.specs.declared.search.Step.TheVariants.{Deeper, Found}

-- a key more in parentheses, where so many may follow
abbrev pub among : (List ℕ → List (List ℕ) → Read ReadKey) → ℕ → ReadKeys → List ℕ → Bool → Read ReadKey
among inner room before rest true = separated 32 (add_key inner) room before (drop 1 rest) >>= closed
among inner room before rest false = closed (before, rest)

-- what a begun key is by the key that was read in it, where others in it are read by `inner`
abbrev pub given : (List ℕ → List (List ℕ) → Read ReadKey) → Frame → ReadKey → Read ReadKey
given inner Negated key = found (keys.Not key.key) key.rest key.literals
given inner FirstOf key = byte_at 32 key.rest >>= λ behind. inner behind key.literals >>= λ other. found (keys.Or key.key other.key) other.rest other.literals
given inner (SecondOf one) key = found (keys.Or one key.key) key.rest key.literals
given inner (Among before room) key = among inner room (record { keys = before.items ++ key.key ∷ []; literals = key.literals }) key.rest (begins 32 key.rest)

-- what all begun keys are, the outermost first, by the key that was read in the innermost
abbrev pub unwound : ℕ → List Frame → ReadKey → Read ReadKey
unwound depth [] key = Ok key
unwound depth (frame ∷ frames) key = unwound (suc depth) frames key >>= given (key_at (100 - suc depth)) frame

-- where a key is read in them next, or was read
abbrev pub followed : List Frame → List (List ℕ) → Step → Read ReadKey
followed frames literals (Deeper bytes) = key_at (100 - length frames) bytes.now literals >>= unwound 0 frames
followed frames literals (Found key rest) = unwound 0 frames (record { key = key; rest = rest.now; literals = literals })

-- how much is ahead at most, where at most 100 keys are begun: each step takes a byte or more, or ends the innermost begun key
abbrev pub ahead : List Frame → Step → ℕ
ahead frames (Deeper bytes) = 102 * length bytes.now + 101
ahead frames (Found key rest) = 102 * length rest.now + length frames

-- where a key is read next
abbrev pub deeper : List Frame → List ℕ → List (List ℕ) → Read ReadKey
deeper frames bytes literals = key_at (100 - length frames) bytes literals >>= unwound 0 frames

-- where a key is read that begins so
abbrev pub opened : List Frame → List (List ℕ) → Opening → Read ReadKey
opened frames literals opening = key_of (key_at (99 - length frames)) literals opening >>= unwound 0 frames

-- behind the first key of OR
abbrev pub first_read : List Frame → List (List ℕ) → Key → List ℕ → Read ReadKey
first_read frames literals key rest = given (key_at (99 - length frames)) FirstOf (record { key = key; rest = rest; literals = literals }) >>= unwound 0 frames

-- behind a key in parentheses, where so many may follow
abbrev pub gone_on : List Frame → List (List ℕ) → List Key → ℕ → List ℕ → Read ReadKey
gone_on frames literals before room rest =
    among (key_at (99 - length frames)) room (record { keys = before; literals = literals }) rest (begins 32 rest) >>= unwound 0 frames

-- a function leads to what the whole is, unless memory ran out
abbrev pub Leads : Result Step Refused → List Frame → List (List ℕ) → Read ReadKey → Type 0
Leads (Ok step) frames literals whole = followed frames literals step ≡ whole
Leads (Err refused) frames literals whole = Fails refused whole

-- what a key begins with, as the code has it
abbrev pub opening_in : search.Opening → keys_of.Opening
opening_in (openings.Parenthesis bytes) = keys_of.parenthesis bytes.now
opening_in (openings.Numbers bytes) = keys_of.numbers bytes.now
opening_in (openings.Negation rest) = keys_of.negation rest.now
opening_in (openings.Either rest) = keys_of.either rest.now
opening_in (openings.Leaf word rest) = keys_of.leaf word.now rest.now
