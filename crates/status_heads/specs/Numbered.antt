-- The keywords of a message by their numbers among the names of its mailbox.
use Rattle.std.specs.Prelude.{ℕ, Bool, List, [], ◌∷◌, ◌+◌, ◌*◌, ◌||◌, if◌then◌else◌, map}
use Rattle.std.specs.List.{list_any}
use Rattle.mail_fields.specs.Keyword.{same_keyword}
use Rattle.status_heads.specs.Names.{with_names}
use Rattle.status_heads.specs.declared.heads.Heads.{Heads}
use Rattle.status_heads.specs.declared.numbered.NumberedHeads.{NumberedHeads}

-- the number whose bit i, from 0 on, is the i-th of some bits
abbrev pub number_of_bits : List Bool → ℕ
number_of_bits [] = 0
number_of_bits (bit ∷ bits) = (if bit then 1 else 0) + 2 * number_of_bits bits

-- for each of some names whether it is one of the words, whatever the case of its letters
abbrev pub marks_of : List (List ℕ) → List (List ℕ) → List Bool
marks_of names words = map (λ name. list_any (same_keyword name) words) names

-- the number whose bit i says whether the i-th name is one of the words
abbrev pub word_bits : List (List ℕ) → List (List ℕ) → ℕ
word_bits names words = number_of_bits (marks_of names words)

-- marks of names, set also where a name is the same as a further word
abbrev pub mark_same : List (List ℕ) → List Bool → List ℕ → List Bool
mark_same [] marks word = []
mark_same (name ∷ names) [] word = []
mark_same (name ∷ names) (mark ∷ marks) word = (mark || same_keyword name word) ∷ mark_same names marks word

-- the heads of a message of a mailbox with some names: these get the message's new ones behind them, up to 30 in all, and the message has the numbers of those that they have then
abbrev pub numbered_heads : List (List ℕ) → Heads → NumberedHeads
numbered_heads names heads =
    let known = with_names names heads.words in
    record { flags = heads.seen_old; words = word_bits known heads.words; uid = heads.uid; names = known }
