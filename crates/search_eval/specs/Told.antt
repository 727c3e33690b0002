-- What is told of a search key without a message's text: that it holds, that it doesn't, or nothing.
use Rattle.std.specs.Prelude.{Bool, true, false, not, List, [], ◌∷◌, Option, Some, None}
use Rattle.imap_syntax.specs.declared.key.Key.{Key, fold-Key}
use Rattle.imap_syntax.specs.declared.key.Key.TheFolds.{map-Key}
use Rattle.imap_syntax.specs.declared.key.Key.TheOpen.{Key-F, Bcc, Cc, From, Subject, To, Header, Body, Text, SentBefore, SentOn, SentSince, Not, Or, AllOf}
use Rattle.looked_message.specs.Messages.{LookedAt}
use Rattle.search_eval.specs.Keys.{key_row}
use Rattle.search_eval.specs.declared.largest.Largest.{Largest}

-- that the opposite holds is told where the other is
abbrev pub opposite_told : Option Bool → Option Bool
opposite_told None = None
opposite_told (Some holds) = Some (not holds)

-- that one of two holds is told by one that does
abbrev pub either_told : Option Bool → Option Bool → Option Bool
either_told (Some true) other = Some true
either_told (Some false) other = other
either_told None (Some true) = Some true
either_told None (Some false) = None
either_told None None = None

-- that not both of two hold is told by one that doesn't
abbrev pub both_told : Option Bool → Option Bool → Option Bool
both_told (Some false) other = Some false
both_told (Some true) other = other
both_told None (Some false) = Some false
both_told None (Some true) = None
both_told None None = None

-- the same of several
abbrev pub all_told : List (Option Bool) → Option Bool
all_told [] = Some true
all_told (told ∷ more) = both_told told (all_told more)

-- each key, by what is told of the keys in it; a key that asks of the text is told nothing of
abbrev pub told_row : Largest → LookedAt → Key-F (Option Bool) → Option Bool
told_row largest m (Bcc string) = None
told_row largest m (Cc string) = None
told_row largest m (From string) = None
told_row largest m (Subject string) = None
told_row largest m (To string) = None
told_row largest m (Header name string) = None
told_row largest m (SentBefore day) = None
told_row largest m (SentOn day) = None
told_row largest m (SentSince day) = None
told_row largest m (Body string) = None
told_row largest m (Text string) = None
told_row largest m (Not told) = opposite_told told
told_row largest m (Or one other) = either_told one other
told_row largest m (AllOf all) = all_told all
told_row largest m key = Some (key_row largest m (map-Key (Option Bool) Bool (λ told. false) key))

-- what is told of a key
abbrev pub key_told : Largest → LookedAt → Key → Option Bool
key_told largest m = fold-Key (Option Bool) (told_row largest m)
