-- The names of keywords in a value, with one or more spaces between (RFC 3501, section 2.3.2).
use Rattle.std.specs.Prelude.{ℕ, Bool, not, List, [], ◌∷◌, ◌++◌, nat_lt, ◌&&◌, if◌then◌else◌, length}
use Rattle.std.specs.List.{list_any, slice_split, filter}
use Rattle.mail_fields.specs.Keyword.{is_keyword, same_keyword}
use Rattle.mail_fields.specs.Names.{is_space}

-- what stands in a value between spaces
unfoldable pub words_of : List ℕ → List (List ℕ)
words_of value = filter (λ word. nat_lt 0 (length word)) (slice_split is_space value)

-- the names of a value: its words that are names, in their order
abbrev pub names_of : List ℕ → List (List ℕ)
names_of value = filter is_keyword (words_of value)

-- a word that names may get: there are fewer than 30, and it is a name which none of them is, whatever the case of its letters
abbrev pub is_new : List (List ℕ) → List ℕ → Bool
is_new names word = nat_lt (length names) 30 && (is_keyword word && not (list_any (λ each. same_keyword each word) names))

-- names, and behind them the words that they may get, one after the other
abbrev pub with_names : List (List ℕ) → List (List ℕ) → List (List ℕ)
with_names names [] = names
with_names names (word ∷ words) = with_names (if is_new names word then names ++ word ∷ [] else names) words
