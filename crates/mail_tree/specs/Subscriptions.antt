-- The file of subscribed names: one a line, ended by a line feed.
use Rattle.std.specs.Prelude.{ℕ, Bool, List, [], ◌∷◌, ◌++◌, ◌==◌, not, bytes_eq, Option, Some, None, if◌then◌else◌}
use Rattle.std.specs.List.{list_any, filter, filter_map, slice_split}
use Rattle.mail_tree.specs.Names.{read_name}

-- the lines of a text that end in a line feed, without it
abbrev pub without_last : {A : Type 0} → List A → List A
without_last [] = []
without_last (x ∷ []) = []
without_last (x ∷ y ∷ rest) = x ∷ without_last (y ∷ rest)

abbrev pub whole_lines : List ℕ → List (List ℕ)
whole_lines text = without_last (slice_split (λ byte. byte == 10) text)

-- whether a name is one of a list
abbrev pub is_among : List (List ℕ) → List ℕ → Bool
is_among names name = list_any (bytes_eq name) names

-- each name once, where it stands first; some stood before
abbrev pub each_once : (before : List (List ℕ)) → List (List ℕ) → List (List ℕ)
each_once before [] = []
each_once before (name ∷ rest) = if is_among before name then each_once before rest else name ∷ each_once (name ∷ before) rest

-- lines that are no names are ignored
abbrev pub subscribed_in : List ℕ → List (List ℕ)
subscribed_in text = each_once [] (filter_map read_name (whole_lines text))

-- a name that is there stays in its place, and a new one comes last
abbrev pub with_name : List ℕ → List (List ℕ) → List (List ℕ)
with_name name names = if is_among names name then names else names ++ name ∷ []

-- the same line by line: the names after one more line, and after more of them
abbrev pub with_found : Option (List ℕ) → List (List ℕ) → List (List ℕ)
with_found None names = names
with_found (Some name) names = with_name name names

abbrev pub with_lines : (lines names : List (List ℕ)) → List (List ℕ)
with_lines [] names = names
with_lines (line ∷ rest) names = with_lines rest (with_found (read_name line) names)

-- the text of the file
abbrev pub subscription_text : List (List ℕ) → List ℕ
subscription_text [] = []
subscription_text (name ∷ rest) = name ++ 10 ∷ subscription_text rest

-- all but one name
abbrev pub without_name : List ℕ → List (List ℕ) → List (List ℕ)
without_name name names = filter (λ other. not (bytes_eq name other)) names
