-- The keyword names of the metadata, with one space between.
use Rattle.std.specs.Prelude.{ℕ, Bool, List, [], ◌∷◌, ◌++◌, Option, Some, None, nat_le, ◌==◌, ◌&&◌, if◌then◌else◌, length}
use Rattle.std.specs.List.{list_all, slice_split, flat_map}
use Rattle.mail_fields.specs.Keyword.{is_keyword}
use Rattle.mail_fields.specs.Names.{is_space, are_distinct}

-- names that a mailbox may have: at most 30 keywords, none repeated
abbrev pub may_be_names : List (List ℕ) → Bool
may_be_names names = list_all is_keyword names && (nat_le (length names) 30 && are_distinct names)

-- what stands between the spaces of a text; no name stands in nothing
abbrev pub split_names : List ℕ → List (List ℕ)
split_names text = if length text == 0 then [] else slice_split is_space text

-- the names that a text is
unfoldable pub names_of : List ℕ → Option (List (List ℕ))
names_of text = if may_be_names (split_names text) then Some (split_names text) else None

-- the text of names
abbrev pub names_text : List (List ℕ) → List ℕ
names_text [] = []
names_text (name ∷ names) = name ++ flat_map (λ each. 32 ∷ each) names
