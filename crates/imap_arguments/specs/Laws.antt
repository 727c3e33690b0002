-- What the laws of arguments speak of: the numbers that may not be 0, and the byte strings, that arguments have in them.
use Rattle.std.specs.Prelude.{ℕ, Bool, List, [], ◌∷◌, ◌++◌, ◌==◌, not, Option, Some, None, flat_map}
use Rattle.std.specs.List.{list_all}
use Rattle.imap_arguments.specs.declared.set.End.{End}
use Rattle.imap_arguments.specs.declared.set.End.TheVariants.{Number, Largest}
use Rattle.imap_arguments.specs.declared.set.Set.{Set}
use Rattle.imap_arguments.specs.declared.section.SectionKind.{SectionKind}
use Rattle.imap_arguments.specs.declared.section.SectionKind.TheVariants.{Fields, FieldsNot}
use Rattle.imap_arguments.specs.declared.item.Item.{Item}
use Rattle.imap_arguments.specs.declared.item.Item.TheVariants.{Part}

-- whether no number is 0; of bytes, whether none is a NUL
abbrev pub nonzero : List ℕ → Bool
nonzero numbers = list_all (λ n. not (n == 0)) numbers

abbrev pub end_numbers : End → List ℕ
end_numbers (Number n) = n ∷ []
end_numbers Largest = []

abbrev pub range_numbers : End × End → List ℕ
range_numbers range = end_numbers range.0 ++ end_numbers range.1

-- the numbers that a set is written with
abbrev pub set_numbers : Set → List ℕ
set_numbers set = flat_map range_numbers set.ranges

-- the count of a partial; its offset may be 0
abbrev pub partial_numbers : Option (ℕ × ℕ) → List ℕ
partial_numbers None = []
partial_numbers (Some partial) = partial.1 ∷ []

-- the part numbers of an item, and the count of its partial
abbrev pub item_numbers : Item → List ℕ
item_numbers (Part section partial peek) = section.parts ++ partial_numbers partial
item_numbers _ = []

-- the names of header fields in a section
abbrev pub kind_texts : SectionKind → List (List ℕ)
kind_texts (Fields names) = names
kind_texts (FieldsNot names) = names
kind_texts _ = []

abbrev pub item_texts : Item → List (List ℕ)
item_texts (Part section partial peek) = kind_texts section.kind
item_texts _ = []
