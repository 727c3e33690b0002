-- How a reader holds the division of a body.
use Rattle.std.specs.Prelude.{ℕ, List, map, All}
use Rattle.mime_parts.specs.Marks.{section_in, IsSection}
use Rattle.mime_parts.specs.Parts as parts
use Rattle.mime_parts.specs.declared.division.Division.{Division}
use Rattle.mime_parts.specs.declared.division.Division.TheVariants.{Several, One, NoParts, Undivided}

-- the division that is meant, in a text
abbrev pub division_in : List ℕ → Division → parts.Division
division_in text (Several sections) = parts.several (map (section_in text) sections.items)
division_in text One = parts.one
division_in text NoParts = parts.no_parts
division_in text Undivided = parts.undivided

-- the parts of a division stand in a text
abbrev pub AreSections : List ℕ → Division → Type 0
AreSections text (Several sections) = All (IsSection text) sections.items
AreSections text One = Unit {0}
AreSections text NoParts = Unit {0}
AreSections text Undivided = Unit {0}
