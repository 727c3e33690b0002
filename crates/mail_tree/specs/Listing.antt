-- Which names LIST and LSUB give (RFC 3501, sections 6.3.8 and 6.3.9).
use Rattle.std.specs.Prelude.{ℕ, Bool, true, false, List, [], ◌∷◌, ◌++◌, ◌-◌, ◌==◌, ◌&&◌, ◌||◌, nat_le, not, length, drop, map, bytes_eq, codes, Option, Some, None, if◌then◌else◌}
use Rattle.std.specs.List.{filter, filter_map, flat_map}
use Rattle.std.specs.FinMap.{FinMap, empty, insert, entries}
use Rattle.file_model.specs.Images.{path_cmp}
use Rattle.mail_tree.specs.Names.{is_name, prefixes, inbox}
use Rattle.mail_tree.specs.Trees.{TreeNode, Nodes, Tree, is_plain, sees}

-- ---- Patterns

-- some bytes and then what a test passes; none of them stops
abbrev pub some_then : (stops : ℕ → Bool) → (List ℕ → Bool) → List ℕ → Bool
some_then stops test [] = test []
some_then stops test (byte ∷ rest) = test (byte ∷ rest) || (not (stops byte) && some_then stops test rest)

abbrev pub one_then : ℕ → (List ℕ → Bool) → List ℕ → Bool
one_then wanted test [] = false
one_then wanted test (byte ∷ rest) = (byte == wanted) && test rest

abbrev pub is_end : List ℕ → Bool
is_end [] = true
is_end (byte ∷ rest) = false

-- `*` matches any bytes and `%` any but slashes
abbrev pub fits : (pattern : List ℕ) → List ℕ → Bool
fits [] = is_end
fits (byte ∷ pattern) =
    if byte == 42 then some_then (λ b. false) (fits pattern) else if byte == 37 then some_then (λ b. b == 47) (fits pattern) else one_then byte (fits pattern)

-- the letter in upper case
abbrev pub upper : ℕ → ℕ
upper byte = if nat_le 97 byte && nat_le byte 122 then byte - 32 else byte

-- INBOX matches in any case
abbrev pub fits_name : (pattern : List ℕ) → List ℕ → Bool
fits_name pattern name = fits pattern name || (bytes_eq name inbox && fits (map upper pattern) inbox)

-- ---- LIST

-- a name, and whether its line has `\Noselect`
pub record ListedName : Type 0 where
  pub name : List ℕ
  pub directory : Bool

abbrev pub listed_node : Nodes → (pattern : List ℕ) → List ℕ × TreeNode → Option ListedName
listed_node nodes pattern node =
    if is_name node.0 && sees nodes node.0 && fits_name pattern node.0 then Some (record { name = node.0; directory = is_plain (Some node.1) }) else None

-- the names that see something and match, by rising bytes; none for an empty pattern
abbrev pub listed : Tree → (reference pattern : List ℕ) → List ListedName
listed tree reference pattern = if length pattern == 0 then [] else filter_map (listed_node tree.nodes (reference ++ pattern)) (entries tree.nodes)

-- ---- LSUB

abbrev pub put_all : Bool → List (List ℕ) → FinMap path_cmp Bool → FinMap path_cmp Bool
put_all directory [] found = found
put_all directory (name ∷ rest) found = put_all directory rest (insert found name directory)

abbrev pub ends_in_percent : List ℕ → Bool
ends_in_percent pattern = bytes_eq (drop (length pattern - 1) pattern) (codes "%")

-- the directories above subscribed names, where the pattern asks for them
abbrev pub names_above : (pattern : List ℕ) → List (List ℕ) → List (List ℕ)
names_above pattern names = if ends_in_percent pattern then filter (fits_name pattern) (flat_map prefixes names) else []

-- those names of a list that match a pattern, put to what was found
abbrev pub put_fitting : Bool → (pattern : List ℕ) → List (List ℕ) → FinMap path_cmp Bool → FinMap path_cmp Bool
put_fitting directory pattern names found = put_all directory (filter (fits_name pattern) names) found

-- the names found, as they are listed
abbrev pub as_listed : List (List ℕ × Bool) → List ListedName
as_listed found = map (λ (entry : List ℕ × Bool). record { name = entry.0; directory = entry.1 }) found

-- the subscribed names that match, and the directories above them, by rising bytes
abbrev pub listed_subscribed : Tree → (reference pattern : List ℕ) → List ListedName
listed_subscribed tree reference pattern =
    let whole = reference ++ pattern in
    map (λ (entry : List ℕ × Bool). record { name = entry.0; directory = entry.1 })
    (entries (put_all false (filter (fits_name whole) tree.subscribed) (put_all true (names_above whole tree.subscribed) empty)))
