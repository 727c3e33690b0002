-- What a walk through the directories below a root finds.
use Rattle.std.specs.Prelude.{ℕ, Bool, true, false, List, [], ◌∷◌, ◌++◌, ◌==◌, ◌&&◌, ◌||◌, ◌≡◌, Contains, Option, Some, None, if◌then◌else◌}
use Rattle.std.specs.List.{list_any}
use Rattle.std.specs.FinMap.{FinMap, entries, get}
use Rattle.file_model.specs.Images.{Image, path_cmp, is_directory}
use Rattle.file_model.specs.Paths.{child, is_inside, is_at_or_inside, HasNoSlash}
use Rattle.mail_tree.specs.declared.sight.Sight.{Sight}
use Rattle.mail_tree.specs.declared.sight.Sight.TheVariants.{Nothing, Plain, Other}
use Rattle.mail_tree.specs.Listing.{is_end, some_then, one_then, fits_name}
use Rattle.mail_tree.specs.Names.{is_name}
use Rattle.mail_tree.specs.Sights.{stands_at, sight_at, is_plain_sight, sees_at}

-- ---- Patterns

-- some beginning of the pattern matches
abbrev pub leads : (pattern : List ℕ) → List ℕ → Bool
leads [] text = is_end text
leads (byte ∷ pattern) text =
    is_end text || (if byte == 42 then some_then (λ b. false) (leads pattern) else if byte == 37 then some_then (λ b. b == 47) (leads pattern) else one_then byte (leads pattern)) text

-- `*` or `%`
abbrev pub is_wild : ℕ → Bool
is_wild byte = (byte == 42) || (byte == 37)

abbrev pub front_with : ℕ → Option (List ℕ) → Option (List ℕ)
front_with byte None = if byte == 47 then Some [] else None
front_with byte (Some front) = Some (byte ∷ front)

-- what stands before the last slash that comes before all wildcards: a directory in which all names that match are
abbrev pub fixed_front : (pattern : List ℕ) → Option (List ℕ)
fixed_front [] = None
fixed_front (byte ∷ pattern) = if is_wild byte then None else front_with byte (fixed_front pattern)

-- ---- What is listed

-- the name that bytes are as they stand, where they are one
abbrev pub name_as : List ℕ → Option (List ℕ)
name_as text = if is_name text then Some text else None

abbrev pub is_something : Sight → Bool
is_something Nothing = false
is_something Plain = true
is_something Other = true

-- a name sees something and matches
abbrev pub is_listed : (root pattern : List ℕ) → Image → List ℕ → Bool
is_listed root pattern image name = is_name name && sees_at root image name && stands_at image (child root name) && fits_name pattern name

-- a plain directory stands at a path
abbrev pub is_plain_at : Image → List ℕ → Bool
is_plain_at image path = is_plain_sight (sight_at image path)

-- names in what stands at a name may match: it is a plain directory, and some beginning of the pattern matches it and a slash
abbrev pub may_lead : (root pattern : List ℕ) → Image → List ℕ → Bool
may_lead root pattern image name = is_name name && leads pattern (name ++ 47 ∷ []) && is_plain_at image (child root name)

-- ---- What a walk finds

-- Found are what was found before, and of the paths that a test covers those of names that see something and match.
pub record Walked (root pattern : List ℕ) (covers : List ℕ → Bool) (image : Image) (before after : List (List ℕ × Bool)) : Type 0 where
  pub each : (m : FinMap path_cmp Bool) → entries m ≡ before → (n : FinMap path_cmp Bool) × (entries n ≡ after)
      × ((name : List ℕ) → get n name ≡ (if covers (child root name) && is_listed root pattern image name then Some (is_plain_at image (child root name)) else get m name))

-- all names that see something and match
abbrev pub WalkedAll : (root pattern : List ℕ) → Image → (before after : List (List ℕ × Bool)) → Type 0
WalkedAll root pattern image before after = Walked root pattern (λ path. true) image before after

-- all at these names in a directory, and in what stands there
abbrev pub covers_names : (dir : List ℕ) → List (List ℕ) → List ℕ → Bool
covers_names dir names path = list_any (λ name. is_at_or_inside (child dir name) path) names

-- a path below a root
pub record IsBelowRoot (root path : List ℕ) : Type 0 where
  pub name : List ℕ
  pub whole : path ≡ child root name

-- what is in a directory is below the root
pub record IsWithin (root dir : List ℕ) : Type 0 where
  pub each : (rest : List ℕ) → IsBelowRoot root (child dir rest)

-- a directory stands, and what stands in it is seen
pub record IsOpen (root dir : List ℕ) (image : Image) : Type 0 where
  pub stands : is_directory image dir ≡ true
  pub sees : (part name : List ℕ) → HasNoSlash part → child dir part ≡ child root name → sees_at root image name ≡ true

-- nothing in what stands at a path is listed
pub record IsPassed (root pattern path : List ℕ) (image : Image) : Type 0 where
  pub each : (name : List ℕ) → is_inside path (child root name) ≡ true → is_listed root pattern image name ≡ false

-- these are the names of what stands in a directory
pub record AreNames (dir : List ℕ) (names : List (List ℕ)) (image : Image) : Type 0 where
  pub plain : (name : List ℕ) → Contains names name → HasNoSlash name
  pub all : (name : List ℕ) → HasNoSlash name → stands_at image (child dir name) ≡ true → Contains names name
