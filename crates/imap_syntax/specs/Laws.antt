-- What the laws of commands speak of: how deep a command's keys are nested, and the numbers and byte strings that it has in it.
use Rattle.std.specs.Prelude.{ℕ, suc, max, List, [], ◌∷◌, ◌++◌, Option, Some, None, flat_map}
use Rattle.imap_arguments.specs.Laws.{set_numbers, item_numbers, item_texts}
use Rattle.imap_syntax.specs.Commands.{Meaning, good, bad}
use Rattle.imap_syntax.specs.declared.key.Key.{Key, fold-Key}
use Rattle.imap_syntax.specs.declared.key.Key.TheOpen.{Key-F, Keyword, Unkeyword, Bcc, Cc, From, Subject, To, Header, Body, Text, Uid, Numbers, Not, Or, AllOf}
use Rattle.imap_syntax.specs.declared.command.Command.{Command}
use Rattle.imap_syntax.specs.declared.command.Command.TheVariants as commands

-- what is in a key: its levels, itself counted, the numbers of its sets, and its byte strings
pub record KeyParts : Type 0 where
  pub depth : ℕ
  pub numbers : List ℕ
  pub texts : List (List ℕ)

abbrev pub leaf_parts : List ℕ → List (List ℕ) → KeyParts
leaf_parts numbers texts = record { depth = 1; numbers = numbers; texts = texts }

abbrev pub deepest : List KeyParts → ℕ
deepest [] = 0
deepest (parts ∷ more) = max parts.depth (deepest more)

abbrev pub key_step : Key-F KeyParts → KeyParts
key_step (Keyword name) = leaf_parts [] (name ∷ [])
key_step (Unkeyword name) = leaf_parts [] (name ∷ [])
key_step (Bcc text) = leaf_parts [] (text ∷ [])
key_step (Cc text) = leaf_parts [] (text ∷ [])
key_step (From text) = leaf_parts [] (text ∷ [])
key_step (Subject text) = leaf_parts [] (text ∷ [])
key_step (To text) = leaf_parts [] (text ∷ [])
key_step (Header name text) = leaf_parts [] (name ∷ text ∷ [])
key_step (Body text) = leaf_parts [] (text ∷ [])
key_step (Text text) = leaf_parts [] (text ∷ [])
key_step (Uid set) = leaf_parts (set_numbers set) []
key_step (Numbers set) = leaf_parts (set_numbers set) []
key_step (Not parts) = record { depth = suc parts.depth; numbers = parts.numbers; texts = parts.texts }
key_step (Or one other) = record { depth = suc (max one.depth other.depth); numbers = one.numbers ++ other.numbers; texts = one.texts ++ other.texts }
key_step (AllOf all) = record { depth = suc (deepest all); numbers = flat_map (λ parts. parts.numbers) all; texts = flat_map (λ parts. parts.texts) all }
key_step _ = leaf_parts [] []

abbrev pub key_parts : Key → KeyParts
key_parts = fold-Key KeyParts key_step

-- how deep the keys of a command are nested
abbrev pub depth_of : Command → ℕ
depth_of (commands.Search uid charset key) = (key_parts key).depth
depth_of _ = 0

-- the numbers of a command that may not be 0: all but sizes and offsets
abbrev pub numbers_in : Command → List ℕ
numbers_in (commands.Search uid charset key) = (key_parts key).numbers
numbers_in (commands.Fetch uid set items) = set_numbers set ++ flat_map item_numbers items
numbers_in (commands.Store uid set mode silent flags) = set_numbers set
numbers_in (commands.Copy uid set name) = set_numbers set
numbers_in _ = []

abbrev pub charset_texts : Option (List ℕ) → List (List ℕ)
charset_texts None = []
charset_texts (Some name) = name ∷ []

-- the byte strings of a command: names, patterns, texts, keywords and the words of fields
abbrev pub texts_in : Command → List (List ℕ)
texts_in (commands.Password word) = word ∷ []
texts_in (commands.Select name) = name ∷ []
texts_in (commands.Examine name) = name ∷ []
texts_in (commands.Create name) = name ∷ []
texts_in (commands.Delete name) = name ∷ []
texts_in (commands.Subscribe name) = name ∷ []
texts_in (commands.Unsubscribe name) = name ∷ []
texts_in (commands.Rename one other) = one ∷ other ∷ []
texts_in (commands.List reference pattern) = reference ∷ pattern ∷ []
texts_in (commands.Lsub reference pattern) = reference ∷ pattern ∷ []
texts_in (commands.Status name items) = name ∷ []
texts_in (commands.Append name flags date text) = name ∷ text ∷ flags.words
texts_in (commands.Search uid charset key) = charset_texts charset ++ (key_parts key).texts
texts_in (commands.Fetch uid set items) = flat_map item_texts items
texts_in (commands.Store uid set mode silent flags) = flags.words
texts_in (commands.Copy uid set name) = name ∷ []
texts_in _ = []

-- what holds of the command, where a meaning has one
abbrev pub OnCommand : Meaning → (Command → Type 0) → Type 0
OnCommand (good tag command) P = P command
OnCommand (bad tag reason) P = Unit {0}
