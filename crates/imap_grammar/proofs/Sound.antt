-- Each unit of a stream is sound.
use Rattle.std.proofs.Common.{ℕ, ◌≡◌, ◌≤◌, Bool, true, false, ◌&&◌, ◌||◌, ◌==◌, inl, inr, List, [], ◌∷◌, Option, Some, None, Ok, Err, if◌then◌else◌, nat_le, length, take, drop, map, arith, refl, sym, subst}
use Rattle.std.specs.List.{prefix_len, list_any, AllByRecursion}
use Rattle.std.proofs.lemmas.List.Folds.{length-prefix_len}
use Rattle.std.proofs.lemmas.Bool.Decides.{nat_tests}
use Rattle.imap_arguments.specs.Tags.{tag_of, is_tag_byte}
use Rattle.imap_arguments.specs.Tokens.{begins}
use Rattle.imap_arguments.specs.Readings.{Read}
use Rattle.imap_arguments.specs.Reasons.{reason_number}
use Rattle.imap_arguments.specs.declared.reason.Reason.{Reason}
use Rattle.imap_arguments.specs.declared.reason.Reason.TheVariants.{NoTag, TooLong, NoCommand, UnknownCommand, Missing, NotUnderstood, TextBehind, Nul, OutOfRange}
use Rattle.imap_arguments.proofs.Atoms.{all_in_front}
use Rattle.imap_syntax.specs.Commands.{Meaning, good, bad, meaning_of, meaning_by, tagged, behind_tag, has_nul}
use Rattle.imap_syntax.specs.Laws.{OnCommand}
use Rattle.imap_syntax.specs.declared.command.Command.{Command}
use Rattle.imap_syntax.proofs.CommandLaws.{CommandGood, meaning_good}
use Rattle.raw_commands.specs.declared.command.RawUnit.{RawUnit}
use Rattle.raw_commands.specs.declared.command.RawUnit.TheVariants as raw
use Rattle.raw_commands.specs.Streams.{raw_units_of}
use Rattle.imap_grammar.specs.Units.{first_tag, tag_or_star, unit_by, unit_of, units_of}
use Rattle.imap_grammar.specs.Sound.{IsTag, IsTagOrStar, IsSound}

-- tags
some_low : (low high end : Bool) (front tag : List ℕ) → (if low && high && end then Some front else None) ≡ Some tag → (low ≡ true) × (high ≡ true) × (front ≡ tag)
some_low true true true front tag is = (refl, refl, cc)
some_low true true false front tag is = absurd (cc)
some_low true false end front tag is = absurd (cc)
some_low false high end front tag is = absurd (cc)

is_low : (n m : ℕ) → nat_le n m ≡ true → n ≤ m
is_low n m is = grind (arith, nat_tests)

pub is_tag : (text tag : List ℕ) → tag_of text ≡ Some tag → IsTag tag
unfolding tag_of
is_tag text tag is =
    let width = prefix_len is_tag_byte text in
    let are = some_low (nat_le 1 width) (nat_le width 64) ((width == length text) || begins 32 (drop width text)) (take width text) tag is in
    let long : length (take width text) ≡ width = length-prefix_len is_tag_byte text in
    subst IsTag are.2 (record {
      some = subst (λ n. 1 ≤ n) (sym long) (is_low 1 width are.0);
      short = subst (λ n. n ≤ 64) (sym long) (is_low width 64 are.1);
      bytes = all_in_front is_tag_byte text;
    })

tag_or : (text : List ℕ) (tag : Option (List ℕ)) → tag_of text ≡ tag → IsTagOrStar (tag_or_star tag)
tag_or text None is = inr refl
tag_or text (Some tag) is = inl (is_tag text tag is)

has_first_tag : (text : List ℕ) → IsTagOrStar (first_tag text)
has_first_tag text = tag_or text (tag_of text) refl

-- reasons
in_range : (reason : Reason) → (1 ≤ reason_number reason) × (reason_number reason ≤ 9)
in_range NoTag = (omega arith, omega arith)
in_range TooLong = (omega arith, omega arith)
in_range NoCommand = (omega arith, omega arith)
in_range UnknownCommand = (omega arith, omega arith)
in_range Missing = (omega arith, omega arith)
in_range NotUnderstood = (omega arith, omega arith)
in_range TextBehind = (omega arith, omega arith)
in_range Nul = (omega arith, omega arith)
in_range OutOfRange = (omega arith, omega arith)

-- the tags of whole commands
abbrev HasTag : Meaning → Type 0
HasTag (good tag command) = IsTag tag
HasTag (bad tag reason) = IsTagOrStar tag

read_tagged : (tag : List ℕ) (read : Read Command) → IsTag tag → HasTag (meaning_by tag read)
read_tagged tag (Ok command) is = is
read_tagged tag (Err reason) is = inl is

abbrev tagged_if : Bool → List ℕ → Read Command → Meaning
tagged_if x tag read = if x then bad tag Nul else meaning_by tag read

clean_tagged : (x : Bool) (tag : List ℕ) (read : Read Command) → IsTag tag → HasTag (tagged_if x tag read)
clean_tagged true tag read is = inl is
clean_tagged false tag read is = read_tagged tag read is

found_tagged : (found : Option (List ℕ)) (text : List ℕ) (literals : List (List ℕ)) → tag_of text ≡ found → HasTag (tagged found text literals)
found_tagged None text literals is = inr refl
found_tagged (Some tag) text literals is =
    clean_tagged (has_nul text || list_any has_nul literals) tag (behind_tag (drop (length tag) text) literals) (is_tag text tag is)

has_tag : (text : List ℕ) (literals : List (List ℕ)) → HasTag (meaning_of text literals)
unfolding meaning_of
has_tag text literals = found_tagged (tag_of text) text literals refl

-- units
meant_sound : (meaning : Meaning) → HasTag meaning → OnCommand meaning CommandGood → IsSound (unit_by meaning)
meant_sound (good tag command) has keeps = (has, record { shallow = keeps.0; numbers = keeps.1; texts = keeps.2 })
meant_sound (bad tag reason) has keeps = (has, (in_range reason).0, (in_range reason).1)

pub raw_sound : (unit : RawUnit) → IsSound (unit_of unit)
raw_sound raw.Announce = tt
raw_sound (raw.Whole command) = meant_sound (meaning_of command.text command.literals) (has_tag command.text command.literals) (meaning_good command.text command.literals)
raw_sound (raw.TooLong text) = (has_first_tag text, omega arith, omega arith)
raw_sound (raw.TooLarge text) = has_first_tag text

each_sound : (units : List RawUnit) → AllByRecursion IsSound (map unit_of units)
each_sound [] = tt
each_sound (unit ∷ units) = (raw_sound unit, each_sound units)

pub all_sound : (stream : List ℕ) → AllByRecursion IsSound (units_of stream)
all_sound stream = each_sound (raw_units_of stream)
