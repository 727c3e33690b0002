-- What is read from a text and from literals without NUL has no NUL, and its numbers aren't 0 where they may not be.
use Rattle.std.proofs.Common.{◌≡◌, ◌==◌, ◌||◌, ◌&&◌, ℕ, zero, suc, Bool, true, false, not, List, [], ◌∷◌, ◌++◌, Option, Some, None, Ok, Err, IfOk, IfSome, flat_map, nat_lt, nat_le, take, drop, length, if◌then◌else◌, codes, refl}
use Rattle.std.proofs.lemmas.Bool.{and_parts, and_from, not-false}
use Rattle.std.specs.List.{list_all, prefix_len}
use Rattle.std.specs.Char.{is_ascii_digit}
use Rattle.std.specs.Str.{str_eq_ignore_ascii_case}
use Rattle.mail_fields.specs.Keyword.{is_atom}
use Rattle.mail_types.specs.Flags.{no_flags}
use Rattle.mail_types.specs.declared.flags.Flags.{Flags}
use Rattle.imap_arguments.specs.Readings.{Read, ◌>>=◌}
use Rattle.imap_arguments.specs.Tokens.{begins, broken_off, byte_at, token_at, separated}
use Rattle.imap_arguments.specs.Numbers.{decimal_value, is_in_range, number_in, digits_at, number_at, nonzero_at}
use Rattle.imap_arguments.specs.Strings.{Taken, is_astring, is_pattern, quoted_from, quoted_at, behind_mark, take_literal, literal_at, string_of, astring_at, pattern_at}
use Rattle.imap_arguments.specs.Sets.{end_at, range_at, add_range, set_at}
use Rattle.imap_arguments.specs.Flags.{system_flag, add_system, keyword_at, system_at, flag_at, flags_at, flag_list_at, store_flags_at}
use Rattle.imap_arguments.specs.Sections.{begins_digit, PartNumbers, parts_from, Names, add_name, names_at, ReadKind, word_kind, kind_at, ReadSection, section_at, partial_at}
use Rattle.imap_arguments.specs.Items.{Items, ReadItem, plain_item, is_item_byte, part_at, some_item, word_item, item_at, add_item, item_list_at, macro_items, macro_or_item, fetch_items_at}
use Rattle.imap_arguments.specs.Laws.{nonzero, end_numbers, range_numbers, set_numbers, partial_numbers, item_numbers, kind_texts, item_texts}
use Rattle.imap_arguments.specs.declared.set.End.{End}
use Rattle.imap_arguments.specs.declared.flag.FlagList.{FlagList}
use Rattle.imap_arguments.specs.declared.item.Item.{Item}
use Rattle.imap_arguments.specs.declared.item.Item.TheVariants as items
use Rattle.imap_arguments.specs.declared.reason.Reason.TheVariants.{NotUnderstood, OutOfRange}
use Rattle.imap_arguments.proofs.Steps.{chosen, read_then, read_if, read_if_so, read_chosen, any_then, read_both, some_if}
use Rattle.imap_arguments.proofs.NonZero.{all_both, all_push, all_taken, all_behind, all_flat_push}
use Rattle.imap_arguments.proofs.Remainders.{StaysBehind, byte_leaves, token_leaves, digits_leave, separated_keeps, mark_leaves}

-- a text without NUL, and literals without NUL
abbrev pub Clean : List ℕ → Type 0
Clean bytes = nonzero bytes ≡ true

abbrev pub AllClean : List (List ℕ) → Type 0
AllClean texts = list_all nonzero texts ≡ true

pub clean_behind : StaysBehind Clean
clean_behind n bytes here = all_behind (λ b. not (b == 0)) n bytes here

-- a number that may not be 0
in_range : (n : ℕ) → not (is_in_range false n) ≡ false → not (n == 0) ≡ true
in_range n is = (and_parts (not (nat_lt 4294967295 n)) (not (n == 0)) (not-false (is_in_range false n) is)).1

number_nonzero : (digits : List ℕ) → IfOk (number_in false digits) (λ n. not (n == 0) ≡ true)
unfolding number_in
number_nonzero digits =
    let n = decimal_value 0 digits in
    read_if_so (λ n. not (n == 0) ≡ true) (not (is_in_range false n)) (Err OutOfRange) _ (λ is. tt) (λ is.
    read_if (λ n. not (n == 0) ≡ true) (nat_lt 10 (length digits)) (Err NotUnderstood) (Ok n) tt (in_range n is))

pub nonzero_read : (bytes : List ℕ) → IfOk (nonzero_at bytes) (λ x. not (x.0 == 0) ≡ true)
unfolding digits_at
nonzero_read bytes =
    let width = prefix_len is_ascii_digit bytes in
    read_if (λ x. not (x.0 == 0) ≡ true) (width == 0) (Err (broken_off bytes)) _ tt
    (read_then (λ n. not (n == 0) ≡ true) (λ x. not (x.0 == 0) ≡ true) (number_in false (take width bytes)) _ (number_nonzero (take width bytes)) (λ n is. is))

-- sets
end_nonzero : (bytes : List ℕ) → IfOk (end_at bytes) (λ x. nonzero (end_numbers x.0) ≡ true)
unfolding end_at
end_nonzero bytes =
    read_if (λ x. nonzero (end_numbers x.0) ≡ true) (begins 42 bytes) _ _ refl
    (read_then (λ x. not (x.0 == 0) ≡ true) (λ x. nonzero (end_numbers x.0) ≡ true) (nonzero_at bytes) _ (nonzero_read bytes) (λ number is. and_from (not (number.0 == 0)) true is refl))

range_nonzero : (bytes : List ℕ) → IfOk (range_at bytes) (λ x. nonzero (range_numbers x.0) ≡ true)
unfolding range_at
range_nonzero bytes =
    let test = λ (n : ℕ). not (n == 0) in
    read_then (λ x. nonzero (end_numbers x.0) ≡ true) (λ x. nonzero (range_numbers x.0) ≡ true) (end_at bytes) _ (end_nonzero bytes) (λ one is.
    read_if (λ x. nonzero (range_numbers x.0) ≡ true) (begins 58 one.1) _ _
    (read_then (λ x. nonzero (end_numbers x.0) ≡ true) (λ x. nonzero (range_numbers x.0) ≡ true) (end_at (drop 1 one.1)) _ (end_nonzero (drop 1 one.1)) (λ other are.
    all_both test (end_numbers one.0) (end_numbers other.0) is are))
    (all_both test (end_numbers one.0) (end_numbers one.0) is is))

range_kept : (before : List (End × End)) (bytes : List ℕ) → nonzero (flat_map range_numbers before) ≡ true → IfOk (add_range before bytes) (λ x. nonzero (flat_map range_numbers x.0) ≡ true)
range_kept before bytes are =
    read_then (λ x. nonzero (range_numbers x.0) ≡ true) (λ x. nonzero (flat_map range_numbers x.0) ≡ true) (range_at bytes) _ (range_nonzero bytes) (λ range is.
    all_flat_push (λ n. not (n == 0)) range_numbers before range.0 are is)

pub set_nonzero : (bytes : List ℕ) → IfOk (set_at bytes) (λ x. nonzero (set_numbers x.0) ≡ true)
unfolding set_at
set_nonzero bytes =
    read_then (λ x. nonzero (flat_map range_numbers x.0) ≡ true) (λ x. nonzero (set_numbers x.0) ≡ true) (separated 44 add_range (length bytes) [] bytes) _
    (separated_keeps (λ x. nonzero (flat_map range_numbers x.0) ≡ true) (λ x is. is) 44 add_range range_kept (length bytes) [] bytes refl) (λ ranges are. are)

-- strings
quoted_clean : (escaped : Bool) (before bytes : List ℕ) → Clean before → Clean bytes → IfOk (quoted_from escaped before bytes) (λ x. Clean x.0 × Clean x.1)
quoted_clean escaped before [] is here = tt
quoted_clean true before (b ∷ rest) is here =
    let both = and_parts (not (b == 0)) (nonzero rest) here in
    let more = all_push (λ b. not (b == 0)) before b is both.0 in
    read_chosen (λ x. Clean x.0 × Clean x.1) ((b == 34) || (b == 92)) (quoted_from false (before ++ b ∷ []) rest) (Err NotUnderstood) (quoted_clean false (before ++ b ∷ []) rest more both.1) tt
quoted_clean false before (b ∷ rest) is here =
    let both = and_parts (not (b == 0)) (nonzero rest) here in
    let more = all_push (λ b. not (b == 0)) before b is both.0 in
    let plain : Read (List ℕ × List ℕ) = chosen ((b == 13) || (b == 10)) (Err NotUnderstood) (quoted_from false (before ++ b ∷ []) rest) in
    read_chosen (λ x. Clean x.0 × Clean x.1) (b == 34) (Ok (before, rest)) (chosen (b == 92) (quoted_from true before rest) plain) (is, both.1)
    (read_chosen (λ x. Clean x.0 × Clean x.1) (b == 92) (quoted_from true before rest) plain (quoted_clean true before rest is both.1)
    (read_chosen (λ x. Clean x.0 × Clean x.1) ((b == 13) || (b == 10)) (Err NotUnderstood) (quoted_from false (before ++ b ∷ []) rest) tt
    (quoted_clean false (before ++ b ∷ []) rest more both.1)))

-- a string that is read, what stands behind it, and the literals that are left
abbrev pub TakenClean : Taken → Type 0
TakenClean x = Clean x.value × Clean x.rest × AllClean x.literals

taken_clean : (bytes : List ℕ) (mark : Option (List ℕ)) (literals : List (List ℕ)) → IfSome mark Clean → AllClean literals → IfOk (take_literal bytes mark literals) TakenClean
taken_clean bytes None literals here all = tt
taken_clean bytes (Some rest) [] here all = tt
taken_clean bytes (Some rest) (value ∷ literals) here all =
    let both = and_parts (nonzero value) (list_all nonzero literals) all in
    (both.0, here, both.1)

pub literal_clean : (bytes : List ℕ) (literals : List (List ℕ)) → Clean bytes → AllClean literals → IfOk (literal_at bytes literals) TakenClean
literal_clean bytes literals here all = taken_clean bytes (behind_mark bytes) literals (mark_leaves Clean clean_behind bytes here) all

string_clean : (width : ℕ) (bytes : List ℕ) (literals : List (List ℕ)) → Clean bytes → AllClean literals → IfOk (string_of width bytes literals) TakenClean
string_clean width bytes literals here all =
    let behind = clean_behind 1 bytes here in
    let bare : Read Taken = Ok (record { value = take width bytes; rest = drop width bytes; literals = literals }) in
    read_if TakenClean (begins 34 bytes) (quoted_at (drop 1 bytes) >>= λ quoted. Ok (record { value = quoted.0; rest = quoted.1; literals = literals }))
    (if width == 0 then literal_at bytes literals else bare)
    (read_then (λ x. Clean x.0 × Clean x.1) TakenClean (quoted_at (drop 1 bytes)) (λ quoted. Ok (record { value = quoted.0; rest = quoted.1; literals = literals }))
    (quoted_clean false [] (drop 1 bytes) refl behind) (λ quoted both. (both.0, both.1, all)))
    (read_if TakenClean (width == 0) (literal_at bytes literals) bare (literal_clean bytes literals here all)
    (all_taken (λ b. not (b == 0)) width bytes here, clean_behind width bytes here, all))

pub astring_clean : (bytes : List ℕ) (literals : List (List ℕ)) → Clean bytes → AllClean literals → IfOk (astring_at bytes literals) TakenClean
astring_clean bytes literals here all = string_clean (prefix_len is_astring bytes) bytes literals here all

pub pattern_clean : (bytes : List ℕ) (literals : List (List ℕ)) → Clean bytes → AllClean literals → IfOk (pattern_at bytes literals) TakenClean
pattern_clean bytes literals here all = string_clean (prefix_len is_pattern bytes) bytes literals here all

pub token_clean : (bytes : List ℕ) → Clean bytes → IfOk (token_at bytes) (λ x. Clean x.0 × Clean x.1)
unfolding token_at
token_clean bytes here =
    let width = prefix_len is_atom bytes in
    read_if (λ x. Clean x.0 × Clean x.1) (width == 0) (Err (broken_off bytes)) (Ok (take width bytes, drop width bytes)) tt
    (all_taken (λ b. not (b == 0)) width bytes here, clean_behind width bytes here)

-- flags
pub keyword_clean : (bytes : List ℕ) → Clean bytes → IfOk (keyword_at bytes) (λ x. Clean x.0 × Clean x.1)
unfolding keyword_at
keyword_clean bytes here =
    read_then (λ x. Clean x.0 × Clean x.1) (λ x. Clean x.0 × Clean x.1) (token_at bytes) _ (token_clean bytes here) (λ token both.
    read_if (λ x. Clean x.0 × Clean x.1) (nat_le (length token.0) 64) (Ok token) (Err NotUnderstood) both tt)

-- flags, and what stands behind them
abbrev pub FlagsClean : FlagList × List ℕ → Type 0
FlagsClean x = AllClean x.0.words × Clean x.1

system_leaves : (flags : Flags) (bytes : List ℕ) → Clean bytes → IfOk (system_at flags bytes) (λ x. Clean x.1)
unfolding system_at
system_leaves flags bytes here =
    let name = drop 1 bytes in
    let width = prefix_len is_atom name in
    any_then (λ x. Clean x.1) (add_system flags (system_flag (take width name))) _ (λ more. clean_behind width name (clean_behind 1 bytes here))

flag_clean : (list : FlagList) (bytes : List ℕ) → FlagsClean (list, bytes) → IfOk (flag_at list bytes) FlagsClean
unfolding flag_at
flag_clean list bytes both =
    read_if FlagsClean (begins 92 bytes) _ _
    (read_then (λ x. Clean x.1) FlagsClean (system_at list.flags bytes) _ (system_leaves list.flags bytes both.1) (λ more left. (both.0, left)))
    (read_then (λ x. Clean x.0 × Clean x.1) FlagsClean (keyword_at bytes) _ (keyword_clean bytes both.1) (λ word is. (all_push nonzero list.words word.0 both.0 is.0, is.1)))

flags_clean : (bytes : List ℕ) → Clean bytes → IfOk (flags_at bytes) FlagsClean
flags_clean bytes here =
    separated_keeps FlagsClean (λ x both. (both.0, clean_behind 1 x.1 both.1)) 32 flag_at flag_clean (length bytes) (record { flags = no_flags; words = [] }) bytes (refl, here)

pub flag_list_clean : (bytes : List ℕ) → Clean bytes → IfOk (flag_list_at bytes) FlagsClean
unfolding flag_list_at
flag_list_clean bytes here =
    read_then Clean FlagsClean (byte_at 40 bytes) _ (byte_leaves Clean clean_behind 40 bytes here) (λ inner left.
    read_if FlagsClean (begins 41 inner) _ _ (refl, clean_behind 1 inner left)
    (read_then FlagsClean FlagsClean (flags_at inner) _ (flags_clean inner left) (λ flags both.
    read_then Clean FlagsClean (byte_at 41 flags.1) _ (byte_leaves Clean clean_behind 41 flags.1 both.1) (λ rest last. (both.0, last)))))

pub store_flags_clean : (bytes : List ℕ) → Clean bytes → IfOk (store_flags_at bytes) FlagsClean
store_flags_clean bytes here = read_if FlagsClean (begins 40 bytes) (flag_list_at bytes) (flags_at bytes) (flag_list_clean bytes here) (flags_clean bytes here)

-- names of header fields
abbrev NamesClean : Names × List ℕ → Type 0
NamesClean x = AllClean x.0.names × AllClean x.0.literals × Clean x.1

name_clean : (before : Names) (bytes : List ℕ) → NamesClean (before, bytes) → IfOk (add_name before bytes) NamesClean
name_clean before bytes all =
    read_then TakenClean NamesClean (astring_at bytes before.literals) _ (astring_clean bytes before.literals all.2 all.1) (λ name is. (all_push nonzero before.names name.value all.0 is.0, is.2, is.1))

names_clean : (bytes : List ℕ) (literals : List (List ℕ)) → Clean bytes → AllClean literals → IfOk (names_at bytes literals) NamesClean
unfolding names_at
names_clean bytes literals here all =
    read_then Clean NamesClean (byte_at 32 bytes) _ (byte_leaves Clean clean_behind 32 bytes here) (λ behind left.
    read_then Clean NamesClean (byte_at 40 behind) _ (byte_leaves Clean clean_behind 40 behind left) (λ inner gone.
    read_then NamesClean NamesClean (separated 32 add_name (length inner) (record { names = []; literals = literals }) inner) _
    (separated_keeps NamesClean (λ x is. (is.0, is.1, clean_behind 1 x.1 is.2)) 32 add_name name_clean (length inner) (record { names = []; literals = literals }) inner (refl, all, gone)) (λ found is.
    read_then Clean NamesClean (byte_at 41 found.1) _ (byte_leaves Clean clean_behind 41 found.1 is.2) (λ rest last. (is.0, is.1, last)))))

-- what is asked of a part
abbrev KindClean : ReadKind → Type 0
KindClean x = AllClean (kind_texts x.kind) × Clean x.rest × AllClean x.literals

word_clean : (numbered : Bool) (word bytes : List ℕ) (literals : List (List ℕ)) → Clean bytes → AllClean literals → IfOk (word_kind numbered word bytes literals) KindClean
unfolding word_kind
word_clean numbered word bytes literals here all =
    let names = names_clean bytes literals here all in
    read_if KindClean (str_eq_ignore_ascii_case word (codes "HEADER")) _ _ (refl, here, all)
    (read_if KindClean (str_eq_ignore_ascii_case word (codes "TEXT")) _ _ (refl, here, all)
    (read_if KindClean (str_eq_ignore_ascii_case word (codes "MIME") && numbered) _ _ (refl, here, all)
    (read_if KindClean (str_eq_ignore_ascii_case word (codes "HEADER.FIELDS")) _ _ (read_then NamesClean KindClean (names_at bytes literals) _ names (λ found is. (is.0, is.2, is.1)))
    (read_if KindClean (str_eq_ignore_ascii_case word (codes "HEADER.FIELDS.NOT")) _ _ (read_then NamesClean KindClean (names_at bytes literals) _ names (λ found is. (is.0, is.2, is.1))) tt))))

kind_clean : (numbered word : Bool) (bytes : List ℕ) (literals : List (List ℕ)) → Clean bytes → AllClean literals → IfOk (kind_at numbered word bytes literals) KindClean
unfolding kind_at
kind_clean numbered word bytes literals here all =
    read_if KindClean (not word || (not numbered && begins 93 bytes)) _ _ (refl, here, all)
    (read_then (λ x. Clean x.1) KindClean (token_at bytes) _ (token_leaves Clean clean_behind bytes here) (λ token left. word_clean numbered token.0 token.1 literals left all))

-- part numbers
abbrev PartsGood : PartNumbers → Type 0
PartsGood x = (nonzero x.numbers ≡ true) × Clean x.rest

number_good : (bytes : List ℕ) → Clean bytes → IfOk (nonzero_at bytes) (λ x. (not (x.0 == 0) ≡ true) × Clean x.1)
number_good bytes here = read_both (λ x. not (x.0 == 0) ≡ true) (λ x. Clean x.1) (nonzero_at bytes) (nonzero_read bytes) (digits_leave Clean clean_behind false bytes here)

parts_good : (n : ℕ) (before bytes : List ℕ) → nonzero before ≡ true → Clean bytes → IfOk (parts_from n before bytes) PartsGood
parts_good zero before bytes are here = (are, here)
parts_good (suc n) before bytes are here =
    let further : ℕ × List ℕ → Read PartNumbers = λ number. chosen (begins 46 number.1) (parts_from n (before ++ number.0 ∷ []) (drop 1 number.1)) (Ok (record { numbers = before ++ number.0 ∷ []; rest = number.1; word = false })) in
    read_chosen PartsGood (begins_digit bytes) (nonzero_at bytes >>= further) (Ok (record { numbers = before; rest = bytes; word = true }))
    (read_then (λ x. (not (x.0 == 0) ≡ true) × Clean x.1) PartsGood (nonzero_at bytes) further (number_good bytes here) (λ number is.
    let more = all_push (λ n. not (n == 0)) before number.0 are is.0 in
    read_chosen PartsGood (begins 46 number.1) (parts_from n (before ++ number.0 ∷ []) (drop 1 number.1)) (Ok (record { numbers = before ++ number.0 ∷ []; rest = number.1; word = false }))
    (parts_good n (before ++ number.0 ∷ []) (drop 1 number.1) more (clean_behind 1 number.1 is.1)) (more, is.1)))
    (are, here)

-- sections and partials
abbrev SectionGood : ReadSection → Type 0
SectionGood x = (nonzero x.section.parts ≡ true) × AllClean (kind_texts x.section.kind) × Clean x.rest × AllClean x.literals

pub section_good : (bytes : List ℕ) (literals : List (List ℕ)) → Clean bytes → AllClean literals → IfOk (section_at bytes literals) SectionGood
unfolding section_at
section_good bytes literals here all =
    read_then Clean SectionGood (byte_at 91 bytes) _ (byte_leaves Clean clean_behind 91 bytes here) (λ inner left.
    read_then PartsGood SectionGood (parts_from (length inner) [] inner) _ (parts_good (length inner) [] inner refl left) (λ parts are.
    read_then KindClean SectionGood (kind_at (not (length parts.numbers == 0)) parts.word parts.rest literals) _ (kind_clean (not (length parts.numbers == 0)) parts.word parts.rest literals are.1 all) (λ found is.
    read_then Clean SectionGood (byte_at 93 found.rest) _ (byte_leaves Clean clean_behind 93 found.rest is.1) (λ rest last. (are.0, is.0, last, is.2)))))

abbrev PartialGood : Option (ℕ × ℕ) × List ℕ → Type 0
PartialGood x = (nonzero (partial_numbers x.0) ≡ true) × Clean x.1

pub partial_good : (bytes : List ℕ) → Clean bytes → IfOk (partial_at bytes) PartialGood
unfolding partial_at
partial_good bytes here =
    read_if PartialGood (begins 60 bytes) _ _
    (read_then (λ x. Clean x.1) PartialGood (number_at (drop 1 bytes)) _ (digits_leave Clean clean_behind true (drop 1 bytes) (clean_behind 1 bytes here)) (λ offset left.
    read_then Clean PartialGood (byte_at 46 offset.1) _ (byte_leaves Clean clean_behind 46 offset.1 left) (λ behind gone.
    read_then (λ x. (not (x.0 == 0) ≡ true) × Clean x.1) PartialGood (nonzero_at behind) _ (number_good behind gone) (λ count is.
    read_then Clean PartialGood (byte_at 62 count.1) _ (byte_leaves Clean clean_behind 62 count.1 is.1) (λ rest last. (and_from (not (count.0 == 0)) true is.0 refl, last))))))
    (refl, here)

-- items
abbrev ItemGood : Item → Type 0
ItemGood item = (nonzero (item_numbers item) ≡ true) × AllClean (item_texts item)

abbrev ReadGood : ReadItem → Type 0
ReadGood x = ItemGood x.item × Clean x.rest × AllClean x.literals

part_good : (peek : Bool) (bytes : List ℕ) (literals : List (List ℕ)) → Clean bytes → AllClean literals → IfOk (part_at peek bytes literals) ReadGood
unfolding part_at
part_good peek bytes literals here all =
    read_then SectionGood ReadGood (section_at bytes literals) _ (section_good bytes literals here all) (λ found is.
    read_then PartialGood ReadGood (partial_at found.rest) _ (partial_good found.rest is.2) (λ partial are.
    ((all_both (λ n. not (n == 0)) found.section.parts (partial_numbers partial.0) is.0 are.0, is.1), are.1, is.3)))

plain_good : (word : List ℕ) → IfSome (plain_item word) ItemGood
plain_good word =
    some_if ItemGood (str_eq_ignore_ascii_case word (codes "FLAGS")) items.Flags _ (refl, refl)
    (some_if ItemGood (str_eq_ignore_ascii_case word (codes "INTERNALDATE")) items.InternalDate _ (refl, refl)
    (some_if ItemGood (str_eq_ignore_ascii_case word (codes "RFC822.SIZE")) items.Size _ (refl, refl)
    (some_if ItemGood (str_eq_ignore_ascii_case word (codes "ENVELOPE")) items.Envelope _ (refl, refl)
    (some_if ItemGood (str_eq_ignore_ascii_case word (codes "BODY")) items.Body _ (refl, refl)
    (some_if ItemGood (str_eq_ignore_ascii_case word (codes "BODYSTRUCTURE")) items.BodyStructure _ (refl, refl)
    (some_if ItemGood (str_eq_ignore_ascii_case word (codes "UID")) items.Uid _ (refl, refl)
    (some_if ItemGood (str_eq_ignore_ascii_case word (codes "RFC822")) items.Rfc822 _ (refl, refl)
    (some_if ItemGood (str_eq_ignore_ascii_case word (codes "RFC822.HEADER")) items.Rfc822Header _ (refl, refl)
    (some_if ItemGood (str_eq_ignore_ascii_case word (codes "RFC822.TEXT")) items.Rfc822Text _ (refl, refl) tt)))))))))

some_good : (item : Option Item) (rest : List ℕ) (literals : List (List ℕ)) → IfSome item ItemGood → Clean rest → AllClean literals → IfOk (some_item item rest literals) ReadGood
some_good None rest literals is here all = tt
some_good (Some item) rest literals is here all = (is, here, all)

item_good : (bytes : List ℕ) (literals : List (List ℕ)) → Clean bytes → AllClean literals → IfOk (item_at bytes literals) ReadGood
unfolding item_at word_item
item_good bytes literals here all =
    let width = prefix_len is_item_byte bytes in
    let word = take width bytes in
    let behind = drop width bytes in
    let left = clean_behind width bytes here in
    read_if ReadGood (width == 0) _ _ tt
    (read_if ReadGood (str_eq_ignore_ascii_case word (codes "BODY.PEEK")) _ _ (part_good true behind literals left all)
    (read_if ReadGood (begins 91 behind) _ _ (read_if ReadGood (str_eq_ignore_ascii_case word (codes "BODY")) _ _ (part_good false behind literals left all) tt)
    (some_good (plain_item word) behind literals (plain_good word) left all)))

-- items of FETCH, and what stands behind them
abbrev pub ItemsGood : Items × List ℕ → Type 0
ItemsGood x = (nonzero (flat_map item_numbers x.0.items) ≡ true) × AllClean (flat_map item_texts x.0.items) × AllClean x.0.literals × Clean x.1

more_good : (before : Items) (bytes : List ℕ) → ItemsGood (before, bytes) → IfOk (add_item before bytes) ItemsGood
more_good before bytes all =
    read_then ReadGood ItemsGood (item_at bytes before.literals) _ (item_good bytes before.literals all.3 all.2) (λ found is.
    (all_flat_push (λ n. not (n == 0)) item_numbers before.items found.item all.0 is.0.0, all_flat_push nonzero item_texts before.items found.item all.1 is.0.1, is.2, is.1))

list_good : (bytes : List ℕ) (literals : List (List ℕ)) → Clean bytes → AllClean literals → IfOk (item_list_at bytes literals) ItemsGood
unfolding item_list_at
list_good bytes literals here all =
    read_then Clean ItemsGood (byte_at 40 bytes) _ (byte_leaves Clean clean_behind 40 bytes here) (λ inner left.
    read_then ItemsGood ItemsGood (separated 32 add_item (length inner) (record { items = []; literals = literals }) inner) _
    (separated_keeps ItemsGood (λ x is. (is.0, is.1, is.2, clean_behind 1 x.1 is.3)) 32 add_item more_good (length inner) (record { items = []; literals = literals }) inner (refl, refl, all, left)) (λ found is.
    read_then Clean ItemsGood (byte_at 41 found.1) _ (byte_leaves Clean clean_behind 41 found.1 is.3) (λ rest last. (is.0, is.1, is.2, last))))

abbrev MacroGood : List Item → Type 0
MacroGood all = (nonzero (flat_map item_numbers all) ≡ true) × AllClean (flat_map item_texts all)

macro_good : (word : List ℕ) → IfSome (macro_items word) MacroGood
macro_good word =
    some_if MacroGood (str_eq_ignore_ascii_case word (codes "FAST")) _ _ (refl, refl)
    (some_if MacroGood (str_eq_ignore_ascii_case word (codes "ALL")) _ _ (refl, refl) (some_if MacroGood (str_eq_ignore_ascii_case word (codes "FULL")) _ _ (refl, refl) tt))

macro_or_good : (found : Option (List Item)) (bytes rest : List ℕ) (literals : List (List ℕ)) → IfSome found MacroGood → Clean bytes → Clean rest → AllClean literals
    → IfOk (macro_or_item found bytes rest literals) ItemsGood
macro_or_good (Some all) bytes rest literals is here left clean = (is.0, is.1, clean, left)
macro_or_good None bytes rest literals is here left clean = more_good (record { items = []; literals = literals }) bytes (refl, refl, clean, here)

pub fetch_items_good : (bytes : List ℕ) (literals : List (List ℕ)) → Clean bytes → AllClean literals → IfOk (fetch_items_at bytes literals) ItemsGood
unfolding fetch_items_at
fetch_items_good bytes literals here all =
    let width = prefix_len is_atom bytes in
    read_if ItemsGood (begins 40 bytes) _ _ (list_good bytes literals here all)
    (macro_or_good (macro_items (take width bytes)) bytes (drop width bytes) literals (macro_good (take width bytes)) here (clean_behind width bytes here) all)
