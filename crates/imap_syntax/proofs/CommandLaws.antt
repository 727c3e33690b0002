-- The laws of whole commands.
use Rattle.std.proofs.Common.{◌≡◌, ◌≤◌, ◌==◌, ◌||◌, ℕ, Bool, true, false, not, List, [], ◌∷◌, map, Option, Some, None, Ok, Err, IfOk, IfSome, flat_map, cond, take, drop, length, codes, arith, refl, ap}
use Rattle.std.proofs.lemmas.Bool.{cond_both, and_from, and_parts, or_parts}
use Rattle.std.proofs.lemmas.Bool.Decides.{nat_tests}
use Rattle.std.specs.List.{list_all, list_any, prefix_len}
use Rattle.std.specs.Char.{to_ascii_uppercase}
use Rattle.std.specs.Str.{str_eq_ignore_ascii_case}
use Rattle.mail_fields.specs.Keyword.{is_atom}
use Rattle.mail_fields.specs.declared.stamp.Stamp.{Stamp}
use Rattle.imap_arguments.specs.Readings.{Read}
use Rattle.imap_arguments.specs.Tags.{tag_of}
use Rattle.imap_arguments.specs.Tokens.{begins, byte_at, token_at}
use Rattle.imap_arguments.specs.Strings.{pattern_at, literal_at}
use Rattle.imap_arguments.specs.Sets.{set_at}
use Rattle.imap_arguments.specs.Flags.{flag_list_at, store_flags_at}
use Rattle.imap_arguments.specs.Items.{fetch_items_at, status_list_at}
use Rattle.imap_arguments.specs.Dates.{date_time_at}
use Rattle.imap_arguments.specs.Laws.{nonzero, set_numbers, item_numbers}
use Rattle.imap_arguments.proofs.Steps.{read_then, read_if, any_then, read_both}
use Rattle.imap_arguments.proofs.NonZero.{all_both, all_taken, nonzero_from, all_nonzero_from}
use Rattle.imap_arguments.proofs.Remainders.{byte_leaves, token_leaves, set_leaves, date_time_leaves}
use Rattle.imap_arguments.proofs.Laws.{Clean, AllClean, clean_behind, TakenClean, astring_clean, pattern_clean, literal_clean, FlagsClean, flag_list_clean, store_flags_clean, set_nonzero, ItemsGood, fetch_items_good}
use Rattle.imap_syntax.specs.Keys.{search_keys_at, whole_key, keys_of, ReadKey}
use Rattle.imap_syntax.specs.Stamps.{bounded, some_stamp, stamp_text_at}
use Rattle.imap_syntax.specs.Verbs.{verb_of, message_verb}
use Rattle.imap_syntax.specs.Commands.{ended, string_argument, set_argument, one_name, rename_at, patterns_at, list_at, lsub_at, status_at, append_flags_at, append_date_at, append_at, Charset, charset_at, search_at, fetch_at, mode_of, some_mode, store_at, copy_at, message_command, uid_at, arguments_at, known_command, behind_tag, has_nul, bad, meaning_by, tagged, meaning_of}
use Rattle.imap_arguments.specs.declared.reason.Reason.TheVariants.{Nul}
use Rattle.imap_syntax.specs.Laws.{key_parts, depth_of, numbers_in, charset_texts, texts_in, OnCommand}
use Rattle.imap_syntax.specs.declared.verb.Verb.{Verb}
use Rattle.imap_syntax.specs.declared.verb.Verb.TheVariants as verbs
use Rattle.imap_syntax.specs.declared.command.Command.{Command}
use Rattle.imap_syntax.specs.declared.command.Command.TheVariants as commands
use Rattle.imap_syntax.proofs.Laws.{PartsGood, ReadGood, search_keys_good}

-- a command without NUL, without a 0 where a number may not be 0, and with keys on 101 levels at most
abbrev pub CommandGood : Command → Type 0
CommandGood command = (depth_of command ≤ 101) × (nonzero (numbers_in command) ≡ true) × AllClean (texts_in command)

-- one that has neither keys nor such numbers
texts_alone : (command : Command) → depth_of command ≡ 0 → numbers_in command ≡ [] → AllClean (texts_in command) → CommandGood command
texts_alone command flat none clean = (omega (arith, flat), ap nonzero none, clean)

pub ended_good : (command : Command) (bytes : List ℕ) → CommandGood command → IfOk (ended command bytes) CommandGood
ended_good command [] is = is
ended_good command (b ∷ bytes) is = tt

string_good : (bytes : List ℕ) (literals : List (List ℕ)) → Clean bytes → AllClean literals → IfOk (string_argument bytes literals) TakenClean
string_good bytes literals here all =
    read_then Clean TakenClean (byte_at 32 bytes) _ (byte_leaves Clean clean_behind 32 bytes here) (λ behind left. astring_clean behind literals left all)

set_good : (bytes : List ℕ) → Clean bytes → IfOk (set_argument bytes) (λ x. (nonzero (set_numbers x.0) ≡ true) × Clean x.1)
set_good bytes here =
    read_then Clean (λ x. (nonzero (set_numbers x.0) ≡ true) × Clean x.1) (byte_at 32 bytes) _ (byte_leaves Clean clean_behind 32 bytes here) (λ behind left.
    read_both (λ x. nonzero (set_numbers x.0) ≡ true) (λ x. Clean x.1) (set_at behind) (set_nonzero behind) (set_leaves Clean clean_behind behind left))

one : (text : List ℕ) → Clean text → AllClean (text ∷ [])
one text is = and_from (nonzero text) true is refl

two : (text other : List ℕ) → Clean text → Clean other → AllClean (text ∷ other ∷ [])
two text other is are = and_from (nonzero text) (list_all nonzero (other ∷ [])) is (one other are)

-- commands with names
name_good : (command : List ℕ → Command) → ((name : List ℕ) → Clean name → CommandGood (command name)) → (bytes : List ℕ) (literals : List (List ℕ)) → Clean bytes → AllClean literals
    → IfOk (one_name command bytes literals) CommandGood
unfolding one_name
name_good command so bytes literals here all =
    read_then TakenClean CommandGood (string_argument bytes literals) _ (string_good bytes literals here all) (λ name is. ended_good (command name.value) name.rest (so name.value is.0))

rename_good : (bytes : List ℕ) (literals : List (List ℕ)) → Clean bytes → AllClean literals → IfOk (rename_at bytes literals) CommandGood
unfolding rename_at
rename_good bytes literals here all =
    read_then TakenClean CommandGood (string_argument bytes literals) _ (string_good bytes literals here all) (λ name is.
    read_then TakenClean CommandGood (string_argument name.rest name.literals) _ (string_good name.rest name.literals is.1 is.2) (λ other are.
    ended_good (commands.Rename name.value other.value) other.rest (texts_alone (commands.Rename name.value other.value) refl refl (two name.value other.value is.0 are.0))))

patterns_good : (bytes : List ℕ) (literals : List (List ℕ)) → Clean bytes → AllClean literals → IfOk (patterns_at bytes literals) (λ x. Clean x.0 × TakenClean x.1)
unfolding patterns_at
patterns_good bytes literals here all =
    read_then TakenClean (λ x. Clean x.0 × TakenClean x.1) (string_argument bytes literals) _ (string_good bytes literals here all) (λ reference is.
    read_then Clean (λ x. Clean x.0 × TakenClean x.1) (byte_at 32 reference.rest) _ (byte_leaves Clean clean_behind 32 reference.rest is.1) (λ behind left.
    read_then TakenClean (λ x. Clean x.0 × TakenClean x.1) (pattern_at behind reference.literals) _ (pattern_clean behind reference.literals left is.2) (λ pattern are. (is.0, are))))

list_good : (bytes : List ℕ) (literals : List (List ℕ)) → Clean bytes → AllClean literals → IfOk (list_at bytes literals) CommandGood
unfolding list_at
list_good bytes literals here all =
    read_then (λ x. Clean x.0 × TakenClean x.1) CommandGood (patterns_at bytes literals) _ (patterns_good bytes literals here all) (λ both is.
    ended_good (commands.List both.0 both.1.value) both.1.rest (texts_alone (commands.List both.0 both.1.value) refl refl (two both.0 both.1.value is.0 is.1.0)))

lsub_good : (bytes : List ℕ) (literals : List (List ℕ)) → Clean bytes → AllClean literals → IfOk (lsub_at bytes literals) CommandGood
unfolding lsub_at
lsub_good bytes literals here all =
    read_then (λ x. Clean x.0 × TakenClean x.1) CommandGood (patterns_at bytes literals) _ (patterns_good bytes literals here all) (λ both is.
    ended_good (commands.Lsub both.0 both.1.value) both.1.rest (texts_alone (commands.Lsub both.0 both.1.value) refl refl (two both.0 both.1.value is.0 is.1.0)))

status_good : (bytes : List ℕ) (literals : List (List ℕ)) → Clean bytes → AllClean literals → IfOk (status_at bytes literals) CommandGood
unfolding status_at
status_good bytes literals here all =
    read_then TakenClean CommandGood (string_argument bytes literals) _ (string_good bytes literals here all) (λ name is.
    read_then Clean CommandGood (byte_at 32 name.rest) _ (byte_leaves Clean clean_behind 32 name.rest is.1) (λ behind left.
    any_then CommandGood (status_list_at behind) _ (λ items. ended_good (commands.Status name.value items.0) items.1 (texts_alone (commands.Status name.value items.0) refl refl (one name.value is.0)))))

-- APPEND
append_flags_good : (bytes : List ℕ) → Clean bytes → IfOk (append_flags_at bytes) FlagsClean
unfolding append_flags_at
append_flags_good bytes here =
    read_if FlagsClean (begins 40 bytes) _ _
    (read_then FlagsClean FlagsClean (flag_list_at bytes) _ (flag_list_clean bytes here) (λ flags is.
    read_then Clean FlagsClean (byte_at 32 flags.1) _ (byte_leaves Clean clean_behind 32 flags.1 is.1) (λ rest left. (is.0, left))))
    (refl, here)

stamp_leaves : (stamp : Option Stamp) (rest : List ℕ) → Clean rest → IfOk (some_stamp stamp rest) (λ x. Clean x.1)
stamp_leaves None rest left = tt
stamp_leaves (Some stamp) rest left = left

append_date_leaves : (bytes : List ℕ) → Clean bytes → IfOk (append_date_at bytes) (λ x. Clean x.1)
unfolding append_date_at
append_date_leaves bytes here =
    read_if (λ x. Clean x.1) (begins 34 bytes) _ _
    (read_then (λ x. Clean x.1) (λ x. Clean x.1) (stamp_text_at bytes) _
    (read_then (λ x. Clean x.1) (λ x. Clean x.1) (date_time_at bytes) _ (date_time_leaves Clean clean_behind bytes here) (λ date left. stamp_leaves (bounded date.0) date.1 left)) (λ stamp left.
    read_then Clean (λ x. Clean x.1) (byte_at 32 stamp.1) _ (byte_leaves Clean clean_behind 32 stamp.1 left) (λ rest gone. gone)))
    here

append_good : (bytes : List ℕ) (literals : List (List ℕ)) → Clean bytes → AllClean literals → IfOk (append_at bytes literals) CommandGood
unfolding append_at
append_good bytes literals here all =
    read_then TakenClean CommandGood (string_argument bytes literals) _ (string_good bytes literals here all) (λ name is.
    read_then Clean CommandGood (byte_at 32 name.rest) _ (byte_leaves Clean clean_behind 32 name.rest is.1) (λ behind left.
    read_then FlagsClean CommandGood (append_flags_at behind) _ (append_flags_good behind left) (λ flags are.
    read_then (λ x. Clean x.1) CommandGood (append_date_at flags.1) _ (append_date_leaves flags.1 are.1) (λ date gone.
    read_then TakenClean CommandGood (literal_at date.1 name.literals) _ (literal_clean date.1 name.literals gone is.2) (λ text last.
    ended_good (commands.Append name.value flags.0 date.0 text.value) text.rest (texts_alone (commands.Append name.value flags.0 date.0 text.value) refl refl
    (and_from (nonzero name.value) (list_all nonzero (text.value ∷ flags.0.words)) is.0 (and_from (nonzero text.value) (list_all nonzero flags.0.words) last.0 are.0))))))))

-- SEARCH, FETCH, STORE and COPY
abbrev CharsetGood : Charset → Type 0
CharsetGood x = AllClean (charset_texts x.charset) × Clean x.rest × AllClean x.literals

charset_good : (bytes : List ℕ) (literals : List (List ℕ)) → Clean bytes → AllClean literals → IfOk (charset_at bytes literals) CharsetGood
unfolding charset_at
charset_good bytes literals here all =
    let width = prefix_len is_atom bytes in
    let left = clean_behind width bytes here in
    read_if CharsetGood (str_eq_ignore_ascii_case (take width bytes) (codes "CHARSET")) _ _
    (read_then TakenClean CharsetGood (string_argument (drop width bytes) literals) _ (string_good (drop width bytes) literals left all) (λ name is.
    read_then Clean CharsetGood (byte_at 32 name.rest) _ (byte_leaves Clean clean_behind 32 name.rest is.1) (λ rest gone. (one name.value is.0, gone, is.2))))
    (refl, here, all)

search_good : (uid : Bool) (bytes : List ℕ) (literals : List (List ℕ)) → Clean bytes → AllClean literals → IfOk (search_at uid bytes literals) CommandGood
unfolding search_at
search_good uid bytes literals here all =
    read_then Clean CommandGood (byte_at 32 bytes) _ (byte_leaves Clean clean_behind 32 bytes here) (λ behind left.
    read_then CharsetGood CommandGood (charset_at behind literals) _ (charset_good behind literals left all) (λ charset is.
    read_then (ReadGood 101) CommandGood (search_keys_at charset.rest charset.literals) _ (search_keys_good charset.rest charset.literals is.1 is.2) (λ found are.
    ended_good (commands.Search uid charset.charset found.key) found.rest
    (are.0.0, are.0.1, all_both nonzero (charset_texts charset.charset) (key_parts found.key).texts is.0 are.0.2))))

fetch_good : (uid : Bool) (bytes : List ℕ) (literals : List (List ℕ)) → Clean bytes → AllClean literals → IfOk (fetch_at uid bytes literals) CommandGood
unfolding fetch_at
fetch_good uid bytes literals here all =
    read_then (λ x. (nonzero (set_numbers x.0) ≡ true) × Clean x.1) CommandGood (set_argument bytes) _ (set_good bytes here) (λ set is.
    read_then Clean CommandGood (byte_at 32 set.1) _ (byte_leaves Clean clean_behind 32 set.1 is.1) (λ behind left.
    read_then ItemsGood CommandGood (fetch_items_at behind literals) _ (fetch_items_good behind literals left all) (λ items are.
    ended_good (commands.Fetch uid set.0 items.0.items) items.1
    (omega arith, all_both (λ n. not (n == 0)) (set_numbers set.0) (flat_map item_numbers items.0.items) is.0 are.0, are.1))))

store_good : (uid : Bool) (bytes : List ℕ) → Clean bytes → IfOk (store_at uid bytes) CommandGood
unfolding store_at
store_good uid bytes here =
    read_then (λ x. (nonzero (set_numbers x.0) ≡ true) × Clean x.1) CommandGood (set_argument bytes) _ (set_good bytes here) (λ set is.
    read_then Clean CommandGood (byte_at 32 set.1) _ (byte_leaves Clean clean_behind 32 set.1 is.1) (λ before left.
    read_then (λ x. Clean x.1) CommandGood (token_at before) _ (token_leaves Clean clean_behind before left) (λ word gone.
    any_then CommandGood (some_mode (mode_of word.0)) _ (λ mode.
    read_then Clean CommandGood (byte_at 32 word.1) _ (byte_leaves Clean clean_behind 32 word.1 gone) (λ behind last.
    read_then FlagsClean CommandGood (store_flags_at behind) _ (store_flags_clean behind last) (λ flags are.
    ended_good (commands.Store uid set.0 mode.0 mode.1 flags.0) flags.1 (omega arith, is.0, are.0)))))))

copy_good : (uid : Bool) (bytes : List ℕ) (literals : List (List ℕ)) → Clean bytes → AllClean literals → IfOk (copy_at uid bytes literals) CommandGood
unfolding copy_at
copy_good uid bytes literals here all =
    read_then (λ x. (nonzero (set_numbers x.0) ≡ true) × Clean x.1) CommandGood (set_argument bytes) _ (set_good bytes here) (λ set is.
    read_then TakenClean CommandGood (string_argument set.1 literals) _ (string_good set.1 literals is.1 all) (λ name are.
    ended_good (commands.Copy uid set.0 name.value) name.rest (omega arith, is.0, one name.value are.0)))

message_good : (uid : Bool) (verb : Option Verb) (bytes : List ℕ) (literals : List (List ℕ)) → Clean bytes → AllClean literals → IfOk (message_command uid verb bytes literals) CommandGood
message_good uid (Some verbs.Search) bytes literals here all = search_good uid bytes literals here all
message_good uid (Some verbs.Fetch) bytes literals here all = fetch_good uid bytes literals here all
message_good uid (Some verbs.Store) bytes literals here all = store_good uid bytes here
message_good uid (Some verbs.Copy) bytes literals here all = copy_good uid bytes literals here all
message_good uid _ bytes literals here all = tt

uid_good : (bytes : List ℕ) (literals : List (List ℕ)) → Clean bytes → AllClean literals → IfOk (uid_at bytes literals) CommandGood
unfolding uid_at
uid_good bytes literals here all =
    read_then Clean CommandGood (byte_at 32 bytes) _ (byte_leaves Clean clean_behind 32 bytes here) (λ behind left.
    read_then (λ x. Clean x.1) CommandGood (token_at behind) _ (token_leaves Clean clean_behind behind left) (λ word gone. message_good true (message_verb word.0) word.1 literals gone all))

-- a word in upper case
upper_byte : (b : ℕ) → not (b == 0) ≡ true → not (to_ascii_uppercase b == 0) ≡ true
upper_byte b is = grind (arith, nat_tests)

upper_clean : (word : List ℕ) → Clean word → Clean (map to_ascii_uppercase word)
upper_clean [] is = refl
upper_clean (b ∷ word) is =
    let both = and_parts (not (b == 0)) (nonzero word) is in
    and_from (not (to_ascii_uppercase b == 0)) (nonzero (map to_ascii_uppercase word)) (upper_byte b both.0) (upper_clean word both.1)

plain : (command : Command) (bytes : List ℕ) → depth_of command ≡ 0 → numbers_in command ≡ [] → texts_in command ≡ [] → IfOk (ended command bytes) CommandGood
plain command bytes flat none bare = ended_good command bytes (texts_alone command flat none (ap (list_all nonzero) bare))

arguments_good : (word : List ℕ) (verb : Verb) (bytes : List ℕ) (literals : List (List ℕ)) → Clean word → Clean bytes → AllClean literals → IfOk (arguments_at word verb bytes literals) CommandGood
unfolding arguments_at
arguments_good word verbs.Capability bytes literals is here all = plain commands.Capability bytes refl refl refl
arguments_good word verbs.Noop bytes literals is here all = plain commands.Noop bytes refl refl refl
arguments_good word verbs.Check bytes literals is here all = plain commands.Check bytes refl refl refl
arguments_good word verbs.Close bytes literals is here all = plain commands.Close bytes refl refl refl
arguments_good word verbs.Expunge bytes literals is here all = plain commands.Expunge bytes refl refl refl
arguments_good word verbs.Logout bytes literals is here all = plain commands.Logout bytes refl refl refl
arguments_good word verbs.Password bytes literals is here all =
    texts_alone (commands.Password (map to_ascii_uppercase word)) refl refl (one (map to_ascii_uppercase word) (upper_clean word is))
arguments_good word verbs.Select bytes literals is here all = name_good commands.Select (λ name clean. texts_alone (commands.Select name) refl refl (one name clean)) bytes literals here all
arguments_good word verbs.Examine bytes literals is here all = name_good commands.Examine (λ name clean. texts_alone (commands.Examine name) refl refl (one name clean)) bytes literals here all
arguments_good word verbs.Create bytes literals is here all = name_good commands.Create (λ name clean. texts_alone (commands.Create name) refl refl (one name clean)) bytes literals here all
arguments_good word verbs.Delete bytes literals is here all = name_good commands.Delete (λ name clean. texts_alone (commands.Delete name) refl refl (one name clean)) bytes literals here all
arguments_good word verbs.Subscribe bytes literals is here all =
    name_good commands.Subscribe (λ name clean. texts_alone (commands.Subscribe name) refl refl (one name clean)) bytes literals here all
arguments_good word verbs.Unsubscribe bytes literals is here all =
    name_good commands.Unsubscribe (λ name clean. texts_alone (commands.Unsubscribe name) refl refl (one name clean)) bytes literals here all
arguments_good word verbs.Rename bytes literals is here all = rename_good bytes literals here all
arguments_good word verbs.List bytes literals is here all = list_good bytes literals here all
arguments_good word verbs.Lsub bytes literals is here all = lsub_good bytes literals here all
arguments_good word verbs.Status bytes literals is here all = status_good bytes literals here all
arguments_good word verbs.Append bytes literals is here all = append_good bytes literals here all
arguments_good word verbs.Search bytes literals is here all = search_good false bytes literals here all
arguments_good word verbs.Fetch bytes literals is here all = fetch_good false bytes literals here all
arguments_good word verbs.Store bytes literals is here all = store_good false bytes here
arguments_good word verbs.Copy bytes literals is here all = copy_good false bytes literals here all
arguments_good word verbs.Uid bytes literals is here all = uid_good bytes literals here all

known_good : (word : List ℕ) (verb : Option Verb) (bytes : List ℕ) (literals : List (List ℕ)) → Clean word → Clean bytes → AllClean literals → IfOk (known_command word verb bytes literals) CommandGood
known_good word None bytes literals is here all = tt
known_good word (Some verb) bytes literals is here all = arguments_good word verb bytes literals is here all

pub behind_tag_good : (bytes : List ℕ) (literals : List (List ℕ)) → Clean bytes → AllClean literals → IfOk (behind_tag bytes literals) CommandGood
unfolding behind_tag
behind_tag_good bytes literals here all =
    let behind = drop 1 bytes in
    let width = prefix_len is_atom behind in
    let left = clean_behind 1 bytes here in
    read_if CommandGood (width == 0) _ _ tt
    (known_good (take width behind) (verb_of (take width behind)) (drop width behind) literals (all_taken (λ b. not (b == 0)) width behind left) (clean_behind width behind left) all)

-- a whole command: a NUL anywhere is a reason against it
by_good : (tag : List ℕ) (read : Read Command) → IfOk read CommandGood → OnCommand (meaning_by tag read) CommandGood
by_good tag (Ok command) is = is
by_good tag (Err reason) is = tt

unless_nul : (tag : List ℕ) (nul : Bool) (read : Read Command) → (nul ≡ false → IfOk read CommandGood) → OnCommand (cond nul (bad tag Nul) (meaning_by tag read)) CommandGood
unless_nul tag true read so = tt
unless_nul tag false read so = by_good tag read (so refl)

tagged_good : (tag : Option (List ℕ)) (text : List ℕ) (literals : List (List ℕ)) → OnCommand (tagged tag text literals) CommandGood
tagged_good None text literals = tt
tagged_good (Some tag) text literals =
    unless_nul tag (has_nul text || list_any has_nul literals) (behind_tag (drop (length tag) text) literals) (λ none.
    let both = or_parts (has_nul text) (list_any has_nul literals) none in
    behind_tag_good (drop (length tag) text) literals (clean_behind (length tag) text (nonzero_from text both.0)) (all_nonzero_from literals both.1))

-- the command of any text and literals
pub meaning_good : (text : List ℕ) (literals : List (List ℕ)) → OnCommand (meaning_of text literals) CommandGood
unfolding meaning_of
meaning_good text literals = tagged_good (tag_of text) text literals

-- the key of any text
whole_good : (read : Read ReadKey) → IfOk read (ReadGood 101) → IfSome (whole_key read) (λ key. PartsGood 101 (key_parts key))
whole_good (Err reason) is = tt
whole_good (Ok found) is = cond_both (length found.rest == 0) (Some found.key) None (λ o. IfSome o (λ key. PartsGood 101 (key_parts key))) (λ end. is.0) (λ more. tt)

pub keys_good : (text : List ℕ) → IfSome (keys_of text) (λ key. PartsGood 101 (key_parts key))
unfolding keys_of
keys_good text =
    cond_both (list_any (λ b. b == 0) text) None (whole_key (search_keys_at text [])) (λ o. IfSome o (λ key. PartsGood 101 (key_parts key))) (λ nul. tt) (λ none.
    whole_good (search_keys_at text []) (search_keys_good text [] (nonzero_from text none) refl))
