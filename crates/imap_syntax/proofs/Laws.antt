-- What is read as a command has no NUL, no 0 where a number may not be 0, and keys in keys on 101 levels at most.
use Rattle.std.proofs.Common.{◌≡◌, ◌≤◌, ◌==◌, ℕ, ℤ, zero, suc, max, true, not, List, [], ◌∷◌, ◌++◌, map, Option, Some, None, IfOk, IfSome, flat_map, length, codes, arith, refl, sym, subst}
use Rattle.std.proofs.lemmas.Bool.{cond_both, and_from}
use Rattle.std.specs.List.{list_all}
use Rattle.std.specs.Str.{str_eq_ignore_ascii_case}
use Rattle.imap_arguments.specs.Readings.{Read}
use Rattle.imap_arguments.specs.Tokens.{byte_at}
use Rattle.imap_arguments.specs.Numbers.{number_at}
use Rattle.imap_arguments.specs.Strings.{astring_at}
use Rattle.imap_arguments.specs.Sets.{set_at}
use Rattle.imap_arguments.specs.Flags.{keyword_at}
use Rattle.imap_arguments.specs.Dates.{date_at}
use Rattle.imap_arguments.specs.Laws.{nonzero, set_numbers}
use Rattle.imap_arguments.proofs.Steps.{read_then, read_if, read_both, some_if}
use Rattle.imap_arguments.proofs.NonZero.{all_both}
use Rattle.imap_arguments.proofs.Remainders.{byte_leaves, digits_leave, set_leaves, date_leaves, separated_keeps}
use Rattle.imap_arguments.proofs.Laws.{Clean, AllClean, clean_behind, TakenClean, astring_clean, keyword_clean, set_nonzero}
use Rattle.imap_syntax.specs.Keys.{ReadKey, ReadKeys, opposite_key, plain_key, is_date_word, date_key, argument_key, is_argument_word, is_string_word, string_key, header_key, some_key, leaf_at, numbers_at, Opening, parenthesis, numbers, negation, either, leaf, opening_of, add_key, keys_with, closed, key_of, key_at, all_of, search_keys_at}
use Rattle.imap_syntax.specs.Laws.{KeyParts, leaf_parts, deepest, key_step, key_parts}
use Rattle.imap_syntax.specs.declared.key.Key.{Key}
use Rattle.imap_syntax.specs.declared.key.Key as keys
use Rattle.imap_syntax.specs.declared.key.Key.TheOpen as open_key
use Rattle.imap_syntax.proofs.Remainders.{OpensTo, opening_leaves}
use Rattle.imap_syntax.proofs.KeyParts as parts

-- a key on so many levels at most
abbrev pub PartsGood : ℕ → KeyParts → Type 0
PartsGood levels parts = (parts.depth ≤ levels) × (nonzero parts.numbers ≡ true) × AllClean parts.texts

abbrev pub KeyGood : ℕ → Key → Type 0
KeyGood levels key = PartsGood levels (key_parts key)

abbrev pub ReadGood : ℕ → ReadKey → Type 0
ReadGood levels x = KeyGood levels x.key × Clean x.rest × AllClean x.literals

leaf_good : (levels : ℕ) (key : Key) (sizes : List ℕ) (texts : List (List ℕ)) → key_parts key ≡ leaf_parts sizes texts → nonzero sizes ≡ true → AllClean texts → KeyGood (suc levels) key
leaf_good levels key sizes texts is are all =
    let shallow : 1 ≤ suc levels = omega arith in
    let good : PartsGood (suc levels) (leaf_parts sizes texts) = (shallow, are, all) in
    subst (PartsGood (suc levels)) (sym is) good

bare : (levels : ℕ) (key : Key) → key_parts key ≡ leaf_parts [] [] → KeyGood (suc levels) key
bare levels key is = leaf_good levels key [] [] is refl refl

with_text : (levels : ℕ) (key : Key) (text : List ℕ) → key_parts key ≡ leaf_parts [] (text ∷ []) → Clean text → KeyGood (suc levels) key
with_text levels key text is clean = leaf_good levels key [] (text ∷ []) is refl (and_from (nonzero text) true clean refl)

-- keys of one word
opposite_good : (levels : ℕ) (word : List ℕ) → IfSome (opposite_key word) (KeyGood (suc levels))
opposite_good levels word =
    some_if (KeyGood (suc levels)) (str_eq_ignore_ascii_case word (codes "UNANSWERED")) keys.Unanswered _ (bare levels keys.Unanswered parts.in_Unanswered)
    (some_if (KeyGood (suc levels)) (str_eq_ignore_ascii_case word (codes "UNDELETED")) keys.Undeleted _ (bare levels keys.Undeleted parts.in_Undeleted)
    (some_if (KeyGood (suc levels)) (str_eq_ignore_ascii_case word (codes "UNDRAFT")) keys.Undraft _ (bare levels keys.Undraft parts.in_Undraft)
    (some_if (KeyGood (suc levels)) (str_eq_ignore_ascii_case word (codes "UNFLAGGED")) keys.Unflagged _ (bare levels keys.Unflagged parts.in_Unflagged)
    (some_if (KeyGood (suc levels)) (str_eq_ignore_ascii_case word (codes "UNSEEN")) keys.Unseen _ (bare levels keys.Unseen parts.in_Unseen)
    (some_if (KeyGood (suc levels)) (str_eq_ignore_ascii_case word (codes "NEW")) keys.New _ (bare levels keys.New parts.in_New)
    (some_if (KeyGood (suc levels)) (str_eq_ignore_ascii_case word (codes "OLD")) keys.Old _ (bare levels keys.Old parts.in_Old) tt))))))

plain_good : (levels : ℕ) (word : List ℕ) → IfSome (plain_key word) (KeyGood (suc levels))
plain_good levels word =
    some_if (KeyGood (suc levels)) (str_eq_ignore_ascii_case word (codes "ALL")) keys.All _ (bare levels keys.All parts.in_All)
    (some_if (KeyGood (suc levels)) (str_eq_ignore_ascii_case word (codes "ANSWERED")) keys.Answered _ (bare levels keys.Answered parts.in_Answered)
    (some_if (KeyGood (suc levels)) (str_eq_ignore_ascii_case word (codes "DELETED")) keys.Deleted _ (bare levels keys.Deleted parts.in_Deleted)
    (some_if (KeyGood (suc levels)) (str_eq_ignore_ascii_case word (codes "DRAFT")) keys.Draft _ (bare levels keys.Draft parts.in_Draft)
    (some_if (KeyGood (suc levels)) (str_eq_ignore_ascii_case word (codes "FLAGGED")) keys.Flagged _ (bare levels keys.Flagged parts.in_Flagged)
    (some_if (KeyGood (suc levels)) (str_eq_ignore_ascii_case word (codes "SEEN")) keys.Seen _ (bare levels keys.Seen parts.in_Seen)
    (some_if (KeyGood (suc levels)) (str_eq_ignore_ascii_case word (codes "RECENT")) keys.Recent _ (bare levels keys.Recent parts.in_Recent) (opposite_good levels word)))))))

some_key_good : (levels : ℕ) (key : Option Key) (bytes : List ℕ) (literals : List (List ℕ)) → IfSome key (KeyGood levels) → Clean bytes → AllClean literals → IfOk (some_key key bytes literals) (ReadGood levels)
some_key_good levels None bytes literals is here all = tt
some_key_good levels (Some key) bytes literals is here all = (is, here, all)

-- keys with a string, a date, a number, a keyword or a set
text_good : (levels : ℕ) (word text : List ℕ) → Clean text → KeyGood (suc levels) (string_key word text)
text_good levels word text clean =
    let good : Key → Type 0 = KeyGood (suc levels) in
    cond_both (str_eq_ignore_ascii_case word (codes "BCC")) (keys.Bcc text) _ good (λ is. with_text levels (keys.Bcc text) text (parts.in_Bcc text) clean) (λ no.
    cond_both (str_eq_ignore_ascii_case word (codes "CC")) (keys.Cc text) _ good (λ is. with_text levels (keys.Cc text) text (parts.in_Cc text) clean) (λ no.
    cond_both (str_eq_ignore_ascii_case word (codes "FROM")) (keys.From text) _ good (λ is. with_text levels (keys.From text) text (parts.in_From text) clean) (λ no.
    cond_both (str_eq_ignore_ascii_case word (codes "SUBJECT")) (keys.Subject text) _ good (λ is. with_text levels (keys.Subject text) text (parts.in_Subject text) clean) (λ no.
    cond_both (str_eq_ignore_ascii_case word (codes "TO")) (keys.To text) _ good (λ is. with_text levels (keys.To text) text (parts.in_To text) clean) (λ no.
    cond_both (str_eq_ignore_ascii_case word (codes "BODY")) (keys.Body text) _ good (λ is. with_text levels (keys.Body text) text (parts.in_Body text) clean) (λ no.
    with_text levels (keys.Text text) text (parts.in_Text text) clean))))))

date_good : (levels : ℕ) (word : List ℕ) (day : ℤ) → KeyGood (suc levels) (date_key word day)
date_good levels word day =
    let good : Key → Type 0 = KeyGood (suc levels) in
    cond_both (str_eq_ignore_ascii_case word (codes "BEFORE")) (keys.Before day) _ good (λ is. bare levels (keys.Before day) (parts.in_Before day)) (λ no.
    cond_both (str_eq_ignore_ascii_case word (codes "ON")) (keys.On day) _ good (λ is. bare levels (keys.On day) (parts.in_On day)) (λ no.
    cond_both (str_eq_ignore_ascii_case word (codes "SINCE")) (keys.Since day) _ good (λ is. bare levels (keys.Since day) (parts.in_Since day)) (λ no.
    cond_both (str_eq_ignore_ascii_case word (codes "SENTBEFORE")) (keys.SentBefore day) _ good (λ is. bare levels (keys.SentBefore day) (parts.in_SentBefore day)) (λ no.
    cond_both (str_eq_ignore_ascii_case word (codes "SENTON")) (keys.SentOn day) _ good (λ is. bare levels (keys.SentOn day) (parts.in_SentOn day)) (λ no.
    bare levels (keys.SentSince day) (parts.in_SentSince day))))))

set_good : (bytes : List ℕ) → Clean bytes → IfOk (set_at bytes) (λ x. (nonzero (set_numbers x.0) ≡ true) × Clean x.1)
set_good bytes here = read_both (λ x. nonzero (set_numbers x.0) ≡ true) (λ x. Clean x.1) (set_at bytes) (set_nonzero bytes) (set_leaves Clean clean_behind bytes here)

abbrev ArgumentGood : ℕ → Key × List ℕ → Type 0
ArgumentGood levels x = KeyGood levels x.0 × Clean x.1

argument_good : (levels : ℕ) (word bytes : List ℕ) → Clean bytes → IfOk (argument_key word bytes) (ArgumentGood (suc levels))
unfolding argument_key
argument_good levels word bytes here =
    let good : Key × List ℕ → Type 0 = ArgumentGood (suc levels) in
    let number = digits_leave Clean clean_behind true bytes here in
    let name = keyword_clean bytes here in
    read_if good (is_date_word word) _ _ (read_then (λ x. Clean x.1) good (date_at bytes) _ (date_leaves Clean clean_behind bytes here) (λ date left. (date_good levels word date.0, left)))
    (read_if good (str_eq_ignore_ascii_case word (codes "LARGER")) _ _ (read_then (λ x. Clean x.1) good (number_at bytes) _ number (λ n left. (bare levels (keys.Larger n.0) (parts.in_Larger n.0), left)))
    (read_if good (str_eq_ignore_ascii_case word (codes "SMALLER")) _ _ (read_then (λ x. Clean x.1) good (number_at bytes) _ number (λ n left. (bare levels (keys.Smaller n.0) (parts.in_Smaller n.0), left)))
    (read_if good (str_eq_ignore_ascii_case word (codes "KEYWORD")) _ _
    (read_then (λ x. Clean x.0 × Clean x.1) good (keyword_at bytes) _ name (λ n both. (with_text levels (keys.Keyword n.0) n.0 (parts.in_Keyword n.0) both.0, both.1)))
    (read_if good (str_eq_ignore_ascii_case word (codes "UNKEYWORD")) _ _
    (read_then (λ x. Clean x.0 × Clean x.1) good (keyword_at bytes) _ name (λ n both. (with_text levels (keys.Unkeyword n.0) n.0 (parts.in_Unkeyword n.0) both.0, both.1)))
    (read_if good (str_eq_ignore_ascii_case word (codes "UID")) _ _
    (read_then (λ x. (nonzero (set_numbers x.0) ≡ true) × Clean x.1) good (set_at bytes) _ (set_good bytes here) (λ set both.
    (leaf_good levels (keys.Uid set.0) (set_numbers set.0) [] (parts.in_Uid set.0) both.0 refl, both.1))) tt)))))

header_good : (levels : ℕ) (bytes : List ℕ) (literals : List (List ℕ)) → Clean bytes → AllClean literals → IfOk (header_key bytes literals) (ReadGood (suc levels))
unfolding header_key
header_good levels bytes literals here all =
    read_then TakenClean (ReadGood (suc levels)) (astring_at bytes literals) _ (astring_clean bytes literals here all) (λ name is.
    read_then Clean (ReadGood (suc levels)) (byte_at 32 name.rest) _ (byte_leaves Clean clean_behind 32 name.rest is.1) (λ behind left.
    read_then TakenClean (ReadGood (suc levels)) (astring_at behind name.literals) _ (astring_clean behind name.literals left is.2) (λ text are. (
      leaf_good levels (keys.Header name.value text.value) [] (name.value ∷ text.value ∷ []) (parts.in_Header name.value text.value) refl
          (and_from (nonzero name.value) (list_all nonzero (text.value ∷ [])) is.0 (and_from (nonzero text.value) true are.0 refl)),
      are.1,
      are.2,
    ))))

leaf_read : (levels : ℕ) (word bytes : List ℕ) (literals : List (List ℕ)) → Clean bytes → AllClean literals → IfOk (leaf_at word bytes literals) (ReadGood (suc levels))
unfolding leaf_at
leaf_read levels word bytes literals here all =
    let space = byte_leaves Clean clean_behind 32 bytes here in
    read_if (ReadGood (suc levels)) (is_string_word word) _ _
    (read_then Clean (ReadGood (suc levels)) (byte_at 32 bytes) _ space (λ behind left.
    read_then TakenClean (ReadGood (suc levels)) (astring_at behind literals) _ (astring_clean behind literals left all) (λ text is. (text_good levels word text.value is.0, is.1, is.2))))
    (read_if (ReadGood (suc levels)) (is_argument_word word) _ _
    (read_then Clean (ReadGood (suc levels)) (byte_at 32 bytes) _ space (λ behind left.
    read_then (ArgumentGood (suc levels)) (ReadGood (suc levels)) (argument_key word behind) _ (argument_good levels word behind left) (λ key is. (is.0, is.1, all))))
    (read_if (ReadGood (suc levels)) (str_eq_ignore_ascii_case word (codes "HEADER")) _ _
    (read_then Clean (ReadGood (suc levels)) (byte_at 32 bytes) _ space (λ behind left. header_good levels behind literals left all))
    (some_key_good (suc levels) (plain_key word) bytes literals (plain_good levels word) here all)))

numbers_good : (levels : ℕ) (bytes : List ℕ) (literals : List (List ℕ)) → Clean bytes → AllClean literals → IfOk (numbers_at bytes literals) (ReadGood (suc levels))
numbers_good levels bytes literals here all =
    read_then (λ x. (nonzero (set_numbers x.0) ≡ true) × Clean x.1) (ReadGood (suc levels)) (set_at bytes) _ (set_good bytes here) (λ set both.
    (leaf_good levels (keys.Numbers set.0) (set_numbers set.0) [] (parts.in_Numbers set.0) both.0 refl, both.1, all))

-- keys in keys
not_good : (levels : ℕ) (key : Key) → KeyGood levels key → KeyGood (suc levels) (keys.Not key)
not_good levels key good =
    let deeper : suc (key_parts key).depth ≤ suc levels = omega (arith, good.0) in
    let whole : PartsGood (suc levels) (key_step (open_key.Not (key_parts key))) = (deeper, good.1, good.2) in
    subst (PartsGood (suc levels)) (sym (parts.in_Not key)) whole

or_good : (levels : ℕ) (one other : Key) → KeyGood levels one → KeyGood levels other → KeyGood (suc levels) (keys.Or one other)
or_good levels one other good best =
    let deeper : suc (max (key_parts one).depth (key_parts other).depth) ≤ suc levels = omega (arith, good.0, best.0) in
    let whole : PartsGood (suc levels) (key_step (open_key.Or (key_parts one) (key_parts other))) =
    (deeper, all_both (λ n. not (n == 0)) (key_parts one).numbers (key_parts other).numbers good.1 best.1, all_both nonzero (key_parts one).texts (key_parts other).texts good.2 best.2) in
    subst (PartsGood (suc levels)) (sym (parts.in_Or one other)) whole

abbrev KeysGood : ℕ → List Key → Type 0
KeysGood levels [] = Unit {0}
KeysGood levels (key ∷ more) = KeyGood levels key × KeysGood levels more

keys_push : (levels : ℕ) (before : List Key) (key : Key) → KeysGood levels before → KeyGood levels key → KeysGood levels (before ++ key ∷ [])
keys_push levels [] key are is = (is, tt)
keys_push levels (first ∷ before) key are is = (are.0, keys_push levels before key are.1 is)

abbrev ListGood : ℕ → List KeyParts → Type 0
ListGood levels all = (deepest all ≤ levels) × (nonzero (flat_map (λ parts. parts.numbers) all) ≡ true) × AllClean (flat_map (λ parts. parts.texts) all)

list_good : (levels : ℕ) (all : List Key) → KeysGood levels all → ListGood levels (map key_parts all)
list_good levels [] are = (omega arith, refl, refl)
list_good levels (key ∷ more) are =
    let rest = list_good levels more are.1 in
    let deeper : max (key_parts key).depth (deepest (map key_parts more)) ≤ levels = omega (arith, are.0.0, rest.0) in (
      deeper,
      all_both (λ n. not (n == 0)) (key_parts key).numbers (flat_map (λ parts. parts.numbers) (map key_parts more)) are.0.1 rest.1,
      all_both nonzero (key_parts key).texts (flat_map (λ parts. parts.texts) (map key_parts more)) are.0.2 rest.2,
    )

all_good : (levels : ℕ) (all : List Key) → KeysGood levels all → KeyGood (suc levels) (keys.AllOf all)
all_good levels all are =
    let good = list_good levels all are in
    let deeper : suc (deepest (map key_parts all)) ≤ suc levels = omega (arith, good.0) in
    let whole : PartsGood (suc levels) (key_step (open_key.AllOf (map key_parts all))) = (deeper, good.1, good.2) in
    subst (PartsGood (suc levels)) (sym (parts.in_AllOf all)) whole

-- keys with a space between them
abbrev SeveralGood : ℕ → ReadKeys × List ℕ → Type 0
SeveralGood levels x = KeysGood levels x.0.keys × AllClean x.0.literals × Clean x.1

abbrev ReadsGood : ℕ → (List ℕ → List (List ℕ) → Read ReadKey) → Type 0
ReadsGood levels inner = (bytes : List ℕ) (literals : List (List ℕ)) → Clean bytes → AllClean literals → IfOk (inner bytes literals) (ReadGood levels)

more_good : (levels : ℕ) (inner : List ℕ → List (List ℕ) → Read ReadKey) → ReadsGood levels inner → (before : ReadKeys) (bytes : List ℕ) → SeveralGood levels (before, bytes)
    → IfOk (add_key inner before bytes) (SeveralGood levels)
more_good levels inner reads before bytes all =
    read_then (ReadGood levels) (SeveralGood levels) (inner bytes before.literals) _ (reads bytes before.literals all.2 all.1) (λ key is. (keys_push levels before.keys key.key all.0 is.0, is.2, is.1))

several_good : (levels : ℕ) (inner : List ℕ → List (List ℕ) → Read ReadKey) → ReadsGood levels inner → (bytes : List ℕ) (literals : List (List ℕ)) → Clean bytes → AllClean literals
    → IfOk (keys_with inner bytes literals) (SeveralGood levels)
several_good levels inner reads bytes literals here all =
    separated_keeps (SeveralGood levels) (λ x is. (is.0, is.1, clean_behind 1 x.1 is.2)) 32 (add_key inner) (more_good levels inner reads) (length bytes) (record { keys = []; literals = literals }) bytes (tt, all, here)

closed_good : (levels : ℕ) (all : ReadKeys × List ℕ) → SeveralGood levels all → IfOk (closed all) (ReadGood (suc levels))
closed_good levels all are =
    read_then Clean (ReadGood (suc levels)) (byte_at 41 all.1) _ (byte_leaves Clean clean_behind 41 all.1 are.2) (λ rest left. (all_good levels all.0.keys are.0, left, are.1))

of_good : (levels : ℕ) (inner : List ℕ → List (List ℕ) → Read ReadKey) → ReadsGood levels inner → (literals : List (List ℕ)) (opening : Opening) → AllClean literals → OpensTo Clean opening
    → IfOk (key_of inner literals opening) (ReadGood (suc levels))
of_good levels inner reads literals (parenthesis bytes) all here =
    read_then (SeveralGood levels) (ReadGood (suc levels)) (keys_with inner bytes literals) closed (several_good levels inner reads bytes literals here all) (closed_good levels)
of_good levels inner reads literals (numbers bytes) all here = numbers_good levels bytes literals here all
of_good levels inner reads literals (negation rest) all here =
    read_then Clean (ReadGood (suc levels)) (byte_at 32 rest) _ (byte_leaves Clean clean_behind 32 rest here) (λ behind left.
    read_then (ReadGood levels) (ReadGood (suc levels)) (inner behind literals) _ (reads behind literals left all) (λ key is. (not_good levels key.key is.0, is.1, is.2)))
of_good levels inner reads literals (either rest) all here =
    read_then Clean (ReadGood (suc levels)) (byte_at 32 rest) _ (byte_leaves Clean clean_behind 32 rest here) (λ behind left.
    read_then (ReadGood levels) (ReadGood (suc levels)) (inner behind literals) _ (reads behind literals left all) (λ one is.
    read_then Clean (ReadGood (suc levels)) (byte_at 32 one.rest) _ (byte_leaves Clean clean_behind 32 one.rest is.1) (λ after gone.
    read_then (ReadGood levels) (ReadGood (suc levels)) (inner after one.literals) _ (reads after one.literals gone is.2) (λ other are. (or_good levels one.key other.key is.0 are.0, are.1, are.2)))))
of_good levels inner reads literals (leaf word rest) all here = leaf_read levels word rest literals here all

key_good : (levels : ℕ) → ReadsGood levels (key_at levels)
key_good zero bytes literals here all = tt
key_good (suc levels) bytes literals here all =
    read_then (OpensTo Clean) (ReadGood (suc levels)) (opening_of bytes) _ (opening_leaves Clean clean_behind bytes here) (λ opening is. of_good levels (key_at levels) (key_good levels) literals opening all is)

-- one level more holds them all
one_more : (levels : ℕ) (all : List Key) → KeysGood levels all → KeyGood (suc levels) (all_of all)
one_more levels [] are = all_good levels [] are
one_more levels (key ∷ []) are =
    let shallow : (key_parts key).depth ≤ suc levels = omega (arith, are.0.0) in
    (shallow, are.0.1, are.0.2)
one_more levels (one ∷ other ∷ more) are = all_good levels (one ∷ other ∷ more) are

pub search_keys_good : (bytes : List ℕ) (literals : List (List ℕ)) → Clean bytes → AllClean literals → IfOk (search_keys_at bytes literals) (ReadGood 101)
unfolding search_keys_at
search_keys_good bytes literals here all =
    read_then (SeveralGood 100) (ReadGood 101) (keys_with (key_at 100) bytes literals) _ (several_good 100 (key_at 100) (key_good 100) bytes literals here all) (λ found are.
    (one_more 100 found.0.keys are.0, are.2, are.1))
