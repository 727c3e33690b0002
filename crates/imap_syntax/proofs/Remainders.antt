-- What a key without keys in it leaves, and what the beginning of a key does.
use Rattle.std.proofs.Common.{◌≡◌, ◌≤◌, ◌<◌, ◌||◌, ℕ, true, List, Option, Some, None, Result, Ok, Err, IfOk, arith, length, codes}
use Rattle.std.proofs.lemmas.Bool.{cond_both}
use Rattle.std.specs.Str.{str_eq_ignore_ascii_case}
use Rattle.imap_arguments.specs.Tokens.{begins, byte_at, token_at}
use Rattle.imap_arguments.specs.Numbers.{number_at}
use Rattle.imap_arguments.specs.Strings.{astring_at}
use Rattle.imap_arguments.specs.Sets.{set_at}
use Rattle.imap_arguments.specs.Flags.{keyword_at}
use Rattle.imap_arguments.specs.Dates.{date_at}
use Rattle.imap_arguments.specs.Sections.{begins_digit}
use Rattle.imap_arguments.proofs.Steps.{read_then, read_if, read_if_so, any_then, same_rest, of_read}
use Rattle.imap_arguments.proofs.Remainders.{StaysBehind, stays_within, behind_byte, byte_leaves, token_leaves, digits_leave, set_leaves, astring_leaves, keyword_leaves, date_leaves}
use Rattle.imap_syntax.specs.Keys.{ReadKey, is_date_word, date_key, argument_key, is_argument_word, is_string_word, header_key, plain_key, some_key, leaf_at, numbers_at, Opening, parenthesis, numbers, negation, either, leaf, word_opening, opening_of}
use Rattle.imap_syntax.specs.declared.key.Key as keys
use Rattle.imap_syntax.specs.declared.key.Key.{Key}

argument_leaves : (P : List ℕ → Type 0) → StaysBehind P → (word bytes : List ℕ) → P bytes → IfOk (argument_key word bytes) (λ x. P x.1)
unfolding argument_key
argument_leaves P stays word bytes here =
    let number = digits_leave P stays true bytes here in
    let name = keyword_leaves P stays bytes here in
    read_if (λ x. P x.1) (is_date_word word) _ _ (same_rest P (date_key word) (date_at bytes) (date_leaves P stays bytes here))
    (read_if (λ x. P x.1) (str_eq_ignore_ascii_case word (codes "LARGER")) _ _ (same_rest P keys.Larger (number_at bytes) number)
    (read_if (λ x. P x.1) (str_eq_ignore_ascii_case word (codes "SMALLER")) _ _ (same_rest P keys.Smaller (number_at bytes) number)
    (read_if (λ x. P x.1) (str_eq_ignore_ascii_case word (codes "KEYWORD")) _ _ (same_rest P keys.Keyword (keyword_at bytes) name)
    (read_if (λ x. P x.1) (str_eq_ignore_ascii_case word (codes "UNKEYWORD")) _ _ (same_rest P keys.Unkeyword (keyword_at bytes) name)
    (read_if (λ x. P x.1) (str_eq_ignore_ascii_case word (codes "UID")) _ _ (same_rest P keys.Uid (set_at bytes) (set_leaves P stays bytes here)) tt)))))

header_leaves : (P : List ℕ → Type 0) → StaysBehind P → (bytes : List ℕ) (literals : List (List ℕ)) → P bytes → IfOk (header_key bytes literals) (λ x. P x.rest)
unfolding header_key
header_leaves P stays bytes literals here =
    read_then (λ x. P x.rest) (λ x. P x.rest) (astring_at bytes literals) _ (astring_leaves P stays bytes literals here) (λ name left.
    read_then P (λ x. P x.rest) (byte_at 32 name.rest) _ (byte_leaves P stays 32 name.rest left) (λ behind gone.
    read_then (λ x. P x.rest) (λ x. P x.rest) (astring_at behind name.literals) _ (astring_leaves P stays behind name.literals gone) (λ text last. last)))

plain_leaves : (P : List ℕ → Type 0) (key : Option Key) (bytes : List ℕ) (literals : List (List ℕ)) → P bytes → IfOk (some_key key bytes literals) (λ x. P x.rest)
plain_leaves P None bytes literals here = tt
plain_leaves P (Some key) bytes literals here = here

pub leaf_leaves : (P : List ℕ → Type 0) → StaysBehind P → (word bytes : List ℕ) (literals : List (List ℕ)) → P bytes → IfOk (leaf_at word bytes literals) (λ x. P x.rest)
unfolding leaf_at
leaf_leaves P stays word bytes literals here =
    let space = byte_leaves P stays 32 bytes here in
    read_if (λ x. P x.rest) (is_string_word word) _ _
    (read_then P (λ x. P x.rest) (byte_at 32 bytes) _ space (λ behind left.
    read_then (λ x. P x.rest) (λ x. P x.rest) (astring_at behind literals) _ (astring_leaves P stays behind literals left) (λ text last. last)))
    (read_if (λ x. P x.rest) (is_argument_word word) _ _
    (read_then P (λ x. P x.rest) (byte_at 32 bytes) _ space (λ behind left.
    read_then (λ x. P x.1) (λ x. P x.rest) (argument_key word behind) _ (argument_leaves P stays word behind left) (λ key last. last)))
    (read_if (λ x. P x.rest) (str_eq_ignore_ascii_case word (codes "HEADER")) _ _
    (read_then P (λ x. P x.rest) (byte_at 32 bytes) _ space (λ behind left. header_leaves P stays behind literals left))
    (plain_leaves P (plain_key word) bytes literals here)))

pub numbers_leave : (P : List ℕ → Type 0) → StaysBehind P → (bytes : List ℕ) (literals : List (List ℕ)) → P bytes → IfOk (numbers_at bytes literals) (λ x. P x.rest)
numbers_leave P stays bytes literals here = read_then (λ x. P x.1) (λ x. P x.rest) (set_at bytes) _ (set_leaves P stays bytes here) (λ set left. left)

-- what stands behind the beginning of a key
abbrev pub OpensTo : (List ℕ → Type 0) → Opening → Type 0
OpensTo P (parenthesis rest) = P rest
OpensTo P (numbers rest) = P rest
OpensTo P (negation rest) = P rest
OpensTo P (either rest) = P rest
OpensTo P (leaf word rest) = P rest

word_opens : (P : List ℕ → Type 0) (word rest : List ℕ) → P rest → OpensTo P (word_opening word rest)
word_opens P word rest left =
    cond_both (str_eq_ignore_ascii_case word (codes "NOT")) (negation rest) _ (OpensTo P) (λ is. left) (λ no.
    cond_both (str_eq_ignore_ascii_case word (codes "OR")) (either rest) (leaf word rest) (OpensTo P) (λ is. left) (λ none. left))

pub opening_leaves : (P : List ℕ → Type 0) → StaysBehind P → (bytes : List ℕ) → P bytes → IfOk (opening_of bytes) (OpensTo P)
unfolding opening_of
opening_leaves P stays bytes here =
    read_if (OpensTo P) (begins 40 bytes) _ _ (stays 1 bytes here)
    (read_if (OpensTo P) (begins_digit bytes || begins 42 bytes) _ _ here
    (read_then (λ x. P x.1) (OpensTo P) (token_at bytes) _ (token_leaves P stays bytes here) (λ token left. word_opens P token.0 token.1 left)))

-- in parentheses the text is shorter
abbrev ShorterInside : ℕ → Opening → Type 0
ShorterInside long (parenthesis rest) = length rest < long
ShorterInside long (numbers rest) = Unit {0}
ShorterInside long (negation rest) = Unit {0}
ShorterInside long (either rest) = Unit {0}
ShorterInside long (leaf word rest) = Unit {0}

word_inside : (long : ℕ) (word rest : List ℕ) → ShorterInside long (word_opening word rest)
word_inside long word rest =
    cond_both (str_eq_ignore_ascii_case word (codes "NOT")) (negation rest) _ (ShorterInside long) (λ is. tt) (λ no.
    cond_both (str_eq_ignore_ascii_case word (codes "OR")) (either rest) (leaf word rest) (ShorterInside long) (λ is. tt) (λ none. tt))

opening_inside : (bytes : List ℕ) → IfOk (opening_of bytes) (ShorterInside (length bytes))
unfolding opening_of
opening_inside bytes =
    read_if_so (ShorterInside (length bytes)) (begins 40 bytes) _ _ (λ is. behind_byte 40 bytes is) (λ no.
    read_if (ShorterInside (length bytes)) (begins_digit bytes || begins 42 bytes) _ _ tt
    (any_then (ShorterInside (length bytes)) (token_at bytes) _ (λ token. word_inside (length bytes) token.0 token.1)))

pub shorter_inside : (bytes inner : List ℕ) → opening_of bytes ≡ Ok (parenthesis inner) → length inner < length bytes
shorter_inside bytes inner is = of_read (ShorterInside (length bytes)) (opening_of bytes) (parenthesis inner) (opening_inside bytes) is

-- nowhere is it longer
pub opens_within : (bytes : List ℕ) (opening : Opening) → opening_of bytes ≡ Ok opening → OpensTo (λ rest. length rest ≤ length bytes) opening
opens_within bytes opening is =
    of_read (OpensTo (λ rest. length rest ≤ length bytes)) (opening_of bytes) opening (opening_leaves (λ rest. length rest ≤ length bytes) (stays_within (length bytes)) bytes (omega arith)) is

pub leaf_within : (word bytes : List ℕ) (literals : List (List ℕ)) (key : ReadKey) → leaf_at word bytes literals ≡ Ok key → length key.rest ≤ length bytes
leaf_within word bytes literals key is =
    of_read (λ x. length x.rest ≤ length bytes) (leaf_at word bytes literals) key (leaf_leaves (λ rest. length rest ≤ length bytes) (stays_within (length bytes)) word bytes literals (omega arith)) is

pub numbers_within : (bytes : List ℕ) (literals : List (List ℕ)) (key : ReadKey) → numbers_at bytes literals ≡ Ok key → length key.rest ≤ length bytes
numbers_within bytes literals key is =
    of_read (λ x. length x.rest ≤ length bytes) (numbers_at bytes literals) key (numbers_leave (λ rest. length rest ≤ length bytes) (stays_within (length bytes)) bytes literals (omega arith)) is

pub ok_so : {A E : Type 0} (P Q : A → Type 0) (result : Result A E) → ((x : A) → P x → Q x) → IfOk result P → IfOk result Q
ok_so P Q (Ok x) so is = so x is
ok_so P Q (Err e) so is = tt
