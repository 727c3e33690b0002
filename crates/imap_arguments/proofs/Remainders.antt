-- A reader leaves its text behind some of its bytes: what holds of a text, and behind each of its bytes too, holds of what is left.
use Rattle.std.proofs.Common.{◌≡◌, ◌≤◌, ◌<◌, ℕ, ℤ, zero, suc, Bool, true, false, List, arith, length-drop, [], ◌∷◌, ◌++◌, ◌==◌, ◌||◌, ◌&&◌, Option, Some, None, Ok, Err, IfOk, IfSome, nat_le, take, drop, length, if◌then◌else◌}
use Rattle.std.proofs.lemmas.Bool.{false≢true}
use Rattle.std.specs.List.{prefix_len}
use Rattle.std.specs.Char.{is_ascii_digit}
use Rattle.mail_fields.specs.Keyword.{is_atom}
use Rattle.imap_arguments.specs.Readings.{Read, ◌>>=◌}
use Rattle.imap_arguments.specs.Tokens.{begins, broken_off, byte_at, token_at, separated}
use Rattle.imap_arguments.specs.Numbers.{number_in, digits_at, nonzero_at}
use Rattle.imap_arguments.specs.Sets.{end_at, range_at, add_range, set_at}
use Rattle.imap_arguments.specs.Strings.{Taken, is_astring, quoted_from, quoted_at, behind_close, behind_size, behind_mark, take_literal, literal_at, string_of, astring_at}
use Rattle.imap_arguments.specs.Flags.{keyword_at}
use Rattle.imap_arguments.specs.Dates.{day_of, date_at, stamp_in, date_time_at}
use Rattle.imap_arguments.specs.Items.{status_item, some_status, status_at, add_status, inner_statuses_at, status_list_at}
use Rattle.imap_arguments.specs.declared.item.StatusItem.{StatusItem}
use Rattle.imap_arguments.specs.declared.set.End.{End}
use Rattle.imap_arguments.specs.declared.set.End.TheVariants.{Number, Largest}
use Rattle.imap_arguments.specs.declared.reason.Reason.TheVariants.{NotUnderstood}
use Rattle.imap_arguments.proofs.Steps.{chosen, read_then, read_if, read_chosen, any_then}

abbrev pub StaysBehind : (List ℕ → Type 0) → Type 0
StaysBehind P = (n : ℕ) (bytes : List ℕ) → P bytes → P (drop n bytes)

pub byte_leaves : (P : List ℕ → Type 0) → StaysBehind P → (byte : ℕ) (bytes : List ℕ) → P bytes → IfOk (byte_at byte bytes) P
byte_leaves P stays byte bytes here = read_if P (begins byte bytes) (Ok (drop 1 bytes)) (Err (broken_off bytes)) (stays 1 bytes here) tt

pub token_leaves : (P : List ℕ → Type 0) → StaysBehind P → (bytes : List ℕ) → P bytes → IfOk (token_at bytes) (λ x. P x.1)
unfolding token_at
token_leaves P stays bytes here =
    let width = prefix_len is_atom bytes in
    read_if (λ x. P x.1) (width == 0) (Err (broken_off bytes)) (Ok (take width bytes, drop width bytes)) tt (stays width bytes here)

-- what each of a list keeps, and stays behind the byte between them
pub separated_keeps : {A : Type 0} (R : A × List ℕ → Type 0) → ((x : A × List ℕ) → R x → R (x.0, drop 1 x.1)) → (byte : ℕ) (one : A → List ℕ → Read (A × List ℕ))
    → ((before : A) (bytes : List ℕ) → R (before, bytes) → IfOk (one before bytes) R) → (n : ℕ) (before : A) (bytes : List ℕ) → R (before, bytes) → IfOk (separated byte one n before bytes) R
separated_keeps R stays byte one each zero before bytes here = tt
separated_keeps R stays byte one each (suc n) before bytes here =
    read_then R R (one before bytes) (λ found. chosen (begins byte found.1) (separated byte one n found.0 (drop 1 found.1)) (Ok found)) (each before bytes here) (λ found left.
    read_chosen R (begins byte found.1) (separated byte one n found.0 (drop 1 found.1)) (Ok found)
    (separated_keeps R stays byte one each n found.0 (drop 1 found.1) (stays found left)) left)

pub separated_leaves : {A : Type 0} (P : List ℕ → Type 0) → StaysBehind P → (byte : ℕ) (one : A → List ℕ → Read (A × List ℕ))
    → ((before : A) (bytes : List ℕ) → P bytes → IfOk (one before bytes) (λ x. P x.1))
    → (n : ℕ) (before : A) (bytes : List ℕ) → P bytes → IfOk (separated byte one n before bytes) (λ x. P x.1)
separated_leaves P stays byte one each n before bytes here = separated_keeps (λ x. P x.1) (λ x. stays 1 x.1) byte one each n before bytes here

pub digits_leave : (P : List ℕ → Type 0) → StaysBehind P → (zero_counts : Bool) (bytes : List ℕ) → P bytes → IfOk (digits_at zero_counts bytes) (λ x. P x.1)
unfolding digits_at
digits_leave P stays zero_counts bytes here =
    let width = prefix_len is_ascii_digit bytes in
    read_if (λ x. P x.1) (width == 0) (Err (broken_off bytes)) (number_in zero_counts (take width bytes) >>= λ n. Ok (n, drop width bytes)) tt
    (any_then (λ x. P x.1) (number_in zero_counts (take width bytes)) (λ n. Ok (n, drop width bytes)) (λ n. stays width bytes here))

pub end_leaves : (P : List ℕ → Type 0) → StaysBehind P → (bytes : List ℕ) → P bytes → IfOk (end_at bytes) (λ x. P x.1)
unfolding end_at
end_leaves P stays bytes here =
    read_if (λ x. P x.1) (begins 42 bytes) (Ok (Largest, drop 1 bytes)) (nonzero_at bytes >>= λ number. Ok (Number number.0, number.1)) (stays 1 bytes here)
    (read_then (λ x. P x.1) (λ x. P x.1) (nonzero_at bytes) (λ number. Ok (Number number.0, number.1)) (digits_leave P stays false bytes here) (λ number left. left))

pub range_leaves : (P : List ℕ → Type 0) → StaysBehind P → (bytes : List ℕ) → P bytes → IfOk (range_at bytes) (λ x. P x.1)
unfolding range_at
range_leaves P stays bytes here =
    read_then (λ x. P x.1) (λ x. P x.1) (end_at bytes) _ (end_leaves P stays bytes here) (λ one left.
    read_if (λ x. P x.1) (begins 58 one.1) (end_at (drop 1 one.1) >>= λ other. Ok ((one.0, other.0), other.1)) (Ok ((one.0, one.0), one.1))
    (read_then (λ x. P x.1) (λ x. P x.1) (end_at (drop 1 one.1)) (λ other. Ok ((one.0, other.0), other.1)) (end_leaves P stays (drop 1 one.1) (stays 1 one.1 left)) (λ other gone. gone))
    left)

range_more : (P : List ℕ → Type 0) → StaysBehind P → (before : List (End × End)) (bytes : List ℕ) → P bytes → IfOk (add_range before bytes) (λ x. P x.1)
range_more P stays before bytes here =
    read_then (λ x. P x.1) (λ x. P x.1) (range_at bytes) (λ range. Ok (before ++ range.0 ∷ [], range.1)) (range_leaves P stays bytes here) (λ range left. left)

pub set_leaves : (P : List ℕ → Type 0) → StaysBehind P → (bytes : List ℕ) → P bytes → IfOk (set_at bytes) (λ x. P x.1)
unfolding set_at
set_leaves P stays bytes here =
    read_then (λ x. P x.1) (λ x. P x.1) (separated 44 add_range (length bytes) [] bytes) (λ ranges. Ok (record { ranges = ranges.0 }, ranges.1))
    (separated_leaves P stays 44 add_range (range_more P stays) (length bytes) [] bytes here) (λ ranges left. left)

pub quoted_leaves : (P : List ℕ → Type 0) → StaysBehind P → (escaped : Bool) (before bytes : List ℕ) → P bytes → IfOk (quoted_from escaped before bytes) (λ x. P x.1)
quoted_leaves P stays escaped before [] here = tt
quoted_leaves P stays true before (b ∷ rest) here =
    read_chosen (λ x. P x.1) ((b == 34) || (b == 92)) (quoted_from false (before ++ b ∷ []) rest) (Err NotUnderstood)
    (quoted_leaves P stays false (before ++ b ∷ []) rest (stays 1 (b ∷ rest) here)) tt
quoted_leaves P stays false before (b ∷ rest) here =
    let left : P rest = stays 1 (b ∷ rest) here in
    let plain : Read (List ℕ × List ℕ) = chosen ((b == 13) || (b == 10)) (Err NotUnderstood) (quoted_from false (before ++ b ∷ []) rest) in
    read_chosen (λ x. P x.1) (b == 34) (Ok (before, rest)) (chosen (b == 92) (quoted_from true before rest) plain) left
    (read_chosen (λ x. P x.1) (b == 92) (quoted_from true before rest) plain (quoted_leaves P stays true before rest left)
    (read_chosen (λ x. P x.1) ((b == 13) || (b == 10)) (Err NotUnderstood) (quoted_from false (before ++ b ∷ []) rest) tt (quoted_leaves P stays false (before ++ b ∷ []) rest left)))

some_if : (P : List ℕ → Type 0) (test : Bool) (found : Option (List ℕ)) → IfSome found P → IfSome (if test then found else None) P
some_if P true found is = is
some_if P false found is = tt

pub mark_leaves : (P : List ℕ → Type 0) → StaysBehind P → (bytes : List ℕ) → P bytes → IfSome (behind_mark bytes) P
mark_leaves P stays bytes here =
    let behind = drop 1 bytes in
    let width = prefix_len is_ascii_digit behind in
    let close = drop width behind in
    some_if P (begins 123 bytes) (behind_size behind)
    (some_if P (nat_le 1 width && nat_le width 10) (behind_close close)
    (some_if P (begins 125 close && (begins 13 (drop 1 close) && begins 10 (drop 2 close))) (Some (drop 3 close)) (stays 3 close (stays width behind (stays 1 bytes here)))))

taken_leaves : (P : List ℕ → Type 0) (bytes : List ℕ) (mark : Option (List ℕ)) (literals : List (List ℕ)) → IfSome mark P → IfOk (take_literal bytes mark literals) (λ x. P x.rest)
taken_leaves P bytes None literals left = tt
taken_leaves P bytes (Some rest) [] left = tt
taken_leaves P bytes (Some rest) (value ∷ literals) left = left

pub literal_leaves : (P : List ℕ → Type 0) → StaysBehind P → (bytes : List ℕ) (literals : List (List ℕ)) → P bytes → IfOk (literal_at bytes literals) (λ x. P x.rest)
literal_leaves P stays bytes literals here = taken_leaves P bytes (behind_mark bytes) literals (mark_leaves P stays bytes here)

pub string_leaves : (P : List ℕ → Type 0) → StaysBehind P → (width : ℕ) (bytes : List ℕ) (literals : List (List ℕ)) → P bytes → IfOk (string_of width bytes literals) (λ x. P x.rest)
string_leaves P stays width bytes literals here =
    let bare : Read Taken = Ok (record { value = take width bytes; rest = drop width bytes; literals = literals }) in
    read_if (λ x. P x.rest) (begins 34 bytes) (quoted_at (drop 1 bytes) >>= λ quoted. Ok (record { value = quoted.0; rest = quoted.1; literals = literals }))
    (if width == 0 then literal_at bytes literals else bare)
    (read_then (λ x. P x.1) (λ x. P x.rest) (quoted_at (drop 1 bytes)) (λ quoted. Ok (record { value = quoted.0; rest = quoted.1; literals = literals }))
    (quoted_leaves P stays false [] (drop 1 bytes) (stays 1 bytes here)) (λ quoted left. left))
    (read_if (λ x. P x.rest) (width == 0) (literal_at bytes literals) bare (literal_leaves P stays bytes literals here) (stays width bytes here))

pub astring_leaves : (P : List ℕ → Type 0) → StaysBehind P → (bytes : List ℕ) (literals : List (List ℕ)) → P bytes → IfOk (astring_at bytes literals) (λ x. P x.rest)
astring_leaves P stays bytes literals here = string_leaves P stays (prefix_len is_astring bytes) bytes literals here

pub keyword_leaves : (P : List ℕ → Type 0) → StaysBehind P → (bytes : List ℕ) → P bytes → IfOk (keyword_at bytes) (λ x. P x.1)
unfolding keyword_at
keyword_leaves P stays bytes here =
    read_then (λ x. P x.1) (λ x. P x.1) (token_at bytes) (λ token. if nat_le (length token.0) 64 then Ok token else Err NotUnderstood) (token_leaves P stays bytes here) (λ token left.
    read_if (λ x. P x.1) (nat_le (length token.0) 64) (Ok token) (Err NotUnderstood) left tt)

day_leaves : (P : List ℕ → Type 0) (text : List ℕ × List ℕ) → P text.1 → IfOk {T = ℤ × List ℕ} (day_of text.0 >>= λ day. Ok (day, text.1)) (λ x. P x.1)
day_leaves P text left = any_then (λ x. P x.1) (day_of text.0) (λ day. Ok (day, text.1)) (λ day. left)

pub date_leaves : (P : List ℕ → Type 0) → StaysBehind P → (bytes : List ℕ) → P bytes → IfOk (date_at bytes) (λ x. P x.1)
unfolding date_at
date_leaves P stays bytes here =
    let day : List ℕ × List ℕ → Read (ℤ × List ℕ) = λ text. day_of text.0 >>= λ day. Ok (day, text.1) in
    read_if (λ x. P x.1) (begins 34 bytes) (quoted_at (drop 1 bytes) >>= day) (token_at bytes >>= day)
    (read_then (λ x. P x.1) (λ x. P x.1) (quoted_at (drop 1 bytes)) day (quoted_leaves P stays false [] (drop 1 bytes) (stays 1 bytes here)) (day_leaves P))
    (read_then (λ x. P x.1) (λ x. P x.1) (token_at bytes) day (token_leaves P stays bytes here) (day_leaves P))

-- what is left is never longer
pub stays_within : (most : ℕ) → StaysBehind (λ bytes. length bytes ≤ most)
stays_within most n bytes here =
    let short = length-drop n bytes in
    omega arith

-- and shorter behind a byte that stands there
pub behind_byte : (byte : ℕ) (bytes : List ℕ) → begins byte bytes ≡ true → length (drop 1 bytes) < length bytes
behind_byte byte [] is = absurd (false≢true is)
behind_byte byte (b ∷ rest) is = omega arith

-- a date with a time, and the items of STATUS
pub date_time_leaves : (P : List ℕ → Type 0) → StaysBehind P → (bytes : List ℕ) → P bytes → IfOk (date_time_at bytes) (λ x. P x.1)
unfolding date_time_at
date_time_leaves P stays bytes here =
    read_then P (λ x. P x.1) (byte_at 34 bytes) _ (byte_leaves P stays 34 bytes here) (λ behind left.
    read_then (λ x. P x.1) (λ x. P x.1) (quoted_at behind) _ (quoted_leaves P stays false [] behind left) (λ text gone.
    any_then (λ x. P x.1) (stamp_in text.0) (λ stamp. Ok (stamp, text.1)) (λ stamp. gone)))

some_status_leaves : (P : List ℕ → Type 0) (item : Option StatusItem) (rest : List ℕ) → P rest → IfOk (some_status item rest) (λ x. P x.1)
some_status_leaves P None rest left = tt
some_status_leaves P (Some item) rest left = left

status_leaves : (P : List ℕ → Type 0) → StaysBehind P → (bytes : List ℕ) → P bytes → IfOk (status_at bytes) (λ x. P x.1)
unfolding status_at
status_leaves P stays bytes here =
    read_then (λ x. P x.1) (λ x. P x.1) (token_at bytes) _ (token_leaves P stays bytes here) (λ word left. some_status_leaves P (status_item word.0) word.1 left)

status_more : (P : List ℕ → Type 0) → StaysBehind P → (before : List StatusItem) (bytes : List ℕ) → P bytes → IfOk (add_status before bytes) (λ x. P x.1)
status_more P stays before bytes here = read_then (λ x. P x.1) (λ x. P x.1) (status_at bytes) _ (status_leaves P stays bytes here) (λ item left. left)

pub statuses_leave : (P : List ℕ → Type 0) → StaysBehind P → (bytes : List ℕ) → P bytes → IfOk (status_list_at bytes) (λ x. P x.1)
unfolding status_list_at
statuses_leave P stays bytes here =
    read_then P (λ x. P x.1) (byte_at 40 bytes) _ (byte_leaves P stays 40 bytes here) (λ inner left.
    read_then (λ x. P x.1) (λ x. P x.1) (inner_statuses_at inner) _ (separated_leaves P stays 32 add_status (status_more P stays) (length inner) [] inner left) (λ items gone.
    read_then P (λ x. P x.1) (byte_at 41 items.1) _ (byte_leaves P stays 41 items.1 gone) (λ rest last. last)))
