-- The values of status fields as they are written, read again.
use Rattle.std.proofs.Common.{◌≡◌, ℕ, ◌+◌, ◌-◌, ◌<◌, inr, Bool, true, false, not, cond, suc, List, [], ◌∷◌, ◌++◌, ◌==◌, ◌&&◌, nat_le, nat_lt, flat_map, length, get_or, drop, take_all, append-nil, All, refl, ap, sym, ◌∙◌, arith}
use Rattle.std.specs.Char.{is_digit}
use Rattle.std.specs.List.{list_all, filter, slice_split, prefix_len, suffix_len}
use Rattle.std.specs.Cmp.Derive.{both_true}
use Rattle.std.proofs.lemmas.Bool.{and_parts, cond-true, cond-false, not-true, false≢true}
use Rattle.std.proofs.lemmas.Bool.Decides.{nat_tests}
use Rattle.std.proofs.lemmas.List.Folds.{list_all-append}
use Rattle.std.proofs.lemmas.List.Splits.{slice_split_at, slice_split_none}
use Rattle.std.proofs.lemmas.List.Sums.{suffix_len_is, AllPass-from_list_all}
use Rattle.text_lines.specs.Lines.{lines_of, line_text, is_line_end}
use Rattle.text_lines.proofs.Texts.{is_open, lines-joined}
use Rattle.text_forms.proofs.LineEnds.{no-end-behind}
use Rattle.text_lines.specs.Blanks.{is_blank}
use Rattle.head_fields.specs.Blanks.{trim_start, trim_end}
use Rattle.head_fields.specs.Folding.{unfolded}
use Rattle.mail_fields.specs.Keyword.{is_atom, is_keyword}
use Rattle.status_heads.specs.HeadTexts.{letter_if, names_text, spaced_names}
use Rattle.mail_fields.specs.Names.{is_space}
use Rattle.status_heads.specs.Names.{names_of, words_of}
use Rattle.status_heads.proofs.MadeLines.{is_clean, first-clean, rest-clean}

-- a clean value is one line
open-of : (value : List ℕ) → is_clean value ≡ true → is_open value ≡ true
open-of [] clean = refl
open-of (byte ∷ rest) clean = cond-false (byte == 10) false (is_open rest) (first-clean byte rest clean).0 ∙ open-of rest (rest-clean byte rest clean)

text-of : (value : List ℕ) → is_clean value ≡ true → line_text value ≡ value
text-of [] clean = refl
text-of (byte ∷ rest) clean =
    let first = first-clean byte rest clean in
    cond-false (is_line_end (byte ∷ rest)) [] (byte ∷ line_text rest) (no-end-behind byte rest first.0 first.1) ∙ ap (λ tail. byte ∷ tail) (text-of rest (rest-clean byte rest clean))

-- its last byte is no blank
abbrev pub ends_well : List ℕ → Bool
ends_well [] = false
ends_well (byte ∷ []) = not (is_blank byte)
ends_well (byte ∷ next ∷ rest) = ends_well (next ∷ rest)

-- nor is its first
abbrev pub begins_well : List ℕ → Bool
begins_well [] = false
begins_well (byte ∷ rest) = not (is_blank byte)

last-byte : (value : List ℕ) → ends_well value ≡ true → is_blank (get_or value (length value - 1) 0) ≡ false
last-byte [] ends = absurd (false≢true ends)
last-byte (byte ∷ []) ends = not-true (is_blank byte) ends
last-byte (byte ∷ next ∷ rest) ends =
    let same : length (byte ∷ next ∷ rest) - 1 ≡ suc (length (next ∷ rest) - 1) = omega arith in
    ap (λ j. is_blank (get_or (byte ∷ next ∷ rest) j 0)) same ∙ last-byte (next ∷ rest) ends

end-stays : (value : List ℕ) → ends_well value ≡ true → trim_end value ≡ value
end-stays value ends =
    let none = suffix_len_is is_blank value (length value) 0 (omega arith) (λ k low high. absurd (omega arith)) (λ some. last-byte value ends) in
    take_all (length value - suffix_len is_blank value) value (omega arith)

start-goes : (byte : ℕ) (rest : List ℕ) → is_blank byte ≡ false → trim_start (32 ∷ (byte ∷ rest)) ≡ byte ∷ rest
start-goes byte rest other = ap (λ test. drop (1 + cond test (1 + prefix_len is_blank rest) 0) (32 ∷ (byte ∷ rest))) other

pub unfolded-of : (value : List ℕ) → is_clean value ≡ true → begins_well value ≡ true → ends_well value ≡ true → unfolded (32 ∷ value) ≡ value
unfolded-of [] clean begins ends = absurd (false≢true begins)
unfolded-of (byte ∷ rest) clean begins ends =
    let value = byte ∷ rest in
    let lines : lines_of (32 ∷ value) ≡ (32 ∷ value) ∷ [] =
    ap lines_of (sym (append-nil (32 ∷ value))) ∙ lines-joined ((32 ∷ value) ∷ []) (inr (omega arith, open-of (32 ∷ value) clean, refl)) in
    ap (λ l. trim_end (trim_start (flat_map line_text l))) lines
    ∙ ap (λ t. trim_end (trim_start t)) (append-nil (line_text (32 ∷ value)) ∙ text-of (32 ∷ value) clean)
    ∙ ap trim_end (start-goes byte rest (not-true (is_blank byte) begins))
    ∙ end-stays value ends

-- bytes above the space
abbrev pub is_solid : List ℕ → Bool
is_solid value = list_all (λ byte. nat_le 33 byte) value

byte-clean : (byte : ℕ) → nat_le 33 byte ≡ true → ((not (byte == 10) && not (byte == 13)) ≡ true) × (not (is_blank byte) ≡ true)
byte-clean byte high = (grind (arith, nat_tests, high), grind (arith, nat_tests, high))

pub solid-clean : (value : List ℕ) → is_solid value ≡ true → is_clean value ≡ true
solid-clean [] solid = refl
solid-clean (byte ∷ rest) solid =
    let parts = and_parts (nat_le 33 byte) (is_solid rest) solid in
    both_true (byte-clean byte parts.0).0 (solid-clean rest parts.1)

solid-ends : (value : List ℕ) → is_solid value ≡ true → 0 < length value → ends_well value ≡ true
solid-ends [] solid some = absurd (omega arith)
solid-ends (byte ∷ []) solid some = (byte-clean byte (and_parts (nat_le 33 byte) true solid).0).1
solid-ends (byte ∷ next ∷ rest) solid some = solid-ends (next ∷ rest) (and_parts (nat_le 33 byte) (is_solid (next ∷ rest)) solid).1 (omega arith)

solid-begins : (value : List ℕ) → is_solid value ≡ true → 0 < length value → begins_well value ≡ true
solid-begins [] solid some = absurd (omega arith)
solid-begins (byte ∷ rest) solid some = (byte-clean byte (and_parts (nat_le 33 byte) (is_solid rest) solid).0).1

pub unfolded-solid : (value : List ℕ) → is_solid value ≡ true → 0 < length value → unfolded (32 ∷ value) ≡ value
unfolded-solid value solid some = unfolded-of value (solid-clean value solid) (solid-begins value solid some) (solid-ends value solid some)

-- letters
pub letter-solid : (set : Bool) (letter : ℕ) → nat_le 33 letter ≡ true → is_solid (letter_if set letter) ≡ true
letter-solid true letter high = both_true high refl
letter-solid false letter high = refl

pub solid-both : (one other : List ℕ) → is_solid one ≡ true → is_solid other ≡ true → is_solid (one ++ other) ≡ true
solid-both one other a b = list_all-append (λ byte. nat_le 33 byte) one other ∙ both_true a b

-- digits
pub digits-solid : (text : List ℕ) → list_all (λ byte. is_digit byte 10) text ≡ true → is_solid text ≡ true
digits-solid [] all = refl
digits-solid (byte ∷ rest) all =
    let parts = and_parts (is_digit byte 10) (list_all (λ each. is_digit each 10) rest) all in
    both_true (grind (arith, nat_tests, parts.0)) (digits-solid rest parts.1)

-- names
atoms-solid : (name : List ℕ) → list_all is_atom name ≡ true → is_solid name ≡ true
atoms-solid [] all = refl
atoms-solid (byte ∷ rest) all =
    let parts = and_parts (is_atom byte) (list_all is_atom rest) all in
    let low = (and_parts (nat_le 33 byte) _ (and_parts (nat_le 33 byte && nat_le byte 126) _ parts.0).0).0 in
    both_true low (atoms-solid rest parts.1)

pub keyword-solid : (name : List ℕ) → is_keyword name ≡ true → (is_solid name ≡ true) × (0 < length name)
keyword-solid name is =
    let parts = and_parts (nat_le 1 (length name)) _ is in
    (atoms-solid name (and_parts (nat_le (length name) 64) (list_all is_atom name) parts.1).1, grind (arith, nat_tests, parts.0))

solid-no_space : (name : List ℕ) → is_solid name ≡ true → All (λ byte. is_space byte ≡ false) name
solid-no_space name solid k d inside =
    let high = AllPass-from_list_all (λ byte. nat_le 33 byte) name solid k d inside in
    grind (arith, nat_tests, high)

-- the text of names is split into them
names-split : (first : List ℕ) (names : List (List ℕ)) → is_keyword first ≡ true → list_all is_keyword names ≡ true → slice_split is_space (first ++ spaced_names names) ≡ first ∷ names
names-split first [] is all =
    ap (slice_split is_space) (append-nil first) ∙ slice_split_none is_space first (solid-no_space first (keyword-solid first is).0)
names-split first (second ∷ names) is all =
    let parts = and_parts (is_keyword second) (list_all is_keyword names) all in
    slice_split_at is_space first 32 (second ++ spaced_names names) (solid-no_space first (keyword-solid first is).0) refl
    ∙ ap (λ later. first ∷ later) (names-split second names parts.0 parts.1)

all-kept : (test : List ℕ → Bool) (names : List (List ℕ)) → ((name : List ℕ) → is_keyword name ≡ true → test name ≡ true) → list_all is_keyword names ≡ true → filter test names ≡ names
all-kept test [] keeps all = refl
all-kept test (name ∷ names) keeps all =
    let parts = and_parts (is_keyword name) (list_all is_keyword names) all in
    cond-true (test name) (name ∷ filter test names) (filter test names) (keeps name parts.0) ∙ ap (λ later. name ∷ later) (all-kept test names keeps parts.1)

some-byte : (name : List ℕ) → is_keyword name ≡ true → nat_lt 0 (length name) ≡ true
some-byte name is = grind (arith, nat_tests, (keyword-solid name is).1)

pub words-again : (names : List (List ℕ)) → list_all is_keyword names ≡ true → words_of (names_text names) ≡ names
unfolding words_of
words-again [] all = refl
words-again (first ∷ names) all =
    let parts = and_parts (is_keyword first) (list_all is_keyword names) all in
    ap (filter (λ word. nat_lt 0 (length word))) (names-split first names parts.0 parts.1)
    ∙ all-kept (λ word. nat_lt 0 (length word)) (first ∷ names) some-byte all

pub names-again : (names : List (List ℕ)) → list_all is_keyword names ≡ true → names_of (names_text names) ≡ names
names-again names all = ap (filter is_keyword) (words-again names all) ∙ all-kept is_keyword names (λ name is. is) all

pub clean-both : (one other : List ℕ) → is_clean one ≡ true → is_clean other ≡ true → is_clean (one ++ other) ≡ true
clean-both one other a b = list_all-append (λ byte. not (byte == 10) && not (byte == 13)) one other ∙ both_true a b

spaced-clean : (names : List (List ℕ)) → list_all is_keyword names ≡ true → is_clean (spaced_names names) ≡ true
spaced-clean [] all = refl
spaced-clean (name ∷ names) all =
    let parts = and_parts (is_keyword name) (list_all is_keyword names) all in
    clean-both (32 ∷ name) (spaced_names names) (solid-clean name (keyword-solid name parts.0).0) (spaced-clean names parts.1)

pub names-clean : (names : List (List ℕ)) → list_all is_keyword names ≡ true → is_clean (names_text names) ≡ true
names-clean [] all = refl
names-clean (name ∷ names) all =
    let parts = and_parts (is_keyword name) (list_all is_keyword names) all in
    clean-both name (spaced_names names) (solid-clean name (keyword-solid name parts.0).0) (spaced-clean names parts.1)

ends-behind : (front back : List ℕ) → ends_well back ≡ true → ends_well (front ++ back) ≡ true
ends-behind [] back ends = ends
ends-behind (byte ∷ []) [] ends = absurd (false≢true ends)
ends-behind (byte ∷ []) (next ∷ back) ends = ends
ends-behind (byte ∷ next ∷ front) back ends = ends-behind (next ∷ front) back ends

names-end : (first : List ℕ) (names : List (List ℕ)) → ends_well first ≡ true → list_all is_keyword names ≡ true → ends_well (first ++ spaced_names names) ≡ true
names-end first [] ends all = ap ends_well (append-nil first) ∙ ends
names-end first (name ∷ names) ends all =
    let parts = and_parts (is_keyword name) (list_all is_keyword names) all in
    let solid = keyword-solid name parts.0 in
    ends-behind first (32 ∷ name ++ spaced_names names) (ends-behind (32 ∷ []) (name ++ spaced_names names) (names-end name names (solid-ends name solid.0 solid.1) parts.1))

begins-before : (front back : List ℕ) → begins_well front ≡ true → begins_well (front ++ back) ≡ true
begins-before [] back begins = absurd (false≢true begins)
begins-before (byte ∷ front) back begins = begins

pub names-unfolded : (first : List ℕ) (names : List (List ℕ)) → list_all is_keyword (first ∷ names) ≡ true → unfolded (32 ∷ names_text (first ∷ names)) ≡ names_text (first ∷ names)
names-unfolded first names all =
    let parts = and_parts (is_keyword first) (list_all is_keyword names) all in
    let solid = keyword-solid first parts.0 in
    unfolded-of (names_text (first ∷ names)) (names-clean (first ∷ names) all)
    (begins-before first (spaced_names names) (solid-begins first solid.0 solid.1))
    (names-end first names (solid-ends first solid.0 solid.1) parts.1)
