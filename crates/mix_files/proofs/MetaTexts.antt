-- What is written as metadata is read again.
use Rattle.std.proofs.Common.{◌≡◌, ◌≢◌, ℕ, zero, suc, ◌+◌, ◌-◌, ◌/◌, ◌%◌, ◌^◌, ◌<◌, ◌≤◌, Bool, true, false, not, List, [], ◌∷◌, ◌++◌, length, take, drop, slice_index, Some, None, cond, refl, ap, sym, ◌∙◌, arith, ◌==◌, ◌&&◌, nat_le, append_assoc, append-nil, length-append}
use Rattle.std.specs.List.{list_all, onto_first, filter, flat_map, slice_split, All}
use Rattle.std.specs.Char.{digit_char, is_ascii_alphabetic}
use Rattle.std.specs.Cmp.Derive.{both_true}
use Rattle.std.proofs.lemmas.Bool.{ne_eqb}
use Rattle.std.proofs.lemmas.Bool.Decides.{nat_tests}
use Rattle.std.proofs.lemmas.List.{take_at, drop_at, get_or-drop}
use Rattle.std.proofs.lemmas.List.Folds.{list_all-append}
use Rattle.std.proofs.lemmas.List.Sums.{AllPass-from_list_all}
use Rattle.mix_files.proofs.MetaLines.{no-line}
use Rattle.std.proofs.lemmas.List.Splits.{slice_split_at, slice_split_none}
use Rattle.mail_fields.specs.Numbers.{digits_in}
use Rattle.mail_fields.specs.Keyword.{is_atom, is_keyword}
use Rattle.mail_fields.specs.Texts.{written_at}
use Rattle.mail_fields.proofs.Digits.{number-digits}
use Rattle.mix_files.specs.CrlfLines.{crlf_lines}
use Rattle.mail_fields.specs.Names.{is_space, are_distinct}
use Rattle.mix_files.specs.Names.{may_be_names, split_names, names_of, names_text}
use Rattle.mix_files.specs.declared.meta.Meta.{Meta}
use Rattle.mix_files.specs.Metadata.{line_parts, is_known, is_further_part, is_further, kept_lines, number_of_line, names_of_line, meta_of_lines, meta_of, number_line, names_line, meta_text}

-- the line of a number, written in a buffer
pub number-written : (new : List ℕ) (letter number wide : ℕ) → new ≡ written_at (letter ∷ 0 ∷ 0 ∷ 0 ∷ 0 ∷ 0 ∷ 0 ∷ 0 ∷ 0 ∷ 13 ∷ 10 ∷ []) 1 (digits_in 16 8 wide) → wide ≡ number → new ≡ number_line letter number
unfolding written_at number_line
number-written new letter number wide is same = is ∙ ap (λ n. letter ∷ digits_in 16 8 n ++ 13 ∷ 10 ∷ []) same

-- no CR stands in a text
abbrev is_plain : List ℕ → Bool
is_plain text = list_all (λ byte. not (byte == 13)) text

both : (one other : Bool) → (one && other) ≡ true → (one ≡ true) × (other ≡ true)
both true other is = (refl, is)
both false other is = absurd (cc)

not-cr : (test : Bool) → not test ≡ true → test ≡ false
not-cr true is = absurd (cc)
not-cr false is = refl

-- a line without a CR, before its CRLF
plain-line : (line rest : List ℕ) → is_plain line ≡ true → crlf_lines (line ++ 13 ∷ 10 ∷ rest) ≡ (line ++ 13 ∷ 10 ∷ []) ∷ crlf_lines rest
plain-line [] rest plain = refl
plain-line (byte ∷ []) rest plain =
    let other = not-cr (byte == 13) (both (not (byte == 13)) true plain).0 in
    ap (λ test. cond (test && false) ((byte ∷ 13 ∷ []) ∷ crlf_lines (10 ∷ rest)) (onto_first byte (crlf_lines (13 ∷ 10 ∷ rest)))) other
plain-line (byte ∷ next ∷ line) rest plain =
    let parts = both (not (byte == 13)) (is_plain (next ∷ line)) plain in
    ap (λ test. cond (test && (next == 10)) ((byte ∷ next ∷ []) ∷ crlf_lines (line ++ 13 ∷ 10 ∷ rest)) (onto_first byte (crlf_lines (next ∷ (line ++ 13 ∷ 10 ∷ rest))))) (not-cr (byte == 13) parts.0)
    ∙ ap (onto_first byte) (plain-line (next ∷ line) rest parts.1)

-- digits have no CR
digit-plain : (digit : ℕ) → digit < 16 → not (digit_char digit == 13) ≡ true
digit-plain digit small = grind (arith, nat_tests)

digits-plain : (width number : ℕ) → is_plain (digits_in 16 width number) ≡ true
digits-plain zero number = refl
digits-plain (suc width) number =
    list_all-append (λ byte. not (byte == 13)) (digits_in 16 width (number / 16)) (digit_char (number % 16) ∷ [])
    ∙ both_true (digits-plain width (number / 16)) (both_true (digit-plain (number % 16) (omega arith)) refl)

-- the letter and the rest of a line
at-drop : (line tail : List ℕ) (from index place : ℕ) → drop from line ≡ tail → place ≡ from + index → slice_index line place ≡ slice_index tail index
at-drop line tail from index place is at = ap (λ k. slice_index line k) at ∙ sym (get_or-drop from line index 0) ∙ ap (λ t. slice_index t index) is

parts-frame : (line text : List ℕ) (width : ℕ) → length line ≡ width + 3 → drop (width + 1) line ≡ 13 ∷ 10 ∷ [] → take width (drop 1 line) ≡ text → line_parts line ≡ Some (slice_index line 0, text)
unfolding line_parts
parts-frame line text width long end front =
    let some : nat_le 3 (length line) ≡ true = grind (arith, nat_tests, long) in
    let cr : slice_index line (length line - 2) ≡ 13 = at-drop line (13 ∷ 10 ∷ []) (width + 1) 0 (length line - 2) end (omega arith) in
    let lf : slice_index line (length line - 1) ≡ 10 = at-drop line (13 ∷ 10 ∷ []) (width + 1) 1 (length line - 1) end (omega arith) in
    let between : take (length line - 3) (drop 1 line) ≡ text = ap (λ n. take n (drop 1 line)) (omega arith) ∙ front in
    rw (some, cr, lf, between) refl

parts-of : (letter : ℕ) (text : List ℕ) → line_parts (letter ∷ (text ++ 13 ∷ 10 ∷ [])) ≡ Some (letter, text)
parts-of letter text =
    parts-frame (letter ∷ (text ++ 13 ∷ 10 ∷ [])) text (length text) (omega (arith, length-append text (13 ∷ 10 ∷ [])))
    (drop_at (letter ∷ text) (13 ∷ 10 ∷ []) (length text + 1) (omega arith)) (take_at text (13 ∷ 10 ∷ []) (length text) refl)

-- names have neither a CR nor a space
atom-plain : (byte : ℕ) → is_atom byte ≡ true → (not (byte == 13) ≡ true) × (is_space byte ≡ false)
atom-plain byte atom =
    let low = (both (nat_le 33 byte) _ (both (nat_le 33 byte && nat_le byte 126) _ atom).0).0 in
    (grind (arith, nat_tests, low), grind (arith, nat_tests, low))

atoms-plain : (name : List ℕ) → list_all is_atom name ≡ true → is_plain name ≡ true
atoms-plain [] all = refl
atoms-plain (byte ∷ name) all = let parts = both (is_atom byte) (list_all is_atom name) all in both_true (atom-plain byte parts.0).0 (atoms-plain name parts.1)

keyword-atoms : (name : List ℕ) → is_keyword name ≡ true → (list_all is_atom name ≡ true) × (0 < length name)
keyword-atoms name is =
    let parts = both (nat_le 1 (length name)) _ is in
    ((both (nat_le (length name) 64) _ parts.1).1, grind (arith, nat_tests, parts.0))

no-space : (name : List ℕ) → is_keyword name ≡ true → All (λ byte. is_space byte ≡ false) name
no-space name is k d inside =
    let atoms = AllPass-from_list_all is_atom name (keyword-atoms name is).0 in
    (atom-plain _ (atoms k d inside)).1

spaced-plain : (names : List (List ℕ)) → list_all is_keyword names ≡ true → is_plain (flat_map (λ each. 32 ∷ each) names) ≡ true
spaced-plain [] all = refl
spaced-plain (name ∷ names) all =
    let parts = both (is_keyword name) (list_all is_keyword names) all in
    list_all-append (λ byte. not (byte == 13)) (32 ∷ name) (flat_map (λ each. 32 ∷ each) names)
    ∙ both_true (atoms-plain name (keyword-atoms name parts.0).0) (spaced-plain names parts.1)

names-plain : (names : List (List ℕ)) → list_all is_keyword names ≡ true → is_plain (names_text names) ≡ true
names-plain [] all = refl
names-plain (name ∷ names) all =
    let parts = both (is_keyword name) (list_all is_keyword names) all in
    list_all-append (λ byte. not (byte == 13)) name (flat_map (λ each. 32 ∷ each) names)
    ∙ both_true (atoms-plain name (keyword-atoms name parts.0).0) (spaced-plain names parts.1)

-- the text of names is split into them
names-split : (first : List ℕ) (names : List (List ℕ)) → is_keyword first ≡ true → list_all is_keyword names ≡ true → slice_split is_space (names_text (first ∷ names)) ≡ first ∷ names
names-split first [] is all = ap (slice_split is_space) (append-nil first) ∙ slice_split_none is_space first (no-space first is)
names-split first (second ∷ names) is all =
    let parts = both (is_keyword second) (list_all is_keyword names) all in
    slice_split_at is_space first 32 (names_text (second ∷ names)) (no-space first is) refl ∙ ap (λ later. first ∷ later) (names-split second names parts.0 parts.1)

split-again : (names : List (List ℕ)) → list_all is_keyword names ≡ true → split_names (names_text names) ≡ names
split-again [] all = refl
split-again (first ∷ names) all =
    let parts = both (is_keyword first) (list_all is_keyword names) all in
    let text = names_text (first ∷ names) in
    let some : (length text == 0) ≡ false =
    ne_eqb (length text) 0 (λ is. omega (arith, (keyword-atoms first parts.0).1, length-append first (flat_map (λ each. 32 ∷ each) names))) in
    ap (λ test. cond test [] (slice_split is_space text)) some ∙ names-split first names parts.0 parts.1

names-again : (names : List (List ℕ)) → list_all is_keyword names ≡ true → length names ≤ 30 → are_distinct names ≡ true → names_of (names_text names) ≡ Some names
unfolding names_of
names-again names all few differ =
    ap (λ items. cond (may_be_names items) (Some items) None) (split-again names all)
    ∙ ap (λ test. cond test (Some names) None) (both_true all (both_true (grind (arith, nat_tests, few)) differ))

-- a line with a meaning is kept
line-kept : (letter : ℕ) (text rest : List ℕ) → not (letter == 13) ≡ true → (is_ascii_alphabetic letter && not (is_known letter)) ≡ false → is_plain text ≡ true
    → kept_lines (letter ∷ (text ++ 13 ∷ 10 ∷ rest)) ≡ (letter ∷ (text ++ 13 ∷ 10 ∷ [])) ∷ kept_lines rest
unfolding kept_lines
line-kept letter text rest other known plain =
    let line = letter ∷ (text ++ 13 ∷ 10 ∷ []) in
    let later = filter (λ each. not (is_further each)) (crlf_lines rest) in
    let stays : is_further line ≡ false = ap is_further_part (parts-of letter text) ∙ known in
    ap (filter (λ each. not (is_further each))) (plain-line (letter ∷ text) rest (both_true other plain)) ∙ ap (λ test. cond (not test) (line ∷ later) later) stays

number-kept : (letter number : ℕ) (rest : List ℕ) → not (letter == 13) ≡ true → (is_ascii_alphabetic letter && not (is_known letter)) ≡ false
    → kept_lines (number_line letter number ++ rest) ≡ number_line letter number ∷ kept_lines rest
unfolding number_line
number-kept letter number rest other known = line-kept letter (digits_in 16 8 number) rest other known (digits-plain 8 number)

names-kept : (names : List (List ℕ)) → list_all is_keyword names ≡ true → kept_lines (names_line names) ≡ names_line names ∷ []
unfolding names_line
names-kept names all = line-kept 75 (names_text names) [] refl refl (names-plain names all) ∙ ap (λ rest. (75 ∷ (names_text names ++ 13 ∷ 10 ∷ [])) ∷ rest) no-line

-- and read
number-again : (letter number : ℕ) → (letter == letter) ≡ true → number < 2 ^ 32 → number_of_line letter (number_line letter number) ≡ Some number
unfolding number_of_line number_line
number-again letter number same small = rw (parts-of letter (digits_in 16 8 number), same) (number-digits 16 8 number (omega arith) (omega arith) small)

names_line-again : (names : List (List ℕ)) → list_all is_keyword names ≡ true → length names ≤ 30 → are_distinct names ≡ true → names_of_line (names_line names) ≡ Some names
unfolding names_of_line names_line
names_line-again names all few differ = rw (parts-of 75 (names_text names)) (names-again names all few differ)

grouped : (a b c d e : List ℕ) → a ++ b ++ c ++ d ++ e ≡ a ++ (b ++ (c ++ (d ++ e)))
grouped a b c d e = simp append_assoc

lines-kept : (meta : Meta) → list_all is_keyword meta.words ≡ true
    → kept_lines (meta_text meta) ≡ number_line 83 meta.sequence ∷ number_line 86 meta.validity ∷ number_line 76 meta.last ∷ number_line 78 meta.file ∷ names_line meta.words ∷ []
unfolding meta_text
lines-kept meta all =
    let s = number_line 83 meta.sequence in
    let v = number_line 86 meta.validity in
    let l = number_line 76 meta.last in
    let n = number_line 78 meta.file in
    let k = names_line meta.words in
    ap kept_lines (grouped s v l n k)
    ∙ number-kept 83 meta.sequence (v ++ (l ++ (n ++ k))) refl refl
    ∙ ap (λ rest. s ∷ rest) (number-kept 86 meta.validity (l ++ (n ++ k)) refl refl
    ∙ ap (λ rest. v ∷ rest) (number-kept 76 meta.last (n ++ k) refl refl
    ∙ ap (λ rest. l ∷ rest) (number-kept 78 meta.file k refl refl ∙ ap (λ rest. n ∷ rest) (names-kept meta.words all))))

-- so the metadata is read again
pub meta-again : (meta : Meta) (text : List ℕ) → text ≡ meta_text meta → meta.sequence < 2 ^ 32 → meta.validity < 2 ^ 32 → meta.last < 2 ^ 32 → meta.file < 2 ^ 32
    → meta.validity ≢ 0 → list_all is_keyword meta.words ≡ true → length meta.words ≤ 30 → are_distinct meta.words ≡ true → meta_of text ≡ Some meta
unfolding meta_of_lines
meta-again meta text is sequence validity last file some all few differ =
    ap (λ t. meta_of_lines (kept_lines t)) is ∙ ap meta_of_lines (lines-kept meta all)
    ∙ rw (
      number-again 83 meta.sequence refl sequence,
      number-again 86 meta.validity refl validity,
      number-again 76 meta.last refl last,
      number-again 78 meta.file refl file,
      names_line-again meta.words all few differ,
      ne_eqb meta.validity 0 some,
    ) refl

-- the text of metadata, built line by line
pub meta-built : (meta : Meta) (start one two three four five : List ℕ) → start ≡ [] → one ≡ start ++ number_line 83 meta.sequence → two ≡ one ++ number_line 86 meta.validity
    → three ≡ two ++ number_line 76 meta.last → four ≡ three ++ number_line 78 meta.file → five ≡ four ++ names_line meta.words → five ≡ meta_text meta
unfolding meta_text
meta-built meta start one two three four five none s v l n k =
    k ∙ ap (λ text. text ++ names_line meta.words)
    (n ∙ ap (λ text. text ++ number_line 78 meta.file)
    (l ∙ ap (λ text. text ++ number_line 76 meta.last) (v ∙ ap (λ text. text ++ number_line 86 meta.validity) (s ∙ ap (λ text. text ++ number_line 83 meta.sequence) none))))
