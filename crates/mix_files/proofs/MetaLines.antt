-- The lines of the metadata, one by one.
use Rattle.std.proofs.Common.{◌≡◌, ◌≢◌, ℕ, zero, suc, Bool, get_or, ◌+◌, ◌-◌, ◌<◌, ◌≤◌, true, false, not, List, [], ◌∷◌, length, take, drop, Some, None, cond, refl, ap, sym, ◌∙◌, arith, ◌==◌, ◌&&◌}
use Rattle.std.specs.List.{filter, onto_first}
use Rattle.std.proofs.lemmas.Bool.{false_from_ne_true, ne_eqb, and_right}
use Rattle.std.proofs.lemmas.Bool.Decides.{nat_tests}
use Rattle.std.proofs.lemmas.List.{drop-drop, length-drop, get_or-drop}
use Rattle.memchr.specs.Find.{IsFirstByte, is_byte}
use Rattle.mix_files.specs.CrlfLines.{crlf_lines, first_line_len}
use Rattle.mix_files.specs.Metadata.{is_further, kept_lines}

-- CRLF stands at the front of a text
abbrev begins_crlf : List ℕ → Bool
begins_crlf [] = false
begins_crlf (byte ∷ []) = false
begins_crlf (byte ∷ next ∷ rest) = (byte == 13) && (next == 10)

-- two tests together
and-both : {x y : Bool} → x ≡ true → y ≡ true → (x && y) ≡ true
and-both one other = cc

and-left : (x y : Bool) → x ≡ false → (x && y) ≡ false
and-left x y one = rw one refl

feed-no-return : (byte : ℕ) → (byte == 10) ≡ true → (byte == 13) ≡ false
feed-no-return byte feed = grind (arith, nat_tests)

-- how long a line is that CRLF ends, and one that goes on
len-ends : (text : List ℕ) → begins_crlf text ≡ true → first_line_len text ≡ 2
len-ends [] is = absurd (cc)
len-ends (byte ∷ []) is = absurd (cc)
len-ends (byte ∷ next ∷ rest) is = ap (λ test. cond test 2 (suc (first_line_len (next ∷ rest)))) is

len-goes : (text : List ℕ) → 0 < length text → begins_crlf text ≡ false → first_line_len text ≡ suc (first_line_len (drop 1 text))
len-goes [] some is = absurd (omega arith)
len-goes (byte ∷ []) some is = refl
len-goes (byte ∷ next ∷ rest) some is = ap (λ test. cond test 2 (suc (first_line_len (next ∷ rest)))) is

pub len-within : (text : List ℕ) → first_line_len text ≤ length text
len-within [] = omega arith
len-within (byte ∷ []) = omega arith
len-within (byte ∷ next ∷ rest) =
    elim ((byte == 13) && (next == 10)) as (λ test. cond test 2 (suc (first_line_len (next ∷ rest))) ≤ length (byte ∷ next ∷ rest)) [
      | true ↦ omega arith
      | false ↦ omega (arith, len-within (next ∷ rest))
    ]

pub len-some : (text : List ℕ) → 0 < length text → 0 < first_line_len text
len-some [] some = absurd (omega arith)
len-some (byte ∷ []) some = omega arith
len-some (byte ∷ next ∷ rest) some =
    elim ((byte == 13) && (next == 10)) as (λ test. 0 < cond test 2 (suc (first_line_len (next ∷ rest)))) [ true ↦ omega arith | false ↦ omega arith ]

-- the first line of a text, and the lines behind it
first-line : (text : List ℕ) → 0 < length text → crlf_lines text ≡ take (first_line_len text) text ∷ crlf_lines (drop (first_line_len text) text)
first-line [] some = absurd (omega arith)
first-line (byte ∷ []) some = refl
first-line (byte ∷ next ∷ rest) some =
    elim ((byte == 13) && (next == 10)) as (λ test. cond test ((byte ∷ next ∷ []) ∷ crlf_lines rest) (onto_first byte (crlf_lines (next ∷ rest)))
    ≡ take (cond test 2 (suc (first_line_len (next ∷ rest)))) (byte ∷ next ∷ rest) ∷ crlf_lines (drop (cond test 2 (suc (first_line_len (next ∷ rest)))) (byte ∷ next ∷ rest))) [
      | true ↦ refl
      | false ↦ ap (onto_first byte) (first-line (next ∷ rest) (omega arith))
    ]

-- a line that is kept, and one that is not
line-kept : (text : List ℕ) → 0 < length text → is_further (take (first_line_len text) text) ≡ false
    → kept_lines text ≡ take (first_line_len text) text ∷ kept_lines (drop (first_line_len text) text)
unfolding kept_lines
line-kept text some kept =
    let line = take (first_line_len text) text in
    let rest = filter (λ each. not (is_further each)) (crlf_lines (drop (first_line_len text) text)) in
    ap (filter (λ each. not (is_further each))) (first-line text some) ∙ ap (λ test. cond (not test) (line ∷ rest) rest) kept

line-skipped : (text : List ℕ) → 0 < length text → is_further (take (first_line_len text) text) ≡ true → kept_lines text ≡ kept_lines (drop (first_line_len text) text)
unfolding kept_lines
line-skipped text some further =
    let line = take (first_line_len text) text in
    let rest = filter (λ each. not (is_further each)) (crlf_lines (drop (first_line_len text) text)) in
    ap (filter (λ each. not (is_further each))) (first-line text some) ∙ ap (λ test. cond (not test) (line ∷ rest) rest) further

pub no-line : kept_lines [] ≡ []
unfolding kept_lines
no-line = refl

-- the same, as a loop goes over the lines
pub loop-kept : (text rest line behind : List ℕ) (width : ℕ) → kept_lines rest ≡ kept_lines text → 0 < length rest → width ≡ first_line_len rest → line ≡ take width rest → behind ≡ drop width rest
    → is_further line ≡ false → kept_lines text ≡ line ∷ kept_lines behind
loop-kept text rest line behind width same some is front back kept =
    let first : line ≡ take (first_line_len rest) rest = front ∙ ap (λ n. take n rest) is in
    let later : behind ≡ drop (first_line_len rest) rest = back ∙ ap (λ n. drop n rest) is in
    sym same ∙ line-kept rest some (ap is_further (sym first) ∙ kept) ∙ ap (λ l. l ∷ kept_lines (drop (first_line_len rest) rest)) (sym first) ∙ ap (λ b. line ∷ kept_lines b) (sym later)

pub loop-skipped : (text rest line behind : List ℕ) (width : ℕ) → kept_lines rest ≡ kept_lines text → 0 < length rest → width ≡ first_line_len rest → line ≡ take width rest → behind ≡ drop width rest
    → is_further line ≡ true → kept_lines behind ≡ kept_lines text
loop-skipped text rest line behind width same some is front back further =
    let first : line ≡ take (first_line_len rest) rest = front ∙ ap (λ n. take n rest) is in
    let later : behind ≡ drop (first_line_len rest) rest = back ∙ ap (λ n. drop n rest) is in
    ap kept_lines later ∙ sym (line-skipped rest some (ap is_further (sym first) ∙ further)) ∙ same

pub loop-done : (text rest : List ℕ) → kept_lines rest ≡ kept_lines text → length rest ≡ 0 → kept_lines text ≡ []
loop-done text [] same none = sym same ∙ no-line
loop-done text (byte ∷ rest) same none = absurd (omega arith)

-- the first line feed of a text: a CR before it ends the line there, and else the line goes on behind it
feed-ends : (text : List ℕ) (k : ℕ) → suc k < length text → ((j : ℕ) → j < suc k → (get_or text j 0 == 10) ≡ false) → (get_or text (suc k) 0 == 10) ≡ true → (get_or text k 0 == 13) ≡ true
    → first_line_len text ≡ suc (suc k)
feed-ends [] k inside before feed return = absurd (omega arith)
feed-ends (byte ∷ []) k inside before feed return = absurd (omega arith)
feed-ends (byte ∷ next ∷ rest) zero inside before feed return = len-ends (byte ∷ next ∷ rest) (and-both return feed)
feed-ends (byte ∷ next ∷ rest) (suc k) inside before feed return =
    len-goes (byte ∷ next ∷ rest) (omega arith) (and_right _ _ (before 1 (omega arith)))
    ∙ ap suc (feed-ends (next ∷ rest) k (omega arith) (λ j below. before (suc j) (omega arith)) feed return)

feed-goes : (text : List ℕ) (k : ℕ) → k < length text → ((j : ℕ) → j < k → (get_or text j 0 == 10) ≡ false) → (get_or text k 0 == 10) ≡ true → ((j : ℕ) → suc j ≡ k → (get_or text j 0 == 13) ≡ false)
    → first_line_len text ≡ suc k + first_line_len (drop (suc k) text)
feed-goes [] k inside before feed return = absurd (omega arith)
feed-goes (byte ∷ []) zero inside before feed return = refl
feed-goes (byte ∷ []) (suc k) inside before feed return = absurd (omega arith)
feed-goes (byte ∷ next ∷ rest) zero inside before feed return =
    len-goes (byte ∷ next ∷ rest) (omega arith) (and-left _ _ (feed-no-return byte feed)) ∙ omega arith
feed-goes (byte ∷ next ∷ rest) (suc zero) inside before feed return =
    len-goes (byte ∷ next ∷ rest) (omega arith) (and-left _ _ (return 0 refl))
    ∙ ap suc (feed-goes (next ∷ rest) zero (omega arith) (λ j below. absurd (omega arith)) feed (λ j is. absurd (omega arith)))
    ∙ omega arith
feed-goes (byte ∷ next ∷ rest) (suc (suc k)) inside before feed return =
    len-goes (byte ∷ next ∷ rest) (omega arith) (and_right _ _ (before 1 (omega arith)))
    ∙ ap suc (feed-goes (next ∷ rest) (suc k) (omega arith) (λ j below. before (suc j) (omega arith)) feed (λ j is. return (suc j) (omega arith)))
    ∙ omega arith

no-feed : (text : List ℕ) → ((j : ℕ) → j < length text → (get_or text j 0 == 10) ≡ false) → first_line_len text ≡ length text
no-feed [] none = refl
no-feed (byte ∷ []) none = refl
no-feed (byte ∷ next ∷ rest) none =
    len-goes (byte ∷ next ∷ rest) (omega arith) (and_right _ _ (none 1 (omega arith)))
    ∙ ap suc (no-feed (next ∷ rest) (λ j below. none (suc j) (omega arith)))

-- the same, as a loop goes from one line feed to the next
passes-feed : (rest : List ℕ) (feed : ℕ) → IsFirstByte (is_byte 10) rest (Some feed) → (feed < length rest) × ((j : ℕ) → j < feed → (get_or rest j 0 == 10) ≡ false) × ((get_or rest feed 0 == 10) ≡ true)
passes-feed rest feed first =
    let before = first.0.before in
    (omega (arith, first.0.high), λ j below. false_from_ne_true _ (before j (omega arith) below), first.1)

rest-ends : (rest : List ℕ) (feed : ℕ) → IsFirstByte (is_byte 10) rest (Some feed) → 0 < feed → get_or rest (feed - 1) 0 ≡ 13 → first_line_len rest ≡ suc feed
rest-ends rest zero first some return = absurd (omega arith)
rest-ends rest (suc k) first some return =
    let found = passes-feed rest (suc k) first in
    let place : suc k - 1 ≡ k = omega arith in
    feed-ends rest k found.0 found.1 found.2 (ap (λ byte. byte == 13) (ap (λ j. get_or rest j 0) (sym place) ∙ return))

pub loop-ends : (text hay : List ℕ) (from feed : ℕ) → hay ≡ drop from text → from + first_line_len (drop from text) ≡ first_line_len text
    → IsFirstByte (is_byte 10) hay (Some feed) → 0 < feed → get_or text (from + feed - 1) 0 ≡ 13 → from + feed + 1 ≡ first_line_len text
loop-ends text hay from feed is value first some return =
    let place : from + (feed - 1) ≡ from + feed - 1 = omega arith in
    let byte : get_or hay (feed - 1) 0 ≡ 13 = ap (λ list. get_or list (feed - 1) 0) is ∙ get_or-drop from text (feed - 1) 0 ∙ ap (λ j. get_or text j 0) place ∙ return in
    let width : first_line_len (drop from text) ≡ suc feed = ap first_line_len (sym is) ∙ rest-ends hay feed first some byte in
    omega arith

pub loop-goes : (text hay : List ℕ) (from feed : ℕ) → hay ≡ drop from text → from + first_line_len (drop from text) ≡ first_line_len text
    → IsFirstByte (is_byte 10) hay (Some feed) → (0 < feed → get_or text (from + feed - 1) 0 ≢ 13) → from + feed + 1 + first_line_len (drop (from + feed + 1) text) ≡ first_line_len text
loop-goes text hay from feed is value first return =
    let found = passes-feed hay feed first in
    let place : (j : ℕ) → suc j ≡ feed → from + feed - 1 ≡ from + j = λ j next. omega arith in
    let before : (j : ℕ) → suc j ≡ feed → (get_or hay j 0 == 13) ≡ false =
    λ j next. ne_eqb _ _ (λ byte. return (omega arith) (ap (λ k. get_or text k 0) (place j next) ∙ sym (get_or-drop from text j 0) ∙ ap (λ list. get_or list j 0) (sym is) ∙ byte)) in
    let width : first_line_len hay ≡ suc feed + first_line_len (drop (suc feed) hay) = feed-goes hay feed found.0 found.1 found.2 before in
    let same : first_line_len hay ≡ first_line_len (drop from text) = ap first_line_len is in
    let behind : drop (suc feed) hay ≡ drop (from + feed + 1) text = ap (drop (suc feed)) is ∙ drop-drop (suc feed) from text ∙ ap (λ n. drop n text) (omega arith) in
    let left : first_line_len (drop (suc feed) hay) ≡ first_line_len (drop (from + feed + 1) text) = ap first_line_len behind in
    omega arith

pub within-feed : (text hay : List ℕ) (from feed : ℕ) → hay ≡ drop from text → from ≤ length text → IsFirstByte (is_byte 10) hay (Some feed) → from + feed + 1 ≤ length text
within-feed text hay from feed is within first =
    let long : length hay ≡ length (drop from text) = ap length is in
    let inside : feed < length hay = (passes-feed hay feed first).0 in
    omega (arith, length-drop from text)

pub loop-whole : (text hay : List ℕ) (from : ℕ) → from ≤ length text → hay ≡ drop from text → from + first_line_len (drop from text) ≡ first_line_len text
    → IsFirstByte (is_byte 10) hay None → length text ≡ first_line_len text
loop-whole text hay from within is value nowhere =
    let width : first_line_len hay ≡ length hay = no-feed hay (λ j inside. false_from_ne_true _ (nowhere j (omega arith) inside)) in
    let same : first_line_len hay ≡ first_line_len (drop from text) = ap first_line_len is in
    let long : length hay ≡ length (drop from text) = ap length is in
    omega (arith, length-drop from text)
