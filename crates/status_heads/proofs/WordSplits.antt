-- The words of a value, one by one.
use Rattle.std.proofs.Common.{◌≡◌, ℕ, ◌+◌, ◌<◌, ⊎_elim, true, false, List, [], ◌∷◌, length, cond, refl, ap, sym, ◌∙◌, arith, nat_lt}
use Rattle.std.specs.List.{slice_split, before_first, after_first, position_or_len, filter}
use Rattle.std.proofs.lemmas.Bool.{cases_lt}
use Rattle.std.proofs.lemmas.List.{take_all, drop_all, length-drop}
use Rattle.std.proofs.lemmas.List.Splits.{slice_split_first, slice_split_none}
use Rattle.std.proofs.lemmas.List.Sums.{fails_before_first}
use Rattle.mail_fields.specs.Names.{is_space}
use Rattle.status_heads.specs.Names.{words_of}

pub no-words : (text : List ℕ) → length text ≡ 0 → words_of text ≡ []
unfolding words_of
no-words [] none = refl
no-words (byte ∷ rest) none = absurd (omega arith)

-- what stands before the first space is a word, if it has a byte
words-step : (text : List ℕ) → words_of text ≡ cond (nat_lt 0 (length (before_first is_space text))) (before_first is_space text ∷ words_of (after_first is_space text)) (words_of (after_first is_space text))
unfolding words_of
words-step text = ⊎_elim
    (λ inside. ap (filter (λ word. nat_lt 0 (length word))) (slice_split_first is_space text 0 inside))
    (λ outside.
    let front = before_first is_space text in
    let all : front ≡ text = take_all (position_or_len is_space text) text outside in
    let none : after_first is_space text ≡ [] = drop_all (position_or_len is_space text + 1) text (omega arith) in
    ap (filter (λ word. nat_lt 0 (length word))) (slice_split_none is_space text (λ k d below. fails_before_first is_space text k d (omega arith)) ∙ ap (λ word. word ∷ []) (sym all))
    ∙ ap (λ rest. cond (nat_lt 0 (length front)) (front ∷ filter (λ word. nat_lt 0 (length word)) (slice_split is_space rest)) (filter (λ word. nat_lt 0 (length word)) (slice_split is_space rest))) (sym none))
    (cases_lt (position_or_len is_space text) (length text))

-- a word is found, or the space before it is passed
pub word-first : (text word behind : List ℕ) → word ≡ before_first is_space text → behind ≡ after_first is_space text → nat_lt 0 (length word) ≡ true → words_of text ≡ word ∷ words_of behind
word-first text word behind front back some =
    words-step text
    ∙ ap (λ each. cond (nat_lt 0 (length each)) (each ∷ words_of (after_first is_space text)) (words_of (after_first is_space text))) (sym front)
    ∙ ap (λ test. cond test (word ∷ words_of (after_first is_space text)) (words_of (after_first is_space text))) some
    ∙ ap (λ rest. word ∷ words_of rest) (sym back)

pub space-first : (text word behind : List ℕ) → word ≡ before_first is_space text → behind ≡ after_first is_space text → nat_lt 0 (length word) ≡ false → words_of text ≡ words_of behind
space-first text word behind front back none =
    words-step text
    ∙ ap (λ each. cond (nat_lt 0 (length each)) (each ∷ words_of (after_first is_space text)) (words_of (after_first is_space text))) (sym front)
    ∙ ap (λ test. cond test (word ∷ words_of (after_first is_space text)) (words_of (after_first is_space text))) none
    ∙ ap words_of (sym back)

-- what stands behind the first space is shorter
pub behind-shorter : (text behind : List ℕ) → 0 < length text → behind ≡ after_first is_space text → length behind < length text
behind-shorter text behind some back =
    let left = length-drop (position_or_len is_space text + 1) text in
    omega (arith, ap length back)
