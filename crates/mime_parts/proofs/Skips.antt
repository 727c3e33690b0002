-- What is skipped in front of a text is told by the text.
use Rattle.std.proofs.Common.{◌≡◌, ◌≢◌, ◌∙◌, ⊎_elim, ℕ, suc, ◌+◌, ◌-◌, ◌<◌, ◌≤◌, ◌==◌, ◌||◌, true, false, List, [], ◌∷◌, ◌++◌, Some, None, length, take, drop, get_or, drop-cons, refl, ap, sym, subst, arith}
use Rattle.std.proofs.Math.Seq.{take-add}
use Rattle.std.specs.List.{prefix_len, list_all}
use Rattle.std.proofs.lemmas.Bool.{false≢true, cases_Bool, or_cases, eqb-true, ne_eqb, and_parts}
use Rattle.std.proofs.lemmas.List.{append_assoc, append-nil, length-append, length-take-le, length-drop, take_at, drop_at, take-append-drop, take_rest}
use Rattle.std.proofs.lemmas.Option.{none-some, same_Some}
use Rattle.addr_list.specs.Tokens.{IsCommentText}
use Rattle.addr_list.specs.Scanning.{comment_len}
use Rattle.addr_list.proofs.Comments.{comment-found, comment-read}
use Rattle.addr_list.proofs.Fronts.{front-append, front-all, front-stops, front-no}
use Rattle.mime_parts.specs.Values.{is_white, is_token_byte, IsSkipped, nothing, white, comment, EndsSkipped, IsMark, IsToken, EndsToken, BeginsMark, BeginsToken, HasNoMark, HasNoToken}

-- two texts in a row are skipped
pub skipped-append : (a b : List ℕ) → IsSkipped a → IsSkipped b → IsSkipped (a ++ b)
skipped-append _ b nothing more = more
skipped-append _ b (white c rest is skipped) more = white c (rest ++ b) is (skipped-append rest b skipped more)
skipped-append _ b (comment inner rest text skipped) more =
    subst (λ t. IsSkipped (40 ∷ t)) (sym (append_assoc inner (41 ∷ rest) b)) (comment inner (rest ++ b) text (skipped-append rest b skipped more))

-- the first byte of equal texts, and the rest
heads : (a b : ℕ) (more later : List ℕ) → ◌≡◌ {A = List ℕ} (a ∷ more) (b ∷ later) → a ≡ b
heads a b more later e = ap (λ l. get_or l 0 0) e

behind-closed : (inner rest : List ℕ) → drop (suc (length inner)) (inner ++ 41 ∷ rest) ≡ rest
behind-closed inner rest =
    let width = length-append inner (41 ∷ []) in
    ap (drop (suc (length inner))) (sym (append_assoc inner (41 ∷ []) rest)) ∙ drop_at (inner ++ 41 ∷ []) rest (suc (length inner)) (omega arith)

-- two comments at the front of a text are one
comments-same : (inner rest other later : List ℕ) → IsCommentText inner → IsCommentText other → inner ++ 41 ∷ rest ≡ other ++ 41 ∷ later → rest ≡ later
comments-same inner rest other later text text_too e =
    let long : length inner ≡ length other = same_Some _ _ (sym (comment-found inner rest text) ∙ ap (comment_len false 0) e ∙ comment-found other later text_too) in
    sym (behind-closed inner rest) ∙ ap (drop (suc (length inner))) e ∙ ap (λ n. drop (suc n) (other ++ 41 ∷ later)) long ∙ behind-closed other later

no-more : (b : ℕ) (front rest text : List ℕ) → EndsSkipped text → text ≡ (b ∷ front) ++ rest → IsSkipped (b ∷ front) → ⊥
no-more b front rest text ends e skipped = let long = ap length (ends (b ∷ front) rest e skipped) in absurd (omega arith)

pub skipped-same : (a : List ℕ) → IsSkipped a → (b : List ℕ) → IsSkipped b → (x y : List ℕ) → EndsSkipped x → EndsSkipped y → a ++ x ≡ b ++ y → x ≡ y
skipped-same _ nothing b skipped x y ends ends_too e = e ∙ ap (λ t. t ++ y) (ends b y e skipped)
skipped-same _ (white c rest is skipped) _ nothing x y ends ends_too e = absurd (no-more c rest x y ends_too (sym e) (white c rest is skipped))
skipped-same _ (comment inner rest text skipped) _ nothing x y ends ends_too e = absurd (no-more 40 (inner ++ 41 ∷ rest) x y ends_too (sym e) (comment inner rest text skipped))
skipped-same _ (white c rest is skipped) _ (white d later is_too skipped_too) x y ends ends_too e =
    skipped-same rest skipped later skipped_too x y ends ends_too (ap (drop 1) e)
skipped-same _ (white c rest is skipped) _ (comment inner later text skipped_too) x y ends ends_too e =
    absurd (false≢true (sym (ap is_white (heads c 40 _ _ e)) ∙ is))
skipped-same _ (comment inner later text skipped_too) _ (white c rest is skipped) x y ends ends_too e =
    absurd (false≢true (sym (ap is_white (heads c 40 _ _ (sym e))) ∙ is))
skipped-same _ (comment inner rest text skipped) _ (comment other later text_too skipped_too) x y ends ends_too e =
    skipped-same rest skipped later skipped_too x y ends ends_too
    (comments-same inner (rest ++ x) other (later ++ y) text text_too (sym (append_assoc inner (41 ∷ rest) x) ∙ ap (drop 1) e ∙ append_assoc other (41 ∷ later) y))

-- where nothing more is skipped: at the end, before a mark, and before a comment that isn't closed
pub ends-empty : EndsSkipped []
ends-empty [] rest e skipped = refl
ends-empty (b ∷ front) rest e skipped = let long = ap length e in absurd (omega arith)

module _ (b : ℕ) (mark : IsMark b) where
  no-mark : (c : ℕ) (front : List ℕ) → IsSkipped (c ∷ front) → c ≡ b → ⊥
  no-mark c front skipped same = over (c ∷ front) skipped same (omega arith)
    where
      over : (text : List ℕ) → IsSkipped text → get_or text 0 0 ≡ b → 0 < length text → ⊥
      over _ nothing e some = absurd (omega arith)
      over _ (white d rest is more) e some = absurd (false≢true (sym mark.dark ∙ ap is_white (sym e) ∙ is))
      over _ (comment inner rest text more) e some = absurd (false≢true (sym mark.no_comment ∙ ap (λ d. d == 40) (sym e)))

  pub ends-mark : (text : List ℕ) → EndsSkipped (b ∷ text)
  ends-mark text [] rest e skipped = refl
  ends-mark text (c ∷ front) rest e skipped = absurd (no-mark c front skipped (heads c b _ _ (sym e)))

pub ends-open : (text : List ℕ) → comment_len false 0 text ≡ None → EndsSkipped (40 ∷ text)
ends-open text unclosed front rest e skipped = over front skipped e
  where
    over : (front : List ℕ) → IsSkipped front → 40 ∷ text ≡ front ++ rest → front ≡ []
    over _ nothing e = refl
    over _ (white c later is more) e = absurd (false≢true (ap is_white (heads 40 c _ _ e) ∙ is))
    over _ (comment inner later closed more) e =
        absurd (none-some (length inner) (sym unclosed ∙ ap (comment_len false 0) (ap (drop 1) e ∙ append_assoc inner (41 ∷ later) rest) ∙ comment-found inner (later ++ rest) closed))

-- what stands behind what is skipped
pub left-same : (text a b x y : List ℕ) → IsSkipped a → IsSkipped b → EndsSkipped x → EndsSkipped y → text ≡ a ++ x → text ≡ b ++ y → x ≡ y
left-same text a b x y skipped skipped_too ends ends_too e f = skipped-same a skipped b skipped_too x y ends ends_too (sym e ∙ f)

-- a byte of a token is a mark
white-cases : (P : ℕ → Type 0) → P 32 → P 9 → P 13 → P 10 → (b : ℕ) → is_white b ≡ true → P b
white-cases P space tab carriage feed b is =
    let one : (v : ℕ) → P v → (b == v) ≡ true → P b = λ v at_v e. subst P (sym (eqb-true b v e)) at_v in
    ⊎_elim (λ more.
    ⊎_elim (λ more.
    ⊎_elim (one 32 space) (one 9 tab)
    (or_cases (b == 32) (b == 9) more))
    (one 13 carriage)
    (or_cases ((b == 32) || (b == 9)) (b == 13) more))
    (one 10 feed)
    (or_cases ((b == 32) || (b == 9) || (b == 13)) (b == 10) is)

pub token-mark : (b : ℕ) → is_token_byte b ≡ true → IsMark b
token-mark b is = record {
  dark = ⊎_elim
      (λ blank. absurd (false≢true (sym (white-cases (λ v. is_token_byte v ≡ false) refl refl refl refl b blank) ∙ is)))
      (λ dark. dark)
      (cases_Bool (is_white b));
  no_comment = ne_eqb b 40 (λ e. absurd (false≢true (ap is_token_byte (sym e) ∙ is)));
}

pub ends-token : (token rest : List ℕ) → IsToken token → EndsSkipped (token ++ rest)
ends-token [] rest is = let some = is.some in absurd (omega arith)
ends-token (b ∷ token) rest is = ends-mark b (token-mark b (and_parts (is_token_byte b) (list_all is_token_byte token) is.all).0) (token ++ rest)

-- tokens at the front are as long as they can be
pub token-width : (token rest : List ℕ) → IsToken token → EndsToken rest → prefix_len is_token_byte (token ++ rest) ≡ length token
token-width token rest is ended = front-append is_token_byte token rest is.all ∙ (let e : length token + prefix_len is_token_byte rest ≡ length token = omega (arith, ended) in e)

-- a text has one token and one mark at its front
module _ (text token rest : List ℕ) (is : BeginsToken text token rest) where
  ends : EndsSkipped (token ++ rest)
  ends = ends-token token rest is.is_token

  pub token-left : (before left : List ℕ) → IsSkipped before → EndsSkipped left → text ≡ before ++ left → left ≡ token ++ rest
  token-left before left skipped left_ends e = left-same text before is.before left (token ++ rest) skipped is.skipped left_ends ends e is.whole

  pub token-same : (other later : List ℕ) → BeginsToken text other later → (other ≡ token) × (later ≡ rest)
  token-same other later too =
      let left = token-left too.before (other ++ later) too.skipped (ends-token other later too.is_token) too.whole in
      let long : length other ≡ length token = sym (token-width other later too.is_token too.ended) ∙ ap (prefix_len is_token_byte) left ∙ token-width token rest is.is_token is.ended in (
        sym (take_at other later (length other) refl) ∙ ap (take (length other)) left ∙ ap (λ n. take n (token ++ rest)) long ∙ take_at token rest (length token) refl,
        sym (drop_at other later (length other) refl) ∙ ap (drop (length other)) left ∙ ap (λ n. drop n (token ++ rest)) long ∙ drop_at token rest (length token) refl,
      )

module _ (b : ℕ) (mark : IsMark b) (text rest : List ℕ) (is : BeginsMark b text rest) where
  pub mark-left : (before left : List ℕ) → IsSkipped before → EndsSkipped left → text ≡ before ++ left → left ≡ b ∷ rest
  mark-left before left skipped left_ends e = left-same text before is.before left (b ∷ rest) skipped is.skipped left_ends (ends-mark b mark rest) e is.whole

  pub mark-same : (later : List ℕ) → BeginsMark b text later → later ≡ rest
  mark-same later too = ap (drop 1) (mark-left too.before (b ∷ later) too.skipped (ends-mark b mark later) too.whole)

  pub mark-not_token : is_token_byte b ≡ false → (token later : List ℕ) → BeginsToken text token later → ⊥
  mark-not_token other token later too =
      let left = mark-left too.before (token ++ later) too.skipped (ends-token token later too.is_token) too.whole in
      let width : prefix_len is_token_byte (b ∷ rest) ≡ length token = ap (prefix_len is_token_byte) (sym left) ∙ token-width token later too.is_token too.ended in
      let none = front-no is_token_byte b rest other in
      let some = too.is_token.some in
      absurd (omega (arith, width, none, some))

  pub mark-not_skipped : IsSkipped text → ⊥
  mark-not_skipped skipped =
      let left = mark-left text [] skipped ends-empty (sym (append-nil text)) in
      let long = ap length left in
      absurd (omega arith)

-- what is found behind so many bytes that are skipped
module _ (text : List ℕ) (n : ℕ) (skipped : IsSkipped (take n text)) (ends : EndsSkipped (drop n text)) where
  whole : text ≡ take n text ++ drop n text
  whole = sym (take-append-drop n text)

  pub token-found : (width : ℕ) → width ≡ prefix_len is_token_byte (drop n text) → width ≤ length (drop n text) → width ≢ 0 → BeginsToken text (take width (drop n text)) (drop width (drop n text))
  token-found width is within some = record {
    before = take n text;
    skipped = skipped;
    is_token = record {
      some = let long = length-take-le width (drop n text) within in omega arith;
      all = subst (λ k. list_all is_token_byte (take k (drop n text)) ≡ true) (sym is) (front-all is_token_byte (drop n text));
    };
    ended = subst (λ k. prefix_len is_token_byte (drop k (drop n text)) ≡ 0) (sym is) (front-stops is_token_byte (drop n text));
    whole = whole ∙ ap (λ t. take n text ++ t) (sym (take-append-drop width (drop n text)));
  }

  pub token-none : prefix_len is_token_byte (drop n text) ≡ 0 → HasNoToken text
  token-none none token rest is =
      let left = token-left text token rest is (take n text) (drop n text) skipped ends whole in
      let width = ap (prefix_len is_token_byte) left ∙ token-width token rest is.is_token is.ended in
      let some = is.is_token.some in
      absurd (omega (arith, width, none, some))

  pub mark-found : (b : ℕ) (rest : List ℕ) → drop n text ≡ b ∷ rest → BeginsMark b text rest
  mark-found b rest is = record { before = take n text; skipped = skipped; whole = whole ∙ ap (λ t. take n text ++ t) is }

  pub mark-none : (b : ℕ) → IsMark b → ((rest : List ℕ) → drop n text ≡ b ∷ rest → ⊥) → HasNoMark b text
  mark-none b mark none rest is = none rest (mark-left b mark text rest is (take n text) (drop n text) skipped ends whole)

-- a step over white space and over a comment
module _ (text : List ℕ) (at : ℕ) (inside : at < length text) (skipped : IsSkipped (take at text)) where
  front : drop at text ≡ get_or text at 0 ∷ drop (at + 1) text
  front = drop-cons text at 0 inside ∙ ap (λ n. get_or text at 0 ∷ drop n text) (let e : suc at ≡ at + 1 = omega arith in e)

  pub white-goes_on : is_white (get_or text at 0) ≡ true → IsSkipped (take (at + 1) text)
  white-goes_on is =
      subst IsSkipped (sym (take-add at 1 text ∙ ap (λ t. take at text ++ take 1 t) front))
      (skipped-append (take at text) (get_or text at 0 ∷ []) skipped (white (get_or text at 0) [] is nothing))

  pub comment-goes_on : (n : ℕ) → get_or text at 0 ≡ 40 → comment_len false 0 (drop (at + 1) text) ≡ Some n → IsSkipped (take (at + (n + 2)) text)
  comment-goes_on n opens found =
      let rest = drop (at + 1) text in
      let read = comment-read rest n found in
      let inner = read.0 in
      let after = drop (suc n) rest in
      let long : length inner ≡ n = same_Some _ _ (sym (comment-found inner after read.1) ∙ sym (ap (comment_len false 0) read.2) ∙ found) in
      let whole : drop at text ≡ 40 ∷ inner ++ 41 ∷ after = front ∙ ap (λ b. b ∷ rest) opens ∙ ap (λ t. 40 ∷ t) read.2 in
      let joined = length-append (40 ∷ inner) (41 ∷ []) in
      let taken : take (n + 2) (40 ∷ inner ++ 41 ∷ after) ≡ 40 ∷ inner ++ 41 ∷ [] =
      ap (take (n + 2)) (sym (append_assoc (40 ∷ inner) (41 ∷ []) after)) ∙ take_at ((40 ∷ inner) ++ 41 ∷ []) after (n + 2) (omega (arith, joined, long)) in
      subst IsSkipped (sym (take-add at (n + 2) text ∙ ap (λ t. take at text ++ take (n + 2) t) whole ∙ ap (λ t. take at text ++ t) taken))
      (skipped-append (take at text) (40 ∷ inner ++ 41 ∷ []) skipped (comment inner [] read.1 nothing))

  pub open-ends : get_or text at 0 ≡ 40 → comment_len false 0 (drop (at + 1) text) ≡ None → EndsSkipped (drop at text)
  open-ends opens none = subst (λ t. EndsSkipped t) (sym (front ∙ ap (λ b. b ∷ drop (at + 1) text) opens)) (ends-open (drop (at + 1) text) none)

  pub other-ends : is_white (get_or text at 0) ≡ false → get_or text at 0 ≢ 40 → EndsSkipped (drop at text)
  other-ends dark other =
      subst (λ t. EndsSkipped t) (sym front) (ends-mark (get_or text at 0) (record { dark = dark; no_comment = ne_eqb (get_or text at 0) 40 other }) (drop (at + 1) text))

-- a token as it is found, and none
module _ (text : List ℕ) (n width : ℕ) (skipped : IsSkipped (take n text)) (ends : EndsSkipped (drop n text)) where
  pub word-found : width ≡ prefix_len is_token_byte (take (length text - n) (drop n text)) → width ≤ length (take (length text - n) (drop n text)) → width ≢ 0
      → BeginsToken text (take width (take (length text - n) (drop n text))) (take (length (take (length text - n) (drop n text)) - width) (drop width (take (length text - n) (drop n text))))
  word-found =
      subst (λ left. width ≡ prefix_len is_token_byte left → width ≤ length left → width ≢ 0 → BeginsToken text (take width left) (take (length left - width) (drop width left))) (sym (take_rest text n))
      (λ is within some. subst (λ t. BeginsToken text (take width (drop n text)) t) (sym (take_rest (drop n text) width)) (token-found text n skipped ends width is within some))

  pub word-none : width ≡ prefix_len is_token_byte (take (length text - n) (drop n text)) → width ≡ 0 → HasNoToken text
  word-none is none = token-none text n skipped ends (ap (prefix_len is_token_byte) (sym (take_rest text n)) ∙ sym is ∙ none)

-- a mark as it is found, and none
module _ (b : ℕ) (mark : IsMark b) (text : List ℕ) (n : ℕ) (skipped : IsSkipped (take n text)) (ends : EndsSkipped (drop n text)) where
  pub byte-found : n < length text → get_or text n 0 ≡ b → BeginsMark b text (take (length text - (n + 1)) (drop (n + 1) text))
  byte-found inside is =
      subst (λ t. BeginsMark b text t) (sym (take_rest text (n + 1)))
      (mark-found text n skipped ends b (drop (n + 1) text) (front text n inside skipped ∙ ap (λ c. c ∷ drop (n + 1) text) is))

  pub byte-none : (n < length text → get_or text n 0 ≡ b → ⊥) → HasNoMark b text
  byte-none other = mark-none text n skipped ends b mark (λ rest is.
      let some = ap length is in
      let left = length-drop n text in
      let inside : n < length text = omega arith in
      other inside (ap (λ t. get_or t 0 0) (sym (front text n inside skipped) ∙ is)))

pub not-skipped : (text : List ℕ) (n : ℕ) → n ≤ length text → IsSkipped (take n text) → EndsSkipped (drop n text) → IsSkipped text → n ≡ length text
not-skipped text n within skipped ends all =
    let rest = left-same text (take n text) text (drop n text) [] skipped all ends ends-empty (sym (take-append-drop n text)) (sym (append-nil text)) in
    let none = ap length rest in
    let left = length-drop n text in
    omega arith
