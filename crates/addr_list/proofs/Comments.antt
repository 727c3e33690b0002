-- The comment that is found from the left is the one that the grammar has.
use Rattle.std.proofs.Common.{◌≡◌, ◌∙◌, ⊎_elim, ℕ, zero, suc, ◌+◌, ◌-◌, ◌==◌, ◌&&◌, Bool, true, false, not, cond, List, [], ◌∷◌, ◌++◌, Option, Some, None, length, drop, refl, ap, sym, subst, arith}
use Rattle.std.proofs.lemmas.Bool.{cases_Bool, cond-true, cond-false, eqb-true, and_parts, not-true, ne_eqb}
use Rattle.std.proofs.lemmas.List.{append_assoc, length-append}
use Rattle.std.proofs.lemmas.Option.{none-some}
use Rattle.addr_list.specs.Tokens.{IsCommentText, nothing, byte, pair, comment, is_comment_byte}
use Rattle.addr_list.specs.Scanning.{comment_len, one_more}
use Rattle.addr_list.proofs.Widths.{ahead}

-- so many bytes more, and one more, none more, some more
one_ahead : (n : ℕ) (o : Option ℕ) → one_more (ahead n o) ≡ ahead (suc n) o
one_ahead n None = refl
one_ahead n (Some m) = ap Some (let e : suc (n + m) ≡ suc n + m = omega arith in e)

none_ahead : (o : Option ℕ) → o ≡ ahead 0 o
none_ahead None = refl
none_ahead (Some m) = ap Some (let e : m ≡ 0 + m = omega arith in e)

two_ahead : (m n : ℕ) (o : Option ℕ) → ahead m (ahead n o) ≡ ahead (m + n) o
two_ahead m n None = refl
two_ahead m n (Some k) = ap Some (let e : m + (n + k) ≡ m + n + k = omega arith in e)

-- a closing parenthesis inside of a comment in a comment
closes-inner : (depth : ℕ) (rest : List ℕ) → comment_len false (suc depth) (41 ∷ rest) ≡ one_more (comment_len false depth rest)
closes-inner depth rest = rw (ne_eqb (suc depth) 0 (λ e. absurd (omega arith)), (let e : suc depth - 1 ≡ depth = omega arith in e)) refl

-- a comment's text is passed over
pub text-passed : (inner : List ℕ) → IsCommentText inner → (depth : ℕ) (rest : List ℕ) → comment_len false depth (inner ++ rest) ≡ ahead (length inner) (comment_len false depth rest)
text-passed _ nothing depth rest = none_ahead (comment_len false depth rest)
text-passed _ (byte b inner is text) depth rest =
    let two = and_parts (not (b == 92) && not (b == 40)) (not (b == 41)) is in
    let more = and_parts (not (b == 92)) (not (b == 40)) two.0 in
    rw (not-true (b == 92) more.0, not-true (b == 40) more.1, not-true (b == 41) two.1)
    (ap one_more (text-passed inner text depth rest) ∙ one_ahead (length inner) (comment_len false depth rest))
text-passed _ (pair b inner text) depth rest =
    ap (λ o. one_more (one_more o)) (text-passed inner text depth rest)
    ∙ ap one_more (one_ahead (length inner) (comment_len false depth rest))
    ∙ one_ahead (suc (length inner)) (comment_len false depth rest)
text-passed _ (comment inner after text more) depth rest =
    let behind = comment_len false depth rest in
    let joined = length-append inner (41 ∷ after) in
    ap (λ t. one_more (comment_len false (suc depth) t)) (append_assoc inner (41 ∷ after) rest)
    ∙ ap one_more (text-passed inner text (suc depth) (41 ∷ after ++ rest))
    ∙ ap (λ o. one_more (ahead (length inner) o)) (closes-inner depth (after ++ rest) ∙ ap one_more (text-passed after more depth rest) ∙ one_ahead (length after) behind)
    ∙ ap one_more (two_ahead (length inner) (suc (length after)) behind)
    ∙ one_ahead (length inner + suc (length after)) behind
    ∙ ap (λ n. ahead n behind) (let e : suc (length inner + suc (length after)) ≡ suc (length (inner ++ 41 ∷ after)) = omega arith in e)

pub comment-found : (inner rest : List ℕ) → IsCommentText inner → comment_len false 0 (inner ++ 41 ∷ rest) ≡ Some (length inner)
comment-found inner rest text = text-passed inner text 0 (41 ∷ rest) ∙ ap Some (let e : length inner + 0 ≡ length inner = omega arith in e)

-- texts of comments one in the other, each up to the parenthesis that closes it, and what stands behind the outermost
pub data Closes : ℕ → List ℕ → List ℕ → Type 0 where
  outermost : (inner rest : List ℕ) → IsCommentText inner → Closes 0 (inner ++ 41 ∷ rest) rest
  inside : (depth : ℕ) (inner text rest : List ℕ) → IsCommentText inner → Closes depth text rest → Closes (suc depth) (inner ++ 41 ∷ text) rest

closes-byte : (b : ℕ) → is_comment_byte b ≡ true → (depth : ℕ) (text rest : List ℕ) → Closes depth text rest → Closes depth (b ∷ text) rest
closes-byte b is _ _ _ (outermost inner rest text) = outermost (b ∷ inner) rest (byte b inner is text)
closes-byte b is _ _ _ (inside depth inner more rest text closes) = inside depth (b ∷ inner) more rest (byte b inner is text) closes

closes-pair : (b depth : ℕ) (text rest : List ℕ) → Closes depth text rest → Closes depth (92 ∷ b ∷ text) rest
closes-pair b _ _ _ (outermost inner rest text) = outermost (92 ∷ b ∷ inner) rest (pair b inner text)
closes-pair b _ _ _ (inside depth inner more rest text closes) = inside depth (92 ∷ b ∷ inner) more rest (pair b inner text) closes

-- a comment before a text
closes-after : (first : List ℕ) → IsCommentText first → (depth : ℕ) (text rest : List ℕ) → Closes depth text rest → Closes depth (40 ∷ first ++ 41 ∷ text) rest
closes-after first is _ _ _ (outermost inner rest text) =
    subst (λ t. Closes 0 (40 ∷ t) rest) (append_assoc first (41 ∷ inner) (41 ∷ rest)) (outermost (40 ∷ first ++ 41 ∷ inner) rest (comment first inner is text))
closes-after first is _ _ _ (inside depth inner more rest text closes) =
    subst (λ t. Closes (suc depth) (40 ∷ t) rest) (append_assoc first (41 ∷ inner) (41 ∷ more)) (inside depth (40 ∷ first ++ 41 ∷ inner) more rest (comment first inner is text) closes)

closes-opened : (depth : ℕ) (text rest : List ℕ) → Closes (suc depth) text rest → Closes depth (40 ∷ text) rest
closes-opened _ _ _ (inside depth inner text rest is closes) = closes-after inner is depth text rest closes

-- what a width says: where the comments close, and behind a backslash also the byte before
Found : Bool → ℕ → List ℕ → ℕ → Type 0
Found false depth text n = Closes depth text (drop (suc n) text)
Found true depth text n = (b : ℕ) × (more : List ℕ) × (text ≡ b ∷ more) × Closes depth more (drop (suc n) text)

some-more : (o : Option ℕ) (n : ℕ) → one_more o ≡ Some n → (m : ℕ) × (o ≡ Some m) × (n ≡ suc m)
some-more None n is = absurd (none-some n is)
some-more (Some m) n is = (m, refl, sym (cc))

width-found : (escaped : Bool) (depth : ℕ) (text : List ℕ) (n : ℕ) → comment_len escaped depth text ≡ Some n → Found escaped depth text n
unfolding Found
width-found escaped depth [] n is = absurd (none-some n is)
width-found true depth (b ∷ rest) n is =
    let m = some-more (comment_len false depth rest) n is in
    (b, rest, refl, subst (λ k. Closes depth rest (drop k rest)) (sym m.2) (width-found false depth rest m.0 m.1))
width-found false depth (b ∷ rest) n is =
    ⊎_elim
    (λ back.
    let m = some-more (comment_len true depth rest) n (sym (cond-true (b == 92) _ _ back) ∙ is) in
    let pairs = width-found true depth rest m.0 m.1 in
    subst (λ k. Closes depth (b ∷ rest) (drop k rest)) (sym m.2)
    (subst (λ t. Closes depth t (drop (suc m.0) rest)) (sym ((λ i. eqb-true b 92 back i ∷ pairs.2 i))) (closes-pair pairs.0 depth pairs.1 (drop (suc m.0) rest) pairs.3)))
    (λ plain. ⊎_elim
    (λ opens.
    let m = some-more (comment_len false (suc depth) rest) n (sym (cond-true (b == 40) _ _ opens) ∙ sym (cond-false (b == 92) _ _ plain) ∙ is) in
    let inner = width-found false (suc depth) rest m.0 m.1 in
    subst (λ k. Closes depth (b ∷ rest) (drop k rest)) (sym m.2)
    (subst (λ a. Closes depth (a ∷ rest) (drop (suc m.0) rest)) (sym (eqb-true b 40 opens)) (closes-opened depth rest (drop (suc m.0) rest) inner)))
    (λ unopened. ⊎_elim
    (λ closes.
    subst (λ a. Closes depth (a ∷ rest) (drop n rest)) (sym (eqb-true b 41 closes))
    (closed depth rest n (λ d m found. width-found false d rest m found) (sym (cond-true (b == 41) _ _ closes) ∙ sym (cond-false (b == 40) _ _ unopened) ∙ sym (cond-false (b == 92) _ _ plain) ∙ is)))
    (λ unclosed.
    let m = some-more (comment_len false depth rest) n (sym (cond-false (b == 41) _ _ unclosed) ∙ sym (cond-false (b == 40) _ _ unopened) ∙ sym (cond-false (b == 92) _ _ plain) ∙ is) in
    let inner = width-found false depth rest m.0 m.1 in
    let is_byte : is_comment_byte b ≡ true = rw (plain, unopened, unclosed) refl in
    subst (λ k. Closes depth (b ∷ rest) (drop k rest)) (sym m.2) (closes-byte b is_byte depth rest (drop (suc m.0) rest) inner))
    (cases_Bool (b == 41)))
    (cases_Bool (b == 40)))
    (cases_Bool (b == 92))
  where
    closed : (depth : ℕ) (rest : List ℕ) (n : ℕ) → ((d m : ℕ) → comment_len false d rest ≡ Some m → Closes d rest (drop (suc m) rest)) → cond (depth == 0) (Some zero) (one_more (comment_len false (depth - 1) rest)) ≡ Some n → Closes depth (41 ∷ rest) (drop n rest)
    closed zero rest n later is = subst (λ k. Closes 0 (41 ∷ rest) (drop k rest)) (let e : 0 ≡ n = cc in e) (outermost [] rest nothing)
    closed (suc depth) rest n later is =
        let shallower : suc depth - 1 ≡ depth = omega arith in
        let m = some-more (comment_len false depth rest) n (ap (λ d. one_more (comment_len false d rest)) (sym shallower) ∙ sym (cond-false (suc depth == 0) _ _ (ne_eqb (suc depth) 0 (λ e. absurd (omega arith)))) ∙ is) in
        subst (λ k. Closes (suc depth) (41 ∷ rest) (drop k rest)) (sym m.2) (inside depth [] rest (drop (suc m.0) rest) nothing (later depth m.0 m.1))

pub comment-read : (text : List ℕ) (n : ℕ) → comment_len false 0 text ≡ Some n → (inner : List ℕ) × IsCommentText inner × (text ≡ inner ++ 41 ∷ drop (suc n) text)
unfolding Found
comment-read text n is = outer text (drop (suc n) text) (width-found false 0 text n is)
  where
    outer : (text rest : List ℕ) → Closes 0 text rest → (inner : List ℕ) × IsCommentText inner × (text ≡ inner ++ 41 ∷ rest)
    outer _ _ (outermost inner rest text) = (inner, text, refl)
