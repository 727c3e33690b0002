-- The quoted string and the domain literal that are found from the left are those that the grammar has.
use Rattle.std.proofs.Common.{◌≡◌, ◌∙◌, ⊎_elim, ℕ, suc, ◌+◌, ◌==◌, Bool, true, false, not, List, [], ◌∷◌, ◌++◌, Option, Some, None, nat_lt, length, take, drop, drop-cons, get_or, refl, ap, sym, subst, arith}
use Rattle.std.specs.List.{prefix_len, list_all}
use Rattle.std.proofs.lemmas.Bool.{cases_Bool, cond-true, cond-false, eqb-true, and_parts, not-true, ltb-true, lt-ltb, not-false}
use Rattle.std.proofs.lemmas.List.{length-append, take-append-drop, length-take-le}
use Rattle.std.proofs.lemmas.List.Sums.{prefix_len_stops}
use Rattle.std.proofs.lemmas.Option.{none-some, cond_some}
use Rattle.addr_list.specs.Tokens.{IsQuotedText, nothing, byte, pair, is_quoted_byte, is_literal_byte}
use Rattle.addr_list.specs.Scanning.{quotes_len, literal_len, one_more}
use Rattle.addr_list.proofs.Fronts.{front-append, front-all, front-no}

pub quotes-found : (inner rest : List ℕ) → IsQuotedText inner → quotes_len false (inner ++ 34 ∷ rest) ≡ Some (length inner)
quotes-found _ rest nothing = refl
quotes-found _ rest (byte b inner is text) =
    let both = and_parts (not (b == 34)) (not (b == 92)) is in
    rw (not-true (b == 34) both.0, not-true (b == 92) both.1) (ap one_more (quotes-found inner rest text))
quotes-found _ rest (pair b inner text) = ap (λ o. one_more (one_more o)) (quotes-found inner rest text)

some-more : (o : Option ℕ) (n : ℕ) → one_more o ≡ Some n → (m : ℕ) × (o ≡ Some m) × (n ≡ suc m)
some-more None n is = absurd (none-some n is)
some-more (Some m) n is = (m, refl, sym (cc))

-- what a width says; behind a backslash, of the text with the backslash
Found : Bool → List ℕ → ℕ → Type 0
Found false text n = IsQuotedText (take n text) × (text ≡ take n text ++ 34 ∷ drop (suc n) text)
Found true text n = IsQuotedText (92 ∷ take n text) × (text ≡ take n text ++ 34 ∷ drop (suc n) text)

quotes-within : (escaped : Bool) (text : List ℕ) (n : ℕ) → quotes_len escaped text ≡ Some n → Found escaped text n
unfolding Found
quotes-within escaped [] n is = absurd (none-some n is)
quotes-within true (b ∷ rest) n is =
    let m = some-more (quotes_len false rest) n is in
    let inner = quotes-within false rest m.0 m.1 in
    subst (λ k. Found true (b ∷ rest) k) (sym m.2) (pair b (take m.0 rest) inner.0, ap (λ t. b ∷ t) inner.1)
quotes-within false (b ∷ rest) n is =
    ⊎_elim
    (λ ends.
    let zero_is : 0 ≡ n = let e = sym (cond-true (b == 34) _ _ ends) ∙ is in cc in
    subst (λ k. Found false (b ∷ rest) k) zero_is (nothing, ap (λ a. a ∷ rest) (eqb-true b 34 ends)))
    (λ goes.
    let m = some-more (quotes_len (b == 92) rest) n (sym (cond-false (b == 34) _ _ goes) ∙ is) in
    subst (λ k. Found false (b ∷ rest) k) (sym m.2)
    (⊎_elim
    (λ back.
    let inner = quotes-within true rest m.0 (ap (λ e. quotes_len e rest) (sym back) ∙ m.1) in
    (subst (λ a. IsQuotedText (a ∷ take m.0 rest)) (sym (eqb-true b 92 back)) inner.0, ap (λ t. b ∷ t) inner.1))
    (λ plain.
    let inner = quotes-within false rest m.0 (ap (λ e. quotes_len e rest) (sym plain) ∙ m.1) in
    let is_byte : is_quoted_byte b ≡ true = rw (goes, plain) refl in
    (byte b (take m.0 rest) is_byte inner.0, ap (λ t. b ∷ t) inner.1))
    (cases_Bool (b == 92))))
    (cases_Bool (b == 34))

pub quotes-read : (text : List ℕ) (n : ℕ) → quotes_len false text ≡ Some n → IsQuotedText (take n text) × (text ≡ take n text ++ 34 ∷ drop (suc n) text)
unfolding Found
quotes-read text n is = quotes-within false text n is

pub literal-found : (inner rest : List ℕ) → list_all is_literal_byte inner ≡ true → literal_len (inner ++ 93 ∷ rest) ≡ Some (length inner)
unfolding literal_len
literal-found inner rest all =
    let text = inner ++ 93 ∷ rest in
    let width : prefix_len is_literal_byte text ≡ length inner =
    front-append is_literal_byte inner (93 ∷ rest) all ∙ ap (λ n. length inner + n) (front-no is_literal_byte 93 rest refl) ∙ (let e : length inner + 0 ≡ length inner = omega arith in e) in
    let long = length-append inner (93 ∷ rest) in
    cond-true (nat_lt (prefix_len is_literal_byte text) (length text)) _ None (lt-ltb _ _ (omega arith)) ∙ ap Some width

pub literal-read : (text : List ℕ) (n : ℕ) → literal_len text ≡ Some n → (list_all is_literal_byte (take n text) ≡ true) × (text ≡ take n text ++ 93 ∷ drop (suc n) text)
unfolding literal_len
literal-read text n is =
    let width = prefix_len is_literal_byte text in
    let both = cond_some (nat_lt width (length text)) width n is in
    let inside = ltb-true width (length text) both.0 in
    let stops = not-false (get_or text width 0 == 93) (prefix_len_stops is_literal_byte text 0 inside) in
    let bracket = eqb-true (get_or text width 0) 93 stops in
    let read : (list_all is_literal_byte (take width text) ≡ true) × (text ≡ take width text ++ 93 ∷ drop (suc width) text) = (
      front-all is_literal_byte text,
      sym (take-append-drop width text) ∙ ap (λ t. take width text ++ t) (drop-cons text width 0 inside ∙ ap (λ b. b ∷ drop (suc width) text) bracket),
    ) in
    subst (λ k. (list_all is_literal_byte (take k text) ≡ true) × (text ≡ take k text ++ 93 ∷ drop (suc k) text)) both.1 read

pub literal-width : (text : List ℕ) (n : ℕ) → literal_len text ≡ Some n → length (take n text) ≡ n
unfolding literal_len
literal-width text n is =
    let both = cond_some (nat_lt (prefix_len is_literal_byte text) (length text)) (prefix_len is_literal_byte text) n is in
    let inside = ltb-true (prefix_len is_literal_byte text) (length text) both.0 in
    length-take-le n text (omega (arith, both.1))
