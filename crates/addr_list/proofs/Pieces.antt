-- The first piece of a body is the one that the grammar has.
use Rattle.std.proofs.Common.{◌≡◌, ◌∙◌, ⊎_elim, ℕ, suc, ◌+◌, ◌<◌, ◌==◌, ◌||◌, true, false, List, [], ◌∷◌, ◌++◌, Option, Some, None, length, take, drop, refl, ap, sym, subst, arith}
use Rattle.std.specs.List.{prefix_len, list_all}
use Rattle.std.proofs.lemmas.Bool.{cases_Bool, cond-true, cond-false, false≢true, or_cases, eqb-true, ne_eqb, and_parts, and_from}
use Rattle.std.proofs.lemmas.List.{length-append, append_assoc, take_at, drop_at, take-append-drop}
use Rattle.text_lines.specs.Blanks.{is_blank}
use Rattle.addr_list.specs.Tokens.{Token, run, quoted, literal, mark, AreTokens, none, skip_blank, skip_comment, one_run, one_quoted, one_literal, one_mark, is_mark, is_run_byte}
use Rattle.addr_list.specs.Scanning.{Piece, piece_of, comment_piece, quoted_piece, literal_piece, run_piece, comment_len, quotes_len, literal_len}
use Rattle.addr_list.proofs.Fronts.{front-append, front-all, front-yes, front-stops}
use Rattle.addr_list.proofs.Comments.{comment-found, comment-read}
use Rattle.addr_list.proofs.Strings.{quotes-found, quotes-read, literal-found, literal-read, literal-width}

-- a piece's token before others
abbrev pub before : Option Token → List Token → List Token
before None more = more
before (Some token) more = token ∷ more

-- the first piece of a body, and the tokens behind it
pub record Front (body : List ℕ) (tokens : List Token) : Type 0 where
  pub width : ℕ
  pub token : Option Token
  pub more : List Token
  pub piece : piece_of body ≡ Some (width, token)
  pub behind : AreTokens (drop width body) more
  pub whole : tokens ≡ before token more

-- a blank and a mark, by cases
blank-cases : (P : ℕ → Type 0) → P 32 → P 9 → (b : ℕ) → is_blank b ≡ true → P b
blank-cases P space tab b is =
    ⊎_elim
    (λ e. subst P (sym (eqb-true b 32 e)) space)
    (λ e. subst P (sym (eqb-true b 9 e)) tab)
    (or_cases (b == 32) (b == 9) is)

mark-cases : (P : ℕ → Type 0) → P 60 → P 62 → P 64 → P 44 → P 59 → P 58 → (b : ℕ) → is_mark b ≡ true → P b
mark-cases P less greater at comma semicolon colon b is =
    let one : (v : ℕ) → P v → (v == b) ≡ true → P b = λ v at_v e. subst P (eqb-true v b e) at_v in
    ⊎_elim (one 60 less) (λ more.
    ⊎_elim (one 62 greater) (λ more.
    ⊎_elim (one 64 at) (λ more.
    ⊎_elim (one 44 comma) (λ more.
    ⊎_elim (one 59 semicolon) (λ more.
    ⊎_elim (one 58 colon) (λ none. absurd (false≢true none))
    (or_cases (58 == b) false more))
    (or_cases (59 == b) ((58 == b) || false) more))
    (or_cases (44 == b) ((59 == b) || ((58 == b) || false)) more))
    (or_cases (64 == b) ((44 == b) || ((59 == b) || ((58 == b) || false))) more))
    (or_cases (62 == b) ((64 == b) || ((44 == b) || ((59 == b) || ((58 == b) || false)))) more))
    (or_cases (60 == b) ((62 == b) || ((64 == b) || ((44 == b) || ((59 == b) || ((58 == b) || false))))) is)

-- a byte of a run is none of those that a piece of another kind begins with
run-other : (b v : ℕ) → is_run_byte b ≡ true → is_run_byte v ≡ false → (b == v) ≡ false
run-other b v is other = ne_eqb b v (λ e. absurd (false≢true (sym other ∙ ap is_run_byte (sym e) ∙ is)))

run-not_mark : (b : ℕ) → is_run_byte b ≡ true → is_mark b ≡ false
run-not_mark b is =
    ⊎_elim
    (λ mark. absurd (false≢true (sym (mark-cases (λ v. is_run_byte v ≡ false) refl refl refl refl refl refl b mark) ∙ is)))
    (λ other. other)
    (cases_Bool (is_mark b))

run-not_blank : (b : ℕ) → is_run_byte b ≡ true → is_blank b ≡ false
run-not_blank b is =
    ⊎_elim
    (λ blank. absurd (false≢true (sym (blank-cases (λ v. is_run_byte v ≡ false) refl refl b blank) ∙ is)))
    (λ other. other)
    (cases_Bool (is_blank b))

take-behind : (a b : ℕ) (inner rest : List ℕ) → take (length inner + 2) (a ∷ inner ++ b ∷ rest) ≡ a ∷ inner ++ b ∷ []
take-behind a b inner rest =
    let width = length-append (a ∷ inner) (b ∷ []) in
    ap (take (length inner + 2)) (sym (append_assoc (a ∷ inner) (b ∷ []) rest)) ∙ take_at ((a ∷ inner) ++ b ∷ []) rest (length inner + 2) (omega arith)

drop-behind : (a b : ℕ) (inner rest : List ℕ) → drop (length inner + 2) (a ∷ inner ++ b ∷ rest) ≡ rest
drop-behind a b inner rest =
    let width = length-append (a ∷ inner) (b ∷ []) in
    ap (drop (length inner + 2)) (sym (append_assoc (a ∷ inner) (b ∷ []) rest)) ∙ drop_at ((a ∷ inner) ++ b ∷ []) rest (length inner + 2) (omega arith)

pub front-of : (body : List ℕ) (tokens : List Token) → 0 < length body → AreTokens body tokens → Front body tokens
unfolding piece_of
front-of _ _ some none = absurd (omega arith)
front-of _ _ some (skip_blank b rest more is behind) =
    record { width = 1; token = None; more = more; piece = cond-true (is_blank b) _ _ is; behind = behind; whole = refl }
front-of _ _ some (skip_comment inner rest more text behind) =
    record {
      width = length inner + 2;
      token = None;
      more = more;
      piece = ap comment_piece (comment-found inner rest text);
      behind = subst (λ t. AreTokens t more) (sym (drop-behind 40 41 inner rest)) behind;
      whole = refl;
    }
front-of _ _ some (one_quoted inner rest more text behind) =
    record {
      width = length inner + 2;
      token = Some (quoted inner);
      more = more;
      piece = ap (quoted_piece (inner ++ 34 ∷ rest)) (quotes-found inner rest text)
          ∙ ap (λ t. Some (length inner + 2, Some (quoted t))) (take_at inner (34 ∷ rest) (length inner) refl);
      behind = subst (λ t. AreTokens t more) (sym (drop-behind 34 34 inner rest)) behind;
      whole = refl;
    }
front-of _ _ some (one_literal inner rest more all behind) =
    record {
      width = length inner + 2;
      token = Some (literal (91 ∷ inner ++ 93 ∷ []));
      more = more;
      piece = ap (literal_piece (inner ++ 93 ∷ rest)) (literal-found inner rest all)
          ∙ ap (λ t. Some (length inner + 2, Some (literal t))) (take-behind 91 93 inner rest);
      behind = subst (λ t. AreTokens t more) (sym (drop-behind 91 93 inner rest)) behind;
      whole = refl;
    }
front-of _ _ some (one_run b inner rest more all stops behind) =
    let is = (and_parts (is_run_byte b) (list_all is_run_byte inner) all).0 in
    let body = b ∷ inner ++ rest in
    let width : prefix_len is_run_byte body ≡ length (b ∷ inner) =
    front-append is_run_byte (b ∷ inner) rest all ∙ (let e : length (b ∷ inner) + prefix_len is_run_byte rest ≡ length (b ∷ inner) = omega arith in e) in
    record {
      width = length (b ∷ inner);
      token = Some (run (b ∷ inner));
      more = more;
      piece = cond-false (is_blank b) _ _ (run-not_blank b is)
          ∙ cond-false (b == 40) _ _ (run-other b 40 is refl)
          ∙ cond-false (b == 34) _ _ (run-other b 34 is refl)
          ∙ cond-false (b == 91) _ _ (run-other b 91 is refl)
          ∙ cond-false (is_mark b) _ _ (run-not_mark b is)
          ∙ cond-true (is_run_byte b) _ _ is
          ∙ ap (λ n. Some (n, Some (run (take n body)))) width
          ∙ ap (λ t. Some (length (b ∷ inner), Some (run t))) (take_at (b ∷ inner) rest (length (b ∷ inner)) refl);
      behind = subst (λ t. AreTokens t more) (sym (drop_at (b ∷ inner) rest (length (b ∷ inner)) refl)) behind;
      whole = refl;
    }
front-of _ _ some (one_mark b rest more is behind) =
    record {
      width = 1;
      token = Some (mark b);
      more = more;
      piece = mark-cases (λ v. piece_of (v ∷ rest) ≡ Some (1, Some (mark v))) refl refl refl refl refl refl b is;
      behind = behind;
      whole = refl;
    }

-- what a piece says of the tokens of a body
Says : List ℕ → Option Piece → Type 0
Says body None = Unit {0}
Says body (Some piece) = (more : List Token) → AreTokens (drop piece.0 body) more → AreTokens body (before piece.1 more)

-- a body whose first bytes are two marks round a text
behind-two : (a b n : ℕ) (inner rest : List ℕ) → length inner ≡ n → drop (n + 2) (a ∷ inner ++ b ∷ rest) ≡ rest
behind-two a b n inner rest is = ap (λ k. drop (k + 2) (a ∷ inner ++ b ∷ rest)) (sym is) ∙ drop-behind a b inner rest

suc-two : (n : ℕ) → n + 2 ≡ suc (suc n)
suc-two n = omega arith

comment-says : (rest : List ℕ) (found : Option ℕ) → comment_len false 0 rest ≡ found → Says (40 ∷ rest) (comment_piece found)
unfolding Says
comment-says rest None is = tt
comment-says rest (Some n) is = λ more behind.
    let read = comment-read rest n is in
    let left = subst (λ k. AreTokens (drop k (40 ∷ rest)) more) (suc-two n) behind in
    subst (λ t. AreTokens (40 ∷ t) more) (sym read.2) (skip_comment read.0 (drop (suc n) rest) more read.1 left)

quoted-says : (rest : List ℕ) (found : Option ℕ) → quotes_len false rest ≡ found → Says (34 ∷ rest) (quoted_piece rest found)
unfolding Says
quoted-says rest None is = tt
quoted-says rest (Some n) is = λ more behind.
    let read = quotes-read rest n is in
    let left = subst (λ k. AreTokens (drop k (34 ∷ rest)) more) (suc-two n) behind in
    subst (λ t. AreTokens (34 ∷ t) (quoted (take n rest) ∷ more)) (sym read.1) (one_quoted (take n rest) (drop (suc n) rest) more read.0 left)

literal-says : (rest : List ℕ) (found : Option ℕ) → literal_len rest ≡ found → Says (91 ∷ rest) (literal_piece rest found)
unfolding Says
literal-says rest None is = tt
literal-says rest (Some n) is = λ more behind.
    let read = literal-read rest n is in
    let inner = take n rest in
    let after = drop (suc n) rest in
    let left = subst (λ k. AreTokens (drop k (91 ∷ rest)) more) (suc-two n) behind in
    let width : length inner ≡ n = literal-width rest n is in
    let token : take (n + 2) (91 ∷ rest) ≡ 91 ∷ inner ++ 93 ∷ [] =
    ap (λ t. take (n + 2) (91 ∷ t)) read.1 ∙ ap (λ k. take (k + 2) (91 ∷ inner ++ 93 ∷ after)) (sym width) ∙ take-behind 91 93 inner after in
    subst (λ t. AreTokens (91 ∷ rest) (literal t ∷ more)) (sym token)
    (subst (λ t. AreTokens (91 ∷ t) (literal (91 ∷ inner ++ 93 ∷ []) ∷ more)) (sym read.1) (one_literal inner after more read.0 left))

run-says : (b : ℕ) (rest : List ℕ) → is_run_byte b ≡ true → Says (b ∷ rest) (Some (run_piece (b ∷ rest)))
unfolding Says
run-says b rest is = λ more behind.
    let n = prefix_len is_run_byte rest in
    let longer = front-yes is_run_byte b rest is in
    let all = and_from (is_run_byte b) (list_all is_run_byte (take n rest)) is (front-all is_run_byte rest) in
    let left = subst (λ k. AreTokens (drop k (b ∷ rest)) more) longer behind in
    subst (λ k. AreTokens (b ∷ rest) (run (take k (b ∷ rest)) ∷ more)) (sym longer)
    (subst (λ t. AreTokens (b ∷ t) (run (b ∷ take n rest) ∷ more)) (take-append-drop n rest)
    (one_run b (take n rest) (drop n rest) more all (front-stops is_run_byte rest) left))

piece-says : (body : List ℕ) → Says body (piece_of body)
unfolding piece_of Says
piece-says [] = tt
piece-says (b ∷ rest) =
    let says : Option Piece → Type 0 = λ o. Says (b ∷ rest) o in
    ⊎_elim (λ is. subst says (sym (cond-true (is_blank b) _ _ is)) (λ more behind. skip_blank b rest more is behind)) (λ no. subst says (sym (cond-false (is_blank b) _ _ no))
    (⊎_elim (λ is. subst says (sym (cond-true (b == 40) _ _ is)) (subst (λ a. Says (a ∷ rest) (comment_piece (comment_len false 0 rest))) (sym (eqb-true b 40 is)) (comment-says rest (comment_len false 0 rest) refl)))
    (λ no. subst says (sym (cond-false (b == 40) _ _ no))
    (⊎_elim (λ is. subst says (sym (cond-true (b == 34) _ _ is)) (subst (λ a. Says (a ∷ rest) (quoted_piece rest (quotes_len false rest))) (sym (eqb-true b 34 is)) (quoted-says rest (quotes_len false rest) refl)))
    (λ no. subst says (sym (cond-false (b == 34) _ _ no))
    (⊎_elim (λ is. subst says (sym (cond-true (b == 91) _ _ is)) (subst (λ a. Says (a ∷ rest) (literal_piece rest (literal_len rest))) (sym (eqb-true b 91 is)) (literal-says rest (literal_len rest) refl)))
    (λ no. subst says (sym (cond-false (b == 91) _ _ no))
    (⊎_elim (λ is. subst says (sym (cond-true (is_mark b) _ _ is)) (λ more behind. one_mark b rest more is behind)) (λ no. subst says (sym (cond-false (is_mark b) _ _ no))
    (⊎_elim (λ is. subst says (sym (cond-true (is_run_byte b) _ _ is)) (run-says b rest is)) (λ no. subst says (sym (cond-false (is_run_byte b) _ _ no)) tt)
    (cases_Bool (is_run_byte b))))
    (cases_Bool (is_mark b))))
    (cases_Bool (b == 91))))
    (cases_Bool (b == 34))))
    (cases_Bool (b == 40))))
    (cases_Bool (is_blank b))

pub front-sound : (body : List ℕ) (width : ℕ) (token : Option Token) → piece_of body ≡ Some (width, token) → (more : List Token) → AreTokens (drop width body) more → AreTokens body (before token more)
unfolding Says
front-sound body width token is = subst (λ o. Says body o) is (piece-says body)
