-- Tokens that are read one after the other.
use Rattle.std.proofs.Common.{◌≡◌, ◌∙◌, List, [], ◌∷◌, ◌++◌, ℕ, ◌+◌, ◌<◌, ◌≤◌, Option, Some, None, length, drop, length-drop, refl, ap, sym, subst, arith}
use Rattle.std.proofs.lemmas.List.{append_assoc, append-nil, drop-drop, drop_all}
use Rattle.std.proofs.lemmas.Option.{none-some, same_Some}
use Rattle.addr_list.specs.Tokens.{Token, AreTokens, AreOnlyTokens, HasNoTokens, none, skip_blank, skip_comment, one_run, one_quoted, one_literal, one_mark}
use Rattle.addr_list.specs.Scanning.{Piece, piece_of}
use Rattle.addr_list.proofs.Pieces.{before, front-of, front-sound}

-- these tokens are read, and the rest of the body is left
pub record Continues (body : List ℕ) (done : List Token) (rest : List ℕ) : Type 0 where
  pub sound : (more : List Token) → AreTokens rest more → AreTokens body (done ++ more)
  pub complete : (tokens : List Token) → AreTokens body tokens → (more : List Token) × AreTokens rest more × (tokens ≡ done ++ more)

pub reading-starts : (body : List ℕ) → Continues body [] body
reading-starts body = record { sound = λ more are. are; complete = λ tokens are. (tokens, are, refl) }

-- the tokens of a piece behind others
abbrev pub with_piece : List Token → Option Token → List Token
with_piece done None = done
with_piece done (Some token) = done ++ token ∷ []

pub piece-before : (done : List Token) (token : Option Token) (more : List Token) → with_piece done token ++ more ≡ done ++ before token more
piece-before done None more = refl
piece-before done (Some token) more = append_assoc done (token ∷ []) more

pub reading-goes_on : (body : List ℕ) (done : List Token) (at width : ℕ) (token : Option Token) → at < length body → piece_of (drop at body) ≡ Some (width, token)
    → Continues body done (drop at body) → Continues body (with_piece done token) (drop (at + width) body)
reading-goes_on body done at width token inside piece read =
    let rest = drop at body in
    let left = length-drop at body in
    record {
      sound = λ more are.
          subst (λ tokens. AreTokens body tokens) (sym (piece-before done token more))
          (read.sound (before token more) (front-sound rest width token piece more (subst (λ t. AreTokens t more) (sym (drop-drop width at body)) are)));
      complete = λ tokens are.
          let later = read.complete tokens are in
          let front = front-of rest later.0 (omega arith) later.1 in
          let same : ◌≡◌ {A = Piece} (front.width, front.token) (width, token) = same_Some _ _ (sym front.piece ∙ piece) in
          let behind = subst (λ (p : Piece). AreTokens (drop p.0 rest) front.more) same front.behind in
          let whole = subst (λ (p : Piece). later.0 ≡ before p.1 front.more) same front.whole in
          (front.more, subst (λ t. AreTokens t front.more) (drop-drop width at body) behind, later.2 ∙ ap (λ t. done ++ t) whole ∙ sym (piece-before done token front.more));
    }

pub reading-fails : (body : List ℕ) (done : List Token) (at : ℕ) → at < length body → piece_of (drop at body) ≡ None → Continues body done (drop at body) → HasNoTokens body
reading-fails body done at inside piece read tokens are =
    let left = length-drop at body in
    let later = read.complete tokens are in
    let front = front-of (drop at body) later.0 (omega arith) later.1 in
    none-some (front.width, front.token) (sym piece ∙ front.piece)

pub reading-ends : (body : List ℕ) (done : List Token) (at : ℕ) → length body ≤ at → Continues body done (drop at body) → AreTokens body done
reading-ends body done at end read =
    subst (λ tokens. AreTokens body tokens) (append-nil done) (read.sound [] (subst (λ t. AreTokens t []) (sym (drop_all at body end)) none))

pub reading-only : (body : List ℕ) (done : List Token) (at : ℕ) → length body ≤ at → Continues body done (drop at body) → AreOnlyTokens body done
reading-only body done at end read other are =
    let later = read.complete other are in
    later.2 ∙ ap (λ t. done ++ t) (no-tokens (drop at body) later.0 (drop_all at body end) later.1) ∙ append-nil done
  where
    no-tokens : (rest : List ℕ) (more : List Token) → rest ≡ [] → AreTokens rest more → more ≡ []
    no-tokens rest [] empty are = refl
    no-tokens rest (token ∷ more) empty are = some-tokens rest (token ∷ more) are (ap length empty)
      where
        some-tokens : (rest : List ℕ) (more : List Token) → AreTokens rest more → length rest ≡ 0 → more ≡ []
        some-tokens _ _ none long = refl
        some-tokens _ _ (skip_blank b rest more is a) long = absurd (omega arith)
        some-tokens _ _ (skip_comment inner rest more is a) long = absurd (omega arith)
        some-tokens _ _ (one_run b inner rest more all stops a) long = absurd (omega arith)
        some-tokens _ _ (one_quoted inner rest more is a) long = absurd (omega arith)
        some-tokens _ _ (one_literal inner rest more is a) long = absurd (omega arith)
        some-tokens _ _ (one_mark b rest more is a) long = absurd (omega arith)
