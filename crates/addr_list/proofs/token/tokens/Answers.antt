use Rattle.std.proofs.Common.{◌≡◌, ◌∙◌, ◌+◌, ◌∷◌, [], List, ap, sym, subst, map, arith, length, length-drop, drop}
use Rattle.std.specs.Option.{option_map}
use Rattle.std.proofs.lemmas.List.{map-append, take_rest}
use Rattle.addr_list.specs.Tokens.{Token}
use Rattle.addr_list.specs.Scanning.{token_of, piece_of}
use Rattle.addr_list.proofs.TokenLists.{Continues, with_piece, reading-goes_on, reading-fails, reading-ends, reading-only}
use Rattle.addr_list.proofs.token.tokens.Goals as goal
use Rattle.addr_list.proofs.token.tokens.Goals.{in-Some-token+in_ok-push, in_default-token}

pub returns-in_default-clause-none : goal.returns-in_default-clause-none
returns-in_default-clause-none c =
    let value = c.args.value.now in
    let at = c.loop-at.at in
    reading-fails value (map token_of c.loop-at.tokens.items) at c.loop-at-test.true (ap piece_of (sym (take_rest value at)) ∙ c.in_default.ensures.value) c.loop-at.invariant.read

pub loop-at-preserved : goal.loop-at-preserved
loop-at-preserved c =
    let value = c.args.value.now in
    let at = c.loop-at.at in
    let piece = c.in-Some.piece in
    let done = map token_of c.loop-at.tokens.items in
    let found = ap piece_of (sym (take_rest value at)) ∙ c.in-Some.ensures.value in
    let read = reading-goes_on value done at piece.width (option_map token_of piece.token) c.loop-at-test.true found c.loop-at.invariant.read in
    let with_token : ◌≡◌ {A = List Token} (with_piece done (option_map token_of piece.token)) (map token_of c.match-piece.tokens.items) =
    elim c.match-piece.branch [
      | in-Some-token+in_ok-push w ↦
          ap (λ o. with_piece done (option_map token_of o)) w.in-Some-token.is
          ∙ sym (map-append token_of c.loop-at.tokens.items (w.in-Some-token.token ∷ []))
          ∙ ap (map token_of) (sym w.in_ok-push.ensures.items)
          ∙ ap (λ v. map token_of v.items) (sym w.tokens-is)
      | in_default-token w ↦ ap (λ o. with_piece done (option_map token_of o)) w.in_default-token.is ∙ ap (λ v. map token_of v.items) (sym w.tokens-is)
    ] in
    record {
      within = omega (arith, ap length (take_rest value at), length-drop at value, c.in-Some.ensures.within);
      read = subst (λ tokens. Continues value tokens (drop (at + piece.width) value)) with_token read;
    }

pub returns-clause-some : goal.returns-clause-some
returns-clause-some c = reading-ends c.args.value.now (map token_of c.loop-at.tokens.items) c.loop-at.at c.loop-at-test.false c.loop-at.invariant.read

pub returns-clause-only : goal.returns-clause-only
returns-clause-only c = reading-only c.args.value.now (map token_of c.loop-at.tokens.items) c.loop-at.at c.loop-at-test.false c.loop-at.invariant.read
