-- A body has one address list at most.
use Rattle.std.proofs.Common.{◌≡◌, ◌∙◌, ℕ, zero, suc, ◌+◌, ◌<◌, ◌≤◌, ◌==◌, Bool, true, false, cond, List, [], ◌∷◌, Option, Some, None, length, drop, length-drop, refl, ap, sym, subst, lit<, arith}
use Rattle.std.specs.List.{prefix_len}
use Rattle.std.proofs.lemmas.Bool.{cond-true, false≢true}
use Rattle.std.proofs.lemmas.Option.{same_Some}
use Rattle.text_lines.specs.Blanks.{is_blank}
use Rattle.addr_list.specs.Tokens.{Token, mark, AreTokens, none, skip_blank, skip_comment, one_run, one_quoted, one_literal, one_mark, is_mark, is_run_byte}
use Rattle.addr_list.specs.Scanning.{Piece, piece_of, comment_piece, quoted_piece, literal_piece, comment_len, quotes_len, literal_len}
use Rattle.addr_list.specs.Addresses.{IsAddressList, ReadsAddresses}
use Rattle.addr_list.specs.Reading.{begins, deeper, added, Reads, finished, next_element, group_ends, next_comma}
use Rattle.addr_list.specs.declared.address.Address.{Address}
use Rattle.addr_list.specs.declared.address.Address.TheVariants.{GroupEnd}
use Rattle.addr_list.proofs.Lists.{list-complete}
use Rattle.addr_list.proofs.Pieces.{before, front-of}
use Rattle.addr_list.proofs.Steps.{in-front, Marked, over, group_over, comma_next, marked}

-- a piece has a byte
abbrev Wide : Option Piece → Type 0
Wide None = Unit {0}
Wide (Some piece) = 0 < piece.0

wide-if : (b : Bool) (x y : Option Piece) → (b ≡ true → Wide x) → Wide y → Wide (cond b x y)
wide-if true x y first second = first refl
wide-if false x y first second = second

wide-comment : (o : Option ℕ) → Wide (comment_piece o)
wide-comment None = tt
wide-comment (Some n) = let wide : 0 < n + 2 = omega arith in wide

wide-quoted : (rest : List ℕ) (o : Option ℕ) → Wide (quoted_piece rest o)
wide-quoted rest None = tt
wide-quoted rest (Some n) = let wide : 0 < n + 2 = omega arith in wide

wide-literal : (rest : List ℕ) (o : Option ℕ) → Wide (literal_piece rest o)
wide-literal rest None = tt
wide-literal rest (Some n) = let wide : 0 < n + 2 = omega arith in wide

wide-run : (b : ℕ) (rest : List ℕ) → is_run_byte b ≡ true → 0 < prefix_len is_run_byte (b ∷ rest)
wide-run b rest is =
    let counted : prefix_len is_run_byte (b ∷ rest) ≡ 1 + prefix_len is_run_byte rest = cond-true (is_run_byte b) (1 + prefix_len is_run_byte rest) 0 is in
    omega (arith, counted)

piece-wide : (b : ℕ) (rest : List ℕ) → Wide (piece_of (b ∷ rest))
unfolding piece_of
piece-wide b rest =
    wide-if (is_blank b) _ _ (λ is. lit< tt) (wide-if (b == 40) _ _ (λ is. wide-comment (comment_len false 0 rest)) (wide-if (b == 34) _ _ (λ is. wide-quoted rest (quotes_len false rest))
    (wide-if (b == 91) _ _ (λ is. wide-literal rest (literal_len rest)) (wide-if (is_mark b) _ _ (λ is. lit< tt) (wide-if (is_run_byte b) _ _ (λ is. wide-run b rest is) tt)))))

no-tokens : (body : List ℕ) (tokens : List Token) → AreTokens body tokens → length body ≡ 0 → tokens ≡ []
no-tokens _ _ none long = refl
no-tokens _ _ (skip_blank b rest more is a) long = absurd (omega arith)
no-tokens _ _ (skip_comment inner rest more is a) long = absurd (omega arith)
no-tokens _ _ (one_run b inner rest more all stops a) long = absurd (omega arith)
no-tokens _ _ (one_quoted inner rest more is a) long = absurd (omega arith)
no-tokens _ _ (one_literal inner rest more is a) long = absurd (omega arith)
no-tokens _ _ (one_mark b rest more is a) long = absurd (omega arith)

tokens-same : (n : ℕ) (body : List ℕ) (x y : List Token) → length body ≤ n → AreTokens body x → AreTokens body y → y ≡ x
tokens-same n [] x y fits is too = no-tokens [] y too refl ∙ sym (no-tokens [] x is refl)
tokens-same zero (b ∷ rest) x y fits is too = absurd (omega arith)
tokens-same (suc n) (b ∷ rest) x y fits is too =
    let body = b ∷ rest in
    let one = front-of body x (omega arith) is in
    let two = front-of body y (omega arith) too in
    let same : ◌≡◌ {A = Piece} (two.width, two.token) (one.width, one.token) = same_Some _ _ (sym two.piece ∙ one.piece) in
    let behind = subst (λ (p : Piece). AreTokens (drop p.0 body) two.more) same two.behind in
    let wide : 0 < one.width = subst Wide one.piece (piece-wide b rest) in
    let left = length-drop one.width body in
    let later = tokens-same n (drop one.width body) one.more two.more (omega arith) one.behind behind in
    two.whole ∙ ap (λ (p : Piece). before p.1 two.more) same ∙ ap (before one.token) later ∙ sym one.whole

reads-same : (starts : Bool) (depth : ℕ) (tokens : List Token) (x : List Address) → Reads starts depth tokens x → (y : List Address) → Reads starts depth tokens y → y ≡ x
reads-same _ _ _ _ finished y too = ends (marked 0 [] y too)
  where
    ends : {y : List Address} → Marked 0 [] y → y ≡ []
    ends (over d t a) = a
    ends (group_over d rest more deep t a r) = absurd (false≢true (ap (begins 59) t))
    ends (comma_next rest t r) = absurd (false≢true (ap (begins 44) t))
reads-same _ _ _ _ (next_element depth tokens e more is r) y too =
    let front = in-front depth tokens y too in
    let same = same_Some front.e e (sym front.is ∙ is) in
    let reads = subst (λ f. Reads f.opens (deeper f.opens depth) (drop f.width tokens) front.more) same front.reads in
    let whole = subst (λ f. y ≡ added f.address front.more) same front.whole in
    whole ∙ ap (added e.address) (reads-same e.opens (deeper e.opens depth) (drop e.width tokens) more r front.more reads)
reads-same _ _ _ _ (group_ends depth tokens more r) y too =
    group-same depth tokens more (λ later reads. reads-same false depth tokens more r later reads) y (marked (depth + 1) (mark 59 ∷ tokens) y too)
  where
    group-same : (depth : ℕ) (tokens : List Token) (more : List Address) → ((later : List Address) → Reads false depth tokens later → later ≡ more) → (y : List Address) → Marked (depth + 1) (mark 59 ∷ tokens) y → y ≡ GroupEnd ∷ more
    group-same depth tokens more same y (over d t a) = absurd (false≢true (sym (ap (begins 59) t)))
    group-same depth tokens more same y (group_over d rest later deep t a one) =
        let flat : d ≡ depth = omega arith in
        let reads = subst (λ k. Reads false k tokens later) flat (subst (λ ts. Reads false d ts later) (sym (ap (drop 1) t)) one) in
        a ∙ ap (λ m. GroupEnd ∷ m) (same later reads)
    group-same depth tokens more same y (comma_next rest t one) = absurd (false≢true (ap (begins 44) t))
reads-same _ _ _ _ (next_comma depth tokens more r) y too =
    comma-same depth tokens more (λ later reads. reads-same true depth tokens more r later reads) y (marked depth (mark 44 ∷ tokens) y too)
  where
    comma-same : (depth : ℕ) (tokens : List Token) (more : List Address) → ((later : List Address) → Reads true depth tokens later → later ≡ more) → (y : List Address) → Marked depth (mark 44 ∷ tokens) y → y ≡ more
    comma-same depth tokens more same y (over d t a) = absurd (false≢true (sym (ap (begins 44) t)))
    comma-same depth tokens more same y (group_over d rest later deep t a one) = absurd (false≢true (ap (begins 59) t))
    comma-same depth tokens more same y (comma_next rest t one) = same y (subst (λ ts. Reads true depth ts y) (sym (ap (drop 1) t)) one)

pub addresses-same : (body : List ℕ) (x y : List Address) → ReadsAddresses body x → ReadsAddresses body y → y ≡ x
addresses-same body x y is too =
    let same = tokens-same (length body) body is.tokens too.tokens (omega arith) is.spelled too.spelled in
    let list = subst (λ ts. IsAddressList ts y) same too.list in
    reads-same true 0 is.tokens x (list-complete is.tokens x is.list) y (list-complete is.tokens y list)
