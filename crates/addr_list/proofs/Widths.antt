-- Widths that are found byte by byte.
use Rattle.std.proofs.Common.{◌≡◌, ◌≢◌, ◌∙◌, ℕ, suc, ◌+◌, ◌-◌, ◌<◌, ◌==◌, true, false, List, ◌∷◌, Option, Some, None, length, drop, drop-cons, get_or, refl, ap, arith}
use Rattle.std.proofs.lemmas.Bool.{eq-eqb, ne_eqb}
use Rattle.addr_list.specs.Scanning.{one_more, comment_len, quotes_len}

-- so many bytes more
abbrev pub ahead : ℕ → Option ℕ → Option ℕ
ahead n None = None
ahead n (Some m) = Some (n + m)

pub ahead-more : (n : ℕ) (o : Option ℕ) → ahead n (one_more o) ≡ ahead (n + 1) o
ahead-more n None = refl
ahead-more n (Some m) = ap Some (let e : n + suc m ≡ n + 1 + m = omega arith in e)

-- the byte at an offset and what stands behind it
front : (text : List ℕ) (at : ℕ) → at < length text → drop at text ≡ get_or text at 0 ∷ drop (at + 1) text
front text at inside = drop-cons text at 0 inside ∙ ap (λ n. get_or text at 0 ∷ drop n text) (let e : suc at ≡ at + 1 = omega arith in e)

module _ (text : List ℕ) (at depth : ℕ) (inside : at < length text) where
  pub comment-escaped : ahead at (comment_len true depth (drop at text)) ≡ ahead (at + 1) (comment_len false depth (drop (at + 1) text))
  comment-escaped = ap (λ t. ahead at (comment_len true depth t)) (front text at inside) ∙ ahead-more at _

  pub comment-backslash : get_or text at 0 ≡ 92 → ahead at (comment_len false depth (drop at text)) ≡ ahead (at + 1) (comment_len true depth (drop (at + 1) text))
  comment-backslash is = ap (λ t. ahead at (comment_len false depth t)) (front text at inside) ∙ rw (eq-eqb (get_or text at 0) 92 is) (ahead-more at _)

  pub comment-opened : get_or text at 0 ≡ 40 → ahead at (comment_len false depth (drop at text)) ≡ ahead (at + 1) (comment_len false (depth + 1) (drop (at + 1) text))
  comment-opened is =
      ap (λ t. ahead at (comment_len false depth t)) (front text at inside) ∙ rw is (ahead-more at _)
      ∙ ap (λ d. ahead (at + 1) (comment_len false d (drop (at + 1) text))) (let e : suc depth ≡ depth + 1 = omega arith in e)

  pub comment-closed : get_or text at 0 ≡ 41 → depth ≢ 0 → ahead at (comment_len false depth (drop at text)) ≡ ahead (at + 1) (comment_len false (depth - 1) (drop (at + 1) text))
  comment-closed is deep =
      ap (λ t. ahead at (comment_len false depth t)) (front text at inside) ∙ rw (is, ne_eqb depth 0 deep) (ahead-more at _)

  pub comment-ended : get_or text at 0 ≡ 41 → depth ≡ 0 → ahead at (comment_len false depth (drop at text)) ≡ Some at
  comment-ended is flat =
      ap (λ t. ahead at (comment_len false depth t)) (front text at inside) ∙ rw (is, flat) (ap Some (let e : at + 0 ≡ at = omega arith in e))

  pub comment-byte : get_or text at 0 ≢ 92 → get_or text at 0 ≢ 40 → get_or text at 0 ≢ 41
      → ahead at (comment_len false depth (drop at text)) ≡ ahead (at + 1) (comment_len false depth (drop (at + 1) text))
  comment-byte a b c =
      ap (λ t. ahead at (comment_len false depth t)) (front text at inside)
      ∙ rw (ne_eqb (get_or text at 0) 92 a, ne_eqb (get_or text at 0) 40 b, ne_eqb (get_or text at 0) 41 c) (ahead-more at _)

module _ (text : List ℕ) (at : ℕ) (inside : at < length text) where
  pub quotes-escaped : ahead at (quotes_len true (drop at text)) ≡ ahead (at + 1) (quotes_len false (drop (at + 1) text))
  quotes-escaped = ap (λ t. ahead at (quotes_len true t)) (front text at inside) ∙ ahead-more at _

  pub quotes-byte : get_or text at 0 ≢ 34 → ahead at (quotes_len false (drop at text)) ≡ ahead (at + 1) (quotes_len (get_or text at 0 == 92) (drop (at + 1) text))
  quotes-byte other = ap (λ t. ahead at (quotes_len false t)) (front text at inside) ∙ rw (ne_eqb (get_or text at 0) 34 other) (ahead-more at _)

  pub quotes-ended : get_or text at 0 ≡ 34 → ahead at (quotes_len false (drop at text)) ≡ Some at
  quotes-ended is = ap (λ t. ahead at (quotes_len false t)) (front text at inside) ∙ rw is (ap Some (let e : at + 0 ≡ at = omega arith in e))
