-- A search for the end of a header.
use Rattle.std.proofs.Common.{◌≡◌, ◌∙◌, ℕ, suc, ◌+◌, ◌-◌, ◌<◌, ◌≤◌, ◌≢◌, ⊎_elim, inr, true, false, List, [], ◌∷◌, ◌++◌, ◌==◌, length, take, drop, get_or, refl, ap, subst, sym, slice_range, arith}
use Rattle.std.specs.List.{before_first, concat}
use Rattle.std.proofs.lemmas.Bool.{false≢true, cases_Bool, cond-true, cond-false, eqb-true}
use Rattle.std.proofs.Math.Seq.{take-add, take-length}
use Rattle.std.proofs.lemmas.List.{take-append-le, length-append, append_assoc, append-nil, take-append-drop, take_at, drop_at, drop_more, length-take-le, get_or-take}
use Rattle.text_lines.specs.Lines.{lines_of, header_of, is_empty_line}
use Rattle.text_lines.proofs.Lines.{before-step}
use Rattle.text_lines.specs.Lines.{is_open}
use Rattle.text_lines.proofs.OpenLines.{open-then-closed}
use Rattle.text_lines.proofs.Texts.{is_closed, closed-first, lines-joined}
use Rattle.head_fields.specs.Header.{body_start_of}
use Rattle.head_fields.proofs.HeaderLines.{header-empty, header-line, body-behind_none, body-of_nothing}
use Rattle.head_fields.specs.Searches.{IsSearched, BodyAt}
use Rattle.head_fields.specs.declared.search.HeaderSearch.{HeaderSearch}

-- bytes without a line feed, and one
closed-is : (front : List ℕ) → is_open front ≡ true → is_closed (front ++ 10 ∷ []) ≡ true
closed-is front is = open-then-closed front (10 ∷ []) is refl

-- two such in a row
both-open : (xs ys : List ℕ) → is_open xs ≡ true → is_open ys ≡ true → is_open (xs ++ ys) ≡ true
both-open [] ys is too = too
both-open (byte ∷ rest) ys is too = ⊎_elim
    (λ feed. absurd (false≢true (sym (cond-true (byte == 10) false (is_open rest) feed) ∙ is)))
    (λ other. cond-false (byte == 10) false (is_open (rest ++ ys)) other ∙ both-open rest ys (sym (cond-false (byte == 10) false (is_open rest) other) ∙ is) too)
    (cases_Bool (byte == 10))

-- bytes none of which is a line feed
pub no_feed_in : (bytes : List ℕ) → ((k : ℕ) → k < length bytes → get_or bytes k 0 ≢ 10) → is_open bytes ≡ true
no_feed_in [] none = refl
no_feed_in (byte ∷ rest) none = ⊎_elim
    (λ feed. absurd (none 0 (omega arith) (is-ten byte feed)))
    (λ other. cond-false (byte == 10) false (is_open rest) other ∙ no_feed_in rest (λ k few. none (suc k) (omega (arith, few))))
    (cases_Bool (byte == 10))
  where
    is-ten : (n : ℕ) → (n == 10) ≡ true → n ≡ 10
    is-ten n is = eqb-true n 10 is

-- a text without a line feed is one line, or none, and no body begins in it
body-open : (text : List ℕ) → is_open text ≡ true → body_start_of text ≡ length text
body-open [] is = sym (body-of_nothing [] refl)
body-open (byte ∷ rest) is =
    let text = byte ∷ rest in
    let lines : lines_of text ≡ text ∷ [] = ap lines_of (sym (append-nil text)) ∙ lines-joined (text ∷ []) (inr (omega arith, is, refl)) in
    ap (λ h. length (concat (take (length h + 1) (lines_of text)))) (ap (before_first is_empty_line) lines)
    ∙ ap (λ l. length (concat (take (length (before_first is_empty_line (text ∷ [])) + 1) l))) lines ∙ long text
  where
    long : (text : List ℕ) → length (concat (take (length (before_first is_empty_line (text ∷ [])) + 1) (text ∷ []))) ≡ length text
    long text = ⊎_elim
        (λ is. ap (λ (l : List (List ℕ)). length (concat (take (length l + 1) (text ∷ [])))) (before-step is_empty_line text [] ∙ cond-true (is_empty_line text) [] (text ∷ []) is) ∙ ap length (append-nil text))
        (λ is. ap (λ (l : List (List ℕ)). length (concat (take (length l + 1) (text ∷ [])))) (before-step is_empty_line text [] ∙ cond-false (is_empty_line text) [] (text ∷ []) is) ∙ ap length (append-nil text))
        (cases_Bool (is_empty_line text))

-- a search that has looked at nothing
pub begun-search : (front : List ℕ) → IsSearched front (record { line = 0; seen = 0 })
begun-search front = record { header = []; begun = []; rest = front; whole = refl; is_header = λ more. none (body_start_of more); no_feed = refl; line = refl; seen = refl }
  where
    none : (n : ℕ) → n ≡ 0 + n
    none n = omega arith

-- what is known stays known over a longer front
pub searched-more : (front more : List ℕ) (search : HeaderSearch) → IsSearched front search → IsSearched (front ++ more) search
searched-more front more search is = record {
  header = is.header;
  begun = is.begun;
  rest = is.rest ++ more;
  whole = ap (λ t. t ++ more) is.whole ∙ append_assoc is.header (is.begun ++ is.rest) more ∙ ap (λ t. is.header ++ t) (append_assoc is.begun is.rest more);
  is_header = is.is_header;
  no_feed = is.no_feed;
  line = is.line;
  seen = is.seen;
}

-- a line that ends: the begun line, what stands before its line feed, and that
module _ (front : List ℕ) (search : HeaderSearch) (is : IsSearched front search) where
  -- nothing more is found
  pub searched-all : is_open is.rest ≡ true → IsSearched front (record { line = search.line; seen = length front })
  searched-all none =
      let sizes = ap length is.whole in
      let first = length-append is.header (is.begun ++ is.rest) in
      record {
        header = is.header;
        begun = is.begun ++ is.rest;
        rest = [];
        whole = is.whole ∙ ap (λ t. is.header ++ t) (sym (append-nil (is.begun ++ is.rest)));
        is_header = is.is_header;
        no_feed = both-open is.begun is.rest is.no_feed none;
        line = is.line;
        seen = sizes ∙ first;
      }

  pub body-all : is_open is.rest ≡ true → body_start_of front ≡ length front
  body-all none =
      ap body_start_of is.whole ∙ is.is_header (is.begun ++ is.rest) ∙ ap (λ n. length is.header + n) (body-open (is.begun ++ is.rest) (both-open is.begun is.rest is.no_feed none))
      ∙ sym (ap length is.whole ∙ length-append is.header (is.begun ++ is.rest))

  module _ (before behind : List ℕ) (no_feed : is_open before ≡ true) (found : is.rest ≡ before ++ 10 ∷ behind) where
    abbrev ended : List ℕ
    ended = (is.begun ++ before) ++ 10 ∷ []

    closed : is_closed ended ≡ true
    closed = closed-is (is.begun ++ before) (both-open is.begun before is.no_feed no_feed)

    regroup : (a b c : List ℕ) → a ++ (b ++ 10 ∷ c) ≡ ((a ++ b) ++ 10 ∷ []) ++ c
    regroup a b c = simp append_assoc

    pub whole-then : front ≡ is.header ++ (ended ++ behind)
    whole-then = is.whole ∙ ap (λ t. is.header ++ (is.begun ++ t)) found ∙ ap (λ t. is.header ++ t) (regroup is.begun before behind)

    -- an empty line: the body begins behind it
    pub body-found : is_empty_line ended ≡ true → BodyAt front (length is.header + length ended)
    body-found empty =
        let sizes = ap length whole-then in
        let first = length-append is.header (ended ++ behind) in
        let second = length-append ended behind in
        record {
          within = omega (arith, sizes, first, second);
          body = λ more.
              let rest = behind ++ more in
              let lines = closed-first ended rest closed in
              ap (λ t. body_start_of (t ++ more)) whole-then
              ∙ ap body_start_of (append_assoc is.header (ended ++ behind) more ∙ ap (λ t. is.header ++ t) (append_assoc ended behind more))
              ∙ is.is_header (ended ++ rest)
              ∙ ap (λ n. length is.header + n) (sym (body-behind_none (ended ++ rest) ended rest lines (header-empty (ended ++ rest) ended rest lines empty)));
        }

    -- another line is a header line
    pub searched-line : is_empty_line ended ≡ false → IsSearched front (record { line = length is.header + length ended; seen = length is.header + length ended })
    searched-line other = record {
      header = is.header ++ ended;
      begun = [];
      rest = behind;
      whole = whole-then ∙ sym (append_assoc is.header ended behind);
      is_header = λ more.
          let lines = closed-first ended more closed in
          let sizes = length-append is.header ended in
          ap body_start_of (append_assoc is.header ended more)
          ∙ is.is_header (ended ++ more)
          ∙ ap (λ n. length is.header + n) (step more lines)
          ∙ sums (length is.header) (length ended) (body_start_of more) (length (is.header ++ ended)) sizes;
      no_feed = refl;
      line = sym (length-append is.header ended);
      seen = seen_sum (length is.header + length ended) (length (is.header ++ ended)) (length-append is.header ended);
    }
      where
        sums : (a b c d : ℕ) → d ≡ a + b → a + (b + c) ≡ d + c
        sums a b c d is = omega (arith, is)

        seen_sum : (a b : ℕ) → b ≡ a → a ≡ b + 0
        seen_sum a b is = omega (arith, is)

        step : (more : List ℕ) → lines_of (ended ++ more) ≡ ended ∷ lines_of more → body_start_of (ended ++ more) ≡ length ended + body_start_of more
        step more lines =
            let one_more : (n : ℕ) → suc n + 1 ≡ suc (n + 1) = λ n. omega arith in
            let text = ended ++ more in
            let n = length (header_of more) in
            let counted : length (header_of text) + 1 ≡ suc (n + 1) = ap (λ h. length h + 1) (header-line text ended more lines other) ∙ one_more n in
            ap (λ k. length (concat (take k (lines_of text)))) counted
            ∙ ap (λ l. length (concat (take (suc (n + 1)) l))) lines
            ∙ length-append ended (concat (take (n + 1) (lines_of more)))

-- a byte of a list, what stands before it and behind it
split-at : (xs : List ℕ) (at : ℕ) → at < length xs → get_or xs at 0 ≡ 10 → xs ≡ take at xs ++ 10 ∷ drop (at + 1) xs
split-at xs at inside feed =
    sym (take-append-drop at xs) ∙ ap (λ t. take at xs ++ t) (drop_more xs at 0 inside ∙ (λ i. feed i ∷ drop (at + 1) xs))

module _ (front : List ℕ) (line seen : ℕ) (is : IsSearched front (record { line = line; seen = seen })) where
  rest-is : drop seen front ≡ is.rest
  rest-is =
      ap (drop seen) (is.whole ∙ sym (append_assoc is.header is.begun is.rest))
      ∙ drop_at (is.header ++ is.begun) is.rest seen (sym (is.seen ∙ sym (length-append is.header is.begun)))

  -- no line feed in the rest
  pub found-open : ((k : ℕ) → k < length (drop seen front) → get_or (drop seen front) k 0 ≢ 10) → IsSearched front (record { line = line; seen = length front }) × (body_start_of front ≡ length front)
  found-open none =
      let no_feed = subst (λ t. is_open t ≡ true) rest-is (no_feed_in (drop seen front) none) in
      (searched-all front (record { line = line; seen = seen }) is no_feed, body-all front (record { line = line; seen = seen }) is no_feed)

  module _ (at : ℕ) (inside : at < length (drop seen front)) (feed : get_or (drop seen front) at 0 ≡ 10) (none : (k : ℕ) → k < at → get_or (drop seen front) k 0 ≢ 10) where
    abbrev before : List ℕ
    before = take at (drop seen front)

    abbrev behind : List ℕ
    behind = drop (at + 1) (drop seen front)

    plain : is_open before ≡ true
    plain =
        let long = length-take-le at (drop seen front) (omega (arith, inside)) in
        no_feed_in before (λ k few. let inner : k < at = omega (arith, few, long) in λ feed_is. none k inner (sym (get_or-take at (drop seen front) k 0 inner) ∙ feed_is))

    found : is.rest ≡ before ++ 10 ∷ behind
    found = sym rest-is ∙ split-at (drop seen front) at inside feed

    abbrev own : List ℕ
    own = (is.begun ++ before) ++ 10 ∷ []

    own-length : length is.header + length own ≡ seen + at + 1
    own-length =
        let first = length-append (is.begun ++ before) (10 ∷ []) in
        let second = length-append is.begun before in
        let long = length-take-le at (drop seen front) (omega (arith, inside)) in
        let place = is.seen in
        omega (arith, first, second, long, place)

    own-is : slice_range front line (seen + at + 1) ≡ own
    own-is =
        let whole = whole-then front (record { line = line; seen = seen }) is before behind plain found in
        let place = is.line in
        let width : seen + at + 1 - line ≡ length own = let sum = own-length in omega (arith, sum, place) in
        ap (λ t. take (seen + at + 1 - line) (drop line t)) whole
        ∙ ap (take (seen + at + 1 - line)) (drop_at is.header (own ++ behind) line (sym is.line))
        ∙ take_at own behind (seen + at + 1 - line) (sym width)

    pub found-body : is_empty_line (slice_range front line (seen + at + 1)) ≡ true → BodyAt front (seen + at + 1)
    found-body empty =
        subst (BodyAt front) own-length (body-found front (record { line = line; seen = seen }) is before behind plain found (sym (ap is_empty_line own-is) ∙ empty))

    pub found-line : is_empty_line (slice_range front line (seen + at + 1)) ≡ false → IsSearched front (record { line = seen + at + 1; seen = seen + at + 1 })
    found-line other =
        subst (λ n. IsSearched front (record { line = n; seen = n })) own-length (searched-line front (record { line = line; seen = seen }) is before behind plain found (sym (ap is_empty_line own-is) ∙ other))

-- a front that tells where the body begins tells the header alone
pub front-alone : (front more : List ℕ) (at : ℕ) → BodyAt front at → take (body_start_of (front ++ more)) (front ++ more) ≡ take at front
front-alone front more at is = ap (λ n. take n (front ++ more)) (is.body more) ∙ take-append-le at front more is.within

-- a text over which the search goes on is its header
pub open-alone : (text : List ℕ) → body_start_of text ≡ length text → take (body_start_of text) text ≡ text
open-alone text is = ap (λ n. take n text) is ∙ take-length text

-- what is known of a front of a text is known of a longer one
pub searched-further : (text : List ℕ) (end next : ℕ) (search : HeaderSearch) → end ≤ next → IsSearched (take end text) search → IsSearched (take next text) search
searched-further text end next search later is =
    let sum : next ≡ end + (next - end) = omega (arith, later) in
    let front : take next text ≡ take end text ++ take (next - end) (drop end text) = ap (λ n. take n text) sum ∙ take-add end (next - end) text in
    subst (λ t. IsSearched t search) (sym front) (searched-more (take end text) (take (next - end) (drop end text)) search is)

-- what a front tells of the body is so in the text
pub front-tells : (text : List ℕ) (end at : ℕ) → BodyAt (take end text) at → at ≡ body_start_of text
front-tells text end at is = sym (is.body (drop end text)) ∙ ap body_start_of (take-append-drop end text)
