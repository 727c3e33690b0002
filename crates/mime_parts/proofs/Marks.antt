-- Lines that begin with `--`, and their marks.
use Rattle.std.proofs.Common.{◌≡◌, ◌∙◌, ⊎_elim, ◌+◌, ◌<◌, ◌≤◌, ◌==◌, ◌&&◌, ◌||◌, ℕ, Bool, true, false, not, cond, List, [], ◌∷◌, ◌++◌, None, length, take, drop, nat_lt, refl, ap, sym, subst, arith}
use Rattle.std.specs.List.{concat, list_all, prefix_len}
use Rattle.std.specs.Str.{bytes_eq}
use Rattle.std.proofs.Math.Seq.{drop-append_seam}
use Rattle.std.proofs.lemmas.Bool.{cases_Bool, cond-true, cond-false, false≢true, false_from_ne_true, and_parts, and_from, not_from_false}
use Rattle.std.proofs.lemmas.List.{append-nil, length-append}
use Rattle.std.proofs.lemmas.Bool.{lt-ltb, le-ltb}
use Rattle.text_lines.specs.Lines.{line_text, line_end_of}
use Rattle.text_lines.proofs.LineEnds.{text-then-end}
use Rattle.mime_parts.specs.Delimiters.{after_boundary, are_blanks, are_dashes, opens_part, closes_parts, is_delimiter, lines_before, lines_from_delimiter, parts_from}
use Rattle.mime_parts.specs.Marks.{is_dashed, marks_from}
use Rattle.mime_parts.specs.declared.mark.Mark.{Mark}
use Rattle.mime_parts.proofs.Delimiters.{before-other, from-other}

-- a delimiter line begins with `--`
dashed-front : (x y : List ℕ) → is_dashed x ≡ true → is_dashed (x ++ y) ≡ true
dashed-front [] y is = absurd (false≢true is)
dashed-front (a ∷ []) y is = absurd (false≢true is)
dashed-front (a ∷ b ∷ rest) y is = is

pub dashed-text : (line : List ℕ) → is_dashed line ≡ false → is_dashed (line_text line) ≡ false
dashed-text line plain =
    false_from_ne_true _ (λ is. false≢true (sym plain ∙ subst (λ l. is_dashed l ≡ true) (text-then-end line) (dashed-front (line_text line) (line_end_of line) is)))

and-second : (x : Bool) → x && false ≡ false
and-second true = refl
and-second false = refl

and-third : (x y z : Bool) → x && y ≡ false → x && (y && z) ≡ false
and-third true true z is = absurd (false≢true (sym is))
and-third true false z is = refl
and-third false y z is = refl

text-plain : (boundary text : List ℕ) → is_dashed text ≡ false → bytes_eq (take (length (45 ∷ 45 ∷ boundary)) text) (45 ∷ 45 ∷ boundary) ≡ false
text-plain boundary [] plain = refl
text-plain boundary (a ∷ []) plain = and-second (a == 45)
text-plain boundary (a ∷ b ∷ rest) plain = and-third (a == 45) (b == 45) (bytes_eq (take (length boundary) rest) boundary) plain

none-behind : (boundary line : List ℕ) → is_dashed line ≡ false → after_boundary boundary line ≡ None
none-behind boundary line plain =
    cond-false (bytes_eq (take (length (45 ∷ 45 ∷ boundary)) (line_text line)) (45 ∷ 45 ∷ boundary)) _ _ (text-plain boundary (line_text line) (dashed-text line plain))

pub closes-plain : (boundary line : List ℕ) → is_dashed line ≡ false → closes_parts boundary line ≡ false
closes-plain boundary line plain = ap are_dashes (none-behind boundary line plain)

pub opens-plain : (boundary line : List ℕ) → is_dashed line ≡ false → opens_part boundary line ≡ false
opens-plain boundary line plain = ap are_blanks (none-behind boundary line plain)

pub delimiter-plain : (boundary line : List ℕ) → is_dashed line ≡ false → is_delimiter boundary line ≡ false
delimiter-plain boundary line plain = (λ i. opens-plain boundary line plain i || closes-plain boundary line plain i)

-- lines that don't begin so, and lines that are no delimiters
abbrev pub are_plain : List (List ℕ) → Bool
are_plain lines = list_all (λ line. not (is_dashed line)) lines

abbrev pub are_others : List ℕ → List (List ℕ) → Bool
are_others boundary lines = list_all (λ line. not (is_delimiter boundary line)) lines

not-true : (b : Bool) → not b ≡ true → b ≡ false
not-true true is = absurd (false≢true is)
not-true false is = refl

module _ (boundary : List ℕ) where
  pub plain-others : (lines : List (List ℕ)) → are_plain lines ≡ true → are_others boundary lines ≡ true
  plain-others [] all = refl
  plain-others (line ∷ lines) all =
      let both = and_parts (not (is_dashed line)) (are_plain lines) all in
      and_from _ _ (not_from_false _ (delimiter-plain boundary line (not-true _ both.0))) (plain-others lines both.1)

  pub parts-skip : (at : ℕ) (xs ys : List (List ℕ)) → are_plain xs ≡ true → parts_from boundary at (xs ++ ys) ≡ parts_from boundary (at + length (concat xs)) ys
  parts-skip at [] ys all = ap (λ n. parts_from boundary n ys) (let e : at ≡ at + 0 = omega arith in e)
  parts-skip at (x ∷ xs) ys all =
      let both = and_parts (not (is_dashed x)) (are_plain xs) all in
      let plain = not-true _ both.0 in
      let long = length-append x (concat xs) in
      cond-false (closes_parts boundary x) _ _ (closes-plain boundary x plain) ∙ cond-false (opens_part boundary x) _ _ (opens-plain boundary x plain)
      ∙ parts-skip (at + length x) xs ys both.1 ∙ ap (λ n. parts_from boundary n ys) (let e : at + length x + length (concat xs) ≡ at + length (x ++ concat xs) = omega arith in e)

  pub parts-none : (at : ℕ) (xs : List (List ℕ)) → are_plain xs ≡ true → parts_from boundary at xs ≡ []
  parts-none at xs all = ap (parts_from boundary at) (sym (append-nil xs)) ∙ parts-skip at xs [] all

  pub before-skip : (xs ys : List (List ℕ)) → are_others boundary xs ≡ true → lines_before boundary (xs ++ ys) ≡ xs ++ lines_before boundary ys
  before-skip [] ys all = refl
  before-skip (x ∷ xs) ys all =
      let both = and_parts (not (is_delimiter boundary x)) (are_others boundary xs) all in
      before-other boundary x (xs ++ ys) (not-true _ both.0) ∙ ap (λ ls. x ∷ ls) (before-skip xs ys both.1)

  pub from-skip : (xs ys : List (List ℕ)) → are_others boundary xs ≡ true → lines_from_delimiter boundary (xs ++ ys) ≡ lines_from_delimiter boundary ys
  from-skip [] ys all = refl
  from-skip (x ∷ xs) ys all =
      let both = and_parts (not (is_delimiter boundary x)) (are_others boundary xs) all in
      from-other boundary x (xs ++ ys) (not-true _ both.0) ∙ from-skip xs ys both.1

pub all-append : {X : Type 0} (test : X → Bool) (xs ys : List X) → list_all test xs ≡ true → list_all test ys ≡ true → list_all test (xs ++ ys) ≡ true
all-append test [] ys a b = b
all-append test (x ∷ xs) ys a b = let both = and_parts (test x) (list_all test xs) a in and_from _ _ both.0 (all-append test xs ys both.1 b)

-- the marks of lines one behind the other
mark-append : (is : Bool) (mark : Mark) (xs ys : List Mark) → cond is (mark ∷ xs ++ ys) (xs ++ ys) ≡ cond is (mark ∷ xs) xs ++ ys
mark-append true mark xs ys = refl
mark-append false mark xs ys = refl

pub marks-append : (at count : ℕ) (xs ys : List (List ℕ)) → marks_from at count (xs ++ ys) ≡ marks_from at count xs ++ marks_from (at + length (concat xs)) (count + length xs) ys
marks-append at count [] ys = (λ i. marks_from (let e : at ≡ at + 0 = omega arith in e i) (let e : count ≡ count + 0 = omega arith in e i) ys)
marks-append at count (x ∷ xs) ys =
    let mark : Mark = record { at = at; lines = count } in
    let first = marks_from (at + length x) (count + 1) xs in
    let long = length-append x (concat xs) in
    let place : at + length x + length (concat xs) ≡ at + length (x ++ concat xs) = omega arith in
    let number : count + 1 + length xs ≡ count + length (x ∷ xs) = omega arith in
    ap (λ later. cond (is_dashed x) (mark ∷ later) later) (marks-append (at + length x) (count + 1) xs ys)
    ∙ mark-append (is_dashed x) mark first (marks_from (at + length x + length (concat xs)) (count + 1 + length xs) ys)
    ∙ (λ i. marks_from at count (x ∷ xs) ++ marks_from (place i) (number i) ys)

pub marks-plain : (at count : ℕ) (xs : List (List ℕ)) → are_plain xs ≡ true → marks_from at count xs ≡ []
marks-plain at count [] all = refl
marks-plain at count (x ∷ xs) all =
    let both = and_parts (not (is_dashed x)) (are_plain xs) all in
    cond-false (is_dashed x) _ _ (not-true _ both.0) ∙ marks-plain (at + length x) (count + 1) xs both.1

-- no mark, and a first one
no-first : (mark : Mark) (marks : List Mark) → mark ∷ marks ≡ [] → ⊥
no-first mark marks is = cc

pub no-marks : (at count : ℕ) (xs : List (List ℕ)) → marks_from at count xs ≡ [] → are_plain xs ≡ true
no-marks at count [] none = refl
no-marks at count (x ∷ xs) none = ⊎_elim
    (λ is. absurd (no-first _ _ (sym (cond-true (is_dashed x) _ _ is) ∙ none)))
    (λ plain. and_from _ _ (not_from_false _ plain) (no-marks (at + length x) (count + 1) xs (sym (cond-false (is_dashed x) _ _ plain) ∙ none)))
    (cases_Bool (is_dashed x))

pub record Found (at count : ℕ) (lines : List (List ℕ)) (mark : Mark) (more : List Mark) : Type 0 where
  pub skipped : List (List ℕ)
  pub line : List ℕ
  pub rest : List (List ℕ)
  pub plain : are_plain skipped ≡ true
  pub dashed : is_dashed line ≡ true
  pub whole : lines ≡ skipped ++ line ∷ rest
  pub place : mark.at ≡ at + length (concat skipped)
  pub number : mark.lines ≡ count + length skipped
  pub behind : more ≡ marks_from (mark.at + length line) (mark.lines + 1) rest

same-first : (a b : Mark) (xs ys : List Mark) → a ∷ xs ≡ b ∷ ys → a ≡ b
same-first a b xs ys is = cc

same-rest : (a b : Mark) (xs ys : List Mark) → a ∷ xs ≡ b ∷ ys → xs ≡ ys
same-rest a b xs ys is = cc

found-here : (at count : ℕ) (x : List ℕ) (xs : List (List ℕ)) (mark : Mark) (more : List Mark) → is_dashed x ≡ true → record { at = at; lines = count } ∷ marks_from (at + length x) (count + 1) xs ≡ mark ∷ more → Found at count (x ∷ xs) mark more
found-here at count x xs mark more dashed is =
    let own : Mark = record { at = at; lines = count } in
    let first = same-first own mark _ _ is in
    let place : at ≡ mark.at = ap (λ (m : Mark). m.at) first in
    let number : count ≡ mark.lines = ap (λ (m : Mark). m.lines) first in
    record {
      skipped = [];
      line = x;
      rest = xs;
      plain = refl;
      dashed = dashed;
      whole = refl;
      place = omega arith;
      number = omega arith;
      behind = sym (same-rest own mark _ _ is) ∙ (λ i. marks_from (place i + length x) (number i + 1) xs);
    }

found-later : (at count : ℕ) (x : List ℕ) (xs : List (List ℕ)) (mark : Mark) (more : List Mark) → is_dashed x ≡ false → Found (at + length x) (count + 1) xs mark more → Found at count (x ∷ xs) mark more
found-later at count x xs mark more plain later =
    let long = length-append x (concat later.skipped) in
    record {
      skipped = x ∷ later.skipped;
      line = later.line;
      rest = later.rest;
      plain = and_from _ _ (not_from_false _ plain) later.plain;
      dashed = later.dashed;
      whole = ap (λ ls. x ∷ ls) later.whole;
      place = omega (arith, later.place);
      number = omega (arith, later.number);
      behind = later.behind;
    }

pub found : (at count : ℕ) (lines : List (List ℕ)) (mark : Mark) (more : List Mark) → marks_from at count lines ≡ mark ∷ more → Found at count lines mark more
found at count [] mark more is = absurd (no-first mark more (sym is))
found at count (x ∷ xs) mark more is = ⊎_elim
    (λ dashed. found-here at count x xs mark more dashed (sym (cond-true (is_dashed x) _ _ dashed) ∙ is))
    (λ plain. found-later at count x xs mark more plain (found (at + length x) (count + 1) xs mark more (sym (cond-false (is_dashed x) _ _ plain) ∙ is)))
    (cases_Bool (is_dashed x))

-- marks before an offset, and marks behind it
dashed-wide : (x : List ℕ) → is_dashed x ≡ true → 0 < length x
dashed-wide [] is = absurd (false≢true is)
dashed-wide (a ∷ x) is = omega arith

abbrev pub stands_before : ℕ → Mark → Bool
stands_before limit mark = nat_lt mark.at limit

pub marks-in-front : (limit at count : ℕ) (xs : List (List ℕ)) (more : List Mark) → at + length (concat xs) ≤ limit
    → prefix_len (stands_before limit) (marks_from at count xs ++ more) ≡ length (marks_from at count xs) + prefix_len (stands_before limit) more
marks-in-front limit at count [] more fits = let e : prefix_len (stands_before limit) more ≡ 0 + prefix_len (stands_before limit) more = omega arith in e
marks-in-front limit at count (x ∷ xs) more fits =
    let long = length-append x (concat xs) in
    let later = marks_from (at + length x) (count + 1) xs in
    let rest = marks-in-front limit (at + length x) (count + 1) xs more (omega arith) in
    ⊎_elim
    (λ is.
    let wide = dashed-wide x is in
    let mark : Mark = record { at = at; lines = count } in
    let marks = cond-true (is_dashed x) (mark ∷ later) later is in
    ap (λ ms. prefix_len (stands_before limit) (ms ++ more)) marks
    ∙ cond-true (nat_lt at limit) (1 + prefix_len (stands_before limit) (later ++ more)) 0 (lt-ltb at limit (omega arith))
    ∙ (let e : 1 + prefix_len (stands_before limit) (later ++ more) ≡ length (mark ∷ later) + prefix_len (stands_before limit) more = omega (arith, rest) in e)
    ∙ ap (λ ms. length ms + prefix_len (stands_before limit) more) (sym marks))
    (λ plain.
    let marks = cond-false (is_dashed x) (record { at = at; lines = count } ∷ later) later plain in
    ap (λ ms. prefix_len (stands_before limit) (ms ++ more)) marks ∙ rest ∙ ap (λ ms. length ms + prefix_len (stands_before limit) more) (sym marks))
    (cases_Bool (is_dashed x))

pub marks-behind : (limit at count : ℕ) (xs : List (List ℕ)) → limit ≤ at → prefix_len (stands_before limit) (marks_from at count xs) ≡ 0
marks-behind limit at count [] past = refl
marks-behind limit at count (x ∷ xs) past =
    let later = marks_from (at + length x) (count + 1) xs in
    ⊎_elim
    (λ is.
    ap (prefix_len (stands_before limit)) (cond-true (is_dashed x) (record { at = at; lines = count } ∷ later) later is)
    ∙ cond-false (nat_lt at limit) (1 + prefix_len (stands_before limit) later) 0 (le-ltb at limit past))
    (λ plain.
    ap (prefix_len (stands_before limit)) (cond-false (is_dashed x) (record { at = at; lines = count } ∷ later) later plain) ∙ marks-behind limit (at + length x) (count + 1) xs (omega arith))
    (cases_Bool (is_dashed x))

pub marks-left : (at count : ℕ) (xs ys : List (List ℕ)) → let limit = at + length (concat xs) in drop (prefix_len (stands_before limit) (marks_from at count (xs ++ ys))) (marks_from at count (xs ++ ys)) ≡ marks_from limit (count + length xs) ys
marks-left at count xs ys =
    let limit = at + length (concat xs) in
    let front = marks_from at count xs in
    let behind = marks_from limit (count + length xs) ys in
    let whole = marks-append at count xs ys in
    let number : prefix_len (stands_before limit) (front ++ behind) ≡ length front =
    marks-in-front limit at count xs behind (omega arith) ∙ ap (λ n. length front + n) (marks-behind limit limit (count + length xs) ys (omega arith)) ∙ (let e : length front + 0 ≡ length front = omega arith in e) in
    ap (λ ms. drop (prefix_len (stands_before limit) ms) ms) whole ∙ ap (λ n. drop n (front ++ behind)) number ∙ drop-append_seam front behind
