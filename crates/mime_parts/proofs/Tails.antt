-- The rest of a text, by its lines and their marks.
use Rattle.std.proofs.Common.{◌≡◌, ◌∙◌, ⊎_elim, inl, inr, ◌+◌, ◌-◌, ◌<◌, ◌≤◌, ◌&&◌, ℕ, Bool, true, false, not, cond, List, [], ◌∷◌, ◌++◌, length, take, drop, slice_range, nat_lt, refl, ap, sym, subst, arith}
use Rattle.std.specs.List.{concat, prefix_len}
use Rattle.std.proofs.Math.Seq.{drop-append_seam, take-append_seam}
use Rattle.std.proofs.lemmas.Bool.{cases_lt, cond-true, cond-false, lt-ltb}
use Rattle.std.proofs.lemmas.List.{append_assoc, append-nil, length-append, length-drop, length-take, take-append-drop, drop-drop, drop-take, take_all, take_rest}
use Rattle.std.proofs.lemmas.List.Folds.{concat-append}
use Rattle.text_lines.specs.Lines.{lines_of, line_text, header_of}
use Rattle.text_lines.proofs.Texts.{AreLines, are-lines, joined, lines-joined, some-byte}
use Rattle.head_fields.specs.Header.{body_start_of}
use Rattle.mime_parts.specs.Delimiters.{BeginsLines, is_delimiter, text_before, lines_before, lines_from_delimiter, parts_from, opens_part, closes_parts}
use Rattle.mime_parts.specs.Marks.{is_dashed, marks_from, IsTail, IsNext, HasNoDashed, IsSection, EndsAt, opened_part, ends_line}
use Rattle.mime_parts.specs.declared.mark.Mark.{Mark}
use Rattle.mime_parts.specs.declared.mark.Tail.{Tail}
use Rattle.mime_parts.specs.declared.mark.Next.{Next}
use Rattle.mime_parts.specs.declared.delimiter.Section.{Section}
use Rattle.mime_parts.proofs.Delimiters.{no-lines-left, text-front, before-delimiter, from-delimiter}
use Rattle.mime_parts.proofs.Marks.{are_plain, are_others, found, no-marks, marks-append, marks-plain, marks-left, stands_before, plain-others, parts-skip, before-skip, from-skip, all-append}
use Rattle.mime_parts.proofs.Cuts.{AreClosed, cut_lines, cut-lines, cut-count, cut-marks}

-- the lines of a text in two rows
empty-behind : (xs ys : List (List ℕ)) → xs ++ ys ≡ [] → ys ≡ []
empty-behind [] ys none = none
empty-behind (x ∷ xs) ys none = absurd (some none)
  where
    some : x ∷ (xs ++ ys) ≡ [] → ⊥
    some is = cc

empty-front : (xs ys : List (List ℕ)) → xs ++ ys ≡ [] → xs ≡ []
empty-front [] ys none = refl
empty-front (x ∷ xs) ys none = absurd (some none)
  where
    some : x ∷ (xs ++ ys) ≡ [] → ⊥
    some is = cc

are-behind : (xs ys : List (List ℕ)) → AreLines (xs ++ ys) → AreLines ys
are-behind [] ys are = are
are-behind (x ∷ xs) ys are = ⊎_elim (λ more. are-behind xs ys more.1) (λ last. subst AreLines (sym (empty-behind xs ys last.2)) tt) are

are-front : (xs ys : List (List ℕ)) → AreLines (xs ++ ys) → AreLines xs
are-front [] ys are = tt
are-front (x ∷ xs) ys are = ⊎_elim (λ more. inl (more.0, are-front xs ys more.1)) (λ last. inr (last.0, last.1, empty-front xs ys last.2)) are

front-closed : (xs : List (List ℕ)) (y : List ℕ) (ys : List (List ℕ)) → AreLines (xs ++ y ∷ ys) → AreClosed xs
front-closed [] y ys are = tt
front-closed (x ∷ xs) y ys are = ⊎_elim (λ more. (more.0, front-closed xs y ys more.1)) (λ last. absurd (some y ys (empty-behind xs (y ∷ ys) last.2))) are
  where
    some : (y : List ℕ) (ys : List (List ℕ)) → y ∷ ys ≡ [] → ⊥
    some y ys is = cc

lines-few : (lines : List (List ℕ)) → AreLines lines → length lines ≤ length (concat lines)
lines-few [] are = omega arith
lines-few (x ∷ xs) are =
    let long = length-append x (concat xs) in
    ⊎_elim
    (λ more. let some = some-byte x more.0 in let rest = lines-few xs more.1 in (let e : length (x ∷ xs) ≤ length (x ++ concat xs) = omega arith in e))
    (λ last. let some = last.0 in let none = ap length last.2 in (let e : length (x ∷ xs) ≤ length (x ++ concat xs) = omega arith in e))
    are

pub lines-at_most : (text : List ℕ) → length (lines_of text) ≤ length text
lines-at_most text = subst (λ n. length (lines_of text) ≤ n) (ap length (joined text)) (lines-few (lines_of text) (are-lines text))

module _ (text : List ℕ) (xs ys : List (List ℕ)) (whole : lines_of text ≡ xs ++ ys) where
  parted : text ≡ concat xs ++ concat ys
  parted = sym (joined text) ∙ ap concat whole ∙ concat-append xs ys

  pub front-text : take (length (concat xs)) text ≡ concat xs
  front-text = ap (take (length (concat xs))) parted ∙ take-append_seam (concat xs) (concat ys)

  pub front-lines : lines_of (take (length (concat xs)) text) ≡ xs
  front-lines = ap lines_of front-text ∙ lines-joined xs (are-front xs ys (subst AreLines whole (are-lines text)))

  pub behind-lines : lines_of (drop (length (concat xs)) text) ≡ ys
  behind-lines =
      ap (λ t. lines_of (drop (length (concat xs)) t)) parted ∙ ap lines_of (drop-append_seam (concat xs) (concat ys))
      ∙ lines-joined ys (are-behind xs ys (subst AreLines whole (are-lines text)))

  pub front-within : length (concat xs) ≤ length text
  front-within = let long = ap length parted in let sum = length-append (concat xs) (concat ys) in omega arith

  pub front-few : length xs ≤ length (concat xs)
  front-few = lines-few xs (are-front xs ys (subst AreLines whole (are-lines text)))

same-line : (a b : List ℕ) (xs ys : List (List ℕ)) → a ∷ xs ≡ b ∷ ys → a ≡ b
same-line a b xs ys is = cc

same-lines : (a b : List ℕ) (xs ys : List (List ℕ)) → a ∷ xs ≡ b ∷ ys → xs ≡ ys
same-lines a b xs ys is = cc

no-line : (a : List ℕ) (xs : List (List ℕ)) → a ∷ xs ≡ [] → ⊥
no-line a xs is = cc

-- the next mark of a tail
module _ (text : List ℕ) (tail : Tail) (is : IsTail text tail) where
  rest : List ℕ
  rest = drop tail.from text

  pub mark-lines : (mark : Mark) (marks : List Mark) → tail.marks.now ≡ mark ∷ marks
      → (skipped : List (List ℕ)) × (line : List ℕ) × (behind : List (List ℕ)) × (are_plain skipped ≡ true) × (lines_of (drop tail.from text) ≡ skipped ++ line ∷ behind) × (mark.at ≡ tail.from + length (concat skipped))
      × (mark.lines ≡ tail.before + length skipped) × (marks ≡ marks_from (mark.at + length line) (mark.lines + 1) behind) × (lines_of (drop mark.at text) ≡ line ∷ behind) × (is_dashed line ≡ true)
  mark-lines mark marks here =
      let f = found tail.from tail.before (lines_of (drop tail.from text)) mark marks (sym is.marks ∙ here) in
      let at : drop (length (concat f.skipped)) (drop tail.from text) ≡ drop mark.at text = drop-drop (length (concat f.skipped)) tail.from text ∙ ap (λ n. drop n text) (sym f.place) in
      (f.skipped, f.line, f.rest, f.plain, f.whole, f.place, f.number, f.behind, ap lines_of (sym at) ∙ behind-lines (drop tail.from text) f.skipped (f.line ∷ f.rest) f.whole, f.dashed)

  pub mark-inside : (mark : Mark) (marks : List Mark) → tail.marks.now ≡ mark ∷ marks → mark.at < length text
  mark-inside mark marks here =
      let f = mark-lines mark marks here in
      ⊎_elim (λ inside. inside) (λ past. absurd (no-line f.1 f.2 (sym f.8 ∙ no-lines-left text mark.at past))) (cases_lt mark.at (length text))

  pub mark-few : (mark : Mark) (marks : List Mark) → tail.marks.now ≡ mark ∷ marks → mark.lines ≤ mark.at
  mark-few mark marks here =
      let f = mark-lines mark marks here in
      let few = front-few (drop tail.from text) f.0 (f.1 ∷ f.2) f.4 in
      let at = f.5 in
      let number = f.6 in
      let first = is.few in
      omega arith

  pub next-is : (next : Next) → tail.marks.now ≡ next.mark ∷ next.behind.marks.now → BeginsLines (drop next.mark.at text) next.line.now
      → next.behind.from ≡ next.mark.at + length next.line.now → next.behind.before ≡ next.mark.lines + 1 → next.behind.until ≡ tail.until → IsNext text tail next
  next-is next here begins from before until =
      let mark = next.mark in
      let line = next.line.now in
      let f = mark-lines mark next.behind.marks.now here in
      let lines = sym f.8 ∙ begins.lines in
      let same_line = same-line f.1 line f.2 _ lines in
      let same_rest : f.2 ≡ lines_of (drop next.behind.from text) = same-lines f.1 line f.2 _ lines ∙ ap lines_of (drop-drop (length line) mark.at text ∙ ap (λ n. drop n text) (sym from)) in
      let whole : lines_of (drop tail.from text) ≡ f.0 ++ line ∷ lines_of (drop next.behind.from text) = f.4 ∙ (λ i. f.0 ++ same_line i ∷ same_rest i) in
      let few = front-few (drop tail.from text) f.0 (f.1 ∷ f.2) f.4 in
      let long = ap length whole in
      let sum = length-append f.0 (line ∷ lines_of (drop next.behind.from text)) in
      let left = length-drop mark.at text in
      let inside = mark-inside mark next.behind.marks.now here in
      record {
        skipped = f.0;
        plain = f.3;
        dashed = subst (λ l. is_dashed l ≡ true) same_line f.9;
        whole = whole;
        at = f.5;
        lines = f.6;
        behind = record {
          within = omega (arith, begins.within, from);
          few = omega (arith, begins.some, from, before, f.5, f.6, few, is.few);
          lines = omega (arith, until, is.lines, before, f.6, long, sum);
          marks = f.7 ∙ (λ i. marks_from (mark.at + length (same_line i)) (mark.lines + 1) (same_rest i)) ∙ (λ i. marks_from (sym from i) (sym before i) (lines_of (drop next.behind.from text)));
        };
        from = from;
        before = before;
        marks = here;
        until = until;
      }

  pub next-none : tail.marks.now ≡ [] → HasNoDashed text tail
  next-none none = no-marks tail.from tail.before (lines_of (drop tail.from text)) (sym is.marks ∙ none)

  -- the body of the part that a tail is
  pub header-parts : (xs : List (List ℕ)) × (ys : List (List ℕ)) × (lines_of (drop tail.from text) ≡ xs ++ ys) × (body_start_of (drop tail.from text) ≡ length (concat xs))
  header-parts =
      let lines = lines_of (drop tail.from text) in
      let k = length (header_of (drop tail.from text)) + 1 in
      (take k lines, drop k lines, sym (take-append-drop k lines), refl)

  pub body-within : tail.from + body_start_of (drop tail.from text) ≤ length text
  body-within =
      let p = header-parts in
      let within = front-within (drop tail.from text) p.0 p.1 p.2 in
      let same = p.3 in
      let left_over = length-drop tail.from text in
      let place = is.within in
      omega arith

  pub body-few : length (lines_of (take (body_start_of (drop tail.from text)) (drop tail.from text))) ≤ body_start_of (drop tail.from text)
  body-few =
      let most = lines-at_most (take (body_start_of (drop tail.from text)) (drop tail.from text)) in
      let size = length-take (body_start_of (drop tail.from text)) (drop tail.from text) in
      omega arith

  pub body-is : (body : Tail) (passed : ℕ) → body.from ≡ tail.from + body_start_of (drop tail.from text) → body.before ≡ tail.before + length (lines_of (take (body_start_of (drop tail.from text)) (drop tail.from text)))
      → body.until ≡ tail.until → passed ≡ prefix_len (stands_before body.from) tail.marks.now → body.marks.now ≡ drop passed tail.marks.now → IsTail text body
  body-is body passed from before until passes marks =
      let p = header-parts in
      let own = drop tail.from text in
      let width = length (concat p.0) in
      let count : length (lines_of (take (body_start_of own) own)) ≡ length p.0 = ap (λ n. length (lines_of (take n own))) p.3 ∙ ap length (front-lines own p.0 p.1 p.2) in
      let place : body.from ≡ tail.from + width = from ∙ ap (λ n. tail.from + n) p.3 in
      let number : body.before ≡ tail.before + length p.0 = before ∙ ap (λ n. tail.before + n) count in
      let later : lines_of (drop body.from text) ≡ p.1 = ap lines_of (ap (λ n. drop n text) place ∙ sym (drop-drop width tail.from text)) ∙ behind-lines own p.0 p.1 p.2 in
      let within = front-within own p.0 p.1 p.2 in
      let few = front-few own p.0 p.1 p.2 in
      let left = length-drop tail.from text in
      let sum = length-append p.0 p.1 in
      let all = ap length p.2 in
      let rest_count = ap length later in
      let all_marks : tail.marks.now ≡ marks_from tail.from tail.before (p.0 ++ p.1) = is.marks ∙ ap (marks_from tail.from tail.before) p.2 in
      record {
        within = omega (arith, is.within, place, within, left);
        few = omega (arith, is.few, place, number, few);
        lines = omega (arith, until, is.lines, number, all, sum, rest_count);
        marks = marks ∙ ap (λ n. drop n tail.marks.now) passes ∙ (λ i. drop (prefix_len (stands_before (place i)) (all_marks i)) (all_marks i)) ∙ marks-left tail.from tail.before p.0 p.1
            ∙ (λ i. marks_from (sym place i) (sym number i) (sym later i));
      }

-- what a reader of a part has passed
pub record Passed (boundary text : List ℕ) (tail left : Tail) : Type 0 where
  pub lines : List (List ℕ)
  pub others : are_others boundary lines ≡ true
  pub whole : lines_of (drop tail.from text) ≡ lines ++ lines_of (drop left.from text)
  pub from : left.from ≡ tail.from + length (concat lines)
  pub before : left.before ≡ tail.before + length lines
  pub marks : tail.marks.now ≡ marks_from tail.from tail.before lines ++ left.marks.now
  pub until : left.until ≡ tail.until
  pub rest_is : IsTail text left

pub passed-none : (boundary text : List ℕ) (tail : Tail) → IsTail text tail → Passed boundary text tail tail
passed-none boundary text tail is =
    record {
      lines = [];
      others = refl;
      whole = refl;
      from = (let e : tail.from ≡ tail.from + 0 = omega arith in e);
      before = (let e : tail.before ≡ tail.before + 0 = omega arith in e);
      marks = refl;
      until = refl;
      rest_is = is;
    }

module _ (boundary text : List ℕ) (tail left : Tail) (p : Passed boundary text tail left) (next : Next) (n : IsNext text left next) where
  front : List (List ℕ)
  front = p.lines ++ n.skipped

  front-whole : lines_of (drop tail.from text) ≡ (p.lines ++ n.skipped) ++ next.line.now ∷ lines_of (drop next.behind.from text)
  front-whole = p.whole ∙ ap (λ ls. p.lines ++ ls) n.whole ∙ sym (append_assoc p.lines n.skipped (next.line.now ∷ lines_of (drop next.behind.from text)))

  front-at : next.mark.at ≡ tail.from + length (concat (p.lines ++ n.skipped))
  front-at = let sum = ap length (concat-append p.lines n.skipped) in let long = length-append (concat p.lines) (concat n.skipped) in omega (arith, n.at, p.from, sum, long)

  front-number : next.mark.lines ≡ tail.before + length (p.lines ++ n.skipped)
  front-number = let long = length-append p.lines n.skipped in omega (arith, n.lines, p.before, long)

  front-marks : tail.marks.now ≡ marks_from tail.from tail.before (p.lines ++ n.skipped) ++ left.marks.now
  front-marks =
      let more = marks-append tail.from tail.before p.lines n.skipped ∙ ap (λ ms. marks_from tail.from tail.before p.lines ++ ms) (marks-plain (tail.from + length (concat p.lines)) (tail.before + length p.lines) n.skipped n.plain)
      ∙ append-nil (marks_from tail.from tail.before p.lines) in
      p.marks ∙ ap (λ ms. ms ++ left.marks.now) (sym more)

  front-others : are_others boundary (p.lines ++ n.skipped) ≡ true
  front-others = all-append (λ line. not (is_delimiter boundary line)) p.lines n.skipped p.others (plain-others boundary n.skipped n.plain)

  pub passed-more : is_delimiter boundary next.line.now ≡ false → Passed boundary text tail next.behind
  passed-more other =
      let line = next.line.now in
      let one : are_others boundary (line ∷ []) ≡ true = ap (λ b. not b && true) other in
      let lines = (p.lines ++ n.skipped) ++ line ∷ [] in
      let joins = ap length (concat-append (p.lines ++ n.skipped) (line ∷ [])) in
      let long = length-append (concat (p.lines ++ n.skipped)) (concat (line ∷ [])) in
      let alone = length-append line [] in
      let count = length-append (p.lines ++ n.skipped) (line ∷ []) in
      let own : marks_from next.mark.at next.mark.lines (line ∷ []) ++ next.behind.marks.now ≡ left.marks.now =
      ap (λ ms. ms ++ next.behind.marks.now) (cond-true (is_dashed line) (next.mark ∷ []) [] n.dashed) ∙ sym n.marks in
      record {
        lines = lines;
        others = all-append (λ l. not (is_delimiter boundary l)) (p.lines ++ n.skipped) (line ∷ []) front-others one;
        whole = front-whole ∙ sym (append_assoc (p.lines ++ n.skipped) (line ∷ []) (lines_of (drop next.behind.from text)));
        from = omega (arith, n.from, front-at, joins, long, alone);
        before = omega (arith, n.before, front-number, count);
        marks = front-marks ∙ ap (λ ms. marks_from tail.from tail.before (p.lines ++ n.skipped) ++ ms) (sym own)
            ∙ sym (append_assoc (marks_from tail.from tail.before (p.lines ++ n.skipped)) (marks_from next.mark.at next.mark.lines (line ∷ [])) next.behind.marks.now)
            ∙ ap (λ ms. ms ++ next.behind.marks.now) ((λ i. marks_from tail.from tail.before (p.lines ++ n.skipped) ++ marks_from (front-at i) (front-number i) (line ∷ [])) ∙ sym (marks-append tail.from tail.before (p.lines ++ n.skipped) (line ∷ [])));
        until = n.until ∙ p.until;
        rest_is = n.behind;
      }

  pub passed-ends : (passed : ℕ) → passed ≡ length tail.marks.now - length left.marks.now → EndsAt text tail next.mark passed
  passed-ends passed is =
      let before = marks_from tail.from tail.before (p.lines ++ n.skipped) in
      let long = ap length front-marks in
      let sum = length-append before left.marks.now in
      let same : passed ≡ length before = omega arith in
      record {
        front = p.lines ++ n.skipped;
        line = next.line.now;
        rest = lines_of (drop next.behind.from text);
        whole = front-whole;
        at = front-at;
        lines = front-number;
        marks = (λ i. take (same i) (front-marks i)) ∙ take-append_seam before left.marks.now;
        few = omega arith;
      }

  pub passed-text : is_delimiter boundary next.line.now ≡ true → line_text (slice_range text tail.from next.mark.at) ≡ text_before (lines_before boundary (lines_of (drop tail.from text))) (lines_from_delimiter boundary (lines_of (drop tail.from text)))
  passed-text is =
      let lines = p.lines ++ n.skipped in
      let line = next.line.now in
      let rest = lines_of (drop next.behind.from text) in
      let width : next.mark.at - tail.from ≡ length (concat lines) = let e = front-at in omega arith in
      let cut : slice_range text tail.from next.mark.at ≡ concat lines = ap (λ k. take k (drop tail.from text)) width ∙ front-text (drop tail.from text) lines (line ∷ rest) front-whole in
      let before : lines_before boundary (lines_of (drop tail.from text)) ≡ lines =
      ap (lines_before boundary) front-whole ∙ before-skip boundary lines (line ∷ rest) front-others ∙ ap (λ ls. lines ++ ls) (before-delimiter boundary line rest is) ∙ append-nil lines in
      let behind : lines_from_delimiter boundary (lines_of (drop tail.from text)) ≡ line ∷ rest =
      ap (lines_from_delimiter boundary) front-whole ∙ from-skip boundary lines (line ∷ rest) front-others ∙ from-delimiter boundary line rest is in
      ap line_text cut ∙ (λ i. text_before (sym before i) (sym behind i))

-- a part that goes on to the end
module _ (boundary text : List ℕ) (tail left : Tail) (p : Passed boundary text tail left) (none : HasNoDashed text left) where
  all-others : are_others boundary (lines_of (drop tail.from text)) ≡ true
  all-others = subst (λ ls. are_others boundary ls ≡ true) (sym p.whole) (all-append (λ l. not (is_delimiter boundary l)) p.lines (lines_of (drop left.from text)) p.others (plain-others boundary (lines_of (drop left.from text)) none))

  pub passed-all : slice_range text tail.from (length text) ≡ text_before (lines_before boundary (lines_of (drop tail.from text))) (lines_from_delimiter boundary (lines_of (drop tail.from text)))
  passed-all =
      let lines = lines_of (drop tail.from text) in
      let before : lines_before boundary lines ≡ lines = ap (lines_before boundary) (sym (append-nil lines)) ∙ before-skip boundary lines [] all-others ∙ append-nil lines in
      let behind : lines_from_delimiter boundary lines ≡ [] = ap (lines_from_delimiter boundary) (sym (append-nil lines)) ∙ from-skip boundary lines [] all-others in
      let left_over = length-drop tail.from text in
      take_all (length text - tail.from) (drop tail.from text) (omega arith) ∙ sym (joined (drop tail.from text)) ∙ (λ i. text_before (sym before i) (sym behind i))

pub whole-section : (text : List ℕ) (section : Section) → section.to ≡ length text → IsTail text section.tail → IsSection text section
whole-section text section to is =
    record {
      ordered = omega (arith, is.within);
      within = omega arith;
      tail = subst (λ t. IsTail t section.tail) (sym (take_all section.to text (omega arith))) is;
    }

-- a part that a delimiter line ends
short-count : (front : List (List ℕ)) → AreClosed front → cond (nat_lt 0 (length (concat front)) && ends_line (line_text (concat front))) 1 0 + length (cut_lines front) ≡ length front
short-count [] closed = refl
short-count (x ∷ xs) closed =
    let some = some-byte x closed.0 in
    let long = length-append x (concat xs) in
    let inside : nat_lt 0 (length (concat (x ∷ xs))) ≡ true = lt-ltb 0 _ (omega arith) in
    ap (λ b. cond (b && ends_line (line_text (concat (x ∷ xs)))) 1 0 + length (cut_lines (x ∷ xs))) inside ∙ cut-count x xs closed

module _ (text : List ℕ) (tail : Tail) (is : IsTail text tail) (mark : Mark) (passed : ℕ) (ends : EndsAt text tail mark passed) where
  pub ends-within : (tail.from ≤ mark.at) × (mark.at ≤ length text)
  ends-within =
      let at = ends.at in
      let within = front-within (drop tail.from text) ends.front (ends.line ∷ ends.rest) ends.whole in
      let left_over = length-drop tail.from text in
      let place = is.within in
      (omega arith, omega arith)

  pub ends-some : 0 < mark.at - tail.from → 0 < mark.lines
  ends-some wide = some ends.front ends.at ends.lines
    where
      some : (front : List (List ℕ)) → mark.at ≡ tail.from + length (concat front) → mark.lines ≡ tail.before + length front → 0 < mark.lines
      some [] at lines = absurd (omega arith)
      some (x ∷ xs) at lines = omega arith

module _ (text : List ℕ) (tail : Tail) (is : IsTail text tail) (mark : Mark) (passed : ℕ) (ends : EndsAt text tail mark passed) (section : Section)
    (from : section.tail.from ≡ tail.from) (before : section.tail.before ≡ tail.before) (marks : section.tail.marks.now ≡ take passed tail.marks.now)
    (to : section.to ≡ tail.from + length (line_text (slice_range text tail.from mark.at))) where
  own-closed : AreClosed ends.front
  own-closed = front-closed ends.front ends.line ends.rest (subst AreLines ends.whole (are-lines (drop tail.from text)))

  width : mark.at - tail.from ≡ length (concat ends.front)
  width = let at = ends.at in omega arith

  own-text : slice_range text tail.from mark.at ≡ concat ends.front
  own-text = ap (λ k. take k (drop tail.from text)) width ∙ front-text (drop tail.from text) ends.front (ends.line ∷ ends.rest) ends.whole

  pub cut-text : slice_range text section.tail.from section.to ≡ line_text (slice_range text tail.from mark.at)
  cut-text =
      let size : section.to - tail.from ≡ length (line_text (slice_range text tail.from mark.at)) = omega arith in
      ap (λ k. slice_range text k section.to) from ∙ ap (λ k. take k (drop tail.from text)) size ∙ text-front (drop tail.from text) (mark.at - tail.from)

  rest-text : drop section.tail.from (take section.to text) ≡ line_text (slice_range text tail.from mark.at)
  rest-text =
      let size : section.to ≡ section.tail.from + (section.to - section.tail.from) = omega arith in
      ap (λ k. drop section.tail.from (take k text)) size ∙ drop-take section.tail.from (section.to - section.tail.from) text ∙ cut-text

  own-lines : lines_of (drop section.tail.from (take section.to text)) ≡ cut_lines ends.front
  own-lines = ap lines_of (rest-text ∙ ap line_text own-text) ∙ cut-lines ends.front own-closed

  pub cut-is : (short : Bool) → short ≡ (nat_lt 0 (mark.at - tail.from) && ends_line (line_text (slice_range text tail.from mark.at))) → section.tail.until + cond short 1 0 ≡ mark.lines → IsSection text section
  cut-is short same until =
      let same_short : short ≡ (nat_lt 0 (length (concat ends.front)) && ends_line (line_text (concat ends.front))) = same ∙ (λ i. nat_lt 0 (width i) && ends_line (line_text (own-text i))) in
      let count = short-count ends.front own-closed in
      let shorter : cond {A = ℕ} short 1 0 ≡ cond {A = ℕ} (nat_lt 0 (length (concat ends.front)) && ends_line (line_text (concat ends.front))) 1 0 = (λ i. cond (same_short i) 1 0) in
      let all = ap length own-lines in
      let cut_size = ap length cut-text in
      let sizes = length-take (section.to - section.tail.from) (drop section.tail.from text) in
      let left_over = length-drop section.tail.from text in
      let place = is.within in
      let few = is.few in
      let number = ends.lines in
      let size : section.to - tail.from ≡ length (line_text (slice_range text tail.from mark.at)) = omega arith in
      let inside : section.to ≤ length text = omega arith in
      let long = length-take section.to text in
      record {
        ordered = omega arith;
        within = inside;
        tail = record {
          within = omega arith;
          few = omega arith;
          lines = omega arith;
          marks = marks ∙ ends.marks ∙ (λ i. marks_from (sym from i) (sym before i) ends.front) ∙ sym (cut-marks section.tail.from section.tail.before ends.front own-closed) ∙ ap (marks_from section.tail.from section.tail.before) (sym own-lines);
        };
      }

-- a line more
pub line-counted : (text line : List ℕ) (at count : ℕ) → BeginsLines (take (length text - at) (drop at text)) line → count + length (lines_of (drop at text)) ≡ length (lines_of text)
    → count + 1 + length (lines_of (drop (at + length line) text)) ≡ length (lines_of text)
line-counted text line at count begins counted =
    let first : lines_of (drop at text) ≡ line ∷ lines_of (drop (length line) (drop at text)) = subst (λ t. lines_of t ≡ line ∷ lines_of (drop (length line) t)) (take_rest text at) begins.lines in
    let long = ap length (first ∙ ap (λ t. line ∷ lines_of t) (drop-drop (length line) at text)) in
    omega (arith, counted, long)

-- the parts that are left at a line that begins with `--`
open-split : (boundary line : List ℕ) (at : ℕ) (rest : List (List ℕ)) (later : List (ℕ × List ℕ))
    → cond (opens_part boundary line) ((at, text_before (lines_before boundary rest) (lines_from_delimiter boundary rest)) ∷ later) later ≡ opened_part boundary line at rest ++ later
open-split boundary line at rest later = split_at (opens_part boundary line)
  where
    split_at : (is : Bool) → cond is ((at, text_before (lines_before boundary rest) (lines_from_delimiter boundary rest)) ∷ later) later
        ≡ cond is ((at, text_before (lines_before boundary rest) (lines_from_delimiter boundary rest)) ∷ []) [] ++ later
    split_at true = refl
    split_at false = refl

module _ (boundary text : List ℕ) (left : Tail) (next : Next) (n : IsNext text left next) where
  parts-here : parts_from boundary left.from (lines_of (drop left.from text)) ≡ parts_from boundary next.mark.at (next.line.now ∷ lines_of (drop next.behind.from text))
  parts-here =
      let line = next.line.now in
      let rest = lines_of (drop next.behind.from text) in
      ap (parts_from boundary left.from) n.whole ∙ parts-skip boundary left.from n.skipped (line ∷ rest) n.plain ∙ ap (λ k. parts_from boundary k (line ∷ rest)) (sym n.at)

  pub parts-closed : closes_parts boundary next.line.now ≡ true → parts_from boundary left.from (lines_of (drop left.from text)) ≡ []
  parts-closed is = parts-here ∙ cond-true (closes_parts boundary next.line.now) [] _ is

  pub parts-more : closes_parts boundary next.line.now ≡ false
      → parts_from boundary left.from (lines_of (drop left.from text)) ≡ opened_part boundary next.line.now next.behind.from (lines_of (drop next.behind.from text)) ++ parts_from boundary next.behind.from (lines_of (drop next.behind.from text))
  parts-more other =
      let line = next.line.now in
      let rest = lines_of (drop next.behind.from text) in
      parts-here ∙ cond-false (closes_parts boundary line) [] _ other ∙ open-split boundary line (next.mark.at + length line) rest (parts_from boundary (next.mark.at + length line) rest)
      ∙ (λ i. opened_part boundary line (sym n.from i) rest ++ parts_from boundary (sym n.from i) rest)
