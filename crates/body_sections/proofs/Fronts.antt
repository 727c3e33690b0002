-- What is cut from the front of a text is cut from the text.
use Rattle.std.proofs.Common.{◌≡◌, ◌∙◌, ℕ, zero, suc, Bool, List, [], ◌∷◌, ◌++◌, ◌+◌, ◌-◌, ◌≤◌, ◌&&◌, All, length, take, drop, refl, ap, sym, arith, ⊎_elim}
use Rattle.std.specs.List.{concat, prefix_len}
use Rattle.std.proofs.lemmas.Bool.{cases_Bool, cond-true, cond-false}
use Rattle.std.proofs.lemmas.List.{length-append, length-take, take-append-drop}
use Rattle.std.proofs.lemmas.List.Elements.{All-nil, All-cons, All-head, All-tail, All-same}
use Rattle.std.proofs.lemmas.List.Folds.{concat-append}
use Rattle.text_lines.specs.Blanks.{is_continuation}
use Rattle.text_lines.specs.Lines.{header_of}
use Rattle.head_fields.specs.Header.{body_start_of, header_alone}
use Rattle.head_fields.specs.Fields.{begins_field, name_of, continuations, span_at}
use Rattle.head_fields.specs.declared.span.Span.{Span}
use Rattle.head_fields.proofs.HeaderAlone.{body-start_alone}
use Rattle.head_fields.proofs.HeaderLines.{header-front}
use Rattle.imap_arguments.specs.declared.section.SectionKind.{SectionKind}
use Rattle.body_sections.specs.FieldLines.{field_spans}
use Rattle.body_sections.specs.Sections.{cut, cut_out, has_field, chosen_spans, head_span}

take-front : (k n : ℕ) (xs : List ℕ) → k ≤ n → take k (take n xs) ≡ take k xs
take-front zero n xs few = refl
take-front (suc k) zero xs few = absurd (omega (arith, few))
take-front (suc k) (suc n) [] few = refl
take-front (suc k) (suc n) (x ∷ xs) few = ap (λ l. x ∷ l) (take-front k n xs (omega (arith, few)))

drop-front : (a n : ℕ) (xs : List ℕ) → a ≤ n → drop a (take n xs) ≡ take (n - a) (drop a xs)
drop-front zero n xs few = ap (λ k. take k xs) (all n)
  where
    all : (n : ℕ) → n ≡ n - 0
    all n = omega arith
drop-front (suc a) zero xs few = absurd (omega (arith, few))
drop-front (suc a) (suc n) [] few = sym (none (suc n - suc a))
  where
    none : (k : ℕ) → take {A = ℕ} k [] ≡ []
    none zero = refl
    none (suc k) = refl
drop-front (suc a) (suc n) (x ∷ xs) few = drop-front a n xs (omega (arith, few)) ∙ ap (λ k. take k (drop a xs)) (less n a)
  where
    less : (n a : ℕ) → n - a ≡ suc n - suc a
    less n a = omega arith

-- a span stands before an offset
pub record IsBefore (end : ℕ) (s : Span) : Type 0 where
  pub ordered : s.from ≤ s.to
  pub inside : s.to ≤ end

-- a span within the front
cut-front : (n : ℕ) (text : List ℕ) (s : Span) → IsBefore n s → cut (take n text) s ≡ cut text s
cut-front n text s is =
    let ordered = is.ordered in
    let inside = is.inside in
    ap (take (s.to - s.from)) (drop-front s.from n text (omega (arith, ordered, inside)))
    ∙ take-front (s.to - s.from) (n - s.from) (drop s.from text) (omega (arith, ordered, inside))

cut_out-front : (n : ℕ) (text : List ℕ) (spans : List Span) → All (IsBefore n) spans → cut_out (take n text) spans ≡ cut_out text spans
cut_out-front n text [] all = refl
cut_out-front n text (s ∷ spans) all =
    ap (λ l. l ++ cut_out (take n text) spans) (cut-front n text s (All-head (IsBefore n) s spans all))
    ∙ ap (λ l. cut text s ++ l) (cut_out-front n text spans (All-tail (IsBefore n) s spans all))

-- the lines of fields stand within the lines of their header
lines-before : (chosen : List ℕ → Bool) (end at : ℕ) (lines : List (List ℕ)) → at + length (concat lines) ≤ end → All (IsBefore end) (field_spans chosen at lines)
lines-before chosen end at [] room = All-nil (IsBefore end)
lines-before chosen end at (line ∷ rest) room =
    let n = prefix_len is_continuation rest in
    let more = continuations rest in
    let left = drop n rest in
    let own = span_at at (length (concat (line ∷ more))) in
    let rest_is : concat rest ≡ concat more ++ concat left = ap concat (sym (take-append-drop n rest)) ∙ concat-append more left in
    let whole = length-append line (concat rest) in
    let front = length-append line (concat more) in
    let parts = ap length rest_is ∙ length-append (concat more) (concat left) in
    let later = lines-before chosen end (at + length line) rest (omega (arith, room, whole)) in
    let spans = field_spans chosen (at + length line) rest in
    ⊎_elim
    (λ is. All-same (IsBefore end) _ _ (cond-true (begins_field line && chosen (name_of line)) (own ∷ spans) spans is) (All-cons (IsBefore end) own spans (record { ordered = omega arith; inside = omega (arith, room, whole, front, parts) }) later))
    (λ is. All-same (IsBefore end) _ _ (cond-false (begins_field line && chosen (name_of line)) (own ∷ spans) spans is) later)
    (cases_Bool (begins_field line && chosen (name_of line)))

module _ (text : List ℕ) where
  abbrev start : ℕ
  start = body_start_of text

  abbrev alone : List ℕ
  alone = header_alone text

  -- the header as it is cut from the header alone
  pub same-head : cut alone (head_span alone) ≡ cut text (head_span text)
  same-head = ap (λ n. take (n - 0) alone) (body-start_alone text) ∙ take-front (start - 0) start text (omega arith)

  -- the chosen fields as they are cut from the header alone
  pub same-fields : (kind : SectionKind) → cut_out alone (chosen_spans alone kind (head_span alone)) ≡ cut_out text (chosen_spans text kind (head_span text))
  same-fields kind =
      let header = cut text (head_span text) in
      let front = header-front header in
      let sizes = length-append (concat (header_of header)) front.0 in
      let whole = ap length front.1 in
      let cut_short = length-take (start - 0) text in
      ap (λ h. cut_out alone (field_spans (has_field kind) 0 (header_of h))) same-head
      ∙ cut_out-front start text (field_spans (has_field kind) 0 (header_of header))
      (lines-before (has_field kind) start 0 (header_of header) (omega (arith, sizes, whole, cut_short)))
