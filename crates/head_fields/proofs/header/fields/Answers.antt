use Rattle.std.proofs.Common.{◌≡◌, ◌∙◌, ◌+◌, ◌-◌, ◌<◌, ◌≤◌, ◌∷◌, ◌++◌, [], ℕ, List, true, length, take, drop, map, AllPairs, append_assoc, ap, sym, subst, arith}
use Rattle.std.specs.List.{concat, position_or_len}
use Rattle.std.proofs.lemmas.List.{append-nil, drop-drop, take_rest, length-append, length-drop}
use Rattle.std.proofs.lemmas.List.Elements.{All-same}
use Rattle.text_lines.specs.Lines.{header_of, line_text}
use Rattle.head_fields.specs.declared.field.Field.{Field}
use Rattle.head_fields.specs.declared.span.Span.{Span}
use Rattle.head_fields.specs.Header.{BeginsHeader}
use Rattle.head_fields.specs.Fields.{begins_field, continuations, field_at, fields_from, fields_of, is_colon, reading_in, span_at, StandsWithin, value_of}
use Rattle.head_fields.proofs.FieldLines.{fields-of_first}
use Rattle.head_fields.proofs.FieldPlaces.{behind-colon, fields-within, fields-in_order}
use Rattle.head_fields.proofs.HeaderLines.{header-front}
use Rattle.head_fields.proofs.Readings.{readings-are}
use Rattle.head_fields.proofs.header.fields.Goals as goal

-- what is known of the lines that continue a field, at the front of a text
record Continued (count : ℕ) (text : List ℕ) : Type 0 where
  within : count ≤ length text
  lines : take count text ≡ concat (continuations (header_of text))
  later : (from : ℕ) → fields_from from (header_of text) ≡ fields_from (from + count) (header_of (drop count text))

-- a field and the fields behind it
step-fields : (text line : List ℕ) (at count : ℕ) → BeginsHeader (drop at text) line → begins_field line ≡ true → Continued count (drop (at + length line) text)
    → field_at at line (continuations (header_of (drop (at + length line) text))) ∷ fields_from (at + length line + count) (header_of (drop (at + length line + count) text)) ≡ fields_from at (header_of (drop at text))
step-fields text line at count begins is behind =
    let end = at + length line in
    let rest = header_of (drop end text) in
    let header : header_of (drop at text) ≡ line ∷ rest = begins.header ∙ ap (λ t. line ∷ header_of t) (drop-drop (length line) at text) in
    let later = behind.later end ∙ ap (λ t. fields_from (end + count) (header_of t)) (drop-drop count end text) in
    ap (λ fields. field_at at line (continuations rest) ∷ fields) (sym later) ∙ sym (fields-of_first at line rest is) ∙ sym (ap (fields_from at) header)

-- a field by its spans
pushed : (name value : Span) (field : Field) → name ≡ field.name → value ≡ field.value → record { name = name; value = value } ≡ field
pushed name value field same_name same_value = λ i. record { name = same_name i; value = same_value i }

pub loop-line-preserved-in_ok-push : goal.loop-line-preserved-in_ok-push
loop-line-preserved-in_ok-push c =
    let text = c.args.text.now in
    let at = c.loop-line.at in
    let line = c.in-Some.line.now in
    let colon = c.in-Some-read_name.colon in
    let count = c.continuations_length-end.result in
    let end = at + length line in
    let begins : BeginsHeader (drop at text) line = subst (λ (t : List ℕ). BeginsHeader t line) (take_rest text at) c.in-Some.ensures.some in
    let found : Continued count (take (length text - end) (drop end text)) =
    record { within = c.continuations_length-end.ensures.within; lines = c.continuations_length-end.ensures.lines; later = c.continuations_length-end.ensures.later } in
    let behind = subst (λ (t : List ℕ). Continued count t) (take_rest text end) found in
    let more = continuations (header_of (drop end text)) in
    let inside : colon < length line = c.in-Some-read_name.ensures.order.1 in
    let place : colon ≡ position_or_len is_colon line = c.in-Some-read_name.ensures.colon in
    let bytes = behind-colon text line (concat more) at colon count inside begins.front behind.lines in
    let value : c.line_text-value.result.now ≡ value_of line more =
    c.line_text-value.ensures ∙ ap line_text bytes ∙ ap (λ k. line_text (drop (k + 1) line ++ concat more)) place in
    let name_is = c.span.ensures ∙ ap (span_at at) c.in-Some-read_name.ensures.name in
    let value_is = c.span-in-Some-read_name.ensures ∙ ap (λ k. span_at (at + k + 1) (length c.line_text-value.result.now)) place ∙ ap (λ v. span_at (at + position_or_len is_colon line + 1) (length v)) value in
    let field = field_at at line more in
    let left = length-drop at text in
    let left_behind = length-drop end text in
    let within = behind.within in
    let later = fields_from (end + count) (header_of (drop (end + count) text)) in
    let old = c.loop-line.fields.items in
    record {
      within = omega (arith, begins.within);
      fields =
          ap (λ items. items ++ later) (c.in_ok-push.ensures.items ∙ ap (λ f. old ++ f ∷ []) (pushed _ _ field name_is value_is))
          ∙ append_assoc old (field ∷ []) later
          ∙ ap (λ fields. old ++ fields) (step-fields text line at count begins c.in-Some-read_name.ensures.some behind)
          ∙ c.loop-line.invariant.fields;
    }

-- all fields are read where no header line is left
all-read : (text : List ℕ) (at : ℕ) (read : List Field) → header_of (take (length text - at) (drop at text)) ≡ [] → read ++ fields_from at (header_of (drop at text)) ≡ fields_of text → read ≡ fields_of text
all-read text at read none fields =
    let done : header_of (drop at text) ≡ [] = ap header_of (sym (take_rest text at)) ∙ none in
    sym (append-nil read) ∙ ap (λ lines. read ++ fields_from at lines) (sym done) ∙ fields

pub returns-clause-readings : goal.returns-clause-readings
returns-clause-readings c =
    let text = c.args.text.now in
    let all = all-read text c.loop-line.at c.loop-line.fields.items c.in_default.ensures.none c.loop-line.invariant.fields in
    let front = header-front text in
    ap (map (reading_in text)) all ∙ readings-are text [] front.0 (header_of text) front.1

pub returns-clause-within : goal.returns-clause-within
returns-clause-within c =
    let text = c.args.text.now in
    let all = all-read text c.loop-line.at c.loop-line.fields.items c.in_default.ensures.none c.loop-line.invariant.fields in
    let front = header-front text in
    let joined = length-append (concat (header_of text)) front.0 in
    let size = ap length front.1 in
    All-same (StandsWithin (length text)) c.loop-line.fields.items (fields_of text) all (fields-within (length text) 0 (header_of text) (omega arith))

pub returns-clause-in_order : goal.returns-clause-in_order
returns-clause-in_order c =
    let text = c.args.text.now in
    let all = all-read text c.loop-line.at c.loop-line.fields.items c.in_default.ensures.none c.loop-line.invariant.fields in
    let P : List Field → Type 0 = λ fields. AllPairs (λ (a b : Field). a.value.to ≤ b.name.from) fields in
    subst P (sym all) (fields-in_order 0 (header_of text))
