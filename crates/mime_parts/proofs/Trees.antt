-- The steps of a tree of parts.
use Rattle.std.proofs.Common.{◌≡◌, ◌∙◌, ◌≤◌, ◌+◌, ◌-◌, ◌<◌, ℕ, suc, Bool, false, List, [], ◌∷◌, ◌++◌, length, take, drop, map, get_or, ap, sym, subst, arith}
use Rattle.std.proofs.Math.Seq.{take-add}
use Rattle.std.proofs.lemmas.List.{drop-drop, drop-take, drop_more, map-append}
use Rattle.text_lines.specs.Lines.{lines_of, header_of}
use Rattle.head_fields.specs.Header.{body_start_of}
use Rattle.head_fields.specs.Fields.{readings_of}
use Rattle.mime_parts.specs.Contents.{HasContent, is_digest, as_bytes}
use Rattle.mime_parts.specs.Marks.{IsTail, section_in}
use Rattle.mime_parts.specs.declared.mark.Tail.{Tail}
use Rattle.mime_parts.specs.declared.delimiter.Section.{Section}
use Rattle.mime_parts.specs.Parts.{body_of, part_at, Division, several, one, no_parts, undivided, division_of, Each, IsDivided, IsDeepest, IsPart}
use Rattle.mime_parts.specs.declared.content.Content.{Content}
use Rattle.mime_parts.specs.declared.part.Part.{Part}
use Rattle.mime_parts.specs.declared.part.Inner.{Leaf, Parts, Message}

-- a part's fields, by the rest of the text that its body is
pub part-lines : (text : List ℕ) (from : ℕ) (body : Tail) → IsTail text body → body.from ≡ from + body_start_of (drop from text) → body.until - body.before ≡ length (lines_of (body_of (drop from text)))
part-lines text from body is place =
    let own : drop body.from text ≡ body_of (drop from text) = ap (λ n. drop n text) place ∙ sym (drop-drop (body_start_of (drop from text)) from text) in
    let count = is.lines in
    let same = ap (λ t. length (lines_of t)) own in
    omega arith

-- the text of a part by its section
pub section-text : (text : List ℕ) (section : Section) → section.tail.from ≤ section.to → drop section.tail.from (take section.to text) ≡ (section_in text section).1
section-text text section ordered =
    let from = section.tail.from in
    let whole : section.to ≡ from + (section.to - from) = omega arith in
    ap (λ n. drop from (take n text)) whole ∙ drop-take from (section.to - from) text

-- a part more
pub each-next : (Is : ℕ → List ℕ → Part → Type 0) (places : List (ℕ × List ℕ)) (parts : List Part) (place : ℕ × List ℕ) (part : Part) → Each Is places parts → Is place.0 place.1 part → Each Is (places ++ place ∷ []) (parts ++ part ∷ [])
each-next Is [] [] place part each is = (is, tt)
each-next Is [] (other ∷ parts) place part each is = absurd each
each-next Is (other ∷ places) [] place part each is = absurd each
each-next Is (other ∷ places) (first ∷ parts) place part each is = (each.0, each-next Is places parts place part each.1 is)

-- a part, by how its body is divided
module _ (levels : ℕ) (digest : Bool) (from : ℕ) (text : List ℕ) (content : Content) (part : Part) (has : HasContent digest (readings_of (header_of text)) content) where
  pub part-deepest : levels ≡ 0 → (division : Division) → division ≡ division_of content from text → IsDeepest division from text content part → IsPart levels digest from text part
  part-deepest none division same is = subst (λ n. IsPart n digest from text part) (sym none) (content, has, subst (λ d. IsDeepest d from text content part) same is)

  divided : (before : ℕ) → levels ≡ suc before → (division : Division) → division ≡ division_of content from text → IsDivided (IsPart before) division from text content part → IsPart levels digest from text part
  divided before some division same is = subst (λ n. IsPart n digest from text part) (sym some) (content, has, subst (λ d. IsDivided (IsPart before) d from text content part) same is)

  module _ (before : ℕ) (some : levels ≡ suc before) where
    pub part-several : (places : List (ℕ × List ℕ)) (parts : List Part) → several places ≡ division_of content from text → Each (IsPart before (is_digest content)) places parts → part ≡ part_at from text content (Parts parts)
        → IsPart levels digest from text part
    part-several places parts same each is = divided before some (several places) same (parts, each, is)

    pub part-one : (inner : Part) → one ≡ division_of content from text → IsPart before false (from + body_start_of text) (body_of text) inner → part ≡ part_at from text content (Message inner) → IsPart levels digest from text part
    part-one inner same is_inner is = divided before some one same (inner, is_inner, is)

    pub part-no_parts : no_parts ≡ division_of content from text → part ≡ part_at from text (as_bytes content) Leaf → IsPart levels digest from text part
    part-no_parts same is = divided before some no_parts same is

    pub part-undivided : undivided ≡ division_of content from text → part ≡ part_at from text content Leaf → IsPart levels digest from text part
    part-undivided same is = divided before some undivided same is

pub each-more : (Is : ℕ → List ℕ → Part → Type 0) (text : List ℕ) (sections : List Section) (at : ℕ) (d : Section) → at < length sections → (get_or sections at d).tail.from ≤ (get_or sections at d).to
    → (parts : List Part) (part : Part) → Each Is (map (section_in text) (take at sections)) parts
    → Is (get_or sections at d).tail.from (drop (get_or sections at d).tail.from (take (get_or sections at d).to text)) part
    → Each Is (map (section_in text) (take (at + 1) sections)) (parts ++ part ∷ [])
each-more Is text sections at d inside ordered parts part each is =
    let section = get_or sections at d in
    let taken : take (at + 1) sections ≡ take at sections ++ section ∷ [] = take-add at 1 sections ∙ ap (λ s. take at sections ++ take 1 s) (drop_more sections at d inside) in
    let places : map (section_in text) (take (at + 1) sections) ≡ map (section_in text) (take at sections) ++ section_in text section ∷ [] = ap (map (section_in text)) taken ∙ map-append (section_in text) (take at sections) (section ∷ []) in
    subst (λ ps. Each Is ps (parts ++ part ∷ [])) (sym places)
    (each-next Is (map (section_in text) (take at sections)) parts (section_in text section) part each (subst (λ t. Is section.tail.from t part) (section-text text section ordered) is))
