-- Reserved fields: which lines a text keeps without them.
use Rattle.std.proofs.Common.{◌≡◌, ℕ, Bool, true, false, cond, List, [], ◌∷◌, ◌++◌, ⊎_elim, inl, inr, length, map, refl, ap, sym, subst, ◌∙◌, ◌==◌, ◌||◌, arith}
use Rattle.std.specs.List.{concat}
use Rattle.std.proofs.lemmas.Bool.{cases_Bool, cond-true, cond-false, false≢true, eqb-true}
use Rattle.text_lines.specs.Lines.{lines_of, is_empty_line}
use Rattle.text_lines.proofs.Lines.{no_lines}
use Rattle.text_lines.proofs.Texts.{joined, AreLines, are-lines, lines-joined}
use Rattle.text_lines.specs.Blanks.{is_continuation}
use Rattle.text_forms.specs.Lines.{is_dropped, is_reserved}
use Rattle.text_forms.specs.Forms.{has_reserved, unreserved_lines, drop_reserved}

-- from an empty line on all stays
pub body-stays : (above : Bool) (text line : List ℕ) (behind : List (List ℕ)) → lines_of text ≡ line ∷ behind → is_empty_line line ≡ true → concat (unreserved_lines above (lines_of text)) ≡ text
body-stays above text line behind lines empty =
    let rest = cond (is_dropped above line) (unreserved_lines true behind) (line ∷ unreserved_lines false behind) in
    ap (λ l. concat (unreserved_lines above l)) lines
    ∙ ap concat (cond-true (is_empty_line line) (line ∷ behind) rest empty)
    ∙ ap concat (sym lines) ∙ joined text

pub none-left : (above : Bool) (text : List ℕ) → length text ≡ 0 → concat (unreserved_lines above (lines_of text)) ≡ text
none-left above [] none = ap (λ l. concat (unreserved_lines above l)) (no_lines [] refl)
none-left above (byte ∷ rest) none = absurd (omega arith)

pub or_parts : (a b : Bool) → (a || b) ≡ false → (a ≡ false) × (b ≡ false)
or_parts true b h = absurd (false≢true (sym h))
or_parts false b h = (refl, h)

-- without a reserved field nothing goes
pub none-goes : (lines : List (List ℕ)) → has_reserved lines ≡ false → unreserved_lines false lines ≡ lines
none-goes [] none = refl
none-goes (line ∷ lines) none = ⊎_elim
    (λ empty. cond-true (is_empty_line line) (line ∷ lines) _ empty)
    (λ filled.
    let left : (is_reserved line || has_reserved lines) ≡ false =
    sym (cond-false (is_empty_line line) false (is_reserved line || has_reserved lines) filled) ∙ none in
    let parts = or_parts (is_reserved line) (has_reserved lines) left in
    let stays : is_dropped false line ≡ false = stays-below line parts.0 in
    cond-false (is_empty_line line) (line ∷ lines) _ filled
    ∙ cond-false (is_dropped false line) (unreserved_lines true lines) (line ∷ unreserved_lines false lines) stays
    ∙ ap (λ l. line ∷ l) (none-goes lines parts.1))
    (cases_Bool (is_empty_line line))
  where
    stays-below : (line : List ℕ) → is_reserved line ≡ false → is_dropped false line ≡ false
    stays-below line none = elim (is_continuation line) as (λ is. cond is false (is_reserved line) ≡ false) [ true ↦ refl | false ↦ none ]

-- a text without a reserved field stays
pub none_dropped : (text : List ℕ) → has_reserved (lines_of text) ≡ false → drop_reserved text ≡ text
none_dropped text none = ap concat (none-goes (lines_of text) none) ∙ joined text

-- what is left has no reserved field
pub all-gone : (above : Bool) (lines : List (List ℕ)) → has_reserved (unreserved_lines above lines) ≡ false
all-gone above [] = refl
all-gone above (line ∷ lines) = ⊎_elim
    (λ empty.
    ap has_reserved (cond-true (is_empty_line line) (line ∷ lines) _ empty)
    ∙ cond-true (is_empty_line line) false (is_reserved line || has_reserved lines) empty)
    (λ filled.
    let gone = all-gone true lines in
    let left = all-gone false lines in
    ap has_reserved (cond-false (is_empty_line line) (line ∷ lines) _ filled)
    ∙ ⊎_elim
    (λ drops. ap has_reserved (cond-true (is_dropped above line) (unreserved_lines true lines) (line ∷ unreserved_lines false lines) drops) ∙ gone)
    (λ stays.
    ap has_reserved (cond-false (is_dropped above line) (unreserved_lines true lines) (line ∷ unreserved_lines false lines) stays)
    ∙ cond-false (is_empty_line line) false (is_reserved line || has_reserved (unreserved_lines false lines)) filled
    ∙ ap (λ t. is_reserved line || t) left
    ∙ ap (λ t. t || false) (unreserved above line stays))
    (cases_Bool (is_dropped above line)))
    (cases_Bool (is_empty_line line))
  where
    -- no reserved name begins with a blank
    not-both : (line : List ℕ) → is_continuation line ≡ true → is_reserved line ≡ false
    not-both [] h = refl
    not-both (byte ∷ rest) h = ⊎_elim
        (λ space. subst (λ b. is_reserved (b ∷ rest) ≡ false) (sym (eqb-true byte 32 space)) refl)
        (λ other.
        let tab = eqb-true byte 9 (sym (ap (λ t. t || (byte == 9)) other) ∙ h) in
        subst (λ b. is_reserved (b ∷ rest) ≡ false) (sym tab) refl)
        (cases_Bool (byte == 32))

    unreserved : (above : Bool) (line : List ℕ) → is_dropped above line ≡ false → is_reserved line ≡ false
    unreserved above line stays = ⊎_elim
        (λ goes_on. not-both line goes_on)
        (λ first. sym (cond-false (is_continuation line) above (is_reserved line) first) ∙ stays)
        (cases_Bool (is_continuation line))

-- lines without the reserved ones are lines
pub unreserved-lines : (above : Bool) (lines : List (List ℕ)) → AreLines lines → AreLines (unreserved_lines above lines)
unreserved-lines above [] are = tt
unreserved-lines above (line ∷ lines) are =
    let header : AreLines (cond (is_dropped above line) (unreserved_lines true lines) (line ∷ unreserved_lines false lines)) = ⊎_elim
    (λ more.
    let goes = unreserved-lines true lines more.1 in
    let stays = unreserved-lines false lines more.1 in
    elim (is_dropped above line) as (λ is. AreLines (cond is (unreserved_lines true lines) (line ∷ unreserved_lines false lines))) [
      | true ↦ goes
      | false ↦ inl (more.0, stays)
    ])
    (λ last.
    let alone : AreLines (cond (is_dropped above line) [] (line ∷ [])) =
    elim (is_dropped above line) as (λ is. AreLines (cond is [] (line ∷ []))) [ true ↦ tt | false ↦ inr (last.0, last.1, refl) ] in
    subst (λ l. AreLines (cond (is_dropped above line) (unreserved_lines true l) (line ∷ unreserved_lines false l))) (sym last.2) alone)
    are in
    elim (is_empty_line line)
    as (λ is. AreLines (cond is (line ∷ lines) (cond (is_dropped above line) (unreserved_lines true lines) (line ∷ unreserved_lines false lines)))) [
      | true ↦ are
      | false ↦ header
    ]

-- once dropped, nothing is left to drop
pub drop_reserved_twice : (text : List ℕ) → drop_reserved (drop_reserved text) ≡ drop_reserved text
drop_reserved_twice text =
    let left = unreserved_lines false (lines_of text) in
    ap (λ l. concat (unreserved_lines false l)) (lines-joined left (unreserved-lines false (lines_of text) (are-lines text)))
    ∙ ap concat (none-goes left (all-gone false (lines_of text)))

-- a line more behind a header changes nothing, and makes no field
pub empty-behind : (line : List ℕ) (lines : List (List ℕ)) → is_empty_line line ≡ true → has_reserved lines ≡ false → has_reserved (lines ++ line ∷ []) ≡ false
empty-behind line [] empty none = cond-true (is_empty_line line) false (is_reserved line || false) empty
empty-behind line (first ∷ lines) empty none = ⊎_elim
    (λ end. cond-true (is_empty_line first) false (is_reserved first || has_reserved (lines ++ line ∷ [])) end)
    (λ filled.
    let left = sym (cond-false (is_empty_line first) false (is_reserved first || has_reserved lines) filled) ∙ none in
    let parts = or_parts (is_reserved first) (has_reserved lines) left in
    cond-false (is_empty_line first) false (is_reserved first || has_reserved (lines ++ line ∷ [])) filled
    ∙ ap (λ t. t || has_reserved (lines ++ line ∷ [])) parts.0 ∙ empty-behind line lines empty parts.1)
    (cases_Bool (is_empty_line first))

-- lines that stay as they are or get no reserved field keep the header free of them
pub none-made : (form : List ℕ → List ℕ) → ((line : List ℕ) → is_empty_line (form line) ≡ is_empty_line line)
    → ((line : List ℕ) → is_reserved line ≡ false → is_reserved (form line) ≡ false)
    → (lines : List (List ℕ)) → has_reserved lines ≡ false → has_reserved (map form lines) ≡ false
none-made form empty keeps [] none = refl
none-made form empty keeps (line ∷ lines) none = ⊎_elim
    (λ end. cond-true (is_empty_line (form line)) false (is_reserved (form line) || has_reserved (map form lines)) (empty line ∙ end))
    (λ filled.
    let left = sym (cond-false (is_empty_line line) false (is_reserved line || has_reserved lines) filled) ∙ none in
    let parts = or_parts (is_reserved line) (has_reserved lines) left in
    cond-false (is_empty_line (form line)) false (is_reserved (form line) || has_reserved (map form lines)) (empty line ∙ filled)
    ∙ ap (λ t. t || has_reserved (map form lines)) (keeps line parts.0) ∙ none-made form empty keeps lines parts.1)
    (cases_Bool (is_empty_line line))
