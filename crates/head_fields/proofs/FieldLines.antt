-- Which lines begin a field, and what the fields of some lines are, a line at a time.
use Rattle.std.proofs.Common.{◌≡◌, ℕ, zero, suc, ◌+◌, ⊎_elim, true, false, List, [], ◌∷◌, length, take, not, ◌==◌, refl, subst, sym}
use Rattle.std.specs.List.{list_any, list_all}
use Rattle.std.proofs.lemmas.Bool.{false≢true, and_left, and_right, cond-true, cond-false}
use Rattle.text_lines.specs.Blanks.{is_blank, is_continuation}
use Rattle.head_fields.specs.Fields.{is_colon, is_name_byte, is_name, name_of, begins_field, continuations, field_at, fields_from}
use Rattle.head_fields.proofs.Blanks.{blank_is}

blank-not_in_name : (byte : ℕ) → is_blank byte ≡ true → is_name_byte byte ≡ false
blank-not_in_name byte blank =
    let none : ℕ → Type 0 = λ b. is_name_byte b ≡ false in
    ⊎_elim (λ is. subst none (sym is) refl) (λ is. subst none (sym is) refl) (blank_is byte blank)

-- a part of some bytes that begin with a blank is no name
front-no_name : (byte : ℕ) (rest : List ℕ) (m n : ℕ) → is_name_byte byte ≡ false → is_name (take m (take n (byte ∷ rest))) ≡ false
front-no_name byte rest zero n other = refl
front-no_name byte rest (suc m) zero other = refl
front-no_name byte rest (suc m) (suc n) other =
    let front = take m (take n rest) in
    and_right (not (length (byte ∷ front) == 0)) (list_all is_name_byte (byte ∷ front)) (and_left (is_name_byte byte) (list_all is_name_byte front) other)

pub continuation-begins_none : (line : List ℕ) → is_continuation line ≡ true → begins_field line ≡ false
continuation-begins_none [] is = absurd (false≢true is)
continuation-begins_none (byte ∷ rest) is =
    and_right (list_any is_colon (byte ∷ rest)) (is_name (name_of (byte ∷ rest))) (front-no_name byte rest _ _ (blank-not_in_name byte is))

pub fields-of_other : (from : ℕ) (line : List ℕ) (rest : List (List ℕ)) → begins_field line ≡ false → fields_from from (line ∷ rest) ≡ fields_from (from + length line) rest
fields-of_other from line rest is =
    let later = fields_from (from + length line) rest in
    cond-false (begins_field line) (field_at from line (continuations rest) ∷ later) later is

pub fields-of_first : (from : ℕ) (line : List ℕ) (rest : List (List ℕ)) → begins_field line ≡ true → fields_from from (line ∷ rest) ≡ field_at from line (continuations rest) ∷ fields_from (from + length line) rest
fields-of_first from line rest is =
    let later = fields_from (from + length line) rest in
    cond-true (begins_field line) (field_at from line (continuations rest) ∷ later) later is
