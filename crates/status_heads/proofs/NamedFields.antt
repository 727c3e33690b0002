-- A field that has the name of a reserved one begins with a reserved line.
use Rattle.std.proofs.Common.{◌≡◌, ℕ, ◌+◌, ◌-◌, ◌<◌, ⊎_elim, suc, Bool, true, false, not, List, [], ◌∷◌, ◌++◌, ◌==◌, ◌&&◌, ◌||◌, length, get_or, drop, take, take-append-drop, reverse, append_assoc, codes, refl, ap, sym, ◌∙◌, arith}
use Rattle.std.specs.List.{after_first, position_or_len, suffix_len}
use Rattle.std.specs.Str.{str_eq_ignore_ascii_case, bytes_eq}
use Rattle.std.specs.Cmp.Derive.{both_true}
use Rattle.std.proofs.lemmas.Bool.{cases_Bool, and_parts, cond-true, cond-false, false≢true}
use Rattle.std.proofs.lemmas.List.{take_at, drop_at, length-drop, length-map, length-reverse, get_or-drop, get_or-reverse}
use Rattle.std.proofs.lemmas.List.Sums.{split_at_first, prefix_len_stops, prefix_len_passes}
use Rattle.text_lines.specs.Blanks.{is_blank}
use Rattle.text_forms.specs.Lines.{begins_colon, is_field_named, is_reserved}
use Rattle.head_fields.specs.Fields.{is_colon, name_of, value_of, begins_field, continuations, readings_of}
use Rattle.head_fields.specs.Folding.{unfolded}
use Rattle.head_fields.proofs.FieldPlaces.{colon-inside}
use Rattle.status_heads.specs.Fields.{value_named}
use Rattle.status_heads.proofs.Insertions.{IsFree, Each}

same-length : (one other : List ℕ) → bytes_eq one other ≡ true → length one ≡ length other
same-length [] [] same = refl
same-length [] (byte ∷ other) same = absurd (false≢true same)
same-length (byte ∷ one) [] same = absurd (false≢true same)
same-length (byte ∷ one) (next ∷ other) same = ap suc (same-length one other (and_parts (byte == next) (bytes_eq one other) same).1)

or-second : (a b : Bool) → b ≡ true → (a || b) ≡ true
or-second true b is = refl
or-second false b is = is

or-first : (a b : Bool) → a ≡ true → (a || b) ≡ true
or-first true b is = refl
or-first false b is = absurd (false≢true is)

-- blanks and a colon
blanks-then : (blanks rest : List ℕ) → ((k : ℕ) → k < length blanks → is_blank (get_or blanks k 0) ≡ true) → begins_colon rest ≡ true → begins_colon (blanks ++ rest) ≡ true
blanks-then [] rest all colon = colon
blanks-then (byte ∷ blanks) rest all colon =
    or-second (byte == 58) (is_blank byte && begins_colon (blanks ++ rest))
    (both_true (all 0 (omega arith)) (blanks-then blanks rest (λ k inside. all (suc k) (omega arith)) colon))

-- the blanks that some bytes end in
end-blank : (bytes : List ℕ) (k : ℕ) → k < length (drop (length bytes - suffix_len is_blank bytes) bytes) → is_blank (get_or (drop (length bytes - suffix_len is_blank bytes) bytes) k 0) ≡ true
end-blank bytes k inside =
    let n = length bytes - suffix_len is_blank bytes in
    let left = length-drop n bytes in
    let place = length bytes - 1 - (n + k) in
    let long = length-reverse bytes in
    let same : length bytes - 1 - place ≡ n + k = omega arith in
    ap is_blank (get_or-drop n bytes k 0 ∙ ap (λ j. get_or bytes j 0) (sym same) ∙ sym (get_or-reverse bytes place 0 (omega arith)))
    ∙ prefix_len_passes is_blank (reverse bytes) place 0 (omega arith)

module _ (line name : List ℕ) (begins : begins_field line ≡ true) (same : str_eq_ignore_ascii_case (name_of line) name ≡ true) where
  abbrev colon : ℕ
  colon = position_or_len is_colon line

  abbrev before : List ℕ
  before = take colon line

  abbrev count : ℕ
  count = length before - suffix_len is_blank before

  abbrev back : List ℕ
  back = drop count before

  abbrev rest : List ℕ
  rest = get_or line colon 0 ∷ after_first is_colon line

  whole : line ≡ name_of line ++ (back ++ rest)
  whole =
      split_at_first is_colon line 0 (colon-inside line begins) ∙ ap (λ b. b ++ rest) (sym (take-append-drop count before))
      ∙ append_assoc (take count before) back rest

  width : length (name_of line) ≡ length name
  width = sym (length-map (name_of line) _) ∙ same-length _ _ same ∙ length-map name _

  stops : begins_colon rest ≡ true
  stops = or-first (get_or line colon 0 == 58) _ (back-again (is_colon (get_or line colon 0)) (prefix_len_stops (λ byte. not (is_colon byte)) line 0 (colon-inside line begins)))
    where
      back-again : (test : Bool) → not test ≡ false → test ≡ true
      back-again true is = refl
      back-again false is = absurd (false≢true (sym is))

  pub named-is : is_field_named line name ≡ true
  named-is =
      both_true
      (ap (λ bytes. str_eq_ignore_ascii_case bytes name) (ap (take (length name)) whole ∙ take_at (name_of line) (back ++ rest) (length name) width) ∙ same)
      (ap begins_colon (ap (drop (length name)) whole ∙ drop_at (name_of line) (back ++ rest) (length name) width) ∙ blanks-then back rest (end-blank before) stops)

-- the lines of a name are reserved
abbrev pub Reserves : List ℕ → Type 0
Reserves name = (line : List ℕ) → is_field_named line name ≡ true → is_reserved line ≡ true

pub status-reserves : Reserves (codes "Status")
status-reserves line is = or-first (is_field_named line (codes "Status")) _ is

pub more-reserves : Reserves (codes "X-Status")
more-reserves line is = or-second (is_field_named line (codes "Status")) _ (or-first (is_field_named line (codes "X-Status")) _ is)

pub uid-reserves : Reserves (codes "X-UID")
uid-reserves line is =
    or-second (is_field_named line (codes "Status")) _ (or-second (is_field_named line (codes "X-Status")) _ (or-first (is_field_named line (codes "X-UID")) _ is))

pub words-reserves : Reserves (codes "X-Keywords")
words-reserves line is =
    or-second (is_field_named line (codes "Status")) _ (or-second (is_field_named line (codes "X-Status")) _
    (or-second (is_field_named line (codes "X-UID")) _ (or-first (is_field_named line (codes "X-Keywords")) _ is)))

-- a header without reserved fields has none of that name
pub value-behind : (name : List ℕ) → Reserves name → (front more : List (List ℕ)) → Each IsFree front → value_named name (readings_of (front ++ more)) ≡ value_named name (readings_of more)
value-behind name reserves [] more each = refl
value-behind name reserves (line ∷ front) more each =
    let later = readings_of (front ++ more) in
    let value = value_of line (continuations (front ++ more)) in
    let found = value-behind name reserves front more each.1 in
    ⊎_elim
    (λ begins.
    ap (value_named name) (cond-true (begins_field line) ((name_of line, value) ∷ later) later begins)
    ∙ ⊎_elim
    (λ same. absurd (false≢true (sym each.0.free ∙ reserves line (named-is line name begins same))))
    (λ other. cond-false (str_eq_ignore_ascii_case (name_of line) name) (unfolded value) (value_named name later) other ∙ found)
    (cases_Bool (str_eq_ignore_ascii_case (name_of line) name)))
    (λ other. ap (value_named name) (cond-false (begins_field line) ((name_of line, value) ∷ later) later other) ∙ found)
    (cases_Bool (begins_field line))
