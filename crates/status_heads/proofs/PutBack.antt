-- The status fields of heads, read back.
use Rattle.std.proofs.Common.{◌≡◌, ℕ, ◌≤◌, Bool, true, false, cond, List, [], ◌∷◌, ◌++◌, ◌==◌, nat_le, length, append-nil, codes, Option, Some, None, IfSome, refl, ap, sym, subst, ◌∙◌, arith}
use Rattle.std.specs.List.{concat, list_all}
use Rattle.std.specs.Fmt.{decimal}
use Rattle.std.proofs.lemmas.Bool.Decides.{nat_tests}
use Rattle.text_lines.specs.Lines.{line_len, lines_from}
use Rattle.text_forms.specs.Forms.{drop_reserved, has_empty_line}
use Rattle.head_fields.specs.Fields.{readings_of}
use Rattle.head_fields.specs.Folding.{unfolded}
use Rattle.mail_types.specs.declared.flags.Flags.{Flags}
use Rattle.mail_fields.proofs.Digits.{decimal-digits, decimal-reads}
use Rattle.status_heads.specs.declared.heads.Heads.{Heads}
use Rattle.status_heads.specs.Fields.{value_named}
use Rattle.status_heads.specs.HeadTexts.{head_lines, heads_text, letter_if, lines_of_field, status_text, more_text, names_text, uid_text}
use Rattle.status_heads.specs.Heads.{has_letter, heads_in, heads_of, flags_of}
use Rattle.status_heads.specs.Insertions.{with_fields}
use Rattle.mail_fields.specs.Keyword.{is_keyword}
use Rattle.status_heads.specs.Names.{names_of}
use Rattle.status_heads.specs.Numbers.{number_between, greatest_uid}
use Rattle.status_heads.proofs.Insertions.{Each, IsMade, IsFree, none-reserved, header-with, dropped-again, front, front-free}
use Rattle.status_heads.proofs.MadeLines.{is_clean, status-name, more-name, words-name, uid-name, made-lines, lines-read, value-passed, value-found}
use Rattle.status_heads.proofs.NamedFields.{Reserves, status-reserves, more-reserves, words-reserves, uid-reserves, value-behind}
use Rattle.status_heads.proofs.WrittenValues.{is_solid, solid-clean, letter-solid, solid-both, digits-solid, unfolded-solid, names-again, names-clean, names-unfolded}

nothing-unfolded : unfolded (32 ∷ []) ≡ []
unfolding line_len lines_from
nothing-unfolded = refl

-- a value that is one line is read as it was written
abbrev IsReadBack : List ℕ → Type 0
IsReadBack value = (is_clean value ≡ true) × (unfolded (32 ∷ value) ≡ value)

solid-back : (value : List ℕ) → is_solid value ≡ true → IsReadBack value
solid-back [] solid = (refl, nothing-unfolded)
solid-back (byte ∷ rest) solid = (solid-clean (byte ∷ rest) solid, unfolded-solid (byte ∷ rest) solid (omega arith))

names-back : (names : List (List ℕ)) → list_all is_keyword names ≡ true → IsReadBack (names_text names)
names-back [] all = (refl, nothing-unfolded)
names-back (name ∷ names) all = (names-clean (name ∷ names) all, names-unfolded name names all)

status-back : (flags : Flags) → IsReadBack (status_text flags)
unfolding status_text
status-back flags =
    solid-back (letter_if flags.seen 82 ++ letter_if flags.old 79) (solid-both (letter_if flags.seen 82) (letter_if flags.old 79) (letter-solid flags.seen 82 refl) (letter-solid flags.old 79 refl))

more-back : (flags : Flags) → IsReadBack (more_text flags)
unfolding more_text
more-back flags =
    let d = letter_if flags.deleted 68 in
    let f = letter_if flags.flagged 70 in
    let a = letter_if flags.answered 65 in
    let t = letter_if flags.draft 84 in
    solid-back (d ++ f ++ a ++ t) (solid-both (d ++ f ++ a) t (solid-both (d ++ f) a (solid-both d f (letter-solid flags.deleted 68 refl) (letter-solid flags.flagged 70 refl)) (letter-solid flags.answered 65 refl)) (letter-solid flags.draft 84 refl))

uid-back : (uid : Option ℕ) → IfSome uid (λ u. u ≤ greatest_uid) → IsReadBack (uid_text uid)
uid-back None high = (refl, nothing-unfolded)
uid-back (Some uid) high = solid-back (decimal uid) (digits-solid (decimal uid) (decimal-digits uid (omega (arith, high))))

status-letters : (seen old : Bool) → (has_letter 82 (letter_if seen 82 ++ letter_if old 79) ≡ seen) × (has_letter 79 (letter_if seen 82 ++ letter_if old 79) ≡ old)
status-letters true true = (refl, refl)
status-letters true false = (refl, refl)
status-letters false true = (refl, refl)
status-letters false false = (refl, refl)

abbrev letters : Bool → Bool → Bool → Bool → List ℕ
letters d f a t = letter_if d 68 ++ letter_if f 70 ++ letter_if a 65 ++ letter_if t 84

more-letters : (d f a t : Bool) → (has_letter 68 (letters d f a t) ≡ d) × (has_letter 70 (letters d f a t) ≡ f) × (has_letter 65 (letters d f a t) ≡ a) × (has_letter 84 (letters d f a t) ≡ t)
more-letters true true true true = (refl, refl, refl, refl)
more-letters true true true false = (refl, refl, refl, refl)
more-letters true true false true = (refl, refl, refl, refl)
more-letters true true false false = (refl, refl, refl, refl)
more-letters true false true true = (refl, refl, refl, refl)
more-letters true false true false = (refl, refl, refl, refl)
more-letters true false false true = (refl, refl, refl, refl)
more-letters true false false false = (refl, refl, refl, refl)
more-letters false true true true = (refl, refl, refl, refl)
more-letters false true true false = (refl, refl, refl, refl)
more-letters false true false true = (refl, refl, refl, refl)
more-letters false true false false = (refl, refl, refl, refl)
more-letters false false true true = (refl, refl, refl, refl)
more-letters false false true false = (refl, refl, refl, refl)
more-letters false false false true = (refl, refl, refl, refl)
more-letters false false false false = (refl, refl, refl, refl)

flags-again : (flags : Flags) → flags_of (status_text flags) (more_text flags) ≡ flags
unfolding status_text more_text
flags-again flags =
    let one = status-letters flags.seen flags.old in
    let two = more-letters flags.deleted flags.flagged flags.answered flags.draft in
    λ i. record { seen = one.0 i; answered = two.2 i; flagged = two.1 i; deleted = two.0 i; draft = two.3 i; old = one.1 i }

uid-again : (uid : Option ℕ) → IfSome uid (λ u. 1 ≤ u) → IfSome uid (λ u. u ≤ greatest_uid) → number_between 1 greatest_uid (uid_text uid) ≡ uid
unfolding number_between
uid-again None low high = refl
uid-again (Some uid) low high =
    let first : nat_le 1 uid ≡ true = grind (arith, nat_tests, low) in
    let second : nat_le uid greatest_uid ≡ true = grind (arith, nat_tests, high) in
    rw (decimal-reads uid (omega (arith, high)), first, second) refl

module _ (heads : Heads) (all : list_all is_keyword heads.words ≡ true) (low : IfSome heads.uid (λ u. 1 ≤ u)) (high : IfSome heads.uid (λ u. u ≤ greatest_uid)) where
  abbrev a : List ℕ
  a = status_text heads.seen_old

  abbrev b : List ℕ
  b = more_text heads.seen_old

  abbrev c : List ℕ
  c = names_text heads.words

  abbrev d : List ℕ
  d = uid_text heads.uid

  a-back : IsReadBack (status_text heads.seen_old)
  a-back = status-back heads.seen_old

  b-back : IsReadBack (more_text heads.seen_old)
  b-back = more-back heads.seen_old

  c-back : IsReadBack (names_text heads.words)
  c-back = names-back heads.words all

  d-back : IsReadBack (uid_text heads.uid)
  d-back = uid-back heads.uid high

  abbrev last : List (List ℕ)
  last = lines_of_field (codes "X-UID") d ++ []

  abbrev third : List (List ℕ)
  third = lines_of_field (codes "X-Keywords") c ++ last

  abbrev second : List (List ℕ)
  second = lines_of_field (codes "X-Status") b ++ third

  abbrev every : List (List ℕ)
  every = lines_of_field (codes "Status") a ++ second

  lines-are : head_lines heads ≡ every
  unfolding head_lines
  lines-are =
      ap (λ l. lines_of_field (codes "Status") a ++ (lines_of_field (codes "X-Status") b ++ (lines_of_field (codes "X-Keywords") c ++ l)))
      (sym (append-nil (lines_of_field (codes "X-UID") d)))

  last-made : Each IsMade last
  last-made = made-lines (codes "X-UID") d uid-name d-back.0 [] tt

  third-made : Each IsMade third
  third-made = made-lines (codes "X-Keywords") c words-name c-back.0 last last-made

  second-made : Each IsMade second
  second-made = made-lines (codes "X-Status") b more-name b-back.0 third third-made

  every-made : Each IsMade every
  every-made = made-lines (codes "Status") a status-name a-back.0 second second-made

  abbrev last_field : List (List ℕ × List ℕ)
  last_field = cond (length d == 0) [] ((codes "X-UID", 32 ∷ d) ∷ []) ++ []

  abbrev third_field : List (List ℕ × List ℕ)
  third_field = cond (length c == 0) [] ((codes "X-Keywords", 32 ∷ c) ∷ []) ++ last_field

  abbrev second_field : List (List ℕ × List ℕ)
  second_field = cond (length b == 0) [] ((codes "X-Status", 32 ∷ b) ∷ []) ++ third_field

  abbrev every_field : List (List ℕ × List ℕ)
  every_field = cond (length a == 0) [] ((codes "Status", 32 ∷ a) ∷ []) ++ second_field

  fields-are : readings_of every ≡ every_field
  fields-are =
      lines-read (codes "Status") a status-name a-back.0 second second-made
      ∙ ap (λ f. cond (length a == 0) [] ((codes "Status", 32 ∷ a) ∷ []) ++ f)
      (lines-read (codes "X-Status") b more-name b-back.0 third third-made
      ∙ ap (λ f. cond (length b == 0) [] ((codes "X-Status", 32 ∷ b) ∷ []) ++ f)
      (lines-read (codes "X-Keywords") c words-name c-back.0 last last-made
      ∙ ap (λ f. cond (length c == 0) [] ((codes "X-Keywords", 32 ∷ c) ∷ []) ++ f)
      (lines-read (codes "X-UID") d uid-name d-back.0 [] tt)))

  status-found : value_named (codes "Status") every_field ≡ a
  status-found =
      let s = codes "Status" in
      value-found s a second_field refl a-back.1
      (value-passed s (codes "X-Status") (32 ∷ b) third_field (length b == 0) refl
      ∙ value-passed s (codes "X-Keywords") (32 ∷ c) last_field (length c == 0) refl
      ∙ value-passed s (codes "X-UID") (32 ∷ d) [] (length d == 0) refl)

  more-found : value_named (codes "X-Status") every_field ≡ b
  more-found =
      let s = codes "X-Status" in
      value-passed s (codes "Status") (32 ∷ a) second_field (length a == 0) refl
      ∙ value-found s b third_field refl b-back.1
      (value-passed s (codes "X-Keywords") (32 ∷ c) last_field (length c == 0) refl
      ∙ value-passed s (codes "X-UID") (32 ∷ d) [] (length d == 0) refl)

  words-found : value_named (codes "X-Keywords") every_field ≡ c
  words-found =
      let s = codes "X-Keywords" in
      value-passed s (codes "Status") (32 ∷ a) second_field (length a == 0) refl
      ∙ value-passed s (codes "X-Status") (32 ∷ b) third_field (length b == 0) refl
      ∙ value-found s c last_field refl c-back.1 (value-passed s (codes "X-UID") (32 ∷ d) [] (length d == 0) refl)

  uid-found : value_named (codes "X-UID") every_field ≡ d
  uid-found =
      let s = codes "X-UID" in
      value-passed s (codes "Status") (32 ∷ a) second_field (length a == 0) refl
      ∙ value-passed s (codes "X-Status") (32 ∷ b) third_field (length b == 0) refl
      ∙ value-passed s (codes "X-Keywords") (32 ∷ c) last_field (length c == 0) refl
      ∙ value-found s d [] refl d-back.1 refl

  -- each line of the status fields begins one of them
  pub head_lines_made : Each IsMade (head_lines heads)
  head_lines_made = subst (Each IsMade) (sym lines-are) every-made

  module _ (before : List (List ℕ)) (free : Each IsFree before) where
    found : (name value : List ℕ) → Reserves name → value_named name every_field ≡ value → value_named name (readings_of (before ++ every)) ≡ value
    found name value reserves is = value-behind name reserves before every free ∙ ap (value_named name) fields-are ∙ is

    heads-again : heads_in (readings_of (before ++ every)) ≡ heads
    unfolding heads_in
    heads-again =
        let one = found (codes "Status") a status-reserves status-found in
        let two = found (codes "X-Status") b more-reserves more-found in
        let three = found (codes "X-Keywords") c words-reserves words-found in
        let four = found (codes "X-UID") d uid-reserves uid-found in
        (λ i. record { seen_old = flags_of (one i) (two i); words = names_of (three i); uid = number_between 1 greatest_uid (four i) })
        ∙ (λ i. record { seen_old = flags-again heads.seen_old i; words = names-again heads.words all i; uid = uid-again heads.uid low high i })

  -- fields before the first empty line of a text without reserved fields are read as these heads
  pub read_back : (text fields : List ℕ) → fields ≡ heads_text heads → has_empty_line text ≡ true → drop_reserved text ≡ text → heads_of (with_fields fields text) ≡ heads
  read_back text fields is has same =
      let free = none-reserved text same in
      ap (λ f. heads_of (with_fields f text)) (is ∙ ap concat lines-are)
      ∙ ap (λ header. heads_in (readings_of header)) (header-with text every every-made has free)
      ∙ heads-again (front text every every-made has free) (front-free text every every-made has free)

  -- and exactly they go again
  pub drop_back : (text fields : List ℕ) → fields ≡ heads_text heads → has_empty_line text ≡ true → drop_reserved text ≡ text → drop_reserved (with_fields fields text) ≡ text
  drop_back text fields is has same =
      ap (λ f. drop_reserved (with_fields f text)) (is ∙ ap concat lines-are) ∙ dropped-again text every every-made has (none-reserved text same)
