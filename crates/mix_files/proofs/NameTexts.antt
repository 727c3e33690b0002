-- Names read one by one.
use Rattle.std.proofs.Common.{◌≡◌, ℕ, ◌+◌, ◌<◌, ◌≤◌, ⊎_elim, Bool, true, false, not, List, [], ◌∷◌, ◌++◌, length, Option, Some, None, cond, refl, ap, sym, ◌∙◌, subst, arith, ◌==◌, ◌&&◌, nat_le, nat_lt, if◌then◌else◌, append_assoc, append-nil, length-append, length-take-le}
use Rattle.std.specs.List.{list_all, list_any, slice_split, before_first, after_first, position_or_len}
use Rattle.std.specs.Cmp.Derive.{both_true}
use Rattle.std.proofs.lemmas.Bool.{cases_lt, lt-ltb, le-ltb, false_from_ne_true}
use Rattle.std.proofs.Math.Bool.{and-true}
use Rattle.std.proofs.lemmas.Bool.Decides.{nat_tests}
use Rattle.std.proofs.lemmas.List.{length-drop, take_all}
use Rattle.std.proofs.lemmas.List.Folds.{list_all-append}
use Rattle.std.proofs.lemmas.List.Splits.{slice_split_first, slice_split_none}
use Rattle.std.proofs.lemmas.List.Sums.{fails_before_first}
use Rattle.mail_fields.specs.Keyword.{IsKeyword, same_keyword, is_keyword}
use Rattle.mail_fields.specs.Names.{is_space, are_distinct}
use Rattle.mail_fields.proofs.DistinctNames.{distinct-more, distinct-front}
use Rattle.mix_files.specs.Names.{may_be_names, split_names, names_of}

both : (one other : Bool) → (one && other) ≡ true → (one ≡ true) × (other ≡ true)
both true other is = (refl, is)
both false other is = absurd (cc)

-- whether a name is a keyword, as a test
keyword-is : (name : List ℕ) → IsKeyword name → is_keyword name ≡ true
keyword-is name is = both_true (grind (arith, nat_tests, is.some)) (both_true (grind (arith, nat_tests, is.few)) is.atoms)

keyword-none : (name : List ℕ) → (IsKeyword name → ⊥) → is_keyword name ≡ false
keyword-none name none = tested (is_keyword name) refl
  where
    tested : (test : Bool) → is_keyword name ≡ test → is_keyword name ≡ false
    tested false is = is
    tested true is =
        let parts = both (nat_le 1 (length name)) _ is in
        let others = both (nat_le (length name) 64) _ parts.1 in
        absurd (none (record { some = grind (arith, nat_tests, parts.0); few = grind (arith, nat_tests, others.0); atoms = others.1 }))

-- whether a name may stand behind others
abbrev pub fits : List (List ℕ) → List ℕ → Bool
fits read name = is_keyword name && (not (nat_le 30 (length read)) && not (list_any (λ each. same_keyword each name) read))

-- names read one by one, behind some that were read
abbrev pub names_after : List (List ℕ) → List (List ℕ) → Option (List (List ℕ))
names_after read [] = Some read
names_after read (name ∷ names) = if fits read name then names_after (read ++ name ∷ []) names else None

may-more : (read : List (List ℕ)) (name : List ℕ) → may_be_names read ≡ true → may_be_names (read ++ name ∷ []) ≡ fits read name
may-more read name is =
    let parts = both (list_all is_keyword read) _ is in
    let others = both (nat_le (length read) 30) _ parts.1 in
    let few : nat_le (length (read ++ name ∷ [])) 30 ≡ not (nat_le 30 (length read)) = grind (arith, nat_tests, length-append read (name ∷ [])) in
    let keywords : list_all is_keyword (read ++ name ∷ []) ≡ is_keyword name =
    list_all-append is_keyword read (name ∷ []) ∙ ap (λ test. test && (is_keyword name && true)) parts.0 ∙ and-true (is_keyword name) in
    let differ : are_distinct (read ++ name ∷ []) ≡ not (list_any (λ each. same_keyword each name) read) =
    distinct-more read name ∙ ap (λ test. test && not (list_any (λ each. same_keyword each name) read)) others.1 in
    ap (λ test. test && (nat_le (length (read ++ name ∷ [])) 30 && are_distinct (read ++ name ∷ []))) keywords
    ∙ ap (λ test. is_keyword name && (test && are_distinct (read ++ name ∷ []))) few
    ∙ ap (λ test. is_keyword name && (not (nat_le 30 (length read)) && test)) differ

may-front : (read more : List (List ℕ)) → may_be_names (read ++ more) ≡ true → may_be_names read ≡ true
may-front read more is =
    let parts = both (list_all is_keyword (read ++ more)) _ is in
    let others = both (nat_le (length (read ++ more)) 30) _ parts.1 in
    both_true (both (list_all is_keyword read) (list_all is_keyword more) (sym (list_all-append is_keyword read more) ∙ parts.0)).0
    (both_true (grind (arith, nat_tests, others.0, length-append read more)) (distinct-front read more others.1))

true-false : true ≡ false → ⊥
true-false is = cc

whole-step : (read : List (List ℕ)) (name : List ℕ) (names : List (List ℕ)) → may_be_names read ≡ true
    → (may_be_names (read ++ name ∷ []) ≡ true → names_after (read ++ name ∷ []) names ≡ cond (may_be_names ((read ++ name ∷ []) ++ names)) (Some ((read ++ name ∷ []) ++ names)) None)
    → (test : Bool) → fits read name ≡ test → cond test (names_after (read ++ name ∷ []) names) None ≡ cond (may_be_names (read ++ name ∷ names)) (Some (read ++ name ∷ names)) None
whole-step read name names is later true fit =
    later (may-more read name is ∙ fit) ∙ ap (λ items. cond (may_be_names items) (Some items) None) (append_assoc read (name ∷ []) names)
whole-step read name names is later false fit =
    let joined = append_assoc read (name ∷ []) names in
    let none : may_be_names (read ++ name ∷ names) ≡ false =
    false_from_ne_true _ (λ may. true-false (sym (may-front (read ++ name ∷ []) names (ap may_be_names joined ∙ may)) ∙ may-more read name is ∙ fit)) in
    sym (ap (λ test. cond test (Some (read ++ name ∷ names)) None) none)

-- names one by one are names that may stand together
names-whole : (read names : List (List ℕ)) → may_be_names read ≡ true → names_after read names ≡ cond (may_be_names (read ++ names)) (Some (read ++ names)) None
names-whole read [] is =
    let all : read ++ [] ≡ read = append-nil read in
    sym (ap (λ items. cond (may_be_names items) (Some items) None) all ∙ ap (λ test. cond test (Some read) None) is)
names-whole read (name ∷ names) is = whole-step read name names is (names-whole (read ++ name ∷ []) names) (fits read name) refl

names-read : (text : List ℕ) → names_of text ≡ names_after [] (split_names text)
unfolding names_of
names-read text = sym (names-whole [] (split_names text) refl)

-- the names that are left of a text
abbrev pub names_left : Bool → List ℕ → List (List ℕ)
names_left is_more rest = if is_more then slice_split is_space rest else []

left-first : (text : List ℕ) → names_left (not (length text == 0)) text ≡ split_names text
left-first text = elim (length text == 0) as (λ test. cond (not test) (slice_split is_space text) [] ≡ cond test [] (slice_split is_space text)) [ true ↦ refl | false ↦ refl ]

-- the first of them, and those behind it
left-more : (rest : List ℕ) → slice_split is_space rest ≡ before_first is_space rest ∷ names_left (nat_lt (length (before_first is_space rest)) (length rest)) (after_first is_space rest)
left-more rest = ⊎_elim
    (λ inside.
    let long : length (before_first is_space rest) ≡ position_or_len is_space rest = length-take-le (position_or_len is_space rest) rest (omega arith) in
    slice_split_first is_space rest 0 inside
    ∙ ap (λ test. before_first is_space rest ∷ names_left test (after_first is_space rest)) (sym (lt-ltb (length (before_first is_space rest)) (length rest) (omega arith))))
    (λ outside.
    let all : before_first is_space rest ≡ rest = take_all (position_or_len is_space rest) rest outside in
    slice_split_none is_space rest (λ k d below. fails_before_first is_space rest k d (omega arith))
    ∙ ap (λ front. front ∷ []) (sym all)
    ∙ ap (λ test. before_first is_space rest ∷ names_left test (after_first is_space rest)) (sym (le-ltb (length (before_first is_space rest)) (length rest) (omega (arith, ap length all)))))
    (cases_lt (position_or_len is_space rest) (length rest))

-- what is left gets shorter
pub left-shorter : (rest : List ℕ) → cond (nat_lt (length (before_first is_space rest)) (length rest)) (length (after_first is_space rest) + 1) 0 < length rest + 1
left-shorter rest = ⊎_elim
    (λ inside.
    let behind = length-drop (position_or_len is_space rest + 1) rest in
    elim (nat_lt (length (before_first is_space rest)) (length rest)) as (λ test. cond test (length (after_first is_space rest) + 1) 0 < length rest + 1) [ true ↦ omega arith | false ↦ omega arith ])
    (λ outside.
    let all : before_first is_space rest ≡ rest = take_all (position_or_len is_space rest) rest outside in
    let none = le-ltb (length (before_first is_space rest)) (length rest) (omega (arith, ap length all)) in
    subst (λ test. cond test (length (after_first is_space rest) + 1) 0 < length rest + 1) (sym none) (omega arith))
    (cases_lt (position_or_len is_space rest) (length rest))

-- one name more is read, in a loop over the names of a text
pub name-read : (text : List ℕ) (read new : List (List ℕ)) (is_more : Bool) (rest name behind : List ℕ) → names_after read (names_left is_more rest) ≡ names_of text → is_more ≡ true
    → name ≡ before_first is_space rest → behind ≡ after_first is_space rest → fits read name ≡ true → new ≡ read ++ name ∷ []
    → names_after new (names_left (nat_lt (length name) (length rest)) behind) ≡ names_of text
name-read text read new is_more rest name behind same more front back fit pushed =
    let left : names_left is_more rest ≡ name ∷ names_left (nat_lt (length name) (length rest)) behind =
    ap (λ test. names_left test rest) more ∙ left-more rest
    ∙ ap (λ first. first ∷ names_left (nat_lt (length first) (length rest)) (after_first is_space rest)) (sym front)
    ∙ ap (λ later. name ∷ names_left (nat_lt (length name) (length rest)) later) (sym back) in
    let later = names_left (nat_lt (length name) (length rest)) behind in
    ap (λ items. names_after items later) pushed
    ∙ sym (ap (λ test. cond test (names_after (read ++ name ∷ []) later) None) fit)
    ∙ ap (names_after read) (sym left) ∙ same

-- and one that may not stand there
pub name-refused : (text : List ℕ) (read : List (List ℕ)) (is_more : Bool) (rest name : List ℕ) → names_after read (names_left is_more rest) ≡ names_of text → is_more ≡ true
    → name ≡ before_first is_space rest → fits read name ≡ false → None ≡ names_of text
name-refused text read is_more rest name same more front fit =
    let behind = after_first is_space rest in
    let later = names_left (nat_lt (length name) (length rest)) behind in
    let left : names_left is_more rest ≡ name ∷ later =
    ap (λ test. names_left test rest) more ∙ left-more rest ∙ ap (λ first. first ∷ names_left (nat_lt (length first) (length rest)) behind) (sym front) in
    sym (ap (λ test. cond test (names_after (read ++ name ∷ []) later) None) fit) ∙ ap (names_after read) (sym left) ∙ same

pub read-start : (text : List ℕ) (read : List (List ℕ)) (empty : Bool) → read ≡ [] → empty ≡ (length text == 0) → names_after read (names_left (not empty) text) ≡ names_of text
read-start text read empty none is =
    ap (λ items. names_after items (names_left (not empty) text)) none ∙ ap (λ test. names_after [] (names_left (not test) text)) is
    ∙ ap (names_after []) (left-first text) ∙ sym (names-read text)

-- whether a keyword that was read may stand behind others, by what a test of it answers
pub fits-tested : (read items : List (List ℕ)) (name keyword : List ℕ) (test found : Bool) → items ≡ read → (keyword ≡ name) × IsKeyword keyword
    → test ≡ (not (nat_le 30 (length items)) && not (list_any (λ each. same_keyword each keyword) items)) → test ≡ found → fits read name ≡ found
fits-tested read items name keyword test found same is answer tested =
    let key : is_keyword name ≡ true = keyword-is name (subst IsKeyword is.0 is.1) in
    ap (λ first. first && (not (nat_le 30 (length read)) && not (list_any (λ each. same_keyword each name) read))) key
    ∙ ap (λ word. not (nat_le 30 (length read)) && not (list_any (λ each. same_keyword each word) read)) (sym is.0)
    ∙ ap (λ words. not (nat_le 30 (length words)) && not (list_any (λ each. same_keyword each keyword) words)) (sym same)
    ∙ sym answer ∙ tested

pub fits-none : (read : List (List ℕ)) (name : List ℕ) → (IsKeyword name → ⊥) → fits read name ≡ false
fits-none read name none = ap (λ first. first && (not (nat_le 30 (length read)) && not (list_any (λ each. same_keyword each name) read))) (keyword-none name none)

-- what is read may stand together
some-names : (test : Bool) (all names : List (List ℕ)) → may_be_names all ≡ test → cond test (Some all) None ≡ Some names → may_be_names names ≡ true
some-names true all names may is = let same : all ≡ names = cc in ap may_be_names (sym same) ∙ may
some-names false all names may is = absurd (cc)

names-may : (text : List ℕ) (names : List (List ℕ)) → Some names ≡ names_of text → may_be_names names ≡ true
unfolding names_of
names-may text names is = some-names (may_be_names (split_names text)) (split_names text) names refl (sym is)

pub read-end : (text : List ℕ) (read : List (List ℕ)) (is_more : Bool) (rest : List ℕ) → names_after read (names_left is_more rest) ≡ names_of text → is_more ≡ false
    → (length read ≤ 30) × (are_distinct read ≡ true)
read-end text read is_more rest same done =
    let may = names-may text read (sym (ap (λ test. names_after read (names_left test rest)) done) ∙ same) in
    let parts = both (nat_le (length read) 30) (are_distinct read) (both (list_all is_keyword read) _ may).1 in
    (grind (arith, nat_tests, parts.0), parts.1)
