-- Marks of names: which of them are among the words of a value, one word after the other.
use Rattle.std.proofs.Common.{◌≡◌, ℕ, ◌≤◌, zero, suc, ⊎_elim, Bool, true, false, not, List, [], ◌∷◌, ◌++◌, length, length-append, append-nil, append_assoc, replicate, map, cond, bytes_eq, refl, ap, sym, subst, ◌∙◌, arith, ◌&&◌, ◌||◌, nat_lt}
use Rattle.std.specs.List.{list_any}
use Rattle.std.proofs.lemmas.Bool.{cases_Bool, and_parts, false≢true}
use Rattle.std.proofs.lemmas.Bool.Decides.{nat_tests}
use Rattle.std.proofs.lemmas.List.Folds.{list_any-append}
use Rattle.std.proofs.lemmas.Slice.Eq.{bytes_eq-Decides}
use Rattle.text_forms.proofs.ReservedFields.{or_parts}
use Rattle.mail_fields.specs.Keyword.{same_keyword, is_keyword, lower}
use Rattle.status_heads.specs.Names.{is_new, with_names}
use Rattle.status_heads.specs.Numbered.{marks_of, mark_same}

-- marks of the first names, and for each name whether it is marked or one of the words
abbrev pub joined : List Bool → List (List ℕ) → List (List ℕ) → List Bool
joined [] names words = marks_of names words
joined (mark ∷ marks) [] words = []
joined (mark ∷ marks) (name ∷ names) words = (mark || list_any (same_keyword name) words) ∷ joined marks names words

-- names without a mark
pub unmarked : (n : ℕ) (names words : List (List ℕ)) → n ≤ length names → joined (replicate n false) names words ≡ marks_of names words
unmarked zero names words within = refl
unmarked (suc n) [] words within = absurd (omega (arith, within))
unmarked (suc n) (name ∷ names) words within = ap (λ marks. list_any (same_keyword name) words ∷ marks) (unmarked n names words (omega (arith, within)))

-- no word is left
pub all-marked : (marks : List Bool) (names : List (List ℕ)) → length marks ≡ length names → joined marks names [] ≡ marks
all-marked [] [] same = refl
all-marked [] (name ∷ names) same = absurd (omega (arith, same))
all-marked (mark ∷ marks) [] same = absurd (omega (arith, same))
all-marked (mark ∷ marks) (name ∷ names) same = ap (λ first. first ∷ joined marks names []) (or_none mark) ∙ ap (λ rest. mark ∷ rest) (all-marked marks names (omega (arith, same)))
  where
    or_none : (a : Bool) → (a || false) ≡ a
    or_none true = refl
    or_none false = refl

pub length-marks : (names : List (List ℕ)) (marks : List Bool) (word : List ℕ) → length marks ≡ length names → length (mark_same names marks word) ≡ length names
length-marks [] marks word same = refl
length-marks (name ∷ names) [] word same = absurd (omega (arith, same))
length-marks (name ∷ names) (mark ∷ marks) word same = let shorter = length-marks names marks word (omega (arith, same)) in omega (arith, shorter)

-- names with marks, and others behind them
joined-front : (marks : List Bool) (names more words : List (List ℕ)) → length marks ≡ length names → joined marks (names ++ more) words ≡ joined marks names words ++ marks_of more words
joined-front [] [] more words same = refl
joined-front [] (name ∷ names) more words same = absurd (omega (arith, same))
joined-front (mark ∷ marks) [] more words same = absurd (omega (arith, same))
joined-front (mark ∷ marks) (name ∷ names) more words same =
    ap (λ rest. (mark || list_any (same_keyword name) words) ∷ rest) (joined-front marks names more words (omega (arith, same)))

-- a word is marked, or still to come
joined-word : (marks : List Bool) (names words : List (List ℕ)) (word : List ℕ) → length marks ≡ length names → joined (mark_same names marks word) names words ≡ joined marks names (word ∷ words)
joined-word [] [] words word same = refl
joined-word [] (name ∷ names) words word same = absurd (omega (arith, same))
joined-word (mark ∷ marks) [] words word same = absurd (omega (arith, same))
joined-word (mark ∷ marks) (name ∷ names) words word same =
    ap (λ first. first ∷ joined (mark_same names marks word) names words) (or_or mark (same_keyword name word) (list_any (same_keyword name) words))
    ∙ ap (λ rest. (mark || (same_keyword name word || list_any (same_keyword name) words)) ∷ rest) (joined-word marks names words word (omega (arith, same)))
  where
    or_or : (a b c : Bool) → ((a || b) || c) ≡ (a || (b || c))
    or_or true b c = refl
    or_or false b c = refl

joined-last : (marks : List Bool) (names words : List (List ℕ)) (name : List ℕ) → length marks ≡ length names → joined (marks ++ true ∷ []) (names ++ name ∷ []) words ≡ joined marks names words ++ true ∷ []
joined-last [] [] words name same = refl
joined-last [] (first ∷ names) words name same = absurd (omega (arith, same))
joined-last (mark ∷ marks) [] words name same = absurd (omega (arith, same))
joined-last (mark ∷ marks) (first ∷ names) words name same =
    ap (λ rest. (mark || list_any (same_keyword first) words) ∷ rest) (joined-last marks names words name (omega (arith, same)))

-- a word that none of some names is
pub others : (names words : List (List ℕ)) (word : List ℕ) → list_any (λ each. same_keyword each word) names ≡ false → marks_of names (word ∷ words) ≡ marks_of names words
others [] words word none = refl
others (name ∷ names) words word none =
    let parts = or_parts (same_keyword name word) (list_any (λ each. same_keyword each word) names) none in
    ap (λ is. (is || list_any (same_keyword name) words) ∷ marks_of names (word ∷ words)) parts.0
    ∙ ap (λ rest. list_any (same_keyword name) words ∷ rest) (others names words word parts.1)

pub same-self : (name : List ℕ) → same_keyword name name ≡ true
same-self name = (bytes_eq-Decides (map lower name) (map lower name)).1 refl

-- the names that come behind some are none of them a name that is among them
record Behind (names words : List (List ℕ)) (name : List ℕ) : Type 0 where
  more : List (List ℕ)
  whole : with_names names words ≡ names ++ more
  none : list_any (λ each. same_keyword each name) more ≡ false

known-behind : (words names : List (List ℕ)) (name : List ℕ) → list_any (λ each. same_keyword each name) names ≡ true → Behind names words name
known-behind [] names name known = record { more = []; whole = sym (append-nil names); none = refl }
known-behind (word ∷ words) names name known = ⊎_elim
    (λ new.
    let still : list_any (λ each. same_keyword each name) (names ++ word ∷ []) ≡ true =
    list_any-append (λ each. same_keyword each name) names (word ∷ []) ∙ ap (λ is. is || list_any (λ each. same_keyword each name) (word ∷ [])) known in
    let behind = known-behind words (names ++ word ∷ []) name still in
    let free = (and_parts (is_keyword word) _ (and_parts (nat_lt (length names) 30) _ new).1).1 in
    let other : same_keyword word name ≡ false = ⊎_elim
    (λ is.
    let same : map lower word ≡ map lower name = (bytes_eq-Decides (map lower word) (map lower name)).0 is in
    let taken : list_any (λ each. same_keyword each word) names ≡ true = ap (λ low. list_any (λ each. bytes_eq (map lower each) low) names) same ∙ known in
    absurd (false≢true (sym (ap not taken) ∙ free)))
    (λ no. no)
    (cases_Bool (same_keyword word name)) in
    record {
      more = word ∷ behind.more;
      whole = ap (λ is. with_names (cond is (names ++ word ∷ []) names) words) new ∙ behind.whole ∙ append_assoc names (word ∷ []) behind.more;
      none = ap (λ is. is || list_any (λ each. same_keyword each name) behind.more) other ∙ behind.none;
    })
    (λ old.
    let behind = known-behind words names name known in
    record {
      more = behind.more;
      whole = ap (λ is. with_names (cond is (names ++ word ∷ []) names) words) old ∙ behind.whole;
      none = behind.none;
    })
    (cases_Bool (is_new names word))

full-behind : (words names : List (List ℕ)) (name : List ℕ) → nat_lt (length names) 30 ≡ false → Behind names words name
full-behind [] names name full = record { more = []; whole = sym (append-nil names); none = refl }
full-behind (word ∷ words) names name full =
    let old : is_new names word ≡ false = ap (λ is. is && (is_keyword word && not (list_any (λ each. same_keyword each word) names))) full in
    let behind = full-behind words names name full in
    record {
      more = behind.more;
      whole = ap (λ is. with_names (cond is (names ++ word ∷ []) names) words) old ∙ behind.whole;
      none = behind.none;
    }

-- names only get more
pub with-more : (words names : List (List ℕ)) → length names ≤ length (with_names names words)
with-more [] names = omega arith
with-more (word ∷ words) names = ⊎_elim
    (λ new.
    let longer = with-more words (names ++ word ∷ []) in
    let size = length-append names (word ∷ []) in
    subst (λ is. length names ≤ length (with_names (cond is (names ++ word ∷ []) names) words)) (sym new) (omega (arith, longer, size)))
    (λ old. subst (λ is. length names ≤ length (with_names (cond is (names ++ word ∷ []) names) words)) (sym old) (with-more words names))
    (cases_Bool (is_new names word))

-- a name is taken among some: their marks, and those of all that come behind them
module _ (names words : List (List ℕ)) (marks : List Bool) (name : List ℕ) (same : length marks ≡ length names) where
  stays : Behind names words name → joined (mark_same names marks name) (with_names names words) words ≡ joined marks (with_names names words) (name ∷ words)
  stays behind =
      ap (λ known. joined (mark_same names marks name) known words) behind.whole
      ∙ joined-front (mark_same names marks name) names behind.more words (length-marks names marks name same)
      ∙ ap (λ front. front ++ marks_of behind.more words) (joined-word marks names words name same)
      ∙ ap (λ back. joined marks names (name ∷ words) ++ back) (sym (others behind.more words name behind.none))
      ∙ sym (joined-front marks names behind.more (name ∷ words) same)
      ∙ ap (λ known. joined marks known (name ∷ words)) (sym behind.whole)

  comes : Behind (names ++ name ∷ []) words name
      → joined (mark_same names marks name ++ true ∷ []) (with_names (names ++ name ∷ []) words) words ≡ joined marks (with_names (names ++ name ∷ []) words) (name ∷ words)
  comes behind =
      let marked = mark_same names marks name in
      let long = length-marks names marks name same in
      let sizes : length (marked ++ true ∷ []) ≡ length (names ++ name ∷ []) = let one = length-append marked (true ∷ []) in let two = length-append names (name ∷ []) in omega (arith, long, one, two) in
      ap (λ known. joined (marked ++ true ∷ []) known words) behind.whole
      ∙ joined-front (marked ++ true ∷ []) (names ++ name ∷ []) behind.more words sizes
      ∙ ap (λ front. front ++ marks_of behind.more words) (joined-last marked names words name long ∙ ap (λ front. front ++ true ∷ []) (joined-word marks names words name same))
      ∙ append_assoc (joined marks names (name ∷ words)) (true ∷ []) (marks_of behind.more words)
      ∙ ap (λ back. joined marks names (name ∷ words) ++ true ∷ back) (sym (others behind.more words name behind.none))
      ∙ ap (λ is. joined marks names (name ∷ words) ++ (is || list_any (same_keyword name) words) ∷ marks_of behind.more (name ∷ words)) (sym (same-self name))
      ∙ sym (joined-front marks names (name ∷ behind.more) (name ∷ words) same)
      ∙ ap (λ known. joined marks known (name ∷ words)) (sym (behind.whole ∙ append_assoc names (name ∷ []) behind.more))

  pub name-taken : is_keyword name ≡ true
      → joined (mark_same names marks name ++ cond (is_new names name) (true ∷ []) []) (with_names names (name ∷ words)) words ≡ joined marks (with_names names (name ∷ words)) (name ∷ words)
  name-taken keyword = ⊎_elim
      (λ new.
      let here = list_any-append (λ each. same_keyword each name) names (name ∷ []) ∙ ap (λ is. list_any (λ each. same_keyword each name) names || (is || false)) (same-self name) ∙ or_true (list_any (λ each. same_keyword each name) names) in
      subst (λ is. joined (mark_same names marks name ++ cond is (true ∷ []) []) (with_names (cond is (names ++ name ∷ []) names) words) words ≡ joined marks (with_names (cond is (names ++ name ∷ []) names) words) (name ∷ words))
      (sym new) (comes (known-behind words (names ++ name ∷ []) name here)))
      (λ old.
      subst (λ is. joined (mark_same names marks name ++ cond is (true ∷ []) []) (with_names (cond is (names ++ name ∷ []) names) words) words ≡ joined marks (with_names (cond is (names ++ name ∷ []) names) words) (name ∷ words))
      (sym old) (ap (λ m. joined m (with_names names words) words) (append-nil (mark_same names marks name)) ∙ stays (behind-old old)))
      (cases_Bool (is_new names name))
    where
      or_true : (a : Bool) → (a || (true || false)) ≡ true
      or_true true = refl
      or_true false = refl

      behind-old : is_new names name ≡ false → Behind names words name
      behind-old old = ⊎_elim
          (λ room.
          let known : list_any (λ each. same_keyword each name) names ≡ true = ⊎_elim
          (λ is. is)
          (λ no. absurd (false≢true (sym old ∙ ap (λ t. t && (is_keyword name && not (list_any (λ each. same_keyword each name) names))) room ∙ ap (λ t. t && not (list_any (λ each. same_keyword each name) names)) keyword ∙ ap not no)))
          (cases_Bool (list_any (λ each. same_keyword each name) names)) in
          known-behind words names name known)
          (λ full. full-behind words names name full)
          (cases_Bool (nat_lt (length names) 30))

  -- what the names and their marks become
  module _ (names_then : List (List ℕ)) (marks_then : List Bool) (names_are : names_then ≡ cond (is_new names name) (names ++ name ∷ []) names)
      (marks_are : marks_then ≡ mark_same names marks name ++ cond (is_new names name) (true ∷ []) []) where
    pub same-then : length marks_then ≡ length names_then
    same-then =
        ap length marks_are ∙ sizes (is_new names name) ∙ sym (ap length names_are)
      where
        sizes : (is : Bool) → length (mark_same names marks name ++ cond is (true ∷ []) []) ≡ length (cond is (names ++ name ∷ []) names)
        sizes true = let long = length-marks names marks name same in let one = length-append (mark_same names marks name) (true ∷ []) in let two = length-append names (name ∷ []) in omega (arith, long, one, two)
        sizes false = ap length (append-nil (mark_same names marks name)) ∙ length-marks names marks name same

    pub few-then : length names ≤ 30 → length names_then ≤ 30
    few-then few = ⊎_elim
        (λ new.
        let room = (and_parts (nat_lt (length names) 30) _ new).0 in
        let long = length-append names (name ∷ []) in
        let is = ap length (names_are ∙ ap (λ is. cond is (names ++ name ∷ []) names) new) in
        grind (arith, nat_tests, room, long, is))
        (λ old. let is = ap length (names_are ∙ ap (λ is. cond is (names ++ name ∷ []) names) old) in omega (arith, is, few))
        (cases_Bool (is_new names name))

    pub names-later : with_names names_then words ≡ with_names names (name ∷ words)
    names-later = ap (λ known. with_names known words) names_are

    pub marks-later : is_keyword name ≡ true → joined marks_then (with_names names_then words) words ≡ joined marks (with_names names_then words) (name ∷ words)
    marks-later keyword =
        ap (λ known. joined marks_then known words) names-later
        ∙ ap (λ m. joined m (with_names names (name ∷ words)) words) marks_are
        ∙ name-taken keyword
        ∙ ap (λ known. joined marks known (name ∷ words)) (sym names-later)
