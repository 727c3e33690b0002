-- Names that are found, by rising bytes.
use Rattle.std.proofs.Common.{◌≡◌, ℕ, ◌+◌, ◌<◌, ◌≤◌, List, [], ◌∷◌, ◌++◌, map, take, drop, length, get_or, Bool, true, false, cond, ◌&&◌, ◌==◌, not, nat_le, refl, sym, ◌∙◌, ap, subst, arith, length-append, length-take, take-append-drop}
use Rattle.std.specs.declared.cmp.Ordering.{Ordering}
use Rattle.std.specs.declared.cmp.Ordering.TheVariants.{Less, Equal, Greater}
use Rattle.std.specs.BTreeMap.{insert_entry}
use Rattle.std.specs.FinMap.{FinMap, entries, entries-insert, insert, put, empty, len-empty, len-entries}
use Rattle.std.specs.List.{filter, flat_map}
use Rattle.std.specs.Ordering.{match_ordering}
use Rattle.std.proofs.lemmas.Bool.{false_from_ne_true, and_parts, and_from, leb-true, le-leb}
use Rattle.std.proofs.lemmas.Cmp.{nat_list_cmp_total}
use Rattle.std.proofs.lemmas.List.{append-nil, append_assoc, append_cancel_right, drop_more, take_more, take-append-le, drop-append-le, length-map}
use Rattle.std.proofs.lemmas.Slice.Eq.{bytes_eq-Decides}
use Rattle.file_model.specs.Images.{path_cmp}
use Rattle.mail_fields.specs.Keyword.{same_keyword, lower}
use Rattle.mail_tree.specs.Listing.{fits_name, put_all, put_fitting, names_above, ends_in_percent}
use Rattle.mail_tree.specs.Names.{is_path, inbox, ends_part, begins_inbox, begins_badly, with_inbox, IsName, prefixes}
use Rattle.mail_tree.proofs.PathParts.{path_child}

-- ---- One name

insert_put : (es : List (List ℕ × Bool)) (k : List ℕ) (v : Bool) → insert_entry path_cmp es k v ≡ put path_cmp k v es
insert_put [] k v = refl
insert_put (e ∷ es) k v = at (path_cmp k e.0) (insert_put es k v)
  where
    at : (o : Ordering) → insert_entry path_cmp es k v ≡ put path_cmp k v es
        → match_ordering o ((k, v) ∷ e ∷ es) ((e.0, v) ∷ es) (e ∷ insert_entry path_cmp es k v) ≡ match_ordering o ((k, v) ∷ e ∷ es) ((e.0, v) ∷ es) (e ∷ put path_cmp k v es)
    at Less same = refl
    at Equal same = refl
    at Greater same = ap (λ l. e ∷ l) same

pub put_one : (m : FinMap path_cmp Bool) (es : List (List ℕ × Bool)) (k : List ℕ) (v : Bool) → entries m ≡ es → insert_entry path_cmp es k v ≡ entries (insert m k v)
put_one m es k v same = ap (λ l. insert_entry path_cmp l k v) (sym same) ∙ insert_put (entries m) k v ∙ sym (entries-insert nat_list_cmp_total m k v)

-- ---- More names

put_append : (directory : Bool) (pattern : List ℕ) (xs ys : List (List ℕ)) (m : FinMap path_cmp Bool)
    → put_fitting directory pattern (xs ++ ys) m ≡ put_fitting directory pattern ys (put_fitting directory pattern xs m)
put_append directory pattern [] ys m = refl
put_append directory pattern (x ∷ xs) ys m = at (fits_name pattern x) (λ start. put_append directory pattern xs ys start)
  where
    at : (b : Bool) → ((start : FinMap path_cmp Bool) → put_fitting directory pattern (xs ++ ys) start ≡ put_fitting directory pattern ys (put_fitting directory pattern xs start))
        → put_all directory (cond b (x ∷ filter (fits_name pattern) (xs ++ ys)) (filter (fits_name pattern) (xs ++ ys))) m
        ≡ put_fitting directory pattern ys (put_all directory (cond b (x ∷ filter (fits_name pattern) xs) (filter (fits_name pattern) xs)) m)
    at true go = go (insert m x directory)
    at false go = go m

-- what was found so far leads to all by the names that are left
pub record Reaches (directory : Bool) (pattern : List ℕ) (left all : List (List ℕ)) (start now : List (List ℕ × Bool)) : Type 0 where
  pub each : (m : FinMap path_cmp Bool) → entries m ≡ start → (so_far : FinMap path_cmp Bool) × (entries so_far ≡ now) × (put_fitting directory pattern left so_far ≡ put_fitting directory pattern all m)

pub reaches_start : (directory : Bool) (pattern : List ℕ) (all : List (List ℕ)) (start : List (List ℕ × Bool)) → Reaches directory pattern all all start start
reaches_start directory pattern all start = record { each = λ m same. (m, same, refl) }

pub reaches_next : (directory : Bool) (pattern : List ℕ) (some left all : List (List ℕ)) (start now next : List (List ℕ × Bool))
    → ((m : FinMap path_cmp Bool) → entries m ≡ now → next ≡ entries (put_fitting directory pattern some m))
    → Reaches directory pattern (some ++ left) all start now → Reaches directory pattern left all start next
reaches_next directory pattern some left all start now next does reaches = record {
  each = λ m same.
      let r = reaches.each m same in
      (put_fitting directory pattern some r.0, sym (does r.0 r.1), sym (put_append directory pattern some left r.0) ∙ r.2);
}

pub reaches_end : (directory : Bool) (pattern : List ℕ) (all : List (List ℕ)) (start now : List (List ℕ × Bool)) → Reaches directory pattern [] all start now
    → (m : FinMap path_cmp Bool) → entries m ≡ start → now ≡ entries (put_fitting directory pattern all m)
reaches_end directory pattern all start now reaches m same = let r = reaches.each m same in sym r.1 ∙ ap entries r.2

-- ---- The directories above a name

-- those from a place on
abbrev pub above_from : (front rest : List ℕ) → List (List ℕ)
above_from front rest = map (λ more. front ++ more) (prefixes rest)

longer_fronts : (front : List ℕ) (byte : ℕ) (fronts : List (List ℕ)) → map (λ more. front ++ more) (map (λ more. byte ∷ more) fronts) ≡ map (λ more. (front ++ byte ∷ []) ++ more) fronts
longer_fronts front byte [] = refl
longer_fronts front byte (x ∷ fronts) = ap (λ l. l ∷ map (λ more. front ++ more) (map (λ more. byte ∷ more) fronts)) (sym (append_assoc front (byte ∷ []) x)) ∙ ap (λ l. ((front ++ byte ∷ []) ++ x) ∷ l) (longer_fronts front byte fronts)

above_byte : (front : List ℕ) (byte : ℕ) (rest : List ℕ) → above_from front (byte ∷ rest) ≡ cond (byte == 47) (front ∷ above_from (front ++ byte ∷ []) rest) (above_from (front ++ byte ∷ []) rest)
above_byte front byte rest = at (byte == 47)
  where
    at : (b : Bool) → map (λ more. front ++ more) (cond b ([] ∷ map (λ more. byte ∷ more) (prefixes rest)) (map (λ more. byte ∷ more) (prefixes rest)))
        ≡ cond b (front ∷ above_from (front ++ byte ∷ []) rest) (above_from (front ++ byte ∷ []) rest)
    at true = ap (λ l. l ∷ map (λ more. front ++ more) (map (λ more. byte ∷ more) (prefixes rest))) (append-nil front) ∙ ap (λ l. front ∷ l) (longer_fronts front byte (prefixes rest))
    at false = longer_fronts front byte (prefixes rest)

take_one : (text : List ℕ) (i : ℕ) → i < length text → take i text ++ get_or text i 0 ∷ [] ≡ take (i + 1) text
take_one text i below = sym (take_more text i 0 below)

pub above_step : (text : List ℕ) (i : ℕ) → i < length text → above_from (take i text) (drop i text)
    ≡ cond (get_or text i 0 == 47) (take i text ∷ above_from (take (i + 1) text) (drop (i + 1) text)) (above_from (take (i + 1) text) (drop (i + 1) text))
above_step text i below =
    ap (above_from (take i text)) (drop_more text i 0 below) ∙ above_byte (take i text) (get_or text i 0) (drop (i + 1) text)
    ∙ ap (λ front. cond (get_or text i 0 == 47) (take i text ∷ above_from front (drop (i + 1) text)) (above_from front (drop (i + 1) text))) (take_one text i below)

pub above_all : (text : List ℕ) → above_from [] text ≡ prefixes text
above_all text = same (prefixes text)
  where
    same : (l : List (List ℕ)) → map (λ more. [] ++ more) l ≡ l
    same [] = refl
    same (x ∷ l) = ap (λ r. x ∷ r) (same l)

-- ---- They are names

front_ends : (front rest : List ℕ) → ends_part front ≡ true → ends_part (front ++ 47 ∷ rest) ≡ true
front_ends [] rest ends = refl
front_ends (byte ∷ front) rest ends = ends

five : (front : List ℕ) → begins_inbox front ≡ true → 5 ≤ length front
five front is =
    let same = and_parts (same_keyword (take 5 front) inbox) (ends_part (drop 5 front)) is in
    let n : length (take 5 front) ≡ 5 = sym (length-map (take 5 front) lower) ∙ ap length ((bytes_eq-Decides (map lower (take 5 front)) (map lower inbox)).0 same.0) in
    omega (arith, n, length-take 5 front)

begins_longer : (front rest : List ℕ) → begins_inbox front ≡ true → begins_inbox (front ++ 47 ∷ rest) ≡ true
begins_longer front rest is =
    let same = and_parts (same_keyword (take 5 front) inbox) (ends_part (drop 5 front)) is in
    let long = five front is in
    rw (take-append-le 5 front (47 ∷ rest) long, drop-append-le 5 front (47 ∷ rest) long) (and_from (same_keyword (take 5 front) inbox) (ends_part (drop 5 front ++ 47 ∷ rest)) same.0 (front_ends (drop 5 front) rest same.1))

front_written : (front rest : List ℕ) → with_inbox (front ++ 47 ∷ rest) ≡ front ++ 47 ∷ rest → with_inbox front ≡ front
front_written front rest written = at (begins_inbox front) refl
  where
    at : (b : Bool) → begins_inbox front ≡ b → cond (begins_inbox front) (inbox ++ drop 5 front) front ≡ front
    at false e = ap (λ b. cond b (inbox ++ drop 5 front) front) e
    at true e =
        let whole : inbox ++ drop 5 (front ++ 47 ∷ rest) ≡ front ++ 47 ∷ rest = sym (ap (λ b. cond b (inbox ++ drop 5 (front ++ 47 ∷ rest)) (front ++ 47 ∷ rest)) (begins_longer front rest e)) ∙ written in
        ap (λ b. cond b (inbox ++ drop 5 front) front) e
        ∙ append_cancel_right (inbox ++ drop 5 front) front (47 ∷ rest)
        (append_assoc inbox (drop 5 front) (47 ∷ rest) ∙ ap (λ l. inbox ++ l) (sym (drop-append-le 5 front (47 ∷ rest) (five front e))) ∙ whole)

empty_path : is_path [] ≡ true → ⊥
unfolding is_path
empty_path h = cc

front_begins : (front rest : List ℕ) → is_path front ≡ true → not (begins_badly (front ++ 47 ∷ rest)) ≡ true → not (begins_badly front) ≡ true
front_begins [] rest path good = absurd (empty_path path)
front_begins (byte ∷ front) rest path good = good

pub front_name : (front rest : List ℕ) → IsName (front ++ 47 ∷ rest) → IsName front
front_name front rest is =
    let all = and_parts (not (begins_badly (front ++ 47 ∷ rest)) && nat_le (length (front ++ 47 ∷ rest)) 255) (is_path (front ++ 47 ∷ rest)) is.may_be in
    let start = and_parts (not (begins_badly (front ++ 47 ∷ rest))) (nat_le (length (front ++ 47 ∷ rest)) 255) all.0 in
    let path = and_parts (is_path front) (is_path rest) (sym (path_child front rest) ∙ all.1) in
    record {
      may_be = and_from (not (begins_badly front) && nat_le (length front) 255) (is_path front)
          (and_from (not (begins_badly front)) (nat_le (length front) 255) (front_begins front rest path.0 start.0)
          (le-leb (length front) 255 (omega (arith, leb-true (length (front ++ 47 ∷ rest)) 255 start.1, length-append front (47 ∷ rest))))) path.0;
      written = front_written front rest is.written;
    }

pub name_short : (name : List ℕ) → IsName name → length name ≤ 255
name_short name is = leb-true (length name) 255 (and_parts (not (begins_badly name)) (nat_le (length name) 255) (and_parts (not (begins_badly name) && nat_le (length name) 255) (is_path name) is.may_be).0).1

slash_is : (b : ℕ) → (b == 47) ≡ true → b ≡ 47
slash_is b e = grind arith

pub front_at : (text : List ℕ) (i : ℕ) → i < length text → get_or text i 0 ≡ 47 → IsName text → IsName (take i text)
front_at text i below slash is =
    front_name (take i text) (drop (i + 1) text)
    (subst IsName (sym (take-append-drop i text) ∙ ap (λ l. take i text ++ l) (drop_more text i 0 below ∙ ap (λ b. b ∷ drop (i + 1) text) slash)) is)

module _ (pattern text : List ℕ) (i : ℕ) (below : i < length text) (all : List (List ℕ)) (start now : List (List ℕ × Bool)) (reaches : Reaches true pattern (above_from (take i text) (drop i text)) all start now) where
  pub above_then : (next : List (List ℕ × Bool)) → get_or text i 0 ≡ 47 → ((m : FinMap path_cmp Bool) → entries m ≡ now → next ≡ entries (put_fitting true pattern (take i text ∷ []) m))
      → Reaches true pattern (above_from (take (i + 1) text) (drop (i + 1) text)) all start next
  above_then next slash does =
      reaches_next true pattern (take i text ∷ []) (above_from (take (i + 1) text) (drop (i + 1) text)) all start now next does
      (subst (λ l. Reaches true pattern l all start now) (above_step text i below ∙ ap (λ b. cond b (take i text ∷ above_from (take (i + 1) text) (drop (i + 1) text)) (above_from (take (i + 1) text) (drop (i + 1) text))) (ap (λ b. b == 47) slash)) reaches)

  pub above_else : (get_or text i 0 ≡ 47 → ⊥) → Reaches true pattern (above_from (take (i + 1) text) (drop (i + 1) text)) all start now
  above_else no_slash =
      subst (λ l. Reaches true pattern l all start now) (above_step text i below ∙ ap (λ b. cond b (take i text ∷ above_from (take (i + 1) text) (drop (i + 1) text)) (above_from (take (i + 1) text) (drop (i + 1) text))) (false_from_ne_true (get_or text i 0 == 47) (λ is. no_slash (slash_is (get_or text i 0) is)))) reaches

-- ---- What is found at first

no_entry : (l : List (List ℕ × Bool)) → length l ≡ 0 → l ≡ []
no_entry [] e = refl
no_entry (x ∷ l) e = absurd (omega (arith, e))

pub entries_empty : entries (empty {X = Bool} {R = path_cmp}) ≡ []
entries_empty = no_entry (entries (empty {X = Bool} {R = path_cmp})) (sym (len-entries (empty {X = Bool} {R = path_cmp})) ∙ len-empty path_cmp Bool)

pub none_above : (pattern : List ℕ) (names : List (List ℕ)) (found : List (List ℕ × Bool)) → found ≡ [] → ends_in_percent pattern ≡ false → found ≡ entries (put_all true (names_above pattern names) empty)
none_above pattern names found none no_percent = none ∙ sym entries_empty ∙ ap (λ b. entries (put_all true (cond b (filter (fits_name pattern) (flat_map prefixes names)) []) empty)) (sym no_percent)

pub all_above : (pattern : List ℕ) (names : List (List ℕ)) (before found : List (List ℕ × Bool)) → before ≡ [] → ends_in_percent pattern ≡ true
    → ((m : FinMap path_cmp Bool) → entries m ≡ before → found ≡ entries (put_fitting true pattern (flat_map prefixes names) m)) → found ≡ entries (put_all true (names_above pattern names) empty)
all_above pattern names before found none percent does =
    does empty (entries_empty ∙ sym none) ∙ ap (λ b. entries (put_all true (cond b (filter (fits_name pattern) (flat_map prefixes names)) []) empty)) (sym percent)

pub lists_all : (whole : List ℕ) (one other known : List (List ℕ)) (found all : List (List ℕ × Bool)) → one ≡ known → other ≡ known → found ≡ entries (put_all true (names_above whole one) empty)
    → ((m : FinMap path_cmp Bool) → entries m ≡ found → all ≡ entries (put_fitting false whole other m)) → all ≡ entries (put_fitting false whole known (put_all true (names_above whole known) empty))
lists_all whole one other known found all one_is other_is found_is does =
    does (put_all true (names_above whole one) empty) (sym found_is)
    ∙ ap (λ l. entries (put_fitting false whole l (put_all true (names_above whole one) empty))) other_is
    ∙ ap (λ l. entries (put_fitting false whole known (put_all true (names_above whole l) empty))) one_is
