-- The file of the subscribed names, line by line and read back.
use Rattle.std.proofs.Common.{◌≡◌, ℕ, suc, ◌+◌, ◌<◌, List, [], ◌∷◌, ◌++◌, take, drop, length, get_or, Bool, true, false, cond, ◌&&◌, ◌||◌, ◌==◌, Option, Some, None, refl, sym, ◌∙◌, ap, subst, not, nat_le, arith, take-append-drop, length-take}
use Rattle.std.specs.Prelude.{bytes_eq}
use Rattle.std.specs.List.{list_any, list_all, filter, filter_map, slice_split, onto_first, join_with_byte, AllByRecursion}
use Rattle.std.proofs.lemmas.List.{append_assoc, append-nil, drop_more, get_or-take}
use Rattle.std.proofs.lemmas.List.Splits.{join_with_byte-slice_split}
use Rattle.std.proofs.lemmas.Bool.{false_from_ne_true, and_parts, or_parts, false≢true, eqb-true}
use Rattle.std.proofs.lemmas.Slice.Eq.{bytes_eq-Decides}
use Rattle.indexmap.specs.IndexSet.{remove_key}
use Rattle.memchr.specs.Find.{IsFirstByte, is_byte}
use Rattle.mail_tree.specs.Names.{is_name_byte, is_part, parts_of, is_path, begins_badly, with_inbox, may_be_name, read_name, IsName}
use Rattle.mail_tree.specs.Subscriptions.{without_last, whole_lines, is_among, each_once, subscribed_in, with_name, with_lines, subscription_text, without_name}
use Rattle.mail_tree.proofs.Named.{read_is_name}

-- ---- Line by line

-- a name is put behind those that stood before it, and they are known as a set
abbrev pub SameNames : (one other : List (List ℕ)) → Type 0
SameNames one other = (name : List ℕ) → is_among one name ≡ is_among other name

any_last : (test : List ℕ → Bool) (xs : List (List ℕ)) (y : List ℕ) → list_any test (xs ++ y ∷ []) ≡ (test y || list_any test xs)
any_last test [] y = refl
any_last test (x ∷ xs) y = at (test x) (test y) (any_last test xs y)
  where
    at : (b d : Bool) → list_any test (xs ++ y ∷ []) ≡ (d || list_any test xs) → (b || list_any test (xs ++ y ∷ [])) ≡ (d || (b || list_any test xs))
    at false d same = same
    at true false same = refl
    at true true same = refl

put_once : (lines : List (List ℕ)) (before names : List (List ℕ)) → SameNames before names
    → with_lines lines names ≡ names ++ each_once before (filter_map read_name lines)
put_once [] before names same = sym (append-nil names)
put_once (line ∷ rest) before names same = at (read_name line) refl (put_once rest)
  where
    new : (name : List ℕ) (b : Bool) → is_among names name ≡ b → is_among before name ≡ b
        → ((earlier now : List (List ℕ)) → SameNames earlier now → with_lines rest now ≡ now ++ each_once earlier (filter_map read_name rest))
        → with_lines rest (cond b names (names ++ name ∷ [])) ≡ names ++ cond b (each_once before (filter_map read_name rest)) (name ∷ each_once (name ∷ before) (filter_map read_name rest))
    new name true one two go = go before names same
    new name false one two go =
        go (name ∷ before) (names ++ name ∷ []) (λ other. ap (λ b. bytes_eq other name || b) (same other) ∙ sym (any_last (bytes_eq other) names name))
        ∙ append_assoc names (name ∷ []) (each_once (name ∷ before) (filter_map read_name rest))

    at : (o : Option (List ℕ)) → read_name line ≡ o
        → ((earlier now : List (List ℕ)) → SameNames earlier now → with_lines rest now ≡ now ++ each_once earlier (filter_map read_name rest))
        → with_lines (line ∷ rest) names ≡ names ++ each_once before (filter_map read_name (line ∷ rest))
    at None e go = rw e (go before names same)
    at (Some name) e go = rw e (rw (same name) (new name (is_among names name) refl (same name) go))

pub put_all_lines : (text : List ℕ) → with_lines (whole_lines text) [] ≡ subscribed_in text
put_all_lines text = put_once (whole_lines text) [] [] (λ name. refl)

-- ---- The lines of a text

abbrev pub HasNoFeed : List ℕ → Type 0
HasNoFeed bytes = AllByRecursion (λ byte. (byte == 10) ≡ false) bytes

some_line : (text : List ℕ) → (a : List ℕ) × (rest : List (List ℕ)) × (slice_split (λ byte. byte == 10) text ≡ a ∷ rest)
some_line [] = ([], [], refl)
some_line (byte ∷ text) = at (byte == 10) (some_line text)
  where
    at : (b : Bool) → ((a : List ℕ) × (rest : List (List ℕ)) × (slice_split (λ byte. byte == 10) text ≡ a ∷ rest))
        → (a : List ℕ) × (rest : List (List ℕ)) × (cond b ([] ∷ slice_split (λ byte. byte == 10) text) (onto_first byte (slice_split (λ byte. byte == 10) text)) ≡ a ∷ rest)
    at true it = ([], slice_split (λ byte. byte == 10) text, refl)
    at false it = (byte ∷ it.0, it.1, ap (onto_first byte) it.2)

line_cut : (line rest : List ℕ) → HasNoFeed line → slice_split (λ byte. byte == 10) (line ++ 10 ∷ rest) ≡ line ∷ slice_split (λ byte. byte == 10) rest
line_cut [] rest plain = refl
line_cut (byte ∷ line) rest plain =
    ap (λ b. cond b ([] ∷ slice_split (λ byte. byte == 10) (line ++ 10 ∷ rest)) (onto_first byte (slice_split (λ byte. byte == 10) (line ++ 10 ∷ rest)))) plain.0 ∙ ap (onto_first byte) (line_cut line rest plain.1)

line_alone : (line : List ℕ) → HasNoFeed line → slice_split (λ byte. byte == 10) line ≡ line ∷ []
line_alone [] plain = refl
line_alone (byte ∷ line) plain =
    ap (λ b. cond b ([] ∷ slice_split (λ byte. byte == 10) line) (onto_first byte (slice_split (λ byte. byte == 10) line))) plain.0 ∙ ap (onto_first byte) (line_alone line plain.1)

whole_cut : (line rest : List ℕ) → HasNoFeed line → whole_lines (line ++ 10 ∷ rest) ≡ line ∷ whole_lines rest
whole_cut line rest plain =
    let s = some_line rest in
    ap without_last (line_cut line rest plain ∙ ap (λ l. line ∷ l) s.2) ∙ ap (λ l. line ∷ without_last l) (sym s.2)

no_feed : (line : List ℕ) → ((i : ℕ) → i < length line → (get_or line i 0 == 10) ≡ false) → HasNoFeed line
no_feed [] h = tt
no_feed (b ∷ line) h = (h 0 (omega arith), no_feed line (λ i l. h (suc i) (omega (arith, l))))

-- no line feed is found
pub no_line : (rest : List ℕ) → IsFirstByte (is_byte 10) rest None → whole_lines rest ≡ []
no_line rest first = ap without_last (line_alone rest (no_feed rest (λ i l. false_from_ne_true (get_or rest i 0 == 10) (first i (omega arith) l))))

-- the first line feed is found
pub first_line : (rest : List ℕ) (at : ℕ) → IsFirstByte (is_byte 10) rest (Some at) → whole_lines rest ≡ take at rest ∷ whole_lines (drop (at + 1) rest)
first_line rest at first =
    let high = first.0.high in
    let whole : rest ≡ take at rest ++ 10 ∷ drop (at + 1) rest =
    sym (take-append-drop at rest) ∙ ap (λ l. take at rest ++ l) (drop_more rest at 0 high ∙ ap (λ b. b ∷ drop (at + 1) rest) (is_feed (get_or rest at 0) first.1)) in
    let plain : HasNoFeed (take at rest) = no_feed (take at rest) (λ i l.
    let below : i < at = omega (arith, l, length-take at rest) in
    ap (λ b. b == 10) (get_or-take at rest i 0 below) ∙ false_from_ne_true (get_or rest i 0 == 10) (first.0.before i (omega arith) below)) in
    ap whole_lines whole ∙ whole_cut (take at rest) (drop (at + 1) rest) plain
  where
    is_feed : (b : ℕ) → (b == 10) ≡ true → b ≡ 10
    is_feed b e = grind arith

-- ---- Names are read back

abbrev pub AreNames : List (List ℕ) → Type 0
AreNames names = AllByRecursion IsName names

-- none stands twice, and none of those before
abbrev pub AreOnce : (before names : List (List ℕ)) → Type 0
AreOnce before [] = Unit {0}
AreOnce before (name ∷ rest) = (is_among before name ≡ false) × AreOnce (name ∷ before) rest

feedless_byte : (byte : ℕ) → is_name_byte byte ≡ true → (byte == 10) ≡ false
feedless_byte byte is = at (byte == 10) refl
  where
    at : (b : Bool) → (byte == 10) ≡ b → (byte == 10) ≡ false
    at false e = e
    at true e = absurd (false≢true (ap is_name_byte (sym (eqb-true byte 10 e)) ∙ is))

feedless_bytes : (part : List ℕ) → list_all is_name_byte part ≡ true → HasNoFeed part
feedless_bytes [] is = tt
feedless_bytes (byte ∷ part) is = let p = and_parts (is_name_byte byte) (list_all is_name_byte part) is in (feedless_byte byte p.0, feedless_bytes part p.1)

feedless_part : (part : List ℕ) → is_part part ≡ true → HasNoFeed part
feedless_part part is = feedless_bytes part (and_parts _ (list_all is_name_byte part) is).1

feedless_append : (xs ys : List ℕ) → HasNoFeed xs → HasNoFeed ys → HasNoFeed (xs ++ ys)
feedless_append [] ys one other = other
feedless_append (x ∷ xs) ys one other = (one.0, feedless_append xs ys one.1 other)

feedless_joined : (parts : List (List ℕ)) → list_all is_part parts ≡ true → HasNoFeed (join_with_byte 47 parts)
feedless_joined [] is = tt
feedless_joined (part ∷ []) is = feedless_part part (and_parts (is_part part) true is).0
feedless_joined (part ∷ next ∷ parts) is =
    let p = and_parts (is_part part) (list_all is_part (next ∷ parts)) is in
    feedless_append part (47 ∷ join_with_byte 47 (next ∷ parts)) (feedless_part part p.0) (refl, feedless_joined (next ∷ parts) p.1)

feedless_path : (path : List ℕ) → is_path path ≡ true → HasNoFeed path
unfolding is_path
feedless_path path is = subst HasNoFeed (join_with_byte-slice_split 47 path) (feedless_joined (parts_of path) is)

feedless : (name : List ℕ) → IsName name → HasNoFeed name
feedless name is = feedless_path name (and_parts (not (begins_badly name) && nat_le (length name) 255) (is_path name) is.may_be).1

lines_back : (names : List (List ℕ)) → AreNames names → whole_lines (subscription_text names) ≡ names
lines_back [] are = refl
lines_back (name ∷ rest) are = whole_cut name (subscription_text rest) (feedless name are.0) ∙ ap (λ l. name ∷ l) (lines_back rest are.1)

pub read_back : (name : List ℕ) → IsName name → read_name name ≡ Some name
read_back name is = ap (λ b. cond b (Some (with_inbox name)) None) is.may_be ∙ ap Some is.written

all_back : (names : List (List ℕ)) → AreNames names → filter_map read_name names ≡ names
all_back [] are = refl
all_back (name ∷ rest) are = rw (read_back name are.0) (ap (λ l. name ∷ l) (all_back rest are.1))

once_back : (before names : List (List ℕ)) → AreOnce before names → each_once before names ≡ names
once_back before [] once = refl
once_back before (name ∷ rest) once =
    ap (λ b. cond b (each_once before rest) (name ∷ each_once (name ∷ before) rest)) once.0 ∙ ap (λ l. name ∷ l) (once_back (name ∷ before) rest once.1)

text_back : (names : List (List ℕ)) → AreNames names → AreOnce [] names → subscribed_in (subscription_text names) ≡ names
text_back names are once = ap (λ l. each_once [] (filter_map read_name l)) (lines_back names are) ∙ ap (each_once []) (all_back names are) ∙ once_back [] names once

-- what is read is such a list
each_name : (before xs : List (List ℕ)) → AreNames xs → AreNames (each_once before xs)
each_name before [] are = tt
each_name before (x ∷ rest) are = at (is_among before x) (each_name before rest are.1) (each_name (x ∷ before) rest are.1)
  where
    at : (b : Bool) → AreNames (each_once before rest) → AreNames (each_once (x ∷ before) rest) → AreNames (cond b (each_once before rest) (x ∷ each_once (x ∷ before) rest))
    at true one other = one
    at false one other = (are.0, other)

each_is_once : (before xs : List (List ℕ)) → AreOnce before (each_once before xs)
each_is_once before [] = tt
each_is_once before (x ∷ rest) = at (is_among before x) refl (each_is_once before rest) (each_is_once (x ∷ before) rest)
  where
    at : (b : Bool) → is_among before x ≡ b → AreOnce before (each_once before rest) → AreOnce (x ∷ before) (each_once (x ∷ before) rest)
        → AreOnce before (cond b (each_once before rest) (x ∷ each_once (x ∷ before) rest))
    at true e one other = one
    at false e one other = (e, other)

found_names : (lines : List (List ℕ)) → AreNames (filter_map read_name lines)
found_names [] = tt
found_names (line ∷ rest) = at (may_be_name line) refl (found_names rest)
  where
    at : (b : Bool) → may_be_name line ≡ b → AreNames (filter_map read_name rest) → AreNames (filter_map read_name (line ∷ rest))
    at true e are = rw e (read_is_name line e, are)
    at false e are = rw e are

are_names : (text : List ℕ) → AreNames (subscribed_in text)
are_names text = each_name [] (filter_map read_name (whole_lines text)) (found_names (whole_lines text))

are_once : (text : List ℕ) → AreOnce [] (subscribed_in text)
are_once text = each_is_once [] (filter_map read_name (whole_lines text))

-- one more name
last_name : (names : List (List ℕ)) (name : List ℕ) → AreNames names → IsName name → AreNames (names ++ name ∷ [])
last_name [] name are is = (is, tt)
last_name (x ∷ names) name are is = (are.0, last_name names name are.1 is)

last_once : (before names : List (List ℕ)) (name : List ℕ) → AreOnce before names → is_among before name ≡ false → is_among names name ≡ false → AreOnce before (names ++ name ∷ [])
last_once before [] name once new other = (new, tt)
last_once before (x ∷ names) name once new other =
    let p = or_parts (bytes_eq name x) (is_among names name) other in
    (once.0, last_once (x ∷ before) names name once.1 (rw p.0 new) p.1)

pub with_back : (text name : List ℕ) → IsName name → subscribed_in (subscription_text (with_name name (subscribed_in text))) ≡ with_name name (subscribed_in text)
with_back text name is = at (is_among (subscribed_in text) name) refl
  where
    at : (b : Bool) → is_among (subscribed_in text) name ≡ b
        → subscribed_in (subscription_text (cond b (subscribed_in text) (subscribed_in text ++ name ∷ []))) ≡ cond b (subscribed_in text) (subscribed_in text ++ name ∷ [])
    at true e = text_back (subscribed_in text) (are_names text) (are_once text)
    at false e = text_back (subscribed_in text ++ name ∷ []) (last_name (subscribed_in text) name (are_names text) is) (last_once [] (subscribed_in text) name (are_once text) refl e)

-- fewer names
fewer_names : (p : List ℕ → Bool) (names : List (List ℕ)) → AreNames names → AreNames (filter p names)
fewer_names p [] are = tt
fewer_names p (x ∷ names) are = at (p x) (fewer_names p names are.1)
  where
    at : (b : Bool) → AreNames (filter p names) → AreNames (cond b (x ∷ filter p names) (filter p names))
    at true rest = (are.0, rest)
    at false rest = rest

less_before : (before less names : List (List ℕ)) → ((name : List ℕ) → is_among before name ≡ false → is_among less name ≡ false) → AreOnce before names → AreOnce less names
less_before before less [] sub once = tt
less_before before less (x ∷ names) sub once = (
  sub x once.0,
  less_before (x ∷ before) (x ∷ less) names
      (λ name none. let p = or_parts (bytes_eq name x) (is_among before name) none in rw p.0 (sub name p.1)) once.1,
)

fewer_once : (p : List ℕ → Bool) (before names : List (List ℕ)) → AreOnce before names → AreOnce before (filter p names)
fewer_once p before [] once = tt
fewer_once p before (x ∷ names) once = at (p x) (fewer_once p (x ∷ before) names once.1)
  where
    at : (b : Bool) → AreOnce (x ∷ before) (filter p names) → AreOnce before (cond b (x ∷ filter p names) (filter p names))
    at true rest = (once.0, rest)
    at false rest = less_before (x ∷ before) before (filter p names) (λ name none. (or_parts (bytes_eq name x) (is_among before name) none).1) rest

pub without_back : (text name : List ℕ) → subscribed_in (subscription_text (without_name name (subscribed_in text))) ≡ without_name name (subscribed_in text)
without_back text name =
    text_back (without_name name (subscribed_in text)) (fewer_names (λ other. not (bytes_eq name other)) (subscribed_in text) (are_names text))
    (fewer_once (λ other. not (bytes_eq name other)) [] (subscribed_in text) (are_once text))

-- ---- One name is taken out

kept_all : (name : List ℕ) (before names : List (List ℕ)) → is_among before name ≡ true → AreOnce before names → filter (λ other. not (bytes_eq name other)) names ≡ names
kept_all name before [] among once = refl
kept_all name before (x ∷ names) among once = at (bytes_eq name x) refl (λ first. kept_all name (x ∷ before) names (first among) once.1)
  where
    at : (b : Bool) → bytes_eq name x ≡ b → ((is_among before name ≡ true → is_among (x ∷ before) name ≡ true) → filter (λ other. not (bytes_eq name other)) names ≡ names)
        → filter (λ other. not (bytes_eq name other)) (x ∷ names) ≡ x ∷ names
    at true e rest = absurd (false≢true (sym once.0 ∙ ap (is_among before) (sym ((bytes_eq-Decides name x).0 e)) ∙ among))
    at false e rest = rw e (ap (λ l. x ∷ l) (rest (λ is. rw e is)))

-- where each stands once
remove_once : (name : List ℕ) (before names : List (List ℕ)) → AreOnce before names → remove_key (bytes_eq name) names ≡ without_name name names
remove_once name before [] once = refl
remove_once name before (x ∷ names) once = at (bytes_eq name x) refl (remove_once name (x ∷ before) names once.1) (λ among. kept_all name (x ∷ before) names among once.1)
  where
    at : (b : Bool) → bytes_eq name x ≡ b → remove_key (bytes_eq name) names ≡ without_name name names → (is_among (x ∷ before) name ≡ true → without_name name names ≡ names)
        → cond (bytes_eq name x) names (x ∷ remove_key (bytes_eq name) names) ≡ without_name name (x ∷ names)
    at true e rest kept = rw e (sym (kept (rw e refl)))
    at false e rest kept = rw e (ap (λ l. x ∷ l) rest)

pub taken_out : (name text : List ℕ) → remove_key (bytes_eq name) (subscribed_in text) ≡ without_name name (subscribed_in text)
taken_out name text = remove_once name [] (subscribed_in text) (are_once text)

-- ---- A name that is there

pub stays_there : (names : List (List ℕ)) (name copy : List ℕ) (new : Bool) → new ≡ not (is_among names copy) → new ≡ false → copy ≡ name → with_name name names ≡ names
stays_there names name copy new tells none same = at (is_among names name) (sym none ∙ tells ∙ ap (λ n. not (is_among names n)) same)
  where
    at : (b : Bool) → false ≡ not b → cond b names (names ++ name ∷ []) ≡ names
    at true e = refl
    at false e = absurd (false≢true e)
