-- What SEARCH finds, by what its store tells and its texts have.
use Rattle.std.proofs.Common.{ℕ, zero, suc, Bool, true, false, List, [], ◌∷◌, ◌++◌, ◌+◌, ◌≡◌, ◌<◌, length, refl, sym, ◌∙◌, ap, subst, arith, map, drop, slice_get, nat_eq, if◌then◌else◌, Some, Result, Ok, Err, IfOk}
use Rattle.std.specs.List.{list_any}
use Rattle.std.proofs.Math.ListN.{get_or}
use Rattle.std.proofs.lemmas.List.{append-nil, append_assoc}
use Rattle.file_model.specs.Disk.{seen}
use Rattle.file_model.specs.Histories.{World, History, Now}
use Rattle.imap_syntax.specs.declared.key.Key.{Key, roll-Key}
use Rattle.imap_syntax.specs.declared.key.Key.TheOpen as keys
use Rattle.imap_syntax.specs.declared.key.Key.TheOpen.{Key-F}
use Rattle.imap_syntax.specs.declared.key.Key.TheFolds.{ind-Key, fold-roll-Key, map-Key}
use Rattle.looked_message.specs.Messages.{LookedAt, record_looked_at}
use Rattle.mail_types.specs.declared.message.Record.{Record}
use Rattle.search_eval.specs.Keys.{key_row, key_holds}
use Rattle.search_eval.specs.declared.largest.Largest.{Largest}
use Rattle.store_trait.specs.declared.store.Info.{Info}
use Rattle.store_trait.specs.Forms.{Forms}
use Rattle.store_trait.specs.Laws.{IsView}
use Rattle.store_trait.specs.Views.{View, info_of, text_in, text_at}
use Rattle.imap_session.specs.Reading.{ReadsOn}
use Rattle.imap_session.specs.Search.{found_from, found, largest_of, told_at}
use Rattle.imap_session.specs.Sets.{number_at}
use Rattle.imap_session.specs.Told.{HasSame}
use Rattle.imap_session.proofs.Readings.{reads_then}

-- what holds of each world
pub now_each : (P : World → Type 0) (h : History) → ((w : World) → P w) → Now h P
now_each P [] each = tt
now_each P (w ∷ past) each = each w

-- an item at a place, as a slice gives it
pub item_got : {A : Type 0} (items : List A) (i : ℕ) (item : A) → i < length items → item ≡ get_or items i item → slice_get items i ≡ Some item
item_got [] i item within is = absurd (omega (arith, within))
item_got (x ∷ items) zero item within is = ap Some (sym is)
item_got (x ∷ items) (suc i) item within is = item_got items i item (omega (arith, within)) is

-- ---- No key asks for a modification number

module _ (most : Largest) (m : LookedAt) (modseq : ℕ) where
  IsAlike : Key → Type 0
  IsAlike key = key_holds most (record m { modseq = modseq }) key ≡ key_holds most m key

  same_row : (z : Key-F Bool) → key_row most (record m { modseq = modseq }) z ≡ key_row most m z
  same_row (keys.Not holds) = refl
  same_row z = refl

  all_alike : (all : List ((key : Key) × IsAlike key)) → map (key_holds most (record m { modseq = modseq })) (map (λ e. e.0) all) ≡ map (key_holds most m) (map (λ e. e.0) all)
  unfolding IsAlike
  all_alike [] = refl
  all_alike (first ∷ rest) =
      ap (λ b. b ∷ map (key_holds most (record m { modseq = modseq })) (map (λ e. e.0) rest)) first.1 ∙ ap (λ l. key_holds most m first.0 ∷ l) (all_alike rest)

  alike : (y : Key-F ((key : Key) × IsAlike key)) → map-Key Key Bool (key_holds most (record m { modseq = modseq })) (map-Key ((key : Key) × IsAlike key) Key (λ e. e.0) y)
      ≡ map-Key Key Bool (key_holds most m) (map-Key ((key : Key) × IsAlike key) Key (λ e. e.0) y)
  unfolding IsAlike
  alike (keys.Not inner) = ap (λ b. keys.Not b) inner.1
  alike (keys.Or one two) = ap (λ b. keys.Or b (key_holds most (record m { modseq = modseq }) two.0)) one.1 ∙ ap (λ b. keys.Or (key_holds most m one.0) b) two.1
  alike (keys.AllOf all) = ap (λ l. keys.AllOf l) (all_alike all)
  alike y = refl

  row_alike : (y : Key-F ((key : Key) × IsAlike key)) → IsAlike (roll-Key (map-Key ((key : Key) × IsAlike key) Key (λ e. e.0) y))
  unfolding IsAlike
  row_alike y =
      let x = map-Key ((key : Key) × IsAlike key) Key (λ e. e.0) y in
      fold-roll-Key Bool (key_row most (record m { modseq = modseq })) x
      ∙ same_row (map-Key Key Bool (key_holds most (record m { modseq = modseq })) x)
      ∙ ap (key_row most m) (alike y)
      ∙ sym (fold-roll-Key Bool (key_row most m) x)

  pub is_alike : (key : Key) → key_holds most (record m { modseq = modseq }) key ≡ key_holds most m key
  unfolding IsAlike
  is_alike = ind-Key IsAlike (λ x y is. subst (λ z. IsAlike (roll-Key z)) is (row_alike y))

-- ---- One message after the other

module _ (uid : Bool) (key : Key) (most : Largest) (recent : List ℕ) (names : List (List ℕ)) where
  -- whether a message is found, by what is told of it
  abbrev pub IsFound : (place : ℕ) → Info → (text : List ℕ) → Bool
  IsFound place info text = key_holds most (told_at (place + 1) info (list_any (nat_eq info.uid) recent) names text) key

  found_next : (records : List Record) (at place : ℕ) (info : Info) → slice_get (map info_of records) at ≡ Some info
      → found_from uid key most recent names place (drop at records)
      ≡ (if IsFound place info (text_in (slice_get records at)) then number_at uid place info ∷ [] else []) ++ found_from uid key most recent names (place + 1) (drop (suc at) records)
  found_next [] at place info is = absurd (cc)
  found_next (r ∷ records) zero place info is =
      ap (λ b. if b then number_at uid place (info_of r) ∷ found_from uid key most recent names (place + 1) records else found_from uid key most recent names (place + 1) records)
      (is_alike most (told_at (place + 1) (info_of r) (list_any (nat_eq r.uid) recent) names r.text) r.number key)
      ∙ by_test (IsFound place (info_of r) r.text) (found_from uid key most recent names (place + 1) records)
      ∙ ap (λ i. (if IsFound place i r.text then number_at uid place i ∷ [] else []) ++ found_from uid key most recent names (place + 1) records) (one (info_of r) info is)
    where
      by_test : (b : Bool) (rest : List ℕ) → (if b then number_at uid place (info_of r) ∷ rest else rest) ≡ (if b then number_at uid place (info_of r) ∷ [] else []) ++ rest
      by_test true rest = refl
      by_test false rest = refl

      one : (a b : Info) → Some a ≡ Some b → a ≡ b
      one a b is = cc
  found_next (r ∷ records) (suc at) place info is = found_next records at place info is

  -- the numbers so far are those of the places so far
  abbrev pub FoundSoFar : View → (numbers : List ℕ) → (place : ℕ) → History → Type 0
  FoundSoFar was numbers place h = Now h (λ w. was.stands (seen w.disk) → numbers ++ found_from uid key most recent names place (drop place (was.mailbox (seen w.disk)).records)
      ≡ found_from uid key most recent names 0 (was.mailbox (seen w.disk)).records)

  pub found_none : (was : View) (h : History) → FoundSoFar was [] 0 h
  found_none was [] = tt
  found_none was (w ∷ past) = λ stands. refl

  -- where nothing is left they are all
  pub found_all : (forms : Forms) (was : View) (all numbers : List ℕ) (place : ℕ) (infos : List Info) (h : History) → IsView forms was → infos ≡ was.summary.infos → drop place infos ≡ [] → all ≡ numbers
      → FoundSoFar was numbers place h → Now h (λ w. was.stands (seen w.disk)) → Now h (λ w. all ≡ found_from uid key most recent names 0 (was.mailbox (seen w.disk)).records)
  found_all forms was all numbers place infos [] law are none same far stands = tt
  found_all forms was all numbers place infos (w ∷ past) law are none same far stands =
      let records = (was.mailbox (seen w.disk)).records in
      same ∙ sym (append-nil numbers) ∙ ap (λ l. numbers ++ found_from uid key most recent names place l) (sym (none_left records place
      (ap (drop place) (ap (λ s. s.infos) (law.summarized (seen w.disk) stands) ∙ sym are) ∙ none))) ∙ far stands
    where
      none_left : (records : List Record) (place : ℕ) → drop place (map info_of records) ≡ [] → drop place records ≡ []
      none_left [] zero none = refl
      none_left [] (suc place) none = refl
      none_left (r ∷ records) zero none = absurd (cc)
      none_left (r ∷ records) (suc place) none = none_left records place none

  -- one more message
  pub found_more : (forms : Forms) (was mid : View) (numbers more : List ℕ) (place : ℕ) (info : Info) (infos : List Info) (is : Bool) (h : History) → IsView forms was → infos ≡ was.summary.infos
      → slice_get infos place ≡ Some info → ReadsOn was mid h → Now h (λ w. is ≡ IsFound place info (text_at (mid.mailbox (seen w.disk)) place))
      → more ≡ numbers ++ (if is then number_at uid place info ∷ [] else []) → FoundSoFar was numbers place h → FoundSoFar was more (place + 1) h
  found_more forms was mid numbers more place info infos is [] law are here reads found_is so far = tt
  found_more forms was mid numbers more place info infos is (w ∷ past) law are here reads found_is so far = λ stands.
      let m = was.mailbox (seen w.disk) in
      let told : slice_get (map info_of m.records) place ≡ Some info = ap (λ l. slice_get l place) (ap (λ s. s.infos) (law.summarized (seen w.disk) stands) ∙ sym are) ∙ here in
      let same : is ≡ IsFound place info (text_at m place) = found_is ∙ ap (λ n. IsFound place info (text_at n place)) (reads.stands stands).1 in
      ap (λ l. l ++ found_from uid key most recent names (place + 1) (drop (place + 1) m.records)) (so ∙ ap (λ b. numbers ++ (if b then number_at uid place info ∷ [] else [])) same)
      ∙ append_assoc numbers (if IsFound place info (text_at m place) then number_at uid place info ∷ [] else []) (found_from uid key most recent names (place + 1) (drop (place + 1) m.records))
      ∙ ap (λ n. numbers ++ ((if IsFound place info (text_at m place) then number_at uid place info ∷ [] else []) ++ found_from uid key most recent names (place + 1) (drop n m.records))) (plus place)
      ∙ ap (λ l. numbers ++ l) (sym (found_next m.records place place info told)) ∙ far stands
    where
      plus : (place : ℕ) → place + 1 ≡ suc place
      plus place = omega arith

  -- its number is put where it is found
  one_put : (is : Bool) (numbers : List ℕ) (number : ℕ) → (if is then numbers ++ number ∷ [] else numbers) ≡ numbers ++ (if is then number ∷ [] else [])
  one_put true numbers number = refl
  one_put false numbers number = sym (append-nil numbers)

  -- what a loop over the messages keeps
  pub record Searched (was is : View) (numbers : List ℕ) (place : ℕ) (start h : History) : Type 0 where
    pub found : FoundSoFar was numbers place start
    pub reads_on : ReadsOn was is start
    pub history : h ≡ start

  pub searched_on : (forms : Forms) (was mid is : View) (numbers more : List ℕ) (place : ℕ) (info : Info) (infos : List Info) (test : Bool) (number : ℕ) (start h next : History) → IsView forms was → infos ≡ was.summary.infos
      → slice_get infos place ≡ Some info → Searched was mid numbers place start h
      → Now h (λ w. test ≡ IsFound place info (text_at (mid.mailbox (seen w.disk)) place)) → number ≡ number_at uid place info
      → more ≡ (if test then numbers ++ number ∷ [] else numbers) → ReadsOn mid is h → next ≡ h
      → Searched was is more (place + 1) start next
  searched_on forms was mid is numbers more place info infos test number start h next law are here far found_is numbered so reads same = record {
    found = found_more forms was mid numbers more place info infos test start law are here far.reads_on
        (subst (λ h. Now h (λ w. test ≡ IsFound place info (text_at (mid.mailbox (seen w.disk)) place))) far.history found_is)
        (so ∙ one_put test numbers number ∙ ap (λ n. numbers ++ (if test then n ∷ [] else [])) numbered) far.found;
    reads_on = reads_then was mid is start far.reads_on (subst (ReadsOn mid is) far.history reads);
    history = same ∙ far.history;
  }

-- a store that was read stands where it stood
pub still_stands : (was is : View) (start h : History) → ReadsOn was is start → h ≡ start → Now start (λ w. was.stands (seen w.disk)) → Now h (λ w. is.stands (seen w.disk))
still_stands was is start h reads same stands = subst (λ h. Now h (λ w. is.stands (seen w.disk))) (sym same) (on start reads stands)
  where
    on : (h : History) → ReadsOn was is h → Now h (λ w. was.stands (seen w.disk)) → Now h (λ w. is.stands (seen w.disk))
    on [] reads stands = tt
    on (w ∷ past) reads stands = (reads.stands stands).0

-- ---- A mailbox

-- the recent messages may be told by a set of their UIDs
pub same_found : (uid : Bool) (key : Key) (most : Largest) (set recent : List ℕ) (names : List (List ℕ)) (place : ℕ) (records : List Record) → HasSame set recent
    → found_from uid key most set names place records ≡ found_from uid key most recent names place records
same_found uid key most set recent names place [] same = refl
same_found uid key most set recent names place (r ∷ records) same =
    ap (λ b. if key_holds most (record_looked_at (place + 1) r b names) key
    then number_at uid place (info_of r) ∷ found_from uid key most set names (place + 1) records
    else found_from uid key most set names (place + 1) records) (same r.uid)
    ∙ ap (λ l. if key_holds most (record_looked_at (place + 1) r (list_any (nat_eq r.uid) recent) names) key then number_at uid place (info_of r) ∷ l else l)
    (same_found uid key most set recent names (place + 1) records same)

-- what is found by what a store tells is what its mailbox has
pub found_there : (forms : Forms) (was : View) (uid : Bool) (key asked : Key) (most : Largest) (set recent : List ℕ) (words : List (List ℕ)) (infos : List Info) (numbers : List ℕ) (h : History)
    → IsView forms was → Now h (λ w. was.stands (seen w.disk)) → infos ≡ was.summary.infos → words ≡ was.summary.words → asked ≡ key → most ≡ largest_of infos → HasSame set recent
    → Now h (λ w. numbers ≡ found_from uid asked most set words 0 (was.mailbox (seen w.disk)).records) → Now h (λ w. numbers ≡ found uid key recent (was.mailbox (seen w.disk)))
found_there forms was uid key asked most set recent words infos numbers [] law stands are named is_key is_most same is = tt
found_there forms was uid key asked most set recent words infos numbers (w ∷ past) law stands are named is_key is_most same is =
    let m = was.mailbox (seen w.disk) in
    let summary = law.summarized (seen w.disk) stands in
    is ∙ same_found uid asked most set recent words 0 m.records same
    ∙ ap (λ k. found_from uid k most recent words 0 m.records) is_key
    ∙ ap (λ l. found_from uid key l recent words 0 m.records) (is_most ∙ ap largest_of (are ∙ sym (ap (λ s. s.infos) summary)))
    ∙ ap (λ n. found_from uid key (largest_of (map info_of m.records)) recent n 0 m.records) (named ∙ sym (ap (λ s. s.words) summary))

-- where it is found
pub found_ok : {E : Type 0} (forms : Forms) (was : View) (uid : Bool) (key asked : Key) (most : Largest) (set recent : List ℕ) (words : List (List ℕ)) (infos : List Info) (result : Result (List ℕ) E) (h : History)
    → IsView forms was → Now h (λ w. was.stands (seen w.disk)) → infos ≡ was.summary.infos → words ≡ was.summary.words → asked ≡ key → most ≡ largest_of infos → HasSame set recent
    → IfOk result (λ numbers. Now h (λ w. numbers ≡ found_from uid asked most set words 0 (was.mailbox (seen w.disk)).records)) → IfOk result (λ numbers. Now h (λ w. numbers ≡ found uid key recent (was.mailbox (seen w.disk))))
found_ok forms was uid key asked most set recent words infos (Ok numbers) h law stands are named is_key is_most same is =
    found_there forms was uid key asked most set recent words infos numbers h law stands are named is_key is_most same is
found_ok forms was uid key asked most set recent words infos (Err error) h law stands are named is_key is_most same is = is
