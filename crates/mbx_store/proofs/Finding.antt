-- Records are found one by one.
use Rattle.std.proofs.Common.{◌≡◌, ◌≤◌, ◌<◌, ◌+◌, ◌*◌, ℕ, suc, Bool, true, false, cond, nat_le, List, [], ◌∷◌, ◌++◌, length, length-append, drop, Option, Some, None, refl, sym, ap, ◌∙◌, subst, arith, append_assoc}
use Rattle.std.specs.List.{AllByRecursion}
use Rattle.std.specs.Prelude.{IfSome}
use Rattle.std.proofs.lemmas.Bool.Decides.{nat_tests}
use Rattle.std.proofs.lemmas.List.{length-drop, drop-drop, append-nil}
use Rattle.std.proofs.lemmas.Option.{same_Some}
use Rattle.mbx_form.specs.declared.head.MbxHead.{MbxHead}
use Rattle.mbx_form.specs.declared.header.MbxHeader.{MbxHeader}
use Rattle.mbx_form.specs.Header.{header_of}
use Rattle.mbx_form.specs.Heads.{head_at, head_text}
use Rattle.mbx_form.specs.Records.{FileRecord, record_text, records_text, record_front}
use Rattle.mbx_form.proofs.Fronts.{head_at_is, front_none, front_past, front_some}
use Rattle.mbx_form.proofs.Headers.{header_is}
use Rattle.mbx_form.proofs.Heads.{head_is}
use Rattle.mbx_form.proofs.Records.{IsRecord, front_is, records_short}
use Rattle.mbx_store.specs.declared.place.MbxPlace.{MbxPlace}
use Rattle.mbx_store.specs.Places.{place_at, places_from}
use Rattle.mbx_store.specs.Scans.{infos_at, infos_of, with_head, with_place, AreFound, AreAll, IsStopped, FewRead}

-- ---- Heads

pub head_wide : (text : List ℕ) → IfSome (head_at text) (λ f. (51 ≤ f.1) × (f.1 ≤ 61))
head_wide text = step (head_at text) refl
  where
    step : (o : Option (MbxHead × ℕ)) → head_at text ≡ o → IfSome o (λ f. (51 ≤ f.1) × (f.1 ≤ 61))
    step None is = tt
    step (Some found) is =
        let at = head_at_is text found is in
        let have = head_is at.pieces found.0 at.says in
        (omega (arith, at.long, have.date, have.marks, length-append at.pieces.date (at.pieces.size ++ 59 ∷ at.pieces.marks), length-append at.pieces.size (59 ∷ at.pieces.marks)), at.short)

pub header_few : (text : List ℕ) → IfSome (header_of text) (λ h. length h.words ≤ 30)
header_few text = step (header_of text) refl
  where
    step : (o : Option MbxHeader) → header_of text ≡ o → IfSome o (λ h. length h.words ≤ 30)
    step None is = tt
    step (Some header) is = (header_is text header is).0.few

-- ---- One record more

all_more : (rs : List FileRecord) (r : FileRecord) → AllByRecursion IsRecord rs → IsRecord r → AllByRecursion IsRecord (rs ++ r ∷ [])
all_more [] r are is = (is, tt)
all_more (x ∷ rs) r are is = (are.0, all_more rs r are.1 is)

texts_more : (rs : List FileRecord) (r : FileRecord) → records_text (rs ++ r ∷ []) ≡ records_text rs ++ record_text r
texts_more [] r = append-nil (record_text r)
texts_more (x ∷ rs) r = ap (λ l. record_text x ++ l) (texts_more rs r) ∙ sym (append_assoc (record_text x) (records_text rs) (record_text r))

places_more : (at : ℕ) (rs : List FileRecord) (r : FileRecord) → places_from at (rs ++ r ∷ []) ≡ places_from at rs ++ place_at (at + length (records_text rs)) r ∷ []
places_more at [] r = let same : at ≡ at + 0 = omega arith in ap (λ n. place_at n r ∷ []) same
places_more at (x ∷ rs) r =
    let same : (at + length (record_text x)) + length (records_text rs) ≡ at + length (record_text x ++ records_text rs) = omega (arith, length-append (record_text x) (records_text rs)) in
    ap (λ l. place_at at x ∷ l) (places_more (at + length (record_text x)) rs r ∙ ap (λ n. places_from (at + length (record_text x)) rs ++ place_at n r ∷ []) same)

infos_more : (names : ℕ) (rs : List FileRecord) (r : FileRecord) → infos_of names (rs ++ r ∷ []) ≡ infos_of names rs ++ infos_at names r.head
infos_more names [] r = append-nil (infos_at names r.head)
infos_more names (x ∷ rs) r = ap (λ l. infos_at names x.head ++ l) (infos_more names rs r) ∙ sym (append_assoc (infos_at names x.head) (infos_of names rs) (infos_at names r.head))

pub places_count : (at : ℕ) (rs : List FileRecord) → length (places_from at rs) ≡ length rs
places_count at [] = refl
places_count at (r ∷ rs) = ap suc (places_count (at + length (record_text r)) rs)

-- the record that a head makes, and its place
pub record IsNext (bytes : List ℕ) (at : ℕ) (head : MbxHead) (p : MbxPlace) : Type 0 where
  pub first : FileRecord
  pub is : IsRecord first
  pub text : drop at bytes ≡ record_text first ++ drop (p.at + p.head + p.size) bytes
  pub head_is : first.head ≡ head
  pub begins : p.at ≡ at
  pub place : p ≡ place_at at first

next_is : (bytes : List ℕ) (at long : ℕ) (head : MbxHead) (p : MbxPlace) → length bytes ≡ long → at < long → Some (head, p) ≡ with_place at long (head_at (drop at bytes)) → IsNext bytes at head p
next_is bytes at long head p size below is = step (head_at (drop at bytes)) refl is
  where
    made : MbxHead → ℕ → MbxPlace
    made h w = record { at = at; head = w; size = h.size; words = h.words; bits = h.bits }

    one : (h : MbxHead) (w : ℕ) → head_at (drop at bytes) ≡ Some (h, w) → (b : Bool) → nat_le (at + w + h.size) long ≡ b → Some (head, p) ≡ with_head h (cond b (Some (record { at = at; head = w; size = h.size; words = h.words; bits = h.bits })) None) → IsNext bytes at head p
    one h w found false test e = absurd (cc)
    one h w found true test e =
        let room : at + w + h.size ≤ long = grind (arith, nat_tests, test) in
        let left : w + h.size ≤ length (drop at bytes) = omega (arith, room, size, length-drop at bytes) in
        let front = front_some (drop at bytes) h w found left in
        let read = front_is (drop at bytes) front.first (drop (w + h.size) (drop at bytes)) front.is in
        let own : MbxPlace = record { at = at; head = w; size = h.size; words = h.words; bits = h.bits } in
        let same : ◌≡◌ {A = MbxHead × MbxPlace} (h, own) (head, p) = same_Some _ _ (sym e) in
        let wide : length (record_text front.first) ≡ w + h.size = omega (arith, ap length read.text_is, length-append (record_text front.first) (drop (w + h.size) (drop at bytes)), length-drop (w + h.size) (drop at bytes), left) in
        let first_size : front.first.head.size ≡ h.size = ap (λ (x : MbxHead). x.size) front.head_is in
        let width : w ≡ length (head_text front.first.pieces) = omega (arith, wide, length-append (head_text front.first.pieces) front.first.text, read.record_is.long, first_size) in
        let rest : drop (w + h.size) (drop at bytes) ≡ drop (at + w + h.size) bytes = drop-drop (w + h.size) at bytes ∙ (let s : at + (w + h.size) ≡ at + w + h.size = omega arith in ap (λ n. drop n bytes) s) in
        let sizes : h.size ≡ front.first.head.size = sym first_size in
        let words : h.words ≡ front.first.head.words = ap (λ (x : MbxHead). x.words) (sym front.head_is) in
        let bits : h.bits ≡ front.first.head.bits = ap (λ (x : MbxHead). x.bits) (sym front.head_is) in
        let place : own ≡ place_at at front.first = λ k. record { at = at; head = width k; size = sizes k; words = words k; bits = bits k } in
        subst (λ (f : MbxHead × MbxPlace). IsNext bytes at f.0 f.1) same (record {
          first = front.first;
          is = read.record_is;
          text = read.text_is ∙ ap (λ l. record_text front.first ++ l) rest;
          head_is = front.head_is;
          begins = refl;
          place = place;
        })

    step : (o : Option (MbxHead × ℕ)) → head_at (drop at bytes) ≡ o → Some (head, p) ≡ with_place at long o → IsNext bytes at head p
    step None here e = absurd (cc)
    step (Some found) here e = one found.0 found.1 here (nat_le (at + found.1 + found.0.size) long) refl e

pub found_none : (names : ℕ) (bytes : List ℕ) → AreFound names bytes 2048 [] []
found_none names bytes = record { records = []; read = record { are = tt; text = refl; ends = refl }; places_are = refl; infos_are = refl }

pub found_more : (names : ℕ) (bytes : List ℕ) (at long : ℕ) (places : List MbxPlace) (infos : List _) (head : MbxHead) (p : MbxPlace) → length bytes ≡ long → at < long → AreFound names bytes at places infos
    → Some (head, p) ≡ with_place at long (head_at (drop at bytes)) → AreFound names bytes (p.at + p.head + p.size) (places ++ p ∷ []) (infos ++ infos_at names head)
found_more names bytes at long places infos head p size below found is =
    let next = next_is bytes at long head p size below is in
    let rs = found.records in
    let r = next.first in
    let sum : p.head + p.size ≡ length (record_text r) = ap (λ (q : MbxPlace). q.head + q.size) next.place ∙ omega (arith, length-append (head_text r.pieces) r.text, next.is.long) in
    record {
      records = rs ++ r ∷ [];
      read = record {
        are = all_more rs r found.read.are next.is;
        text = found.read.text ∙ ap (λ l. records_text rs ++ l) next.text ∙ sym (append_assoc (records_text rs) (record_text r) (drop (p.at + p.head + p.size) bytes)) ∙ ap (λ l. l ++ drop (p.at + p.head + p.size) bytes) (sym (texts_more rs r));
        ends = omega (arith, found.read.ends, next.begins, sum, ap length (texts_more rs r), length-append (records_text rs) (record_text r));
      };
      places_are = ap (λ l. l ++ p ∷ []) found.places_are ∙ ap (λ q. places_from 2048 rs ++ q ∷ []) next.place ∙ ap (λ n. places_from 2048 rs ++ place_at n r ∷ []) found.read.ends ∙ sym (places_more 2048 rs r);
      infos_are = ap (λ l. l ++ infos_at names head) found.infos_are ∙ ap (λ h. infos_of names rs ++ infos_at names h) (sym next.head_is) ∙ sym (infos_more names rs r);
    }

-- ---- The end

no_next : (bytes : List ℕ) (at long : ℕ) → length bytes ≡ long → at < long → None ≡ with_place at long (head_at (drop at bytes)) → record_front (drop at bytes) ≡ None
no_next bytes at long size below is = step (head_at (drop at bytes)) refl is
  where
    one : (h : MbxHead) (w : ℕ) → head_at (drop at bytes) ≡ Some (h, w) → (b : Bool) → nat_le (at + w + h.size) long ≡ b
        → None ≡ with_head h (cond b (Some (record { at = at; head = w; size = h.size; words = h.words; bits = h.bits })) None) → record_front (drop at bytes) ≡ None
    one h w found true test e = absurd (cc)
    one h w found false test e =
        let past : long < at + w + h.size = grind (arith, nat_tests, test) in
        front_past (drop at bytes) h w found (omega (arith, past, size, below, length-drop at bytes))

    step : (o : Option (MbxHead × ℕ)) → head_at (drop at bytes) ≡ o → None ≡ with_place at long o → record_front (drop at bytes) ≡ None
    step None here e = front_none (drop at bytes) here
    step (Some found) here e = one found.0 found.1 here (nat_le (at + found.1 + found.0.size) long) refl e

pub found_stop : (names : ℕ) (bytes : List ℕ) (at long : ℕ) (places : List MbxPlace) (infos : List _) → length bytes ≡ long → at < long → AreFound names bytes at places infos
    → None ≡ with_place at long (head_at (drop at bytes)) → IsStopped bytes (length places)
found_stop names bytes at long places infos size below found is = record {
  records = found.records;
  rest = drop at bytes;
  stops = record { records = found.read.are; text = found.read.text; none = no_next bytes at long size below is };
  some = omega (arith, size, below, length-drop at bytes);
  counts = ap (λ (l : List MbxPlace). length l) found.places_are ∙ places_count 2048 found.records;
}

drop_past : (at : ℕ) (bytes : List ℕ) → length bytes ≤ at → drop at bytes ≡ []
drop_past at bytes past = none (drop at bytes) (omega (arith, past, length-drop at bytes))
  where
    none : (xs : List ℕ) → length xs ≡ 0 → xs ≡ []
    none [] is = refl
    none (x ∷ xs) is = absurd (omega (arith, is))

pub found_all : (names : ℕ) (bytes : List ℕ) (at long : ℕ) (places : List MbxPlace) (infos : List _) → length bytes ≡ long → long ≤ at → AreFound names bytes at places infos → AreAll names bytes places infos
found_all names bytes at long places infos size past found = record {
  records = found.records;
  are = found.read.are;
  text = found.read.text ∙ ap (λ l. records_text found.records ++ l) (drop_past at bytes (omega (arith, size, past))) ∙ append-nil (records_text found.records);
  places_are = found.places_are;
  infos_are = found.infos_are;
}

-- there are no more records than bytes
pub found_few : (names : ℕ) (bytes : List ℕ) (at : ℕ) (places : List MbxPlace) (infos : List _) → AreFound names bytes at places infos → length places ≤ length bytes
found_few names bytes at places infos found =
    omega (arith, ap (λ (l : List MbxPlace). length l) found.places_are, places_count 2048 found.records, records_short found.records found.read.are, ap length found.read.text, length-append (records_text found.records) (drop at bytes), length-drop 2048 bytes)

pub found_read : (names : ℕ) (bytes : List ℕ) (at old new : ℕ) (places : List MbxPlace) (infos : List _) → AreFound names bytes at places infos → new ≤ old + 61 * (length places + 1) → FewRead bytes old new
found_read names bytes at old new places infos found few =
    record { records = found.records; rest = drop at bytes; are = found.read.are; text = found.read.text; few = omega (arith, few, ap (λ (l : List MbxPlace). length l) found.places_are, places_count 2048 found.records) }
