-- Records stand at their places, and what is made of the ones is made of the others.
use Rattle.std.proofs.Common.{◌≡◌, ◌≤◌, ◌+◌, ◌*◌, ◌/◌, ◌%◌, ◌^◌, ℕ, Bool, true, false, cond, nat_eq, List, [], ◌∷◌, ◌++◌, length, length-append, map, take, drop, Some, refl, sym, ap, ◌∙◌, arith}
use Rattle.std.specs.List.{AllByRecursion, list_any}
use Rattle.std.proofs.lemmas.Bool.{false≢true}
use Rattle.std.proofs.lemmas.List.{length-map}
use Rattle.std.proofs.Math.Nat.{zero-div}
use Rattle.mail_types.specs.declared.driver.Driver.TheVariants.{Mbx}
use Rattle.mail_types.specs.declared.message.NewMessage.{NewMessage}
use Rattle.mail_types.specs.declared.message.Record.{Record}
use Rattle.mail_types.specs.Drivers.{keeps_of}
use Rattle.mail_types.specs.Flags.{flag_bits, has_bit}
use Rattle.store_trait.specs.declared.change.Change.{Change}
use Rattle.store_trait.specs.declared.change.Change.TheVariants.{Append, SetFlags, Expunge}
use Rattle.store_trait.specs.declared.store.Info.{Info}
use Rattle.store_index.specs.Told.{record_at, records_at, new_texts}
use Rattle.text_forms.specs.Lines.{clean_byte}
use Rattle.mbx_form.specs.Form.{left_records}
use Rattle.mbx_form.specs.Heads.{head_pieces, head_text}
use Rattle.mbx_form.specs.Records.{FileRecord, record_text, records_text, is_marked, hidden_words, other_bits, written_head, written_record, new_record, undropped_records, unmarked_records}
use Rattle.mbx_form.proofs.Lengths.{written_size}
use Rattle.mbx_form.proofs.Records.{IsRecord}
use Rattle.mbx_form.proofs.Steps.{take_front}
use Rattle.mbx_store.specs.declared.place.MbxPlace.{MbxPlace}
use Rattle.mbx_store.specs.declared.plan.Piece.{Piece}
use Rattle.mbx_store.specs.Bytes.{piece_bytes, pieces_bytes, added_bytes, places_in}
use Rattle.mbx_store.specs.Places.{place_at, places_from, EndsBy}
use Rattle.mbx_store.specs.Plans.{head_width, head_over, kept_piece, message_piece, message_over, end_of, as_list, end_after, left_pieces, end_from, new_place, added_pieces, undropped_places, unmarked_places, left_places}
use Rattle.mbx_store.proofs.Texts.{IsSplit, split_at}

-- ---- Records at their places

pub record IsAt (bytes : List ℕ) (p : MbxPlace) (r : FileRecord) : Type 0 where
  pub head : p.head ≡ length (head_text r.pieces)
  pub size : p.size ≡ r.head.size
  pub words : p.words ≡ r.head.words
  pub bits : p.bits ≡ r.head.bits
  pub text : take p.size (drop (p.at + p.head) bytes) ≡ r.text
  pub whole : take (p.head + p.size) (drop p.at bytes) ≡ record_text r
  pub ends : EndsBy (length bytes) p
  pub is : IsRecord r

abbrev pub AreAt : List ℕ → List MbxPlace → List FileRecord → Type 0
AreAt bytes [] [] = Unit {0}
AreAt bytes [] (r ∷ rs) = ⊥
AreAt bytes (p ∷ ps) [] = ⊥
AreAt bytes (p ∷ ps) (r ∷ rs) = IsAt bytes p r × AreAt bytes ps rs

pub are_at : (bytes : List ℕ) (at : ℕ) (rs : List FileRecord) → AllByRecursion IsRecord rs → at ≤ length bytes → drop at bytes ≡ records_text rs → AreAt bytes (places_from at rs) rs
are_at bytes at [] are inside is = tt
are_at bytes at (r ∷ rs) are inside is =
    let split : IsSplit bytes at r (records_text rs) = split_at bytes at r (records_text rs) inside is in
    let width : length (record_text r) ≡ length (head_text r.pieces) + r.head.size = omega (arith, length-append (head_text r.pieces) r.text, are.0.long) in (
      record {
        head = refl;
        size = refl;
        words = refl;
        bits = refl;
        text = ap (take r.head.size) split.text ∙ take_front r.text (records_text rs) r.head.size are.0.long;
        whole = ap (take (length (head_text r.pieces) + r.head.size)) is ∙ take_front (record_text r) (records_text rs) (length (head_text r.pieces) + r.head.size) width;
        ends = omega (arith, split.within, width);
        is = are.0;
      },
      are_at bytes (at + length (record_text r)) rs are.1 split.within split.behind,
    )

pub ends_at : (bytes : List ℕ) (ps : List MbxPlace) (rs : List FileRecord) → AreAt bytes ps rs → AllByRecursion (EndsBy (length bytes)) ps
ends_at bytes [] [] at = tt
ends_at bytes [] (r ∷ rs) at = absurd at
ends_at bytes (p ∷ ps) [] at = absurd at
ends_at bytes (p ∷ ps) (r ∷ rs) at = (at.0.ends, ends_at bytes ps rs at.1)

pub are_records : (bytes : List ℕ) (ps : List MbxPlace) (rs : List FileRecord) → AreAt bytes ps rs → AllByRecursion IsRecord rs
are_records bytes [] [] at = tt
are_records bytes [] (r ∷ rs) at = absurd at
are_records bytes (p ∷ ps) [] at = absurd at
are_records bytes (p ∷ ps) (r ∷ rs) at = (at.0.is, are_records bytes ps rs at.1)

-- ---- What a change leaves

marks_same : (bytes : List ℕ) (p : MbxPlace) (r : FileRecord) → IsAt bytes p r → has_bit 32768 p.bits ≡ is_marked r
marks_same bytes p r at = ap (has_bit 32768) at.bits

undropped_at : (bytes : List ℕ) (place : ℕ) (places : List ℕ) (ps : List MbxPlace) (rs : List FileRecord) → AreAt bytes ps rs → AreAt bytes (undropped_places place places ps) (undropped_records place places rs)
undropped_at bytes place places [] [] at = tt
undropped_at bytes place places [] (r ∷ rs) at = absurd at
undropped_at bytes place places (p ∷ ps) [] at = absurd at
undropped_at bytes place places (p ∷ ps) (r ∷ rs) at =
    step (has_bit 32768 p.bits) (is_marked r) (marks_same bytes p r at.0) (list_any (nat_eq place) places) (undropped_at bytes place places ps rs at.1) (undropped_at bytes (place + 1) places ps rs at.1)
  where
    step : (a c : Bool) → a ≡ c → (b : Bool) → AreAt bytes (undropped_places place places ps) (undropped_records place places rs) → AreAt bytes (undropped_places (place + 1) places ps) (undropped_records (place + 1) places rs)
        → AreAt bytes (cond a (p ∷ undropped_places place places ps) (cond b (undropped_places (place + 1) places ps) (p ∷ undropped_places (place + 1) places ps)))
        (cond c (r ∷ undropped_records place places rs) (cond b (undropped_records (place + 1) places rs) (r ∷ undropped_records (place + 1) places rs)))
    step true false same b here later = absurd (false≢true (sym same))
    step false true same b here later = absurd (false≢true same)
    step true true same b here later = (at.0, here)
    step false false same true here later = later
    step false false same false here later = (at.0, later)

pub unmarked_at : (bytes : List ℕ) (ps : List MbxPlace) (rs : List FileRecord) → AreAt bytes ps rs → AreAt bytes (unmarked_places ps) (unmarked_records rs)
unmarked_at bytes [] [] at = tt
unmarked_at bytes [] (r ∷ rs) at = absurd at
unmarked_at bytes (p ∷ ps) [] at = absurd at
unmarked_at bytes (p ∷ ps) (r ∷ rs) at = step (has_bit 32768 p.bits) (is_marked r) (marks_same bytes p r at.0) (unmarked_at bytes ps rs at.1)
  where
    step : (a c : Bool) → a ≡ c → AreAt bytes (unmarked_places ps) (unmarked_records rs) → AreAt bytes (cond a (unmarked_places ps) (p ∷ unmarked_places ps)) (cond c (unmarked_records rs) (r ∷ unmarked_records rs))
    step true false same later = absurd (false≢true (sym same))
    step false true same later = absurd (false≢true same)
    step true true same later = later
    step false false same later = (at.0, later)

pub left_at : (bytes : List ℕ) (change : Change) (ps : List MbxPlace) (rs : List FileRecord) → AreAt bytes ps rs → AreAt bytes (left_places change ps) (left_records change rs)
left_at bytes (Append new words) ps rs at = at
left_at bytes (SetFlags changes words) ps rs at = at
left_at bytes (Expunge places) ps rs at = undropped_at bytes 0 places ps rs at

-- ---- Records that are written

abbrev pub IsNamed : ℕ → Info → Type 0
IsNamed names i = i.words % 2 ^ names ≡ i.words

-- records with the next messages written over them, each with the text of its record
abbrev pub refreshed_with : (names : ℕ) → FileRecord → List Info → (List Info → List FileRecord) → List FileRecord
refreshed_with names r [] later = later []
refreshed_with names r (i ∷ infos) later = written_record (hidden_words names r) (other_bits r) (record_at i (map clean_byte r.text)) ∷ later infos

abbrev pub refreshed : (names : ℕ) → List FileRecord → List Info → List FileRecord
refreshed names [] infos = []
refreshed names (r ∷ rs) infos = cond (is_marked r) (r ∷ refreshed names rs infos) (refreshed_with names r infos (refreshed names rs))

-- pieces are these records, from a byte on
pub record AreRecords (at : ℕ) (qs : List Piece) (bytes : List ℕ) (rs : List FileRecord) : Type 0 where
  pub bytes_are : bytes ≡ records_text rs
  pub places_are : places_in qs ≡ places_from at rs
  pub end_is : end_from at qs ≡ at + length (records_text rs)

-- one piece is a record
pub record IsPieceOf (at : ℕ) (q : Piece) (bytes : List ℕ) (r : FileRecord) : Type 0 where
  pub bytes_are : bytes ≡ record_text r
  pub place_is : q.place ≡ place_at at r
  pub long : length r.text ≡ r.head.size

end_there : (at : ℕ) (q : Piece) (bytes : List ℕ) (r : FileRecord) → IsPieceOf at q bytes r → end_of q ≡ at + length (record_text r)
end_there at q bytes r is = ap (λ (p : MbxPlace). p.at + p.head + p.size) is.place_is ∙ omega (arith, length-append (head_text r.pieces) r.text, is.long)

pub one_more : (at : ℕ) (q : Piece) (qs : List Piece) (first rest : List ℕ) (r : FileRecord) (rs : List FileRecord) → IsPieceOf at q first r → AreRecords (end_of q) qs rest rs → AreRecords at (q ∷ qs) (first ++ rest) (r ∷ rs)
one_more at q qs first rest r rs one others =
    let end = end_there at q first r one in
    record {
      bytes_are = ap (λ l. l ++ rest) one.bytes_are ∙ ap (λ l. record_text r ++ l) others.bytes_are;
      places_are = ap (λ p. p ∷ places_in qs) one.place_is ∙ ap (λ l. place_at at r ∷ l) (others.places_are ∙ ap (λ n. places_from n rs) end);
      end_is = omega (arith, others.end_is, end, length-append (record_text r) (records_text rs));
    }

kept_is : (bytes : List ℕ) (at : ℕ) (p : MbxPlace) (r : FileRecord) → IsAt bytes p r → IsPieceOf at (kept_piece at p) (piece_bytes bytes (kept_piece at p)) r
kept_is bytes at p r is = record { bytes_are = is.whole; place_is = λ k. record { at = at; head = is.head k; size = is.size k; words = is.words k; bits = is.bits k }; long = is.is.long }

-- the head of a message as it is written
written_wide : (words bits : ℕ) (m : Record) → head_width (length m.text) ≡ length (head_text (head_pieces (written_head words bits m)))
written_wide words bits m = omega (arith, written_size words bits m, length-append (head_text (head_pieces (written_head words bits m))) m.text)

message_is : (names : ℕ) (bytes : List ℕ) (at : ℕ) (p : MbxPlace) (r : FileRecord) (i : Info) → IsAt bytes p r → IsNamed names i
    → IsPieceOf at (message_piece at names p i) (piece_bytes bytes (message_piece at names p i)) (written_record (hidden_words names r) (other_bits r) (record_at i (map clean_byte r.text)))
message_is names bytes at p r i is named =
    let m = record_at i (map clean_byte r.text) in
    let size : p.size ≡ length (map clean_byte r.text) = is.size ∙ sym (length-map r.text clean_byte ∙ is.is.long) in
    let words : (head_over names p i).words ≡ i.words + hidden_words names r = ap (λ n. n + 2 ^ names * (p.words / 2 ^ names)) named ∙ ap (λ n. i.words + 2 ^ names * (n / 2 ^ names)) is.words in
    let bits : (head_over names p i).bits ≡ flag_bits i.flags + other_bits r = ap (λ n. flag_bits i.flags + 64 * (n / 64)) is.bits in
    let head : head_over names p i ≡ written_head (hidden_words names r) (other_bits r) m = λ k. record { stamp = i.stamp; size = size k; words = words k; bits = bits k; uid = i.uid } in
    let wide : head_width p.size ≡ length (head_text (head_pieces (written_head (hidden_words names r) (other_bits r) m))) = ap head_width size ∙ written_wide (hidden_words names r) (other_bits r) m in
    record {
      bytes_are = ap (λ h. head_text (head_pieces h) ++ map clean_byte (take p.size (drop (p.at + p.head) bytes))) head ∙ ap (λ t. head_text (head_pieces (written_head (hidden_words names r) (other_bits r) m)) ++ map clean_byte t) is.text;
      place_is = λ k. record { at = at; head = wide k; size = size k; words = words k; bits = bits k };
      long = refl;
    }

pub left_are : (names : ℕ) (bytes : List ℕ) (at : ℕ) (ps : List MbxPlace) (rs : List FileRecord) (infos : List Info) → AreAt bytes ps rs → AllByRecursion (IsNamed names) infos
    → AreRecords at (left_pieces names at ps infos) (pieces_bytes bytes (left_pieces names at ps infos)) (refreshed names rs infos)
left_are names bytes at [] [] infos stand named = record { bytes_are = refl; places_are = refl; end_is = omega arith }
left_are names bytes at [] (r ∷ rs) infos stand named = absurd stand
left_are names bytes at (p ∷ ps) [] infos stand named = absurd stand
left_are names bytes at (p ∷ ps) (r ∷ rs) infos stand named =
    step (has_bit 32768 p.bits) (is_marked r) (marks_same bytes p r stand.0) infos named (λ end infos named. left_are names bytes end ps rs infos stand.1 named)
  where
    step : (a b : Bool) → a ≡ b → (infos : List Info) → AllByRecursion (IsNamed names) infos
        → ((end : ℕ) (infos : List Info) → AllByRecursion (IsNamed names) infos → AreRecords end (left_pieces names end ps infos) (pieces_bytes bytes (left_pieces names end ps infos)) (refreshed names rs infos))
        → AreRecords at (as_list (cond a (Some (kept_piece at p)) (message_over at names p infos)) ++ left_pieces names (end_after at (cond a (Some (kept_piece at p)) (message_over at names p infos))) ps (cond a infos (drop 1 infos)))
        (pieces_bytes bytes (as_list (cond a (Some (kept_piece at p)) (message_over at names p infos)) ++ left_pieces names (end_after at (cond a (Some (kept_piece at p)) (message_over at names p infos))) ps (cond a infos (drop 1 infos))))
        (cond b (r ∷ refreshed names rs infos) (refreshed_with names r infos (refreshed names rs)))
    step true false same infos named later = absurd (false≢true (sym same))
    step false true same infos named later = absurd (false≢true same)
    step true true same infos named later =
        one_more at (kept_piece at p) (left_pieces names (end_of (kept_piece at p)) ps infos) _ _ r (refreshed names rs infos) (kept_is bytes at p r stand.0) (later (end_of (kept_piece at p)) infos named)
    step false false same [] named later = later at [] tt
    step false false same (i ∷ infos) named later =
        one_more at (message_piece at names p i) (left_pieces names (end_of (message_piece at names p i)) ps infos) _ _ _ (refreshed names rs infos) (message_is names bytes at p r i stand.0 named.0) (later (end_of (message_piece at names p i)) infos named.1)

-- ---- New messages

new_is : (names at : ℕ) (n : NewMessage) (i : Info) → IsNamed names i → IsPieceOf at (message_piece at names (new_place n) i) (head_text (head_pieces (head_over names (new_place n) i)) ++ n.text) (new_record (record_at i n.text))
new_is names at n i named =
    let m = record_at i n.text in
    let none : 2 ^ names * (0 / 2 ^ names) ≡ 0 = let zero_part : 0 / 2 ^ names ≡ 0 = zero-div (2 ^ names) in ap (λ k. 2 ^ names * k) zero_part ∙ omega arith in
    let words : (head_over names (new_place n) i).words ≡ i.words + 0 = ap (λ k. k + 2 ^ names * (0 / 2 ^ names)) named ∙ ap (λ k. i.words + k) none in
    let bits : (head_over names (new_place n) i).bits ≡ flag_bits i.flags + 0 = omega arith in
    let head : head_over names (new_place n) i ≡ written_head 0 0 m = λ k. record { stamp = i.stamp; size = length n.text; words = words k; bits = bits k; uid = i.uid } in
    let wide : head_width (length n.text) ≡ length (head_text (head_pieces (written_head 0 0 m))) = written_wide 0 0 m in
    record {
      bytes_are = ap (λ h. head_text (head_pieces h) ++ n.text) head;
      place_is = λ k. record { at = at; head = wide k; size = length n.text; words = words k; bits = bits k };
      long = refl;
    }

pub added_are : (names at : ℕ) (infos : List Info) (news : List NewMessage) → length infos ≡ length news → AllByRecursion (IsNamed names) infos
    → AreRecords at (added_pieces names at infos news) (added_bytes (added_pieces names at infos news) news) (map new_record (records_at infos (new_texts (keeps_of Mbx) news)))
added_are names at [] [] same named = record { bytes_are = refl; places_are = refl; end_is = omega arith }
added_are names at [] (n ∷ news) same named = absurd (omega (arith, same))
added_are names at (i ∷ infos) [] same named = absurd (omega (arith, same))
added_are names at (i ∷ infos) (n ∷ news) same named =
    let q = message_piece at names (new_place n) i in
    one_more at q (added_pieces names (end_of q) infos news) _ _ (new_record (record_at i n.text)) (map new_record (records_at infos (new_texts (keeps_of Mbx) news))) (new_is names at n i named.0) (added_are names (end_of q) infos news (omega (arith, same)) named.1)
