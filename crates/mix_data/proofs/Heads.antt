-- Heads as they are written, read again.
use Rattle.std.proofs.Common.{◌≡◌, ℕ, ◌+◌, ◌<◌, ◌≤◌, ◌^◌, ◌≢◌, List, ◌∷◌, ◌++◌, length, take, drop, codes, Some, refl, ap, sym, ◌∙◌, arith, append_assoc, length-append}
use Rattle.std.proofs.lemmas.Bool.{ne_eqb}
use Rattle.std.proofs.lemmas.List.{take_at, drop_at}
use Rattle.mail_fields.specs.Numbers.{digits_in}
use Rattle.mail_fields.specs.Stamps.{StampParts}
use Rattle.mail_fields.specs.MixDate.{mix_date_of, mix_date_text}
use Rattle.mail_fields.specs.Texts.{written_at}
use Rattle.mail_fields.proofs.Texts.{read-written}
use Rattle.mail_fields.proofs.Digits.{length-digits_in}
use Rattle.mix_records.specs.Fields.{hex_text, date_at_front, date_text, record_end}
use Rattle.mix_records.proofs.FieldTexts.{hex-reads, end-reads}
use Rattle.mix_data.specs.Scans.{HeadParts, head_of, head_text, word_at_front}

-- a text that is written over one of its length between two others
written_between : (buffer front old rest text : List ℕ) (place : ℕ) → buffer ≡ front ++ old ++ rest → length front ≡ place → length text ≡ length old → written_at buffer place text ≡ front ++ text ++ rest
unfolding written_at
written_between buffer front old rest text place is before long =
    let start : take place (front ++ old ++ rest) ≡ front = ap (take place) (append_assoc front old rest) ∙ take_at front (old ++ rest) place before in
    let end : drop (place + length text) (front ++ old ++ rest) ≡ rest = drop_at (front ++ old) rest (place + length text) (omega (arith, length-append front old)) in
    (λ i. take place (is i) ++ text ++ drop (place + length text) (is i)) ∙ (λ i. start i ++ text ++ end i)

-- the three parts are written in their places
pub head_written : (first second third uid date size : List ℕ) → first ≡ written_at (codes ":msg:00000000:00000000000000+0000:00000000:\r\n") 5 uid → second ≡ written_at first 14 date → third ≡ written_at second 34 size
    → length uid ≡ 8 → length date ≡ 19 → length size ≡ 8
    → third ≡ codes ":msg" ++ (58 ∷ uid) ++ (58 ∷ date) ++ (58 ∷ size) ++ record_end
head_written first second third uid date size one two three u d s =
    let a : first ≡ codes ":msg:" ++ uid ++ codes ":00000000000000+0000:00000000:\r\n" =
    one ∙ written_between _ (codes ":msg:") (codes "00000000") (codes ":00000000000000+0000:00000000:\r\n") uid 5 refl refl u in
    let b : second ≡ (codes ":msg:" ++ uid ++ codes ":") ++ date ++ codes ":00000000:\r\n" =
    two ∙ written_between first (codes ":msg:" ++ uid ++ codes ":") (codes "00000000000000+0000") (codes ":00000000:\r\n") date 14
    (a ∙ simp append_assoc) (omega (arith, length-append (codes ":msg:") uid, length-append (codes ":msg:" ++ uid) (codes ":"))) d in
    let c : third ≡ ((codes ":msg:" ++ uid ++ codes ":") ++ date ++ codes ":") ++ size ++ codes ":\r\n" =
    three ∙ written_between second ((codes ":msg:" ++ uid ++ codes ":") ++ date ++ codes ":") (codes "00000000") (codes ":\r\n") size 34
    (b ∙ simp append_assoc) (omega (arith, length-append (codes ":msg:") uid, length-append (codes ":msg:" ++ uid) (codes ":"), length-append (codes ":msg:" ++ uid ++ codes ":") date, length-append ((codes ":msg:" ++ uid ++ codes ":") ++ date) (codes ":"))) s in
    c ∙ simp append_assoc

grouped : (word uid date size end rest : List ℕ) → word ++ uid ++ date ++ size ++ end ++ rest ≡ word ++ (uid ++ (date ++ (size ++ (end ++ rest))))
grouped word uid date size end rest = simp append_assoc

-- the numbers of a head fit their widths, its UID isn't 0, and its date is read again
pub record CanStand (head : HeadParts) : Type 0 where
  pub some : head.uid ≢ 0
  pub uid : head.uid < 2 ^ 32
  pub size : head.size < 2 ^ 32
  pub date : (rest : List ℕ) → date_at_front (date_text head.stamp ++ rest) ≡ Some (head.stamp, rest)

parts-read : (uid size : ℕ) (stamp : StampParts) (rest : List ℕ) → uid ≢ 0 → uid < 2 ^ 32 → size < 2 ^ 32 → ((rest : List ℕ) → date_at_front (date_text stamp ++ rest) ≡ Some (stamp, rest))
    → head_of (codes ":msg" ++ (hex_text 8 uid ++ (date_text stamp ++ (hex_text 8 size ++ (record_end ++ rest))))) ≡ Some (record { uid = uid; stamp = stamp; size = size })
unfolding head_of word_at_front
parts-read uid size stamp rest some small_uid small_size date =
    rw (hex-reads 8 uid _ small_uid, date _, hex-reads 8 size _ small_size, end-reads rest, ne_eqb uid 0 some) refl

-- the head is read again, whatever stands behind it
pub head-reads : (head : HeadParts) (rest : List ℕ) → CanStand head → head_of (head_text head ++ rest) ≡ Some head
unfolding head_text
head-reads head rest can =
    ap head_of (grouped (codes ":msg") (hex_text 8 head.uid) (date_text head.stamp) (hex_text 8 head.size) record_end rest)
    ∙ parts-read head.uid head.size head.stamp rest can.some can.uid can.size can.date

pub head_is : (first second third : List ℕ) (head : HeadParts) (wide_uid wide_size : ℕ)
    → first ≡ written_at (codes ":msg:00000000:00000000000000+0000:00000000:\r\n") 5 (digits_in 16 8 wide_uid) → second ≡ written_at first 14 (mix_date_text head.stamp)
    → third ≡ written_at second 34 (digits_in 16 8 wide_size) → wide_uid ≡ head.uid → wide_size ≡ head.size → length (mix_date_text head.stamp) ≡ 19 → third ≡ head_text head
unfolding head_text hex_text date_text
head_is first second third head wide_uid wide_size one two three uid size long =
    head_written first second third (digits_in 16 8 wide_uid) (mix_date_text head.stamp) (digits_in 16 8 wide_size) one two three (length-digits_in 16 8 wide_uid) long (length-digits_in 16 8 wide_size)
    ∙ (λ i. codes ":msg" ++ (58 ∷ digits_in 16 8 (uid i)) ++ (58 ∷ mix_date_text head.stamp) ++ (58 ∷ digits_in 16 8 (size i)) ++ record_end)

-- a date that was written in a buffer is read again
pub date_there : (buffer new : List ℕ) (stamp : StampParts) → 14 ≤ length buffer → new ≡ written_at buffer 14 (mix_date_text stamp) → length (mix_date_text stamp) ≡ 19 → mix_date_of (take 19 (drop 14 new)) ≡ Some stamp
    → mix_date_of (mix_date_text stamp) ≡ Some stamp
date_there buffer new stamp room is long reads =
    let text = mix_date_text stamp in
    let stands : take 19 (drop 14 new) ≡ text = ap (λ b. take 19 (drop 14 b)) is ∙ ap (λ n. take n (drop 14 (written_at buffer 14 text))) (sym long) ∙ read-written buffer text 14 room in
    ap mix_date_of (sym stands) ∙ reads
