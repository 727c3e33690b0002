-- An entry as it is written, read again.
use Rattle.std.proofs.Common.{◌≡◌, ℕ, ◌<◌, ◌^◌, List, ◌++◌, length-append, append_assoc, Some, refl, sym, ap, ◌∙◌, arith}
use Rattle.mail_fields.specs.Stamps.{StampParts}
use Rattle.mix_records.specs.Fields.{hex_text, date_at_front, date_text, record_end}
use Rattle.mix_records.specs.Records.{IsReadAgain}
use Rattle.mix_records.proofs.FieldTexts.{hex-reads, end-reads}
use Rattle.mix_index.specs.Entries.{EntryParts, place_at_front, entry_at_front, entry_form, entry_text}

grouped : (uid stamp size file place head field end rest : List ℕ)
    → uid ++ stamp ++ size ++ file ++ place ++ head ++ field ++ end ++ rest ≡ uid ++ (stamp ++ (size ++ (file ++ (place ++ (head ++ (field ++ (end ++ rest)))))))
grouped uid stamp size file place head field end rest = simp append_assoc

-- the numbers of an entry fit their widths, its head is 45, and its date is read again
pub record CanStand (entry : EntryParts) : Type 0 where
  pub uid : entry.uid < 2 ^ 32
  pub size : entry.size < 2 ^ 32
  pub file : entry.file < 2 ^ 32
  pub place : entry.place < 2 ^ 32
  pub field : entry.field < 2 ^ 32
  pub head : entry.head ≡ 45
  pub date : (rest : List ℕ) → date_at_front (date_text entry.stamp ++ rest) ≡ Some (entry.stamp, rest)

place-reads : (file place field : ℕ) (rest : List ℕ) → file < 2 ^ 32 → place < 2 ^ 32 → field < 2 ^ 32
    → place_at_front (hex_text 8 file ++ (hex_text 8 place ++ (hex_text 8 45 ++ (hex_text 8 field ++ (record_end ++ rest))))) ≡ Some (file, place, field, rest)
unfolding place_at_front
place-reads file place field rest small_file small_place small_field =
    rw (hex-reads 8 file _ small_file, hex-reads 8 place _ small_place, hex-reads 8 45 _ (omega arith), hex-reads 8 field _ small_field, end-reads rest) refl

front-reads : (uid : ℕ) (stamp : StampParts) (size file place field : ℕ) (rest : List ℕ) → uid < 2 ^ 32 → size < 2 ^ 32 → file < 2 ^ 32 → place < 2 ^ 32 → field < 2 ^ 32
    → ((rest : List ℕ) → date_at_front (date_text stamp ++ rest) ≡ Some (stamp, rest))
    → entry_at_front (hex_text 8 uid ++ (date_text stamp ++ (hex_text 8 size ++ (hex_text 8 file ++ (hex_text 8 place ++ (hex_text 8 45 ++ (hex_text 8 field ++ (record_end ++ rest))))))))
    ≡ Some (record { uid = uid; stamp = stamp; size = size; file = file; place = place; head = 45; field = field }, rest)
unfolding entry_at_front
front-reads uid stamp size file place field rest small_uid small_size small_file small_place small_field date =
    rw (hex-reads 8 uid _ small_uid, date _, hex-reads 8 size _ small_size, place-reads file place field rest small_file small_place small_field) refl

pub entry-again : (entry : EntryParts) → CanStand entry → IsReadAgain entry_form entry
unfolding entry_text
entry-again entry can =
    record {
      some = omega (
        arith,
        length-append (hex_text 8 entry.uid ++ date_text entry.stamp ++ hex_text 8 entry.size ++ hex_text 8 entry.file ++ hex_text 8 entry.place ++ hex_text 8 entry.head ++ hex_text 8 entry.field) record_end,
      );
      front = λ rest.
          ap entry_at_front (grouped (hex_text 8 entry.uid) (date_text entry.stamp) (hex_text 8 entry.size) (hex_text 8 entry.file) (hex_text 8 entry.place) (hex_text 8 entry.head) (hex_text 8 entry.field) record_end rest)
          ∙ ap (λ head. entry_at_front (hex_text 8 entry.uid ++ (date_text entry.stamp ++ (hex_text 8 entry.size ++ (hex_text 8 entry.file ++ (hex_text 8 entry.place ++ (hex_text 8 head ++ (hex_text 8 entry.field ++ (record_end ++ rest))))))))) can.head
          ∙ front-reads entry.uid entry.stamp entry.size entry.file entry.place entry.field rest can.uid can.size can.file can.place can.field can.date
          ∙ ap (λ head. Some (record { uid = entry.uid; stamp = entry.stamp; size = entry.size; file = entry.file; place = entry.place; head = head; field = entry.field }, rest)) (sym can.head);
    }
