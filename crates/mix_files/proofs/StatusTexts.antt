-- A record of a status as it is written, read again.
use Rattle.std.proofs.Common.{◌≡◌, ℕ, ◌<◌, ◌^◌, List, ◌++◌, length-append, append_assoc, Some, refl, ap, ◌∙◌, arith}
use Rattle.mix_records.specs.Fields.{hex_text, record_end}
use Rattle.mix_records.specs.Records.{IsReadAgain}
use Rattle.mix_records.proofs.FieldTexts.{hex-reads, end-reads}
use Rattle.mix_files.specs.declared.status.Status.{Status}
use Rattle.mix_files.specs.Statuses.{status_at_front, status_form, status_text}

grouped : (uid words bits modseq end rest : List ℕ) → uid ++ words ++ bits ++ modseq ++ end ++ rest ≡ uid ++ (words ++ (bits ++ (modseq ++ (end ++ rest))))
grouped uid words bits modseq end rest = simp append_assoc

front-reads : (status : Status) (rest : List ℕ) → status.uid < 2 ^ 32 → status.words < 2 ^ 32 → status.bits < 2 ^ 16 → status.modseq < 2 ^ 32
    → status_at_front (hex_text 8 status.uid ++ (hex_text 8 status.words ++ (hex_text 4 status.bits ++ (hex_text 8 status.modseq ++ (record_end ++ rest))))) ≡ Some (status, rest)
unfolding status_at_front
front-reads status rest uid words bits modseq =
    rw (hex-reads 8 status.uid _ uid, hex-reads 8 status.words _ words, hex-reads 4 status.bits _ bits, hex-reads 8 status.modseq _ modseq, end-reads rest) refl

pub status-again : (status : Status) → status.uid < 2 ^ 32 → status.words < 2 ^ 32 → status.bits < 2 ^ 16 → status.modseq < 2 ^ 32 → IsReadAgain status_form status
unfolding status_text
status-again status uid words bits modseq =
    record {
      some = omega (arith, length-append (hex_text 8 status.uid ++ hex_text 8 status.words ++ hex_text 4 status.bits ++ hex_text 8 status.modseq) record_end);
      front = λ rest.
          ap status_at_front (grouped (hex_text 8 status.uid) (hex_text 8 status.words) (hex_text 4 status.bits) (hex_text 8 status.modseq) record_end rest)
          ∙ front-reads status rest uid words bits modseq;
    }
