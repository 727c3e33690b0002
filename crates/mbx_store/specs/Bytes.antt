-- The bytes that are written.
use Rattle.std.specs.Prelude.{ℕ, ◌+◌, ◌≤◌, List, [], ◌∷◌, ◌++◌, Option, Some, None, take, drop, map}
use Rattle.mail_types.specs.declared.message.NewMessage.{NewMessage}
use Rattle.file_store.specs.Places.{read_byte}
use Rattle.mbx_form.specs.declared.head.MbxHead.{MbxHead}
use Rattle.mbx_form.specs.Heads.{head_pieces, head_text}
use Rattle.mbx_store.specs.declared.place.MbxPlace.{MbxPlace}
use Rattle.mbx_store.specs.declared.plan.Piece.{Piece}

abbrev pub span_in : Option MbxHead → MbxPlace → ℕ
span_in None p = p.head + p.size
span_in (Some h) p = p.size

-- how many bytes of the file before stand in a record: all of it, or the text of a message
abbrev pub span_of : Piece → ℕ
span_of q = span_in q.head q.place

-- they end by a byte
abbrev pub SpanEndsBy : ℕ → Piece → Type 0
SpanEndsBy most q = q.from + span_of q ≤ most

abbrev pub bytes_in : (file : List ℕ) → ℕ → Option MbxHead → MbxPlace → List ℕ
bytes_in file from None p = take (p.head + p.size) (drop from file)
bytes_in file from (Some h) p = head_text (head_pieces h) ++ map read_byte (take p.size (drop from file))

-- the bytes of a record, by the file before
abbrev pub piece_bytes : (file : List ℕ) → Piece → List ℕ
piece_bytes file q = bytes_in file q.from q.head q.place

abbrev pub pieces_bytes : (file : List ℕ) → List Piece → List ℕ
pieces_bytes file [] = []
pieces_bytes file (q ∷ rest) = piece_bytes file q ++ pieces_bytes file rest

abbrev pub head_bytes : Option MbxHead → List ℕ
head_bytes None = []
head_bytes (Some h) = head_text (head_pieces h)

-- the bytes of new messages
abbrev pub added_bytes : List Piece → List NewMessage → List ℕ
added_bytes [] new = []
added_bytes (q ∷ rest) [] = []
added_bytes (q ∷ rest) (n ∷ new) = (head_bytes q.head ++ n.text) ++ added_bytes rest new

-- where records stand
abbrev pub places_in : List Piece → List MbxPlace
places_in [] = []
places_in (q ∷ rest) = q.place ∷ places_in rest
