-- What a change makes of the places of a file.
use Rattle.std.specs.Prelude.{ℕ, ◌+◌, ◌-◌, ◌*◌, ◌/◌, ◌%◌, ◌^◌, ◌≡◌, ◌≤◌, ◌&&◌, ◌||◌, Bool, false, not, nat_lt, nat_eq, List, [], ◌∷◌, ◌++◌, Option, Some, None, if◌then◌else◌, decimal, length, take, drop}
use Rattle.std.specs.List.{AllByRecursion, list_any}
use Rattle.mail_types.specs.declared.message.NewMessage.{NewMessage}
use Rattle.mail_types.specs.Flags.{flag_bits, has_bit}
use Rattle.mail_types.specs.Limits.{file_limit}
use Rattle.store_trait.specs.declared.change.Change.{Change}
use Rattle.store_trait.specs.declared.change.Change.TheVariants.{Append, SetFlags, Expunge}
use Rattle.store_trait.specs.declared.store.Info.{Info}
use Rattle.mbx_form.specs.declared.head.MbxHead.{MbxHead}
use Rattle.mbx_form.specs.Form.{is_append}
use Rattle.mbx_store.specs.declared.place.MbxPlace.{MbxPlace}
use Rattle.mbx_store.specs.declared.plan.Piece.{Piece}
use Rattle.mbx_store.specs.declared.plan.Plan.{Plan}

-- ---- Lengths

-- the length of the head of a message of a size
abbrev pub head_width : ℕ → ℕ
head_width size = 51 + length (decimal size)

-- the bytes of messages of these sizes
abbrev pub infos_size : List Info → ℕ
infos_size [] = 0
infos_size (i ∷ rest) = head_width i.size + i.size + infos_size rest

-- ---- One record

-- the head of a message in the place of a record, whose hidden bits stay
abbrev pub head_over : (names : ℕ) → MbxPlace → Info → MbxHead
head_over names old i = record { stamp = i.stamp; size = old.size; words = i.words % 2 ^ names + 2 ^ names * (old.words / 2 ^ names); bits = flag_bits i.flags + 64 * (old.bits / 64); uid = i.uid }

-- a record that is no message
abbrev pub kept_piece : (at : ℕ) → MbxPlace → Piece
kept_piece at old = record { from = old.at; head = None; place = record old { at = at } }

-- a message in the place of a record
abbrev pub message_piece : (at names : ℕ) → MbxPlace → Info → Piece
message_piece at names old i =
    let h = head_over names old i in
    record { from = old.at + old.head; head = Some h; place = record { at = at; head = head_width old.size; size = old.size; words = h.words; bits = h.bits } }

-- the byte behind a record
abbrev pub end_of : Piece → ℕ
end_of q = q.place.at + q.place.head + q.place.size

-- ---- All records

abbrev pub message_over : (at names : ℕ) → MbxPlace → List Info → Option Piece
message_over at names old [] = None
message_over at names old (i ∷ rest) = Some (message_piece at names old i)

-- what stands in the place of a record: itself where it is no message, or the next message
abbrev pub next_piece : (at names : ℕ) → MbxPlace → List Info → Option Piece
next_piece at names old rest = if has_bit 32768 old.bits then Some (kept_piece at old) else message_over at names old rest

-- the messages that come behind it
abbrev pub behind : MbxPlace → List Info → List Info
behind old rest = if has_bit 32768 old.bits then rest else drop 1 rest

abbrev pub as_list : Option Piece → List Piece
as_list None = []
as_list (Some q) = q ∷ []

abbrev pub end_after : ℕ → Option Piece → ℕ
end_after at None = at
end_after at (Some q) = end_of q

-- messages in the places of records, from a byte on
abbrev pub left_pieces : (names at : ℕ) → List MbxPlace → List Info → List Piece
left_pieces names at [] infos = []
left_pieces names at (old ∷ olds) infos = as_list (next_piece at names old infos) ++ left_pieces names (end_after at (next_piece at names old infos)) olds (behind old infos)

-- the byte behind all records
abbrev pub end_from : ℕ → List Piece → ℕ
end_from at [] = at
end_from at (q ∷ rest) = end_from (end_of q) rest

-- a message that stood nowhere
abbrev pub new_place : NewMessage → MbxPlace
new_place new = record { at = 0; head = 0; size = length new.text; words = 0; bits = 0 }

-- new messages, from a byte on
abbrev pub added_pieces : (names at : ℕ) → List Info → List NewMessage → List Piece
added_pieces names at [] new = []
added_pieces names at (i ∷ infos) [] = []
added_pieces names at (i ∷ infos) (n ∷ new) = message_piece at names (new_place n) i ∷ added_pieces names (end_of (message_piece at names (new_place n) i)) infos new

-- a record of the file that is written has room to end
abbrev pub HasRoom : Piece → Type 0
HasRoom q = end_of q ≤ 2 ^ 62

-- ---- What a change leaves of the places

abbrev pub undropped_places : (place : ℕ) → List ℕ → List MbxPlace → List MbxPlace
undropped_places place places [] = []
undropped_places place places (p ∷ rest) =
    if has_bit 32768 p.bits then p ∷ undropped_places place places rest
    else (if list_any (nat_eq place) places then undropped_places (place + 1) places rest else p ∷ undropped_places (place + 1) places rest)

abbrev pub unmarked_places : List MbxPlace → List MbxPlace
unmarked_places [] = []
unmarked_places (p ∷ rest) = if has_bit 32768 p.bits then unmarked_places rest else p ∷ unmarked_places rest

abbrev pub left_places : Change → List MbxPlace → List MbxPlace
left_places (Append new words) ps = ps
left_places (SetFlags changes words) ps = ps
left_places (Expunge places) ps = undropped_places 0 places ps

abbrev pub added_by : Change → List NewMessage
added_by (Append new words) = new
added_by (SetFlags changes words) = []
added_by (Expunge places) = []

-- whether the first of rising places is this one
abbrev pub is_dropped : (number : ℕ) → List ℕ → Bool
is_dropped number [] = false
is_dropped number (p ∷ rest) = nat_eq number p

-- whether a record stays, where the next message has this number
abbrev pub is_kept : MbxPlace → (number : ℕ) → List ℕ → Bool
is_kept old number rest = has_bit 32768 old.bits || not (is_dropped number rest)

-- ---- The plan

-- the messages that were there
abbrev pub old_infos : List Info → List NewMessage → List Info
old_infos infos new = take (length infos - length new) infos

-- and the new ones
abbrev pub new_infos : List Info → List NewMessage → List Info
new_infos infos new = drop (length infos - length new) infos

-- how long the file is
abbrev pub planned_long : (names : ℕ) → List MbxPlace → List Info → List NewMessage → ℕ
planned_long names olds infos new =
    let end = end_from 2048 (left_pieces names 2048 olds (old_infos infos new)) in
    end_from end (added_pieces names end (new_infos infos new) new)

-- the records of the file: those that are left, and new ones
pub record IsPlan (names : ℕ) (olds : List MbxPlace) (infos : List Info) (new : List NewMessage) (p : Plan) : Type 0 where
  pub left_is : p.left.items ≡ left_pieces names 2048 olds (old_infos infos new)
  pub added_is : p.added.items ≡ added_pieces names (end_from 2048 (left_pieces names 2048 olds (old_infos infos new))) (new_infos infos new) new
  pub long_is : p.long ≡ planned_long names olds infos new
  pub left_room : AllByRecursion HasRoom p.left.items
  pub added_room : AllByRecursion HasRoom p.added.items

-- an append drops the records that are no messages where the file would else be too long
abbrev pub chosen_places : (names : ℕ) → Change → List MbxPlace → List Info → List MbxPlace
chosen_places names change olds infos =
    if is_append change && nat_lt file_limit (planned_long names olds infos (added_by change)) then unmarked_places olds else olds
