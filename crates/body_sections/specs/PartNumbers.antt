-- The part of a message that part numbers lead to (RFC 3501, section 6.4.5).
use Rattle.std.specs.Prelude.{ℕ, zero, suc, List, [], ◌∷◌, Option, Some, None}
use Rattle.std.specs.List.{slice_get}
use Rattle.mail_fields.specs.Numbers.{◌>>=◌}
use Rattle.mime_parts.specs.declared.part.Part.{Part}
use Rattle.mime_parts.specs.declared.part.Inner.{Inner, out-Inner}
use Rattle.mime_parts.specs.declared.part.Inner.TheOpen.{Inner-F, Leaf, Parts, Message}

-- what a part holds: nothing, parts, or a message
abbrev pub held : Part → Inner-F Inner Part
held part = out-Inner part.inner

-- the parts of a message: those of a multipart; what is no multipart has one part, itself
abbrev pub parts_in : Inner-F Inner Part → Part → List Part
parts_in (Parts parts) message = parts
parts_in (Message inner) message = message ∷ []
parts_in Leaf message = message ∷ []

-- the same by the part that the message is
abbrev pub parts_of : Part → List Part
parts_of message = parts_in (held message) message

-- the parts of a numbered part: those of a multipart, those of the message that a message/rfc822 part holds, and no others
abbrev pub inner_parts_in : Inner-F Inner Part → List Part
inner_parts_in (Parts parts) = parts
inner_parts_in (Message inner) = parts_of inner
inner_parts_in Leaf = []

-- the same by the part
abbrev pub inner_parts : Part → List Part
inner_parts part = inner_parts_in (held part)

-- the message that a message/rfc822 part holds
abbrev pub message_in : Inner-F Inner Part → Option Part
message_in (Message inner) = Some inner
message_in (Parts parts) = None
message_in Leaf = None

-- the same by the part
abbrev pub message_of : Part → Option Part
message_of part = message_in (held part)

-- the part of a number; parts are counted from 1
abbrev pub numbered : List Part → ℕ → Option Part
numbered parts zero = None
numbered parts (suc n) = slice_get parts n

-- the part that numbers lead to from a part with such parts
abbrev pub part_behind : List ℕ → List Part → Part → Option Part
part_behind [] parts part = Some part
part_behind (n ∷ more) parts part = numbered parts n >>= λ found. part_behind more (inner_parts found) found

-- the part that numbers lead to from a message
abbrev pub part_of : List ℕ → Part → Option Part
part_of numbers message = part_behind numbers (parts_of message) message
