-- Tags (RFC 3501, section 9, tag).
use Rattle.std.specs.Prelude.{ℕ, Bool, List, ◌==◌, ◌&&◌, ◌||◌, not, if◌then◌else◌, Option, Some, None, nat_le, length, take, drop}
use Rattle.std.specs.List.{prefix_len}
use Rattle.mail_fields.specs.Keyword.{is_atom}
use Rattle.imap_arguments.specs.Tokens.{begins}

-- a byte of a tag: an atom byte that isn't `+`
abbrev pub is_tag_byte : ℕ → Bool
is_tag_byte b = is_atom b && not (b == 43)

-- the tag at the front of a command, where a space or the end stands behind it
unfoldable pub tag_of : List ℕ → Option (List ℕ)
tag_of bytes =
    let width = prefix_len is_tag_byte bytes in
    if nat_le 1 width && nat_le width 64 && ((width == length bytes) || begins 32 (drop width bytes)) then Some (take width bytes) else None
