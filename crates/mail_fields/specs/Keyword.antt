-- Names of keywords (RFC 3501, section 2.3.2).
use Rattle.std.specs.Prelude.{ℕ, Bool, List, ◌+◌, ◌≤◌, ◌≡◌, ◌&&◌, not, true, if◌then◌else◌, length, map, nat_le, nat_eq, bytes_eq, codes}
use Rattle.std.specs.List.{list_all, list_any}

-- a byte that may stand in an atom (RFC 3501, section 9)
abbrev pub is_atom : ℕ → Bool
is_atom byte = nat_le 33 byte && nat_le byte 126 && not (list_any (nat_eq byte) (codes "(){%*\"\\]"))

-- a keyword's name: 1 to 64 atom bytes
pub record IsKeyword (name : List ℕ) : Type 0 where
  pub some : 1 ≤ length name
  pub few : length name ≤ 64
  pub atoms : list_all is_atom name ≡ true

-- the same as a test
abbrev pub is_keyword : List ℕ → Bool
is_keyword name = nat_le 1 (length name) && (nat_le (length name) 64 && list_all is_atom name)

-- the letter in lower case
abbrev pub lower : ℕ → ℕ
lower byte = if nat_le 65 byte && nat_le byte 90 then byte + 32 else byte

-- the same name, but for the case of its letters
abbrev pub same_keyword : List ℕ → List ℕ → Bool
same_keyword one other = bytes_eq (map lower one) (map lower other)
