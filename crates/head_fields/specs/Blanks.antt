-- Bytes without the spaces and tabs at their ends.
use Rattle.std.specs.Prelude.{ℕ, List, ◌-◌, length, take, drop}
use Rattle.std.specs.List.{prefix_len, suffix_len}
use Rattle.text_lines.specs.Blanks.{is_blank}

-- the bytes without the blanks that they begin with
abbrev pub trim_start : List ℕ → List ℕ
trim_start bytes = drop (prefix_len is_blank bytes) bytes

-- the bytes without the blanks that they end in
abbrev pub trim_end : List ℕ → List ℕ
trim_end bytes = take (length bytes - suffix_len is_blank bytes) bytes
