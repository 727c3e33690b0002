-- A search for the end of a header, over fronts of a text that grow.
use Rattle.std.specs.Prelude.{◌≡◌, ℕ, true, List, ◌++◌, ◌+◌, ◌≤◌, length}
use Rattle.text_lines.specs.Lines.{is_open}
use Rattle.head_fields.specs.Header.{body_start_of}
use Rattle.head_fields.specs.declared.search.HeaderSearch.{HeaderSearch}
use Rattle.head_fields.specs.declared.search.FoundBody.{FoundBody}
use Rattle.head_fields.specs.declared.search.FoundBody.TheVariants.{At, Open}

-- header lines: whatever follows them, the body begins as far behind them as in what follows alone
abbrev pub IsHeader : List ℕ → Type 0
IsHeader front = (more : List ℕ) → body_start_of (front ++ more) ≡ length front + body_start_of more

-- what a search knows of a front: header lines, behind them the begun line that was looked at, and what wasn't looked at
pub record IsSearched (front : List ℕ) (search : HeaderSearch) : Type 0 where
  pub header : List ℕ
  pub begun : List ℕ
  pub rest : List ℕ
  pub whole : front ≡ header ++ (begun ++ rest)
  pub is_header : IsHeader header
  pub no_feed : is_open begun ≡ true
  pub line : search.line ≡ length header
  pub seen : search.seen ≡ length header + length begun

-- whatever follows the front, the body begins at this offset, which is in the front
pub record BodyAt (front : List ℕ) (at : ℕ) : Type 0 where
  pub within : at ≤ length front
  pub body : (more : List ℕ) → body_start_of (front ++ more) ≡ at

-- what a search finds in a front: where the body begins, or that it goes on; a text that is no more than the front is header alone then
abbrev pub IsFound : List ℕ → FoundBody → Type 0
IsFound front (At at) = BodyAt front at
IsFound front (Open search) = IsSearched front search × (body_start_of front ≡ length front)
