-- The tokens of an address list (RFC 5322, sections 3.2.2 to 3.2.5 and 3.4.1).
use Rattle.std.specs.Prelude.{◌≡◌, ℕ, Bool, true, not, List, [], ◌∷◌, ◌++◌, ◌==◌, ◌&&◌, nat_le, codes}
use Rattle.std.specs.List.{list_any, list_all, prefix_len}
use Rattle.text_lines.specs.Blanks.{is_blank}

-- one of `<`, `>`, `@`, `,`, `;` and `:`
abbrev pub is_mark : ℕ → Bool
is_mark b = list_any (λ c. c == b) (codes "<>@,;:")

-- a byte of an atom, or a dot: 21 to FF hex without 7F hex and without `()<>@,;:\"[]`
abbrev pub is_run_byte : ℕ → Bool
is_run_byte b = nat_le 33 b && not (b == 127) && not (list_any (λ c. c == b) (codes "()<>@,;:\\\"[]"))

-- a byte that a comment has without a backslash before it, outside the comments in it
abbrev pub is_comment_byte : ℕ → Bool
is_comment_byte b = not (b == 92) && not (b == 40) && not (b == 41)

-- a byte that a quoted string has without a backslash before it
abbrev pub is_quoted_byte : ℕ → Bool
is_quoted_byte b = not (b == 34) && not (b == 92)

-- a byte of a domain literal: it ends at its first `]`
abbrev pub is_literal_byte : ℕ → Bool
is_literal_byte b = not (b == 93)

-- what a comment has between its parentheses: bytes, pairs of a backslash and a byte, and comments (ccontent of RFC 5322, section 3.2.2)
pub data IsCommentText : List ℕ → Type 0 where
  nothing : IsCommentText []
  byte : (b : ℕ) (rest : List ℕ) → is_comment_byte b ≡ true → IsCommentText rest → IsCommentText (b ∷ rest)
  pair : (b : ℕ) (rest : List ℕ) → IsCommentText rest → IsCommentText (92 ∷ b ∷ rest)
  comment : (inner rest : List ℕ) → IsCommentText inner → IsCommentText rest → IsCommentText (40 ∷ inner ++ 41 ∷ rest)

-- what a quoted string has between its quotes: bytes, and pairs of a backslash and a byte (qcontent of RFC 5322, section 3.2.4)
pub data IsQuotedText : List ℕ → Type 0 where
  nothing : IsQuotedText []
  byte : (b : ℕ) (rest : List ℕ) → is_quoted_byte b ≡ true → IsQuotedText rest → IsQuotedText (b ∷ rest)
  pair : (b : ℕ) (rest : List ℕ) → IsQuotedText rest → IsQuotedText (92 ∷ b ∷ rest)

-- atoms and dots with nothing between them; a quoted string, by what stands between its quotes; a domain literal; a mark
pub data Token : Type 0 where
  run quoted literal : List ℕ → Token
  mark : ℕ → Token

-- the tokens of a body; blanks and comments between them are skipped, and a run is as long as it can be
pub data AreTokens : List ℕ → List Token → Type 0 where
  none : AreTokens [] []
  skip_blank : (b : ℕ) (rest : List ℕ) (more : List Token) → is_blank b ≡ true
      → AreTokens rest more → AreTokens (b ∷ rest) more
  skip_comment : (inner rest : List ℕ) (more : List Token) → IsCommentText inner
      → AreTokens rest more → AreTokens (40 ∷ inner ++ 41 ∷ rest) more
  one_run : (b : ℕ) (inner rest : List ℕ) (more : List Token) → list_all is_run_byte (b ∷ inner) ≡ true → prefix_len is_run_byte rest ≡ 0
      → AreTokens rest more → AreTokens (b ∷ inner ++ rest) (run (b ∷ inner) ∷ more)
  one_quoted : (inner rest : List ℕ) (more : List Token) → IsQuotedText inner
      → AreTokens rest more → AreTokens (34 ∷ inner ++ 34 ∷ rest) (quoted inner ∷ more)
  one_literal : (inner rest : List ℕ) (more : List Token) → list_all is_literal_byte inner ≡ true
      → AreTokens rest more → AreTokens (91 ∷ inner ++ 93 ∷ rest) (literal (91 ∷ inner ++ 93 ∷ []) ∷ more)
  one_mark : (b : ℕ) (rest : List ℕ) (more : List Token) → is_mark b ≡ true
      → AreTokens rest more → AreTokens (b ∷ rest) (mark b ∷ more)

-- a body that is no row of tokens
abbrev pub HasNoTokens : List ℕ → Type 0
HasNoTokens body = (tokens : List Token) → AreTokens body tokens → ⊥

-- no other row of tokens is this body
abbrev pub AreOnlyTokens : List ℕ → List Token → Type 0
AreOnlyTokens body tokens = (other : List Token) → AreTokens body other → other ≡ tokens
