-- The first piece of a body, as it is found from the left; `Tokens` says what a piece is.
use Rattle.std.specs.Prelude.{ℕ, suc, zero, Bool, true, false, List, [], ◌∷◌, ◌==◌, ◌+◌, ◌-◌, if◌then◌else◌, Option, Some, None, length, take, nat_lt}
use Rattle.std.specs.List.{prefix_len}
use Rattle.text_lines.specs.Blanks.{is_blank}
use Rattle.addr_list.specs.Tokens.{Token, run, quoted, literal, mark, is_mark, is_run_byte, is_literal_byte}
use Rattle.addr_list.specs.declared.token.Token as found
use Rattle.addr_list.specs.declared.token.Token.TheVariants as is

-- one byte more
abbrev pub one_more : Option ℕ → Option ℕ
one_more None = None
one_more (Some n) = Some (suc n)

-- the bytes before the parenthesis that closes a comment, so deep in comments, behind a backslash or not
abbrev pub comment_len : Bool → ℕ → List ℕ → Option ℕ
comment_len escaped depth [] = None
comment_len true depth (b ∷ rest) = one_more (comment_len false depth rest)
comment_len false depth (b ∷ rest) =
    if b == 92 then one_more (comment_len true depth rest)
    else if b == 40 then one_more (comment_len false (suc depth) rest)
    else if b == 41 then (if depth == 0 then Some zero else one_more (comment_len false (depth - 1) rest))
    else one_more (comment_len false depth rest)

-- the bytes before the quote that closes a quoted string, behind a backslash or not
abbrev pub quotes_len : Bool → List ℕ → Option ℕ
quotes_len escaped [] = None
quotes_len true (b ∷ rest) = one_more (quotes_len false rest)
quotes_len false (b ∷ rest) = if b == 34 then Some zero else one_more (quotes_len (b == 92) rest)

-- a piece: its length, and its token unless it is skipped
abbrev pub Piece : Type 0
Piece = ℕ × Option Token

-- a comment behind its opening parenthesis
abbrev pub comment_piece : Option ℕ → Option Piece
comment_piece None = None
comment_piece (Some n) = Some (n + 2, None)

-- a quoted string, by what stands behind its first quote
abbrev pub quoted_piece : List ℕ → Option ℕ → Option Piece
quoted_piece rest None = None
quoted_piece rest (Some n) = Some (n + 2, Some (quoted (take n rest)))

-- the bytes before the first bracket that closes a domain literal
unfoldable pub literal_len : List ℕ → Option ℕ
literal_len rest = let n = prefix_len is_literal_byte rest in if nat_lt n (length rest) then Some n else None

-- a domain literal, by what stands behind its opening bracket
abbrev pub literal_piece : List ℕ → Option ℕ → Option Piece
literal_piece rest None = None
literal_piece rest (Some n) = Some (n + 2, Some (literal (take (n + 2) (91 ∷ rest))))

-- the longest run
abbrev pub run_piece : List ℕ → Piece
run_piece body = let n = prefix_len is_run_byte body in (n, Some (run (take n body)))

-- the first piece of a body
unfoldable pub piece_of : List ℕ → Option Piece
piece_of [] = None
piece_of (b ∷ rest) =
    if is_blank b then Some (1, None)
    else if b == 40 then comment_piece (comment_len false 0 rest)
    else if b == 34 then quoted_piece rest (quotes_len false rest)
    else if b == 91 then literal_piece rest (literal_len rest)
    else if is_mark b then Some (1, Some (mark b))
    else if is_run_byte b then Some (run_piece (b ∷ rest))
    else None

-- a token as the reader holds it
abbrev pub token_of : found.Token → Token
token_of (is.Run bytes) = run bytes.now
token_of (is.Quoted bytes) = quoted bytes.now
token_of (is.Literal bytes) = literal bytes.now
token_of (is.Mark b) = mark b
