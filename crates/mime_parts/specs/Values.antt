-- The values of content fields, as they stand in the header (RFC 2045, section 5.1).
use Rattle.std.specs.Prelude.{◌≡◌, ℕ, Bool, true, false, not, List, [], ◌∷◌, ◌++◌, ◌==◌, ◌||◌, ◌&&◌, ◌<◌, nat_le, codes, length}
use Rattle.std.specs.List.{list_any, list_all, prefix_len}
use Rattle.addr_list.specs.Tokens.{IsCommentText, IsQuotedText}
use Rattle.addr_list.specs.Addresses.{unquoted}

-- a byte of a token: 21 to 7E hex without `()<>@,;:\"/[]?=`
abbrev pub is_token_byte : ℕ → Bool
is_token_byte b = nat_le 33 b && nat_le b 126 && not (list_any (λ c. c == b) (codes "()<>@,;:\\\"/[]?="))

-- a token
pub record IsToken (bytes : List ℕ) : Type 0 where
  pub some : 0 < length bytes
  pub all : list_all is_token_byte bytes ≡ true

-- no token goes on here
abbrev pub EndsToken : List ℕ → Type 0
EndsToken rest = prefix_len is_token_byte rest ≡ 0

-- a space, a tab, or a byte of a line end
abbrev pub is_white : ℕ → Bool
is_white b = (b == 32) || (b == 9) || (b == 13) || (b == 10)

-- what may stand between tokens: white space and comments (RFC 5322, section 3.2.2)
pub data IsSkipped : List ℕ → Type 0 where
  nothing : IsSkipped []
  white : (b : ℕ) (rest : List ℕ) → is_white b ≡ true → IsSkipped rest → IsSkipped (b ∷ rest)
  comment : (inner rest : List ℕ) → IsCommentText inner → IsSkipped rest → IsSkipped (40 ∷ inner ++ 41 ∷ rest)

-- nothing more is skipped here
abbrev pub EndsSkipped : List ℕ → Type 0
EndsSkipped text = (front rest : List ℕ) → text ≡ front ++ rest → IsSkipped front → front ≡ []

-- a byte at the front of a text, behind what is skipped, and what stands behind it
pub record BeginsMark (b : ℕ) (text rest : List ℕ) : Type 0 where
  pub before : List ℕ
  pub skipped : IsSkipped before
  pub whole : text ≡ before ++ b ∷ rest

-- a token at the front of a text, behind what is skipped, and what stands behind it
pub record BeginsToken (text token rest : List ℕ) : Type 0 where
  pub before : List ℕ
  pub skipped : IsSkipped before
  pub is_token : IsToken token
  pub ended : EndsToken rest
  pub whole : text ≡ before ++ (token ++ rest)

-- a quoted value behind its first quote, and what stands behind its last
pub record EndsQuoted (text value rest : List ℕ) : Type 0 where
  pub inner : List ℕ
  pub is_text : IsQuotedText inner
  pub whole : text ≡ inner ++ 34 ∷ rest
  pub meant : value ≡ unquoted inner

-- the value of a parameter at the front of a text, and what stands behind it: a token, or a quoted value without its quotes and without the backslash of each pair
pub data BeginsValue : List ℕ → List ℕ → List ℕ → Type 0 where
  token_value : (text value rest : List ℕ) → BeginsToken text value rest → BeginsValue text value rest
  quoted_value : (text behind value rest : List ℕ) → BeginsMark 34 text behind → EndsQuoted behind value rest → BeginsValue text value rest

-- a parameter at the front of a text: `;`, a name, `=` and a value (RFC 2045, section 5.1)
pub record BeginsParameter (text name value rest : List ℕ) : Type 0 where
  pub behind : List ℕ
  pub between : List ℕ
  pub after : List ℕ
  pub begins : BeginsMark 59 text behind
  pub is_name : BeginsToken behind name between
  pub equals : BeginsMark 61 between after
  pub is_value : BeginsValue after value rest

-- no parameter stands at the front of a text
abbrev pub HasNoParameter : List ℕ → Type 0
HasNoParameter text = (name value rest : List ℕ) → BeginsParameter text name value rest → ⊥

-- the parameters at the front of a text; they end where one can't be read
pub data HasParameters : List ℕ → List (List ℕ × List ℕ) → Type 0 where
  ends : (text : List ℕ) → HasNoParameter text → HasParameters text []
  next : (text name value rest : List ℕ) (more : List (List ℕ × List ℕ)) → BeginsParameter text name value rest → HasParameters rest more
      → HasParameters text ((name, value) ∷ more)

-- a token that a value begins with
pub record BeginsWith (value token : List ℕ) : Type 0 where
  pub rest : List ℕ
  pub is : BeginsToken value token rest

-- a media type: a type, `/`, a subtype and parameters (RFC 2045, section 5.1)
pub record IsMedia (value kind subkind : List ℕ) (params : List (List ℕ × List ℕ)) : Type 0 where
  pub between : List ℕ
  pub behind : List ℕ
  pub rest : List ℕ
  pub is_kind : BeginsToken value kind between
  pub slash : BeginsMark 47 between behind
  pub is_subkind : BeginsToken behind subkind rest
  pub is_params : HasParameters rest params

-- a disposition: its kind and parameters (RFC 2183, section 2)
pub record IsDisposition (value kind : List ℕ) (params : List (List ℕ × List ℕ)) : Type 0 where
  pub rest : List ℕ
  pub is_kind : BeginsToken value kind rest
  pub is_params : HasParameters rest params

-- languages: tokens with commas between them, and nothing else (RFC 3282, section 2)
pub data AreLanguages : List ℕ → List (List ℕ) → Type 0 where
  last : (value token behind : List ℕ) → BeginsToken value token behind → IsSkipped behind → AreLanguages value (token ∷ [])
  comma : (value token behind rest : List ℕ) (more : List (List ℕ)) → BeginsToken value token behind → BeginsMark 44 behind rest → AreLanguages rest more
      → AreLanguages value (token ∷ more)

-- texts that are none of these
abbrev pub HasNoMark : ℕ → List ℕ → Type 0
HasNoMark b text = (rest : List ℕ) → BeginsMark b text rest → ⊥

abbrev pub HasNoToken : List ℕ → Type 0
HasNoToken text = (token rest : List ℕ) → BeginsToken text token rest → ⊥

abbrev pub HasNoEnd : List ℕ → Type 0
HasNoEnd text = (value rest : List ℕ) → EndsQuoted text value rest → ⊥

abbrev pub HasNoValue : List ℕ → Type 0
HasNoValue text = (value rest : List ℕ) → BeginsValue text value rest → ⊥

abbrev pub IsNoMedia : List ℕ → Type 0
IsNoMedia value = (kind subkind : List ℕ) (params : List (List ℕ × List ℕ)) → IsMedia value kind subkind params → ⊥

abbrev pub IsNoDisposition : List ℕ → Type 0
IsNoDisposition value = (kind : List ℕ) (params : List (List ℕ × List ℕ)) → IsDisposition value kind params → ⊥

abbrev pub AreNoLanguages : List ℕ → Type 0
AreNoLanguages value = (tokens : List (List ℕ)) → AreLanguages value tokens → ⊥

-- a byte that stands between tokens: it is neither skipped nor does it begin a comment
pub record IsMark (b : ℕ) : Type 0 where
  pub dark : is_white b ≡ false
  pub no_comment : (b == 40) ≡ false
