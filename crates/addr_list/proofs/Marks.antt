-- Marks among tokens, and what has none.
use Rattle.std.proofs.Common.{◌≡◌, ◌∙◌, ◌+◌, ◌<◌, ℕ, suc, Bool, true, not, List, [], ◌∷◌, ◌++◌, Option, Some, None, length, take, drop, drop-cons, get_or, refl, ap, sym, arith}
use Rattle.std.specs.List.{list_all}
use Rattle.std.proofs.lemmas.Bool.{false≢true, eqb-true, not-false, and_from, and_parts}
use Rattle.std.proofs.lemmas.List.{take-append-drop}
use Rattle.std.proofs.lemmas.List.Sums.{prefix_len_stops}
use Rattle.std.proofs.lemmas.Option.{none-some}
use Rattle.addr_list.specs.Tokens.{Token, run, quoted, literal, mark}
use Rattle.addr_list.specs.Addresses.{behind, both, word_of, more_words, phrase_of, next_run, leaves_dot, more_runs, host_word, local_of, host_of}
use Rattle.addr_list.specs.Reading.{is_this_mark, is_part, begins, until}

pub this-mark : (b : ℕ) (token : Token) → is_this_mark b token ≡ true → token ≡ mark b
this-mark b (run bytes) is = absurd (false≢true is)
this-mark b (quoted inner) is = absurd (false≢true is)
this-mark b (literal bytes) is = absurd (false≢true is)
this-mark b (mark c) is = ap mark (eqb-true c b is)

pub begins-mark : (b : ℕ) (tokens : List Token) → begins b tokens ≡ true → tokens ≡ mark b ∷ drop 1 tokens
begins-mark b [] is = absurd (false≢true is)
begins-mark b (token ∷ rest) is = ap (λ t. t ∷ rest) (this-mark b token is)

pub not-this : (b : ℕ) (token : Token) → is_part token ≡ true → not (is_this_mark b token) ≡ true
not-this b (run bytes) is = refl
not-this b (quoted inner) is = refl
not-this b (literal bytes) is = refl
not-this b (mark c) is = absurd (false≢true is)

-- parts have no mark among them
pub none-this : (b : ℕ) (tokens : List Token) → list_all is_part tokens ≡ true → list_all (λ token. not (is_this_mark b token)) tokens ≡ true
none-this b [] all = refl
none-this b (token ∷ rest) all =
    let two = and_parts (is_part token) (list_all is_part rest) all in
    and_from _ _ (not-this b token two.0) (none-this b rest two.1)

-- the first mark of a kind divides the tokens
pub until-divides : (b : ℕ) (tokens : List Token) → until b tokens < length tokens → tokens ≡ take (until b tokens) tokens ++ mark b ∷ drop (until b tokens + 1) tokens
until-divides b tokens inside =
    let n = until b tokens in
    let stops = prefix_len_stops (λ token. not (is_this_mark b token)) tokens (mark 0) inside in
    let is = this-mark b (get_or tokens n (mark 0)) (not-false _ stops) in
    let one : suc n ≡ n + 1 = omega arith in
    sym (take-append-drop n tokens) ∙ ap (λ t. take n tokens ++ t) (drop-cons tokens n (mark 0) inside ∙ (λ i. is i ∷ drop (one i) tokens))

pub both-some : (a b : Option (List ℕ)) (c : List ℕ) → both a b ≡ Some c → (x : List ℕ) × (y : List ℕ) × (a ≡ Some x) × (b ≡ Some y) × (c ≡ x ++ y)
both-some None b c is = absurd (none-some c is)
both-some (Some x) None c is = absurd (none-some c is)
both-some (Some x) (Some y) c is = (x, y, refl, refl, sym (cc))

pub behind-some : (a : List ℕ) (b : Option (List ℕ)) (c : List ℕ) → behind a b ≡ Some c → (y : List ℕ) × (b ≡ Some y) × (c ≡ a ++ y)
behind-some a None c is = absurd (none-some c is)
behind-some a (Some y) c is = (y, refl, sym (cc))

word-part : (token : Token) (bytes : List ℕ) → word_of token ≡ Some bytes → is_part token ≡ true
word-part (run inner) bytes is = refl
word-part (quoted inner) bytes is = refl
word-part (literal inner) bytes is = refl
word-part (mark b) bytes is = absurd (none-some bytes is)

host-part : (token : Token) (bytes : List ℕ) → host_word token ≡ Some bytes → is_part token ≡ true
host-part (run inner) bytes is = refl
host-part (quoted inner) bytes is = refl
host-part (literal inner) bytes is = refl
host-part (mark b) bytes is = absurd (none-some bytes is)

run-part : (dot : Bool) (token : Token) (bytes : List ℕ) → next_run dot token ≡ Some bytes → is_part token ≡ true
run-part dot (run inner) bytes is = refl
run-part dot (quoted inner) bytes is = refl
run-part dot (literal inner) bytes is = refl
run-part dot (mark b) bytes is = absurd (none-some bytes is)

words-parts : (tokens : List Token) (bytes : List ℕ) → more_words tokens ≡ Some bytes → list_all is_part tokens ≡ true
words-parts [] bytes is = refl
words-parts (token ∷ rest) bytes is =
    let two = both-some (behind (32 ∷ []) (word_of token)) (more_words rest) bytes is in
    let word = behind-some (32 ∷ []) (word_of token) two.0 two.2 in
    and_from _ _ (word-part token word.0 word.1) (words-parts rest two.1 two.3)

pub phrase-parts : (tokens : List Token) (name : List ℕ) → phrase_of tokens ≡ Some name → list_all is_part tokens ≡ true
phrase-parts [] name is = absurd (none-some name is)
phrase-parts (token ∷ rest) name is =
    let two = both-some (word_of token) (more_words rest) name is in
    and_from _ _ (word-part token two.0 two.2) (words-parts rest two.1 two.3)

runs-parts : (dot : Bool) (tokens : List Token) (bytes : List ℕ) → more_runs dot tokens ≡ Some bytes → list_all is_part tokens ≡ true
runs-parts dot [] bytes is = refl
runs-parts dot (token ∷ rest) bytes is =
    let two = both-some (next_run dot token) (more_runs (leaves_dot token) rest) bytes is in
    and_from _ _ (run-part dot token two.0 two.2) (runs-parts (leaves_dot token) rest two.1 two.3)

pub local-parts : (tokens : List Token) (bytes : List ℕ) → local_of tokens ≡ Some bytes → list_all is_part tokens ≡ true
local-parts [] bytes is = absurd (none-some bytes is)
local-parts (token ∷ []) bytes is = and_from _ _ (word-part token bytes is) refl
local-parts (token ∷ next ∷ rest) bytes is = runs-parts true (token ∷ next ∷ rest) bytes is

pub host-parts : (tokens : List Token) (bytes : List ℕ) → host_of tokens ≡ Some bytes → list_all is_part tokens ≡ true
host-parts [] bytes is = absurd (none-some bytes is)
host-parts (token ∷ []) bytes is = and_from _ _ (host-part token bytes is) refl
host-parts (token ∷ next ∷ rest) bytes is = runs-parts true (token ∷ next ∷ rest) bytes is

pub no-local : (bytes : List ℕ) → local_of [] ≡ Some bytes → ⊥
no-local bytes is = none-some bytes is
