-- A route that is read token by token is the one that the grammar has.
use Rattle.std.proofs.Common.{◌≡◌, ◌∙◌, ⊎_elim, ◌+◌, ◌<◌, ◌≤◌, ◌==◌, ℕ, true, false, not, List, [], ◌∷◌, ◌++◌, Option, Some, None, length, take, drop, refl, ap, sym, subst}
use Rattle.std.specs.List.{list_all}
use Rattle.std.proofs.lemmas.Bool.{false≢true, not-true, and_parts, and_from, cases_Bool, cond-true, cond-false}
use Rattle.std.proofs.lemmas.List.{append_assoc, append-nil, take_all}
use Rattle.std.proofs.lemmas.List.Folds.{list_all-append}
use Rattle.std.proofs.lemmas.Option.{none-some}
use Rattle.addr_list.specs.Tokens.{Token, mark}
use Rattle.addr_list.specs.Addresses.{behind, both, host_of, IsRoute, last, more}
use Rattle.addr_list.specs.Reading.{is_this_mark, begins, until, route_from}
use Rattle.addr_list.proofs.Fronts.{front-all}
use Rattle.addr_list.proofs.Marks.{this-mark, until-divides, none-this, host-parts, both-some, behind-some}

NoComma : List Token → Type 0
NoComma tokens = list_all (λ token. not (is_this_mark 44 token)) tokens ≡ true

-- a host up to a comma, and up to the end
host-then : (read host rest : List Token) → NoComma host → route_from (Some read) (host ++ mark 44 ∷ rest) ≡ both (host_of (read ++ host)) (behind (44 ∷ []) (route_from None rest))
unfolding NoComma
host-then read [] rest none = ap (λ r. both (host_of r) (behind (44 ∷ []) (route_from None rest))) (sym (append-nil read))
host-then read (token ∷ host) rest none =
    let two = and_parts (not (is_this_mark 44 token)) (list_all (λ t. not (is_this_mark 44 t)) host) none in
    cond-false (is_this_mark 44 token) _ _ (not-true _ two.0)
    ∙ host-then (read ++ token ∷ []) host rest two.1
    ∙ ap (λ r. both (host_of r) (behind (44 ∷ []) (route_from None rest))) (append_assoc read (token ∷ []) host)

host-last : (read host : List Token) → NoComma host → route_from (Some read) host ≡ host_of (read ++ host)
unfolding NoComma
host-last read [] none = ap host_of (sym (append-nil read))
host-last read (token ∷ host) none =
    let two = and_parts (not (is_this_mark 44 token)) (list_all (λ t. not (is_this_mark 44 t)) host) none in
    cond-false (is_this_mark 44 token) _ _ (not-true _ two.0)
    ∙ host-last (read ++ token ∷ []) host two.1
    ∙ ap host_of (append_assoc read (token ∷ []) host)

-- the host behind an `@`, as the code finds it
pub no-route : (rest : List Token) → begins 64 rest ≡ false → route_from None rest ≡ None
no-route [] is = refl
no-route (token ∷ rest) is = cond-false (is_this_mark 64 token) _ _ is

at-host : (rest : List Token) → begins 64 rest ≡ true → route_from None rest ≡ behind (64 ∷ []) (route_from (Some []) (drop 1 rest))
at-host [] is = absurd (false≢true is)
at-host (token ∷ rest) is = cond-true (is_this_mark 64 token) _ _ is

pub route-ends : (rest : List Token) → begins 64 rest ≡ true → length (drop 1 rest) ≤ until 44 (drop 1 rest)
    → route_from None rest ≡ behind (64 ∷ []) (host_of (take (until 44 (drop 1 rest)) (drop 1 rest)))
unfolding NoComma
route-ends rest is end =
    let tokens = drop 1 rest in
    let n = until 44 tokens in
    let whole : take n tokens ≡ tokens = take_all n tokens end in
    let none = subst NoComma whole (front-all (λ token. not (is_this_mark 44 token)) tokens) in
    at-host rest is ∙ ap (behind (64 ∷ [])) (host-last [] tokens none ∙ ap host_of (sym whole))

pub route-goes_on : (rest : List Token) → begins 64 rest ≡ true → until 44 (drop 1 rest) < length (drop 1 rest)
    → route_from None rest ≡ behind (64 ∷ []) (both (host_of (take (until 44 (drop 1 rest)) (drop 1 rest))) (behind (44 ∷ []) (route_from None (drop (until 44 (drop 1 rest) + 1) (drop 1 rest)))))
unfolding NoComma
route-goes_on rest is inside =
    let tokens = drop 1 rest in
    let n = until 44 tokens in
    at-host rest is
    ∙ ap (λ t. behind (64 ∷ []) (route_from (Some []) t)) (until-divides 44 tokens inside)
    ∙ ap (behind (64 ∷ [])) (host-then [] (take n tokens) (drop (n + 1) tokens) (front-all (λ token. not (is_this_mark 44 token)) tokens))

-- a route is read
pub route-read : (tokens : List Token) (bytes : List ℕ) → IsRoute tokens bytes → route_from None tokens ≡ Some bytes
unfolding NoComma
route-read _ _ (last tokens host is) = ap (behind (64 ∷ [])) (host-last [] tokens (none-this 44 tokens (host-parts tokens host is)) ∙ is)
route-read _ _ (more tokens rest host bytes is route) =
    ap (behind (64 ∷ []))
    (host-then [] tokens rest (none-this 44 tokens (host-parts tokens host is))
    ∙ (λ i. both (is i) (behind (44 ∷ []) (route-read rest bytes route i))))

-- what is read is a route
Read : Option (List Token) → List Token → List ℕ → Type 0
Read None tokens bytes = IsRoute tokens bytes
Read (Some read) tokens bytes = IsRoute (mark 64 ∷ read ++ tokens) (64 ∷ bytes)

route-says : (state : Option (List Token)) (tokens : List Token) (bytes : List ℕ) → route_from state tokens ≡ Some bytes → Read state tokens bytes
unfolding Read
route-says None [] bytes is = absurd (none-some bytes is)
route-says None (token ∷ rest) bytes is =
    ⊎_elim
    (λ at.
    let two = behind-some (64 ∷ []) (route_from (Some []) rest) bytes (sym (cond-true (is_this_mark 64 token) _ _ at) ∙ is) in
    subst (λ t. IsRoute (t ∷ rest) bytes) (sym (this-mark 64 token at))
    (subst (λ b. IsRoute (mark 64 ∷ rest) b) (sym two.2) (route-says (Some []) rest two.0 two.1)))
    (λ other. absurd (none-some bytes (sym (cond-false (is_this_mark 64 token) _ _ other) ∙ is)))
    (cases_Bool (is_this_mark 64 token))
route-says (Some read) [] bytes is = subst (λ t. IsRoute (mark 64 ∷ t) (64 ∷ bytes)) (sym (append-nil read)) (last read bytes is)
route-says (Some read) (token ∷ rest) bytes is =
    ⊎_elim
    (λ at.
    let two = both-some (host_of read) (behind (44 ∷ []) (route_from None rest)) bytes (sym (cond-true (is_this_mark 44 token) _ _ at) ∙ is) in
    let later = behind-some (44 ∷ []) (route_from None rest) two.1 two.3 in
    let whole : bytes ≡ two.0 ++ 44 ∷ later.0 = two.4 ∙ ap (λ b. two.0 ++ b) later.2 in
    subst (λ t. IsRoute (mark 64 ∷ read ++ t ∷ rest) (64 ∷ bytes)) (sym (this-mark 44 token at))
    (subst (λ b. IsRoute (mark 64 ∷ read ++ mark 44 ∷ rest) (64 ∷ b)) (sym whole) (more read rest two.0 later.0 two.2 (route-says None rest later.0 later.1))))
    (λ other.
    subst (λ t. IsRoute (mark 64 ∷ t) (64 ∷ bytes)) (append_assoc read (token ∷ []) rest)
    (route-says (Some (read ++ token ∷ [])) rest bytes (sym (cond-false (is_this_mark 44 token) _ _ other) ∙ is)))
    (cases_Bool (is_this_mark 44 token))

pub route-sound : (tokens : List Token) (bytes : List ℕ) → route_from None tokens ≡ Some bytes → IsRoute tokens bytes
unfolding Read
route-sound tokens bytes is = route-says None tokens bytes is

-- a route has no other marks than its own
pub route-none : (b : ℕ) → (64 == b) ≡ false → (44 == b) ≡ false → (tokens : List Token) (bytes : List ℕ) → IsRoute tokens bytes → list_all (λ token. not (is_this_mark b token)) tokens ≡ true
route-none b at comma _ _ (last tokens host is) = and_from _ _ (ap not at) (none-this b tokens (host-parts tokens host is))
route-none b at comma _ _ (more tokens rest host bytes is route) =
    and_from _ _ (ap not at)
    (list_all-append (λ token. not (is_this_mark b token)) tokens (mark 44 ∷ rest)
    ∙ and_from _ _ (none-this b tokens (host-parts tokens host is)) (and_from _ _ (ap not comma) (route-none b at comma rest bytes route)))

pub route-begins : (tokens : List Token) (bytes : List ℕ) (more : List Token) → IsRoute tokens bytes → begins 64 (tokens ++ more) ≡ true
route-begins _ _ rest (last tokens host is) = refl
route-begins _ _ rest (more tokens later host bytes is route) = refl
