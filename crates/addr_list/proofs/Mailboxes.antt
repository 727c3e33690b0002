-- What the code finds at the places where it looks.
use Rattle.std.proofs.Common.{◌≡◌, ◌∙◌, ⊎_elim, ◌+◌, ◌<◌, ◌≤◌, ℕ, true, false, List, [], ◌∷◌, ◌++◌, Option, Some, None, nat_lt, length, take, drop, refl, ap, sym, arith}
use Rattle.std.specs.List.{prefix_len}
use Rattle.std.proofs.lemmas.Bool.{cond-true, cond-false, cases_lt, lt-ltb, le-ltb}
use Rattle.std.proofs.lemmas.List.{append_assoc}
use Rattle.addr_list.specs.Tokens.{Token}
use Rattle.addr_list.specs.Addresses.{behind, both, local_of, host_of}
use Rattle.addr_list.specs.Reading.{is_part, begins, until, mailbox_of, spec_of, route_from, routed_of, angle_of}
use Rattle.addr_list.proofs.Routes.{route-ends, route-goes_on}

pub spec-yes : (name route : Option (List ℕ)) (ts left tail right : List Token) (n : ℕ) → n ≡ prefix_len is_part ts → left ≡ take n ts → tail ≡ drop n ts → right ≡ drop (n + 1) ts → begins 64 tail ≡ true
    → mailbox_of name route (local_of left) (host_of right) ≡ spec_of name route ts
unfolding spec_of
spec-yes name route ts left tail right n width l t r is =
    (λ i. mailbox_of name route (local_of ((l ∙ ap (λ k. take k ts) width) i)) (host_of ((r ∙ ap (λ k. drop (k + 1) ts) width) i)))
    ∙ sym (cond-true (begins 64 (drop (prefix_len is_part ts) ts)) _ None (ap (begins 64) (sym (t ∙ ap (λ k. drop k ts) width)) ∙ is))

pub spec-no : (name route : Option (List ℕ)) (ts tail : List Token) (n : ℕ) → n ≡ prefix_len is_part ts → tail ≡ drop n ts → begins 64 tail ≡ false → None ≡ spec_of name route ts
unfolding spec_of
spec-no name route ts tail n width t is =
    sym (cond-false (begins 64 (drop (prefix_len is_part ts) ts)) _ None (ap (begins 64) (sym (t ∙ ap (λ k. drop k ts) width)) ∙ is))

pub angle-unrouted : (name : Option (List ℕ)) (ts : List Token) → begins 64 ts ≡ false → spec_of name None ts ≡ angle_of name ts
unfolding angle_of
angle-unrouted name ts is = sym (cond-false (begins 64 ts) _ _ is)

pub angle-open : (name : Option (List ℕ)) (ts : List Token) → begins 64 ts ≡ true → until 58 ts ≡ length ts → None ≡ angle_of name ts
unfolding angle_of
angle-open name ts is end =
    sym (cond-true (begins 64 ts) _ _ is ∙ cond-false (nat_lt (until 58 ts) (length ts)) _ None (le-ltb _ _ (omega arith)))

pub angle-routed : (name : Option (List ℕ)) (ts way behind_colon : List Token) (n : ℕ) → n ≡ until 58 ts → n < length ts → way ≡ take n ts → behind_colon ≡ drop (n + 1) ts → begins 64 ts ≡ true
    → routed_of name (route_from None way) behind_colon ≡ angle_of name ts
unfolding angle_of
angle-routed name ts way after n width inside w a is =
    (λ i. routed_of name (route_from None ((w ∙ ap (λ k. take k ts) width) i)) ((a ∙ ap (λ k. drop (k + 1) ts) width) i))
    ∙ sym (cond-true (begins 64 ts) _ _ is ∙ cond-true (nat_lt (until 58 ts) (length ts)) _ None (lt-ltb _ _ (omega (arith, width))))

-- one more host of a route
pub hosts-end : (done new : List ℕ) (rest tokens : List Token) (n : ℕ) (host : List ℕ) → begins 64 rest ≡ true → tokens ≡ drop 1 rest → n ≡ until 44 tokens → length tokens ≤ n → host_of (take n tokens) ≡ Some host
    → new ≡ (done ++ 64 ∷ []) ++ host → Some new ≡ behind done (route_from None rest)
hosts-end done new rest tokens n host is t width end found whole =
    let at : until 44 (drop 1 rest) ≡ n = ap (until 44) (sym t) ∙ sym width in
    let read = route-ends rest is (omega (arith, at, ap length t)) in
    let here : host_of (take (until 44 (drop 1 rest)) (drop 1 rest)) ≡ Some host = (λ i. host_of (take (at i) (sym t i))) ∙ found in
    ap Some (whole ∙ append_assoc done (64 ∷ []) host) ∙ sym (ap (behind done) (read ∙ ap (behind (64 ∷ [])) here))

pub hosts-go_on : (done new : List ℕ) (rest tokens later : List Token) (n : ℕ) (host : List ℕ) → begins 64 rest ≡ true → tokens ≡ drop 1 rest → n ≡ until 44 tokens → n < length tokens → host_of (take n tokens) ≡ Some host
    → later ≡ drop (n + 1) tokens → new ≡ ((done ++ 64 ∷ []) ++ host) ++ 44 ∷ [] → behind new (route_from None later) ≡ behind done (route_from None rest)
hosts-go_on done new rest tokens later n host is t width inside found l whole =
    let at : until 44 (drop 1 rest) ≡ n = ap (until 44) (sym t) ∙ sym width in
    let read = route-goes_on rest is (omega (arith, at, ap length t)) in
    let here : host_of (take (until 44 (drop 1 rest)) (drop 1 rest)) ≡ Some host = (λ i. host_of (take (at i) (sym t i))) ∙ found in
    let left : drop (until 44 (drop 1 rest) + 1) (drop 1 rest) ≡ later = (λ i. drop (at i + 1) (sym t i)) ∙ sym l in
    (λ i. behind (whole i) (route_from None later))
    ∙ joined (route_from None later)
    ∙ sym (ap (behind done) (read ∙ (λ i. behind (64 ∷ []) (both (here i) (behind (44 ∷ []) (route_from None (left i)))))))
  where
    joined : (o : Option (List ℕ)) → behind (((done ++ 64 ∷ []) ++ host) ++ 44 ∷ []) o ≡ behind done (behind (64 ∷ []) (both (Some host) (behind (44 ∷ []) o)))
    joined None = refl
    joined (Some bytes) = ap Some (simp append_assoc)

pub hosts-fail : (done : List ℕ) (rest tokens : List Token) (n : ℕ) → begins 64 rest ≡ true → tokens ≡ drop 1 rest → n ≡ until 44 tokens → n ≤ length tokens → host_of (take n tokens) ≡ None
    → None ≡ behind done (route_from None rest)
hosts-fail done rest tokens n is t width within found =
    let at : until 44 (drop 1 rest) ≡ n = ap (until 44) (sym t) ∙ sym width in
    let here : host_of (take (until 44 (drop 1 rest)) (drop 1 rest)) ≡ None = (λ i. host_of (take (at i) (sym t i))) ∙ found in
    let long = ap length t in
    ⊎_elim
    (λ inside. sym (ap (behind done) (route-goes_on rest is (omega (arith, at, long)) ∙ ap (λ o. behind (64 ∷ []) (both o (behind (44 ∷ []) (route_from None (drop (until 44 (drop 1 rest) + 1) (drop 1 rest)))))) here)))
    (λ end. sym (ap (behind done) (route-ends rest is (omega (arith, at, long)) ∙ ap (behind (64 ∷ [])) here)))
    (cases_lt n (length tokens))
