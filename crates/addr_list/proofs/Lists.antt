-- The list that is read element by element is the one that the grammar has.
use Rattle.std.proofs.Common.{◌≡◌, ◌∙◌, ◌+◌, ◌==◌, ℕ, true, false, not, List, [], ◌∷◌, ◌++◌, Option, Some, None, nat_lt, length, take, drop, refl, ap, sym, subst, arith}
use Rattle.std.specs.List.{prefix_len, list_all}
use Rattle.std.proofs.lemmas.Bool.{cond-true, cond-false, eq-eqb, ne_eqb, lt-ltb, not-true, and_parts, and_from}
use Rattle.std.proofs.lemmas.List.{append_assoc, append-nil, length-append, take_at, drop_at, drop-drop}
use Rattle.std.proofs.lemmas.List.Folds.{list_all-append}
use Rattle.std.proofs.lemmas.Option.{none-some}
use Rattle.addr_list.specs.Tokens.{Token, mark}
use Rattle.addr_list.specs.Addresses.{phrase_of, local_of, host_of, IsRoutePart, unrouted, routed, IsName, unnamed, named, IsMailbox, bare, plain, angle, IsAddressList, nothing, mailbox, group, comma}
use Rattle.addr_list.specs.Reading.{is_this_mark, is_part, begins, until, mailbox_of, spec_of, route_from, routed_of, angle_of, mailbox_element, group_start, group_element, named_angle, angle_element, plain_element, element_from, element_of, Reads, finished, next_element, group_ends, next_comma}
use Rattle.addr_list.specs.declared.address.Address.{Address}
use Rattle.addr_list.specs.declared.address.Address.TheVariants.{Mailbox, GroupStart, GroupEnd}
use Rattle.addr_list.proofs.Fronts.{front-append, front-no}
use Rattle.addr_list.proofs.Marks.{not-this, none-this, phrase-parts, local-parts, host-parts}
use Rattle.addr_list.proofs.Routes.{route-read, route-none, route-begins}

-- the width of words before a mark, or before nothing
words-width : (words tail : List Token) → list_all is_part words ≡ true → prefix_len is_part tail ≡ 0 → prefix_len is_part (words ++ tail) ≡ length words
words-width words tail all stops = front-append is_part words tail all ∙ (let e : length words + prefix_len is_part tail ≡ length words = omega arith in e)

-- the element behind some words
element-at : (words tail : List Token) → list_all is_part words ≡ true → prefix_len is_part tail ≡ 0 → element_of (words ++ tail) ≡ element_from (length words) words tail
unfolding element_of
element-at words tail all stops =
    let ts = words ++ tail in
    let width = words-width words tail all stops in
    (λ i. element_from (width i) (take (width i) ts) (drop (width i) ts))
    ∙ (λ i. element_from (length words) (take_at words tail (length words) refl i) (drop_at words tail (length words) refl i))

-- what may stand behind an element: nothing, a comma or the end of a group
pub data Stops : List Token → Type 0 where
  end : Stops []
  at_comma : (rest : List Token) → Stops (mark 44 ∷ rest)
  at_group_end : (rest : List Token) → Stops (mark 59 ∷ rest)

stops-parts : (tail : List Token) → Stops tail → prefix_len is_part tail ≡ 0
stops-parts _ end = refl
stops-parts _ (at_comma rest) = refl
stops-parts _ (at_group_end rest) = refl

element-bare : (words tail : List Token) (address : Address) → Stops tail → (length words ≡ 0 → ⊥) → mailbox_of None None (local_of words) (Some []) ≡ Some address
    → element_from (length words) words tail ≡ Some (record { width = length words; address = Some address; opens = false })
unfolding element_from
element-bare words _ address end some is = cond-false (length words == 0) _ _ (ne_eqb (length words) 0 some) ∙ ap (mailbox_element (length words)) is
element-bare words _ address (at_comma rest) some is = cond-false (length words == 0) _ _ (ne_eqb (length words) 0 some) ∙ ap (mailbox_element (length words)) is
element-bare words _ address (at_group_end rest) some is = cond-false (length words == 0) _ _ (ne_eqb (length words) 0 some) ∙ ap (mailbox_element (length words)) is

some-words : (words : List Token) (local : List ℕ) → local_of words ≡ Some local → length words ≡ 0 → ⊥
some-words [] local is zero_long = none-some local is
some-words (token ∷ rest) local is zero_long = absurd (omega arith)

-- an address specification behind a route or none
spec-read : (name route : Option (List ℕ)) (left right : List Token) (local host : List ℕ) → local_of left ≡ Some local → host_of right ≡ Some host
    → spec_of name route (left ++ mark 64 ∷ right) ≡ Some (Mailbox name route local host)
unfolding spec_of
spec-read name route left right local host l h =
    let ts = left ++ mark 64 ∷ right in
    let width = words-width left (mark 64 ∷ right) (local-parts left local l) refl in
    let n = length left in
    let behind : drop n ts ≡ mark 64 ∷ right = drop_at left (mark 64 ∷ right) n refl in
    let after : drop (n + 1) ts ≡ right = sym (drop-drop 1 n ts) ∙ ap (drop 1) behind in
    cond-true (begins 64 (drop (prefix_len is_part ts) ts)) _ None (ap (λ k. begins 64 (drop k ts)) width ∙ ap (begins 64) behind)
    ∙ (λ i. mailbox_of name route (local_of (take (width i) ts)) (host_of (drop (width i + 1) ts)))
    ∙ (λ i. mailbox_of name route (local_of (take_at left (mark 64 ∷ right) n refl i)) (host_of (after i)))
    ∙ (λ i. mailbox_of name route (l i) (h i))

begins-part : (b : ℕ) (words more : List Token) → list_all is_part words ≡ true → (length words ≡ 0 → ⊥) → begins b (words ++ more) ≡ false
begins-part b [] more all some = absurd (some refl)
begins-part b (token ∷ rest) more all some = not-true _ (not-this b token (and_parts (is_part token) (list_all is_part rest) all).0)

-- tokens before a mark, and those behind it
until-at : (b : ℕ) (inner rest : List Token) → list_all (λ token. not (is_this_mark b token)) inner ≡ true → until b (inner ++ mark b ∷ rest) ≡ length inner
until-at b inner rest none =
    front-append (λ token. not (is_this_mark b token)) inner (mark b ∷ rest) none
    ∙ ap (λ n. length inner + n) (front-no (λ token. not (is_this_mark b token)) (mark b) rest (ap not (eq-eqb b b refl)))
    ∙ (let e : length inner + 0 ≡ length inner = omega arith in e)

behind-mark : (b : ℕ) (inner rest : List Token) → drop (length inner + 1) (inner ++ mark b ∷ rest) ≡ rest
behind-mark b inner rest = sym (drop-drop 1 (length inner) (inner ++ mark b ∷ rest)) ∙ ap (drop 1) (drop_at inner (mark b ∷ rest) (length inner) refl)

angle-read : (name route : Option (List ℕ)) (way left right : List Token) (local host : List ℕ) → IsRoutePart way route → local_of left ≡ Some local → host_of right ≡ Some host
    → angle_of name (way ++ (left ++ mark 64 ∷ right)) ≡ Some (Mailbox name route local host)
unfolding angle_of
angle-read name _ _ left right local host unrouted l h =
    cond-false (begins 64 (left ++ mark 64 ∷ right)) _ _ (begins-part 64 left (mark 64 ∷ right) (local-parts left local l) (some-words left local l))
    ∙ spec-read name None left right local host l h
angle-read name _ _ left right local host (routed tokens bytes route) l h =
    let spec = left ++ mark 64 ∷ right in
    let inner = tokens ++ mark 58 ∷ spec in
    let whole : (tokens ++ mark 58 ∷ []) ++ spec ≡ inner = append_assoc tokens (mark 58 ∷ []) spec in
    let width = until-at 58 tokens spec (route-none 58 refl refl tokens bytes route) in
    let long = length-append tokens (mark 58 ∷ spec) in
    ap (angle_of name) whole
    ∙ cond-true (begins 64 inner) _ _ (route-begins tokens bytes (mark 58 ∷ spec) route)
    ∙ cond-true (nat_lt (until 58 inner) (length inner)) _ None (lt-ltb _ _ (omega (arith, width)))
    ∙ (λ i. routed_of name (route_from None (take (width i) inner)) (drop (width i + 1) inner))
    ∙ (λ i. routed_of name (route_from None (take_at tokens (mark 58 ∷ spec) (length tokens) refl i)) (behind-mark 58 tokens spec i))
    ∙ ap (λ o. routed_of name o spec) (route-read tokens bytes route)
    ∙ spec-read name (Some bytes) left right local host l h

named-read : (front : List Token) (name route : Option (List ℕ)) (inner : List Token) (address : Address) → IsName front name → angle_of name inner ≡ Some address → named_angle front (phrase_of front) inner ≡ Some address
named-read _ _ route inner address unnamed is = is
named-read _ _ route inner address (named [] name phrase) is = absurd (none-some name phrase)
named-read _ _ route inner address (named (token ∷ rest) name phrase) is = ap (λ o. named_angle (token ∷ rest) o inner) phrase ∙ is

name-parts : (front : List Token) (name : Option (List ℕ)) → IsName front name → list_all is_part front ≡ true
name-parts _ _ unnamed = refl
name-parts _ _ (named tokens name phrase) = phrase-parts tokens name phrase

Not62 : List Token → Type 0
Not62 tokens = list_all (λ token. not (is_this_mark 62 token)) tokens ≡ true

all-behind : (xs ys : List Token) → Not62 xs → Not62 ys → Not62 (xs ++ ys)
unfolding Not62
all-behind xs ys a b = list_all-append (λ token. not (is_this_mark 62 token)) xs ys ∙ and_from _ _ a b

way-open : (way : List Token) (route : Option (List ℕ)) → IsRoutePart way route → Not62 way
unfolding Not62
way-open _ _ unrouted = refl
way-open _ _ (routed tokens bytes route) = all-behind tokens (mark 58 ∷ []) (route-none 62 refl refl tokens bytes route) refl

-- an angle address, by what stands in its brackets
pub angle-row : (front way left right rest : List Token) → front ++ mark 60 ∷ way ++ left ++ mark 64 ∷ right ++ mark 62 ∷ rest ≡ front ++ mark 60 ∷ (way ++ (left ++ mark 64 ∷ right) ++ mark 62 ∷ rest)
angle-row front way left right rest =
    let at = mark 64 ∷ right in
    let close = mark 62 ∷ rest in
    append_assoc (front ++ mark 60 ∷ way ++ left) at close
    ∙ append_assoc (front ++ mark 60 ∷ way) left (at ++ close)
    ∙ append_assoc front (mark 60 ∷ way) (left ++ (at ++ close))
    ∙ ap (λ t. front ++ mark 60 ∷ t) (ap (λ t. way ++ t) (sym (append_assoc left at close)) ∙ sym (append_assoc way (left ++ at) close))

mailbox-at : (tokens tail : List Token) (address : Address) → IsMailbox tokens address → Stops tail → element_of (tokens ++ tail) ≡ Some (record { width = length tokens; address = Some address; opens = false })
unfolding element_from plain_element angle_element Not62
mailbox-at _ tail _ (bare tokens local is) stops =
    element-at tokens tail (local-parts tokens local is) (stops-parts tail stops)
    ∙ element-bare tokens tail _ stops (some-words tokens local is) (ap (λ o. mailbox_of None None o (Some [])) is)
mailbox-at _ tail _ (plain left right local host l h) stops =
    let n = length left in
    let m = length right in
    let inner = right ++ tail in
    let width = words-width right tail (host-parts right host h) (stops-parts tail stops) in
    let long = length-append left (mark 64 ∷ right) in
    ap element_of (append_assoc left (mark 64 ∷ right) tail)
    ∙ element-at left (mark 64 ∷ inner) (local-parts left local l) refl
    ∙ (λ i. mailbox_element (n + 1 + width i) (mailbox_of None None (local_of left) (host_of (take (width i) inner))))
    ∙ (λ i. mailbox_element (n + 1 + m) (mailbox_of None None (l i) (host_of (take_at right tail m refl i))))
    ∙ ap (λ o. mailbox_element (n + 1 + m) (mailbox_of None None (Some local) o)) h
    ∙ ap (λ k. Some (record { width = k; address = Some (Mailbox None None local host); opens = false })) (let e : n + 1 + m ≡ length (left ++ mark 64 ∷ right) = omega arith in e)
mailbox-at _ tail _ (angle front way left right name route local host is_name is_route l h) stops =
    let n = length front in
    let part = way ++ (left ++ mark 64 ∷ right) in
    let inner = part ++ mark 62 ∷ tail in
    let m = length part in
    let tokens = front ++ mark 60 ∷ way ++ left ++ mark 64 ∷ right ++ mark 62 ∷ [] in
    let address = Mailbox name route local host in
    let spec_open = all-behind left (mark 64 ∷ right) (none-this 62 left (local-parts left local l)) (none-this 62 right (host-parts right host h)) in
    let width = until-at 62 part tail (all-behind way (left ++ mark 64 ∷ right) (way-open way route is_route) spec_open) in
    let whole = append_assoc (front ++ mark 60 ∷ way ++ left ++ mark 64 ∷ right) (mark 62 ∷ []) tail ∙ angle-row front way left right tail in
    let same = ap length (angle-row front way left right []) in
    let long = length-append front (mark 60 ∷ (part ++ mark 62 ∷ [])) in
    let short = length-append part (mark 62 ∷ []) in
    let inside = length-append part (mark 62 ∷ tail) in
    let read = named-read front name route part address is_name (angle-read name route way left right local host is_route l h) in
    ap element_of whole
    ∙ element-at front (mark 60 ∷ inner) (name-parts front name is_name) refl
    ∙ cond-true (nat_lt (until 62 inner) (length inner)) _ None (lt-ltb _ _ (omega (arith, width)))
    ∙ (λ i. mailbox_element (n + 1 + (width i + 1)) (named_angle front (phrase_of front) (take (width i) inner)))
    ∙ ap (λ t. mailbox_element (n + 1 + (m + 1)) (named_angle front (phrase_of front) t)) (take_at part (mark 62 ∷ tail) m refl)
    ∙ ap (mailbox_element (n + 1 + (m + 1))) read
    ∙ ap (λ k. Some (record { width = k; address = Some address; opens = false })) (let e : n + 1 + (m + 1) ≡ length tokens = omega arith in e)

group-at : (front rest : List Token) (name : List ℕ) → phrase_of front ≡ Some name → element_of (front ++ mark 58 ∷ rest) ≡ Some (record { width = length front + 1; address = Some (GroupStart name); opens = true })
unfolding element_from
group-at front rest name is =
    element-at front (mark 58 ∷ rest) (phrase-parts front name is) refl
    ∙ ap (λ o. group_element (length front + 1) (group_start o)) is

nothing-at : (tail : List Token) → Stops tail → element_of tail ≡ Some (record { width = 0; address = None; opens = false })
unfolding element_from
nothing-at _ end = element-at [] [] refl refl
nothing-at _ (at_comma rest) = element-at [] (mark 44 ∷ rest) refl refl
nothing-at _ (at_group_end rest) = element-at [] (mark 59 ∷ rest) refl refl

reads-stop : (depth : ℕ) (tokens : List Token) (addresses : List Address) → Reads false depth tokens addresses → Stops tokens
reads-stop _ _ _ finished = end
reads-stop _ _ _ (group_ends depth tokens more r) = at_group_end tokens
reads-stop _ _ _ (next_comma depth tokens more r) = at_comma tokens

-- a list is read, whatever stands behind it
list-reads : (tokens : List Token) (addresses : List Address) → IsAddressList tokens addresses
    → (depth : ℕ) (rest : List Token) (more : List Address) → Reads false depth rest more → Reads true depth (tokens ++ rest) (addresses ++ more)
list-reads _ _ nothing depth rest more r =
    next_element depth rest (record { width = 0; address = None; opens = false }) more (nothing-at rest (reads-stop depth rest more r)) r
list-reads _ _ (mailbox tokens address is) depth rest more r =
    next_element depth (tokens ++ rest) (record { width = length tokens; address = Some address; opens = false }) more (mailbox-at tokens rest address is (reads-stop depth rest more r))
    (subst (λ t. Reads false depth t more) (sym (drop_at tokens rest (length tokens) refl)) r)
list-reads _ _ (group front inner name members is list) depth rest more r =
    let behind = inner ++ mark 59 ∷ rest in
    let later = list-reads inner members list (depth + 1) (mark 59 ∷ rest) (GroupEnd ∷ more) (group_ends depth rest more r) in
    let read = next_element depth (front ++ mark 58 ∷ behind) (record { width = length front + 1; address = Some (GroupStart name); opens = true }) (members ++ GroupEnd ∷ more) (group-at front behind name is)
    (subst (λ t. Reads true (depth + 1) t (members ++ GroupEnd ∷ more)) (sym (behind-mark 58 front behind)) later) in
    let tokens : front ++ mark 58 ∷ behind ≡ (front ++ mark 58 ∷ inner ++ mark 59 ∷ []) ++ rest = simp append_assoc in
    let addresses : GroupStart name ∷ members ++ GroupEnd ∷ more ≡ (GroupStart name ∷ members ++ GroupEnd ∷ []) ++ more = simp append_assoc in
    subst (λ t. Reads true depth t ((GroupStart name ∷ members ++ GroupEnd ∷ []) ++ more)) tokens (subst (λ a. Reads true depth (front ++ mark 58 ∷ behind) a) addresses read)
list-reads _ _ (comma left right first second a b) depth rest more r =
    let later = next_comma depth (right ++ rest) (second ++ more) (list-reads right second b depth rest more r) in
    let read = list-reads left first a depth (mark 44 ∷ right ++ rest) (second ++ more) later in
    subst (λ t. Reads true depth t ((first ++ second) ++ more)) (sym (append_assoc left (mark 44 ∷ right) rest))
    (subst (λ m. Reads true depth (left ++ mark 44 ∷ (right ++ rest)) m) (sym (append_assoc first second more)) read)

pub list-complete : (tokens : List Token) (addresses : List Address) → IsAddressList tokens addresses → Reads true 0 tokens addresses
list-complete tokens addresses is =
    subst (λ t. Reads true 0 t addresses) (append-nil tokens) (subst (λ a. Reads true 0 (tokens ++ []) a) (append-nil addresses) (list-reads tokens addresses is 0 [] [] finished))
