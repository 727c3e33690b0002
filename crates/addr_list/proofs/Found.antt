-- What is read is an address list of the grammar.
use Rattle.std.proofs.Common.{◌≡◌, ◌∙◌, ⊎_elim, ◌+◌, ◌<◌, ◌≤◌, ◌==◌, ℕ, Bool, true, false, List, [], ◌∷◌, ◌++◌, Option, Some, None, nat_lt, length, take, drop, refl, ap, sym, subst, arith}
use Rattle.std.specs.List.{prefix_len}
use Rattle.std.proofs.lemmas.Bool.{false≢true, cases_Bool, cond-true, cond-false, ltb-true}
use Rattle.std.proofs.lemmas.List.{append_assoc, append-nil, length-drop, take-append-drop, drop-drop, length-take-le}
use Rattle.std.proofs.lemmas.List.Sums.{prefix_len-le-length}
use Rattle.std.proofs.lemmas.Option.{none-some, same_Some}
use Rattle.addr_list.specs.Tokens.{Token, mark}
use Rattle.addr_list.specs.Addresses.{phrase_of, local_of, host_of, IsRoute, IsRoutePart, unrouted, routed, IsName, unnamed, named, IsMailbox, bare, plain, angle, IsAddressList, nothing, mailbox, group, comma}
use Rattle.addr_list.specs.Reading.{is_part, begins, until, mailbox_of, spec_of, route_from, routed_of, angle_of, mailbox_element, group_start, group_element, named_angle, angle_element, plain_element, element_from, element_of, deeper, added, Reads, finished, next_element, group_ends, next_comma}
use Rattle.addr_list.specs.declared.address.Address.{Address}
use Rattle.addr_list.specs.declared.address.Address.TheVariants.{Mailbox, GroupStart, GroupEnd}
use Rattle.addr_list.specs.declared.element.Element.{Element}
use Rattle.addr_list.proofs.Lists.{angle-row}
use Rattle.addr_list.proofs.Marks.{begins-mark, until-divides}
use Rattle.addr_list.proofs.Routes.{route-sound}

-- a mailbox of what could be read
mailbox-parts : (name route local host : Option (List ℕ)) (address : Address) → mailbox_of name route local host ≡ Some address
    → (l : List ℕ) × (h : List ℕ) × (local ≡ Some l) × (host ≡ Some h) × (Mailbox name route l h ≡ address)
mailbox-parts name route None host address is = absurd (none-some address is)
mailbox-parts name route (Some l) None address is = absurd (none-some address is)
mailbox-parts name route (Some l) (Some h) address is = (l, h, refl, refl, same_Some (Mailbox name route l h) address is)

-- what follows a mark that stands behind so many tokens
behind-first : (b n : ℕ) (tokens : List Token) → begins b (drop n tokens) ≡ true → drop n tokens ≡ mark b ∷ drop (n + 1) tokens
behind-first b n tokens is = begins-mark b (drop n tokens) is ∙ ap (λ t. mark b ∷ t) (drop-drop 1 n tokens)

record IsSpec (name route : Option (List ℕ)) (tokens : List Token) (address : Address) : Type 0 where
  pub left : List Token
  pub right : List Token
  pub local : List ℕ
  pub host : List ℕ
  pub is_local : local_of left ≡ Some local
  pub is_host : host_of right ≡ Some host
  pub divided : tokens ≡ left ++ mark 64 ∷ right
  pub address_is : Mailbox name route local host ≡ address

spec-says : (name route : Option (List ℕ)) (tokens : List Token) (address : Address) → spec_of name route tokens ≡ Some address → IsSpec name route tokens address
unfolding spec_of
spec-says name route tokens address is =
    let n = prefix_len is_part tokens in
    ⊎_elim
    (λ at.
    let parts = mailbox-parts name route (local_of (take n tokens)) (host_of (drop (n + 1) tokens)) address (sym (cond-true (begins 64 (drop n tokens)) _ None at) ∙ is) in
    record {
      left = take n tokens;
      right = drop (n + 1) tokens;
      local = parts.0;
      host = parts.1;
      is_local = parts.2;
      is_host = parts.3;
      divided = sym (take-append-drop n tokens) ∙ ap (λ t. take n tokens ++ t) (behind-first 64 n tokens at);
      address_is = parts.4;
    })
    (λ other. absurd (none-some address (sym (cond-false (begins 64 (drop n tokens)) _ None other) ∙ is)))
    (cases_Bool (begins 64 (drop n tokens)))

record IsInner (name : Option (List ℕ)) (tokens : List Token) (address : Address) : Type 0 where
  pub way : List Token
  pub route : Option (List ℕ)
  pub rest : List Token
  pub is_way : IsRoutePart way route
  pub is_spec : IsSpec name route rest address
  pub divided : tokens ≡ way ++ rest

routed-says : (name route : Option (List ℕ)) (way rest : List Token) (address : Address) → route_from None way ≡ route → routed_of name route rest ≡ Some address
    → (bytes : List ℕ) × IsRoute way bytes × IsSpec name (Some bytes) rest address
routed-says name None way rest address read is = absurd (none-some address is)
routed-says name (Some bytes) way rest address read is = (bytes, route-sound way bytes read, spec-says name (Some bytes) rest address is)

angle-says : (name : Option (List ℕ)) (tokens : List Token) (address : Address) → angle_of name tokens ≡ Some address → IsInner name tokens address
unfolding angle_of
angle-says name tokens address is =
    let n = until 58 tokens in
    ⊎_elim
    (λ at.
    let found = sym (cond-true (begins 64 tokens) _ _ at) ∙ is in
    ⊎_elim
    (λ inside.
    let read = routed-says name (route_from None (take n tokens)) (take n tokens) (drop (n + 1) tokens) address refl (sym (cond-true (nat_lt n (length tokens)) _ None inside) ∙ found) in
    record {
      way = take n tokens ++ mark 58 ∷ [];
      route = Some read.0;
      rest = drop (n + 1) tokens;
      is_way = routed (take n tokens) read.0 read.1;
      is_spec = read.2;
      divided = until-divides 58 tokens (ltb-true n (length tokens) inside) ∙ sym (append_assoc (take n tokens) (mark 58 ∷ []) (drop (n + 1) tokens));
    })
    (λ end. absurd (none-some address (sym (cond-false (nat_lt n (length tokens)) _ None end) ∙ found)))
    (cases_Bool (nat_lt n (length tokens))))
    (λ other.
    record {
      way = [];
      route = None;
      rest = tokens;
      is_way = unrouted;
      is_spec = spec-says name None tokens address (sym (cond-false (begins 64 tokens) _ _ other) ∙ is);
      divided = refl;
    })
    (cases_Bool (begins 64 tokens))

named-says : (front : List Token) (phrase : Option (List ℕ)) (inner : List Token) (address : Address) → phrase_of front ≡ phrase → named_angle front phrase inner ≡ Some address
    → (name : Option (List ℕ)) × IsName front name × IsInner name inner address
named-says [] phrase inner address read is = (None, unnamed, angle-says None inner address is)
named-says (token ∷ rest) None inner address read is = absurd (none-some address is)
named-says (token ∷ rest) (Some name) inner address read is = (Some name, named (token ∷ rest) name read, angle-says (Some name) inner address is)

-- an element that was read
data View (tokens : List Token) (e : Element) : Type 0 where
  is_group : (front : List Token) (name : List ℕ) → phrase_of front ≡ Some name → e.opens ≡ true → e.address ≡ Some (GroupStart name)
      → tokens ≡ front ++ mark 58 ∷ drop e.width tokens → 0 < e.width → e.width ≤ length tokens → View tokens e
  is_mailbox : (front : List Token) (address : Address) → IsMailbox front address → e.opens ≡ false → e.address ≡ Some address
      → tokens ≡ front ++ drop e.width tokens → e.width ≤ length tokens → View tokens e
  is_nothing : e.opens ≡ false → e.address ≡ None → e.width ≡ 0 → View tokens e

Says : List Token → Option Element → Type 0
Says tokens None = Unit {0}
Says tokens (Some e) = View tokens e

module _ (tokens : List Token) where
  words-long : length (take (prefix_len is_part tokens) tokens) ≡ prefix_len is_part tokens
  words-long = length-take-le (prefix_len is_part tokens) tokens (prefix_len-le-length is_part tokens)

  -- what stands behind a mark
  after-mark : (b : ℕ) → begins b (drop (prefix_len is_part tokens) tokens) ≡ true → prefix_len is_part tokens + 1 ≤ length tokens
  after-mark b is =
      let n = prefix_len is_part tokens in
      let some = ap length (behind-first b n tokens is) in
      let left = length-drop n tokens in
      omega arith

  group-says : begins 58 (drop (prefix_len is_part tokens) tokens) ≡ true → (phrase : Option (List ℕ)) → phrase_of (take (prefix_len is_part tokens) tokens) ≡ phrase
      → Says tokens (group_element (prefix_len is_part tokens + 1) (group_start phrase))
  unfolding Says
  group-says at None read = tt
  group-says at (Some name) read =
      let n = prefix_len is_part tokens in
      is_group (take n tokens) name read refl refl (sym (take-append-drop n tokens) ∙ ap (λ t. take n tokens ++ t) (behind-first 58 n tokens at)) (omega arith) (after-mark 58 at)

  -- a mailbox that takes so many tokens
  mailbox-says : (width : ℕ) → width ≤ length tokens → (found : Option Address)
      → ((address : Address) → found ≡ Some address → (front : List Token) × IsMailbox front address × (tokens ≡ front ++ drop width tokens)) → Says tokens (mailbox_element width found)
  unfolding Says
  mailbox-says width within None says = tt
  mailbox-says width within (Some address) says =
      let it = says address refl in
      is_mailbox it.0 address it.1 refl refl it.2 within

  angle-mailbox : (n m : ℕ) (inner : List Token) → tokens ≡ take n tokens ++ mark 60 ∷ inner → inner ≡ take m inner ++ mark 62 ∷ drop (m + 1) inner → drop (n + 1 + (m + 1)) tokens ≡ drop (m + 1) inner
      → (address : Address) → named_angle (take n tokens) (phrase_of (take n tokens)) (take m inner) ≡ Some address
      → (front : List Token) × IsMailbox front address × (tokens ≡ front ++ drop (n + 1 + (m + 1)) tokens)
  angle-mailbox n m inner t i behind address is =
      let words = take n tokens in
      let rest = drop (m + 1) inner in
      let read = named-says words (phrase_of words) (take m inner) address refl is in
      let part = read.2 in
      let spec = part.is_spec in
      let front = words ++ mark 60 ∷ part.way ++ spec.left ++ mark 64 ∷ spec.right ++ mark 62 ∷ [] in
      let inner_is : take m inner ≡ part.way ++ (spec.left ++ mark 64 ∷ spec.right) = part.divided ∙ ap (λ t. part.way ++ t) spec.divided in (
        front,
        subst (λ a. IsMailbox front a) spec.address_is (angle words part.way spec.left spec.right read.0 part.route spec.local spec.host read.1 part.is_way spec.is_local spec.is_host),
        t
            ∙ ap (λ k. words ++ mark 60 ∷ k) (i ∙ ap (λ k. k ++ mark 62 ∷ rest) inner_is)
            ∙ sym (append_assoc (words ++ mark 60 ∷ part.way ++ spec.left ++ mark 64 ∷ spec.right) (mark 62 ∷ []) rest ∙ angle-row words part.way spec.left spec.right rest)
            ∙ ap (λ k. front ++ k) (sym behind),
      )

  angle-says-element : begins 60 (drop (prefix_len is_part tokens) tokens) ≡ true
      → Says tokens (angle_element (prefix_len is_part tokens) (take (prefix_len is_part tokens) tokens) (drop 1 (drop (prefix_len is_part tokens) tokens)))
  unfolding Says angle_element
  angle-says-element at =
      let n = prefix_len is_part tokens in
      let inner = drop 1 (drop n tokens) in
      let m = until 62 inner in
      let same = drop-drop 1 n tokens in
      let left = length-drop (n + 1) tokens in
      let within = after-mark 60 at in
      let t = sym (take-append-drop n tokens) ∙ ap (λ t. take n tokens ++ t) (begins-mark 60 (drop n tokens) at) in
      let says : Option Element → Type 0 = λ o. Says tokens o in
      ⊎_elim
      (λ closed.
      let inside = ltb-true m (length inner) closed in
      let long = ap length same in
      let behind : drop (n + 1 + (m + 1)) tokens ≡ drop (m + 1) inner = sym (drop-drop (m + 1) (n + 1) tokens) ∙ ap (drop (m + 1)) (sym same) in
      subst says (sym (cond-true (nat_lt m (length inner)) _ None closed))
      (mailbox-says (n + 1 + (m + 1)) (omega arith) (named_angle (take n tokens) (phrase_of (take n tokens)) (take m inner))
      (angle-mailbox n m inner t (until-divides 62 inner inside) behind)))
      (λ unclosed. subst says (sym (cond-false (nat_lt m (length inner)) _ None unclosed)) tt)
      (cases_Bool (nat_lt m (length inner)))

  plain-says-element : begins 64 (drop (prefix_len is_part tokens) tokens) ≡ true
      → Says tokens (plain_element (prefix_len is_part tokens) (take (prefix_len is_part tokens) tokens) (drop 1 (drop (prefix_len is_part tokens) tokens)))
  unfolding plain_element
  plain-says-element at =
      let n = prefix_len is_part tokens in
      let words = take n tokens in
      let inner = drop 1 (drop n tokens) in
      let m = prefix_len is_part inner in
      let same = drop-drop 1 n tokens in
      let left = length-drop (n + 1) tokens in
      let within = after-mark 64 at in
      let long = ap length same in
      let short = prefix_len-le-length is_part inner in
      let t = sym (take-append-drop n tokens) ∙ ap (λ t. words ++ t) (begins-mark 64 (drop n tokens) at) in
      let behind : drop (n + 1 + m) tokens ≡ drop m inner = sym (drop-drop m (n + 1) tokens) ∙ ap (drop m) (sym same) in
      mailbox-says (n + 1 + m) (omega arith) (mailbox_of None None (local_of words) (host_of (take m inner)))
      (λ address is.
      let parts = mailbox-parts None None (local_of words) (host_of (take m inner)) address is in (
        words ++ mark 64 ∷ take m inner,
        subst (λ a. IsMailbox (words ++ mark 64 ∷ take m inner) a) parts.4 (plain words (take m inner) parts.0 parts.1 parts.2 parts.3),
        t ∙ ap (λ k. words ++ mark 64 ∷ k) (sym (take-append-drop m inner)) ∙ sym (append_assoc words (mark 64 ∷ take m inner) (drop m inner)) ∙ ap (λ k. words ++ mark 64 ∷ take m inner ++ k) (sym behind),
      ))

  bare-says-element : Says tokens (mailbox_element (prefix_len is_part tokens) (mailbox_of None None (local_of (take (prefix_len is_part tokens) tokens)) (Some [])))
  bare-says-element =
      let n = prefix_len is_part tokens in
      let words = take n tokens in
      mailbox-says n (prefix_len-le-length is_part tokens) (mailbox_of None None (local_of words) (Some []))
      (λ address is.
      let parts = mailbox-parts None None (local_of words) (Some []) address is in
      let host : [] ≡ parts.1 = same_Some [] parts.1 parts.3 in (
        words,
        subst (λ a. IsMailbox words a) (ap (λ h. Mailbox None None parts.0 h) host ∙ parts.4) (bare words parts.0 parts.2),
        sym (take-append-drop n tokens),
      ))

  element-says : Says tokens (element_of tokens)
  unfolding element_of element_from Says
  element-says =
      let n = prefix_len is_part tokens in
      let words = take n tokens in
      let tail = drop n tokens in
      let says : Option Element → Type 0 = λ o. Says tokens o in
      ⊎_elim (λ is. subst says (sym (cond-true (begins 58 tail) _ _ is)) (group-says is (phrase_of words) refl)) (λ other. subst says (sym (cond-false (begins 58 tail) _ _ other))
      (⊎_elim (λ is. subst says (sym (cond-true (begins 60 tail) _ _ is)) (angle-says-element is)) (λ other. subst says (sym (cond-false (begins 60 tail) _ _ other))
      (⊎_elim (λ is. subst says (sym (cond-true (begins 64 tail) _ _ is)) (plain-says-element is)) (λ other. subst says (sym (cond-false (begins 64 tail) _ _ other))
      (⊎_elim (λ is. subst says (sym (cond-true (n == 0) _ _ is)) (is_nothing refl refl refl)) (λ other. subst says (sym (cond-false (n == 0) _ _ other)) bare-says-element)
      (cases_Bool (n == 0))))
      (cases_Bool (begins 64 tail))))
      (cases_Bool (begins 60 tail))))
      (cases_Bool (begins 58 tail))

element-view : (tokens : List Token) (e : Element) → element_of tokens ≡ Some e → View tokens e
unfolding Says
element-view tokens e is = subst (λ o. Says tokens o) is (element-says tokens)

-- how far an element goes
pub record IsWide (tokens : List Token) (e : Element) : Type 0 where
  pub within : e.width ≤ length tokens
  pub moves : e.opens ≡ true → 0 < e.width

pub element-width : (tokens : List Token) (e : Element) → element_of tokens ≡ Some e → IsWide tokens e
element-width tokens e is = wide (element-view tokens e is)
  where
    wide : View tokens e → IsWide tokens e
    wide (is_group front name phrase opens address divided some within) = record { within = within; moves = λ _. some }
    wide (is_mailbox front address one closed is divided within) = record { within = within; moves = λ opens. absurd (false≢true (sym closed ∙ opens)) }
    wide (is_nothing closed address width) = record { within = omega arith; moves = λ opens. absurd (false≢true (sym closed ∙ opens)) }

-- what may stand behind an element up to the end of its list: nothing, or a comma and a list
data Tail : List Token → List Address → Type 0 where
  ends : Tail [] []
  goes_on : (tokens : List Token) (addresses : List Address) → IsAddressList tokens addresses → Tail (mark 44 ∷ tokens) addresses

joined : (left right : List Token) (first more : List Address) → IsAddressList left first → Tail right more → IsAddressList (left ++ right) (first ++ more)
joined left _ first _ list ends = subst (λ t. IsAddressList t (first ++ [])) (sym (append-nil left)) (subst (λ a. IsAddressList left a) (sym (append-nil first)) list)
joined left _ first _ list (goes_on tokens addresses more) = comma left tokens first addresses list more

-- the ends of so many groups, with what stands behind each of them
data Behind : ℕ → List Token → List Address → Type 0 where
  outermost : Behind 0 [] []
  closes : (depth : ℕ) (tail rest : List Token) (first more : List Address) → Tail tail first → Behind depth rest more
      → Behind (depth + 1) (mark 59 ∷ tail ++ rest) (GroupEnd ∷ first ++ more)

Lead : Bool → List Token → List Address → Type 0
Lead true = IsAddressList
Lead false = Tail

record Split (starts : Bool) (depth : ℕ) (tokens : List Token) (addresses : List Address) : Type 0 where
  pub lead : List Token
  pub rest : List Token
  pub first : List Address
  pub more : List Address
  pub is_lead : Lead starts lead first
  pub behind : Behind depth rest more
  pub tokens_are : tokens ≡ lead ++ rest
  pub addresses_are : addresses ≡ first ++ more

-- the group that ends first
record Ended (depth : ℕ) (tokens : List Token) (addresses : List Address) : Type 0 where
  pub tail : List Token
  pub rest : List Token
  pub first : List Address
  pub more : List Address
  pub is_tail : Tail tail first
  pub behind : Behind depth rest more
  pub tokens_are : tokens ≡ mark 59 ∷ (tail ++ rest)
  pub addresses_are : addresses ≡ GroupEnd ∷ (first ++ more)

ended : (depth deep : ℕ) (tokens : List Token) (addresses : List Address) → deep ≡ depth + 1 → Behind deep tokens addresses → Ended depth tokens addresses
ended depth _ _ _ is outermost = absurd (omega arith)
ended depth _ _ _ is (closes d tail rest first more t b) =
    let same : d ≡ depth = omega arith in
    record { tail = tail; rest = rest; first = first; more = more; is_tail = t; behind = subst (λ k. Behind k rest more) same b; tokens_are = refl; addresses_are = refl }

split-group : (depth : ℕ) (tokens front left : List Token) (name : List ℕ) (more : List Address) → phrase_of front ≡ Some name → tokens ≡ front ++ mark 58 ∷ left
    → Split true (depth + 1) left more → Split true depth tokens (GroupStart name ∷ more)
unfolding Lead
split-group depth tokens front left name more phrase divided split =
    let end = ended depth (depth + 1) split.rest split.more refl split.behind in
    let lead = front ++ mark 58 ∷ split.lead ++ mark 59 ∷ [] in
    let first = GroupStart name ∷ split.first ++ GroupEnd ∷ [] in
    record {
      lead = lead ++ end.tail;
      rest = end.rest;
      first = first ++ end.first;
      more = end.more;
      is_lead = joined lead end.tail first end.first (group front split.lead name split.first phrase split.is_lead) end.is_tail;
      behind = end.behind;
      tokens_are =
          divided ∙ ap (λ t. front ++ mark 58 ∷ t) (split.tokens_are ∙ ap (λ t. split.lead ++ t) end.tokens_are)
          ∙ sym (append_assoc front (mark 58 ∷ split.lead) (mark 59 ∷ (end.tail ++ end.rest)))
          ∙ sym (append_assoc (front ++ mark 58 ∷ split.lead) (mark 59 ∷ []) (end.tail ++ end.rest))
          ∙ sym (append_assoc lead end.tail end.rest);
      addresses_are =
          ap (λ a. GroupStart name ∷ a) (split.addresses_are ∙ ap (λ a. split.first ++ a) end.addresses_are)
          ∙ sym (append_assoc (GroupStart name ∷ split.first) (GroupEnd ∷ []) (end.first ++ end.more))
          ∙ sym (append_assoc first end.first end.more);
    }

-- an element that begins no group, before what is split
split-closed : (depth : ℕ) (tokens lead left : List Token) (first more : List Address) → IsAddressList lead first → tokens ≡ lead ++ left → Split false depth left more → Split true depth tokens (first ++ more)
unfolding Lead
split-closed depth tokens lead left first more list divided split =
    record {
      lead = lead ++ split.lead;
      rest = split.rest;
      first = first ++ split.first;
      more = split.more;
      is_lead = joined lead split.lead first split.first list split.is_lead;
      behind = split.behind;
      tokens_are = divided ∙ ap (λ t. lead ++ t) split.tokens_are ∙ sym (append_assoc lead split.lead split.rest);
      addresses_are = ap (λ a. first ++ a) split.addresses_are ∙ sym (append_assoc first split.first split.more);
    }

split-element : (depth : ℕ) (tokens : List Token) (e : Element) (more : List Address) → View tokens e → Split e.opens (deeper e.opens depth) (drop e.width tokens) more → Split true depth tokens (added e.address more)
split-element depth tokens e more (is_group front name phrase opens address divided some within) split =
    subst (λ a. Split true depth tokens (added a more)) (sym address)
    (split-group depth tokens front (drop e.width tokens) name more phrase divided (subst (λ b. Split b (deeper b depth) (drop e.width tokens) more) opens split))
split-element depth tokens e more (is_mailbox front one is closed address divided within) split =
    subst (λ a. Split true depth tokens (added a more)) (sym address)
    (split-closed depth tokens front (drop e.width tokens) (one ∷ []) more (mailbox front one is) divided (subst (λ b. Split b (deeper b depth) (drop e.width tokens) more) closed split))
split-element depth tokens e more (is_nothing closed address width) split =
    subst (λ a. Split true depth tokens (added a more)) (sym address)
    (split-closed depth tokens [] (drop e.width tokens) [] more nothing (ap (λ k. drop k tokens) (sym width)) (subst (λ b. Split b (deeper b depth) (drop e.width tokens) more) closed split))

reads-split : (starts : Bool) (depth : ℕ) (tokens : List Token) (addresses : List Address) → Reads starts depth tokens addresses → Split starts depth tokens addresses
unfolding Lead
reads-split _ _ _ _ finished =
    record { lead = []; rest = []; first = []; more = []; is_lead = ends; behind = outermost; tokens_are = refl; addresses_are = refl }
reads-split _ _ _ _ (next_element depth tokens e more is r) = split-element depth tokens e more (element-view tokens e is) (reads-split e.opens (deeper e.opens depth) (drop e.width tokens) more r)
reads-split _ _ _ _ (group_ends depth tokens more r) =
    let split = reads-split false depth tokens more r in
    record {
      lead = [];
      rest = mark 59 ∷ split.lead ++ split.rest;
      first = [];
      more = GroupEnd ∷ split.first ++ split.more;
      is_lead = ends;
      behind = closes depth split.lead split.rest split.first split.more split.is_lead split.behind;
      tokens_are = ap (λ t. mark 59 ∷ t) split.tokens_are;
      addresses_are = ap (λ a. GroupEnd ∷ a) split.addresses_are;
    }
reads-split _ _ _ _ (next_comma depth tokens more r) =
    let split = reads-split true depth tokens more r in
    record {
      lead = mark 44 ∷ split.lead;
      rest = split.rest;
      first = split.first;
      more = split.more;
      is_lead = goes_on split.lead split.first split.is_lead;
      behind = split.behind;
      tokens_are = ap (λ t. mark 44 ∷ t) split.tokens_are;
      addresses_are = split.addresses_are;
    }

pub list-sound : (tokens : List Token) (addresses : List Address) → Reads true 0 tokens addresses → IsAddressList tokens addresses
unfolding Lead
list-sound tokens addresses r =
    let split = reads-split true 0 tokens addresses r in
    let none = outer 0 split.rest split.more refl split.behind in
    subst (λ t. IsAddressList t addresses) (sym (split.tokens_are ∙ ap (λ t. split.lead ++ t) none.0 ∙ append-nil split.lead))
    (subst (λ a. IsAddressList split.lead a) (sym (split.addresses_are ∙ ap (λ a. split.first ++ a) none.1 ∙ append-nil split.first)) split.is_lead)
  where
    outer : (depth : ℕ) (rest : List Token) (more : List Address) → depth ≡ 0 → Behind depth rest more → (rest ≡ []) × (more ≡ [])
    outer _ _ _ is outermost = (refl, refl)
    outer _ _ _ is (closes depth tail rest first more t b) = absurd (omega arith)
