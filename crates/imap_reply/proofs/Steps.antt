-- Putting texts one after the other.
use Rattle.std.specs.Result.{IsErrAnd}
use Rattle.std.proofs.Math.Seq.{drop-cons}
use Rattle.std.proofs.lemmas.List.{take-append-drop}
use Rattle.std.proofs.Math.ListN.{get_or}
use Rattle.std.proofs.Common.{append-nil, codes, map, arith, suc, ◌+◌, ◌<◌, length, take, drop, ℕ, List, [], ◌∷◌, ◌++◌, ◌≡◌, refl, sym, ◌∙◌, ap, subst, append_assoc, flat_map, Result, Ok, Err}
use Rattle.session_loop.specs.declared.answers.Stop.{Stop}
use Rattle.imap_reply.specs.Texts.{behind_spaces, spaced}
use Rattle.imap_reply.specs.Replies.{crlf, tagged}
use Rattle.imap_reply.specs.Sinks.{Putting, IsSink}

-- the bytes of items, cut between two items
pub flat_parts : {A : Type 0} (f : A → List ℕ) (one two : List A) → flat_map f (one ++ two) ≡ flat_map f one ++ flat_map f two
flat_parts f [] two = refl
flat_parts f (a ∷ one) two = ap (λ l. f a ++ l) (flat_parts f one two) ∙ sym (append_assoc (f a) (flat_map f one) (flat_map f two))

-- a text couldn't be put behind others
pub stops_at : {S W : Type 0} (puts : Putting S W) → IsSink puts → (front bytes rest whole : List ℕ) (stop : Stop) (result : Result (Unit {0}) Stop) (one two three : S) (first second third : W)
    → IsErrAnd result (λ e. e ≡ stop) → puts front (Ok tt) one two first second → puts bytes (Err stop) two three second third → (front ++ bytes) ++ rest ≡ whole
    → puts whole result one three first third
stops_at puts sink front bytes rest whole stop (Ok u) one two three first second third ends was fails is = absurd ends
stops_at puts sink front bytes rest whole stop (Err e) one two three first second third ends was fails is =
    subst (λ r. puts whole (Err r) one three first third) (sym ends)
    (subst (λ w. puts w (Err stop) one three first third) is (sink.no_more (front ++ bytes) rest stop one three first third (sink.more front bytes (Err stop) one two three first second third was fails)))

next_rest : {A : Type 0} (items : List A) (i : ℕ) → drop (suc i) items ≡ drop (i + 1) items
next_rest items i = ap (λ n. drop n items) (plus i)
  where
    plus : (i : ℕ) → suc i ≡ i + 1
    plus i = omega arith

-- the item at a place, and those behind it
pub next_at : {A : Type 0} (items : List A) (i : ℕ) (least : A) → i < length items → drop i items ≡ get_or items i least ∷ drop (i + 1) items
next_at items i least within = drop-cons items i least within ∙ ap (λ l. get_or items i least ∷ l) (next_rest items i)

-- the same by what stands at the place
pub next_item : {A : Type 0} (items : List A) (i : ℕ) (item : A) → i < length items → item ≡ get_or items i item → drop i items ≡ item ∷ drop (i + 1) items
next_item items i item within is = next_at items i item within ∙ ap (λ x. x ∷ drop (i + 1) items) (sym is)

-- the bytes of items: of those before a place, of that at it, and of those behind
pub flat_at : {A : Type 0} (f : A → List ℕ) (items : List A) (i : ℕ) (least : A) → i < length items → (flat_map f (take i items) ++ f (get_or items i least)) ++ flat_map f (drop (i + 1) items) ≡ flat_map f items
flat_at f items i least within =
    append_assoc (flat_map f (take i items)) (f (get_or items i least)) (flat_map f (drop (i + 1) items))
    ∙ ap (λ l. flat_map f (take i items) ++ flat_map f l) (sym (next_at items i least within))
    ∙ sym (flat_parts f (take i items) (drop i items))
    ∙ ap (λ l. flat_map f l) (take-append-drop i items)

-- the same by what stands at the place
pub flat_item : {A : Type 0} (f : A → List ℕ) (items : List A) (i : ℕ) (item : A) → i < length items → item ≡ get_or items i item → (flat_map f (take i items) ++ f item) ++ flat_map f (drop (i + 1) items) ≡ flat_map f items
flat_item f items i item within is = ap (λ x. (flat_map f (take i items) ++ f x) ++ flat_map f (drop (i + 1) items)) is ∙ flat_at f items i item within

-- a text couldn't be put that is the first
pub stops_first : {S W : Type 0} (puts : Putting S W) → IsSink puts → (bytes rest whole : List ℕ) (stop : Stop) (result : Result (Unit {0}) Stop) (one two : S) (first second : W)
    → IsErrAnd result (λ e. e ≡ stop) → puts bytes (Err stop) one two first second → bytes ++ rest ≡ whole → puts whole result one two first second
stops_first puts sink bytes rest whole stop (Ok u) one two first second ends fails is = absurd ends
stops_first puts sink bytes rest whole stop (Err e) one two first second ends fails is =
    subst (λ r. puts whole (Err r) one two first second) (sym ends) (subst (λ w. puts w (Err stop) one two first second) is (sink.no_more bytes rest stop one two first second fails))

-- each text behind a space, one by one
pub behind_one_by_one : {A : Type 0} (text : A → List ℕ) (items : List A) → flat_map (λ t. codes " " ++ text t) items ≡ behind_spaces (map text items)
behind_one_by_one text [] = refl
behind_one_by_one text (a ∷ items) = ap (λ l. 32 ∷ (text a ++ l)) (behind_one_by_one text items)

-- a first text, and the others behind spaces
pub spaced_one_by_one : {A : Type 0} (text : A → List ℕ) (items : List A) (first : A) (rest : List A) → items ≡ first ∷ rest
    → text first ++ flat_map (λ t. codes " " ++ text t) rest ≡ spaced (map text items)
spaced_one_by_one text items first rest is = ap (λ l. text first ++ l) (behind_one_by_one text rest) ∙ ap (λ l. spaced (map text l)) (sym is)

-- a text was put behind another
pub puts_two : {S W : Type 0} (puts : Putting S W) → IsSink puts → (front rest whole : List ℕ) (result : Result (Unit {0}) Stop) (one two three : S) (first second third : W)
    → puts front (Ok tt) one two first second → puts rest result two three second third → front ++ rest ≡ whole → puts whole result one three first third
puts_two puts sink front rest whole result one two three first second third was more is =
    subst (λ w. puts w result one three first third) is (sink.more front rest result one two three first second third was more)

-- the line that says why a store can't be read, in its pieces
pub ill_formed_pieces : (tag driver number : List ℕ) → tag ++ (codes " NO ill-formed " ++ (driver ++ (codes " store after " ++ (number ++ (codes " records" ++ (crlf ++ []))))))
    ≡ tagged tag (codes "NO ill-formed " ++ (driver ++ (codes " store after " ++ (number ++ codes " records"))))
ill_formed_pieces tag driver number = ap (λ l. tag ++ (codes " NO ill-formed " ++ l))
    (ap (λ l. driver ++ (codes " store after " ++ (number ++ (codes " records" ++ l)))) (append-nil crlf)
    ∙ sym (append_assoc driver (codes " store after " ++ (number ++ codes " records")) crlf ∙ ap (λ l. driver ++ (codes " store after " ++ l)) (append_assoc number (codes " records") crlf)))
