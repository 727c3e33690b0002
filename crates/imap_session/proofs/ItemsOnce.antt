-- Items of FETCH, each once.
use Rattle.std.proofs.Common.{ℕ, Bool, true, false, List, [], ◌∷◌, ◌++◌, ◌+◌, ◌<◌, ◌≡◌, ◌||◌, ◌&&◌, refl, sym, ◌∙◌, ap, append_assoc, drop, length, if◌then◌else◌}
use Rattle.std.proofs.Math.ListN.{get_or}
use Rattle.std.specs.List.{list_all}
use Rattle.imap_arguments.specs.declared.item.Item.{Item}
use Rattle.imap_session.specs.Fetch.{asks, each_once, same_item}
use Rattle.imap_session.specs.Items.{is_built}
use Rattle.imap_reply.proofs.Steps.{next_item}

-- ---- What stands among items rests on no order

swap : (a b c : Bool) → (a || (b || c)) ≡ (b || (a || c))
swap true true c = refl
swap true false c = refl
swap false b c = refl

asks_behind : (items : List Item) (one item : Item) → asks (items ++ one ∷ []) item ≡ asks (one ∷ items) item
asks_behind [] one item = refl
asks_behind (x ∷ items) one item = ap (λ b. same_item item x || b) (asks_behind items one item) ∙ swap (same_item item x) (same_item item one) (asks items item)

once_alike : (one other rest : List Item) → ((item : Item) → asks one item ≡ asks other item) → each_once one rest ≡ each_once other rest
once_alike one other [] alike = refl
once_alike one other (item ∷ rest) alike =
    ap (λ b. if b then each_once one rest else item ∷ each_once (item ∷ one) rest) (alike item)
    ∙ ap (λ l. if asks other item then l else item ∷ each_once (item ∷ one) rest) (once_alike one other rest alike)
    ∙ ap (λ l. if asks other item then each_once other rest else item ∷ l)
    (once_alike (item ∷ one) (item ∷ other) rest (λ x. ap (λ b. same_item x item || b) (alike x)))

-- ---- One item more

once_step : (once : List Item) (item : Item) (rest : List Item) (b : Bool)
    → once ++ (if b then each_once once rest else item ∷ each_once (item ∷ once) rest)
    ≡ (if b then once else once ++ item ∷ []) ++ each_once (if b then once else once ++ item ∷ []) rest
once_step once item rest true = refl
once_step once item rest false =
    ap (λ l. once ++ item ∷ l) (once_alike (item ∷ once) (once ++ item ∷ []) rest (λ x. sym (asks_behind once item x)))
    ∙ sym (append_assoc once (item ∷ []) (each_once (once ++ item ∷ []) rest))

pub once_more : (once next asked : List Item) (item : Item) (i : ℕ) → i < length asked → item ≡ get_or asked i item → next ≡ (if asks once item then once else once ++ item ∷ [])
    → once ++ each_once once (drop i asked) ≡ next ++ each_once next (drop (i + 1) asked)
once_more once next asked item i within is added =
    ap (λ l. once ++ each_once once l) (next_item asked i item within is) ∙ once_step once item (drop (i + 1) asked) (asks once item)
    ∙ ap (λ n. n ++ each_once n (drop (i + 1) asked)) (sym added)

-- ---- They are built

all_more : (items : List Item) (item : Item) → list_all is_built items ≡ true → is_built item ≡ true → list_all is_built (items ++ item ∷ []) ≡ true
all_more [] item all is = ap (λ b. b && true) is
all_more (x ∷ items) item all is = by_first (is_built x) (λ rest. all_more items item rest is) all
  where
    by_first : (b : Bool) → (list_all is_built items ≡ true → list_all is_built (items ++ item ∷ []) ≡ true)
        → (b && list_all is_built items) ≡ true → (b && list_all is_built (items ++ item ∷ [])) ≡ true
    by_first true more all = more all
    by_first false more all = absurd (cc)

pub built_more : (once next : List Item) (item : Item) → list_all is_built once ≡ true → is_built item ≡ true → next ≡ (if asks once item then once else once ++ item ∷ [])
    → list_all is_built next ≡ true
built_more once next item all is added = ap (λ l. list_all is_built l) added ∙ by_test (asks once item)
  where
    by_test : (b : Bool) → list_all is_built (if b then once else once ++ item ∷ []) ≡ true
    by_test true = all
    by_test false = all_more once item all is
