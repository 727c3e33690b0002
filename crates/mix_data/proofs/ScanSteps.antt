-- A data file is scanned record by record.
use Rattle.std.proofs.Common.{◌≡◌, ◌⊎◌, ⊎_elim, ℕ, zero, suc, ◌+◌, ◌-◌, ◌*◌, ◌<◌, ◌≤◌, List, [], ◌∷◌, ◌++◌, length, map, drop, Option, Some, None, refl, sym, ap, ◌∙◌, subst, arith, append_assoc, append-nil, length-append}
use Rattle.std.specs.Prelude.{MatchOption, unwrap_or, slice_index_or}
use Rattle.std.proofs.lemmas.List.{map-append, length-map}
use Rattle.file_model.specs.Disk.{seen}
use Rattle.file_model.specs.Histories.{World, History, Now}
use Rattle.file_model.specs.Images.{Image, Node, text_at, node_at, bytes_of, nothing, directory, file}
use Rattle.file_model.specs.Kinds.{kind_of}
use Rattle.file_model.specs.declared.files.Kind.{Kind}
use Rattle.file_model.specs.declared.files.Kind.TheVariants.{File}
use Rattle.mix_data.specs.declared.head.Head.{Head}
use Rattle.mix_data.specs.declared.scan.Placed.{Placed}
use Rattle.mix_data.specs.Scans.{HeadParts, head_parts, PlacedParts, ScanParts, placed_parts, PlacesRise, record_at_front, scan_with, scan_on, scan_of}

-- some records before those of a scan
abbrev pub behind : List PlacedParts → ScanParts → ScanParts
behind read scan = record { records = read ++ scan.records; end = scan.end }

-- these records were read, and the rest of the scan begins at the place
abbrev pub IsScanned : List ℕ → List PlacedParts → ℕ → Type 0
IsScanned text read place = behind read (scan_on (length text - length read) text place) ≡ scan_of text

scan_more : (text : List ℕ) (read : List PlacedParts) (head : HeadParts) (place fuel : ℕ) → 0 < fuel → record_at_front (drop place text) ≡ Some head
    → behind (read ++ record { head = head; place = place } ∷ []) (scan_on (fuel - 1) text (place + 45 + head.size)) ≡ behind read (scan_on fuel text place)
scan_more text read head place zero some front = absurd (omega (arith, some))
scan_more text read head place (suc more) some front =
    let less : suc more - 1 ≡ more = omega arith in
    let later = scan_on more text (place + 45 + head.size) in
    ap (λ n. behind (read ++ record { head = head; place = place } ∷ []) (scan_on n text (place + 45 + head.size))) less
    ∙ ap (λ records. record { records = records; end = later.end }) (append_assoc read (record { head = head; place = place } ∷ []) later.records)
    ∙ ap (λ found. behind read (scan_with place found (λ next. scan_on more text next))) (sym front)

pub scan_last : (text : List ℕ) (place fuel : ℕ) → record_at_front (drop place text) ≡ None → scan_on fuel text place ≡ record { records = []; end = place }
scan_last text place zero none = refl
scan_last text place (suc more) none = ap (λ found. scan_with place found (λ next. scan_on more text next)) none

-- one record more
pub scan_step : (text : List ℕ) (old new : List Placed) (item : Placed) (place next : ℕ) → IsScanned text (map placed_parts old) place → new ≡ old ++ item ∷ []
    → record_at_front (drop place text) ≡ Some (placed_parts item).head → (placed_parts item).place ≡ place → next ≡ place + 45 + (placed_parts item).head.size → length old < length text
    → IsScanned text (map placed_parts new) next
scan_step text old new item place next is more front at behind_it room =
    let head = (placed_parts item).head in
    let items : map placed_parts new ≡ map placed_parts old ++ record { head = head; place = place } ∷ [] =
    ap (map placed_parts) more ∙ map-append placed_parts old (item ∷ []) ∙ ap (λ p. map placed_parts old ++ record { head = head; place = p } ∷ []) at in
    let fuel : length text - length (map placed_parts new) ≡ length text - length (map placed_parts old) - 1 =
    omega (arith, length-map new placed_parts, length-map old placed_parts, ap length more, length-append old (item ∷ [])) in
    (λ i. behind (items i) (scan_on (fuel i) text (behind_it i)))
    ∙ scan_more text (map placed_parts old) head place (length text - length (map placed_parts old)) (omega (arith, length-map old placed_parts, room)) front ∙ is

-- no record more
pub scan_whole : (text : List ℕ) (read : List PlacedParts) (place : ℕ) → IsScanned text read place → record_at_front (drop place text) ≡ None
    → record { records = read; end = place } ≡ scan_of text
scan_whole text read place is none =
    (λ i. record { records = (sym (append-nil read)) i; end = place }) ∙ ap (behind read) (sym (scan_last text place (length text - length read) none)) ∙ is

-- no more records were read than there are
pub scan_few : (text : List ℕ) (read : List PlacedParts) (place : ℕ) → IsScanned text read place → length read ≤ length (scan_of text).records
scan_few text read place is =
    let later = scan_on (length text - length read) text place in
    omega (arith, ap (λ s. length s.records) is, length-append read later.records)

pub scan_start : (text : List ℕ) → IsScanned text [] 0
unfolding scan_of
scan_start text = let all : length text - 0 ≡ length text = omega arith in ap (λ n. scan_on n text 0) all

pub scan_nothing : record { records = []; end = 0 } ≡ scan_of []
unfolding scan_of
scan_nothing = refl

-- ---- On a host

-- a file of this length stands there
abbrev pub IsLong : List ℕ → ℕ → Image → Type 0
IsLong path long image = (bytes : List ℕ) × (node_at image path ≡ file bytes) × (length bytes ≡ long)

text_is : (path : List ℕ) (long : ℕ) (image : Image) → IsLong path long image → length (text_at image path) ≡ long
text_is path long image is = ap (λ node. length (unwrap_or (bytes_of node) [])) is.1 ∙ is.2

-- what is found at a place
abbrev pub Finds : List ℕ → ℕ → Option Head → Image → Type 0
Finds path place found image = MatchOption found (record_at_front (drop place (text_at image path)) ≡ None) (λ head. record_at_front (drop place (text_at image path)) ≡ Some (head_parts head))

pub now_start : (path : List ℕ) (h : History) (items : List Placed) → items ≡ [] → Now h (λ w. IsScanned (text_at (seen w.disk) path) (map placed_parts items) 0)
now_start path [] items none = tt
now_start path (w ∷ past) items none = subst (λ items. IsScanned (text_at (seen w.disk) path) (map placed_parts items) 0) (sym none) (scan_start (text_at (seen w.disk) path))

pub now_step : (path : List ℕ) (long : ℕ) (h : History) (old new : List Placed) (item : Placed) (place next : ℕ) (found : Option Head)
    → Now h (λ w. IsLong path long (seen w.disk)) → Now h (λ w. IsScanned (text_at (seen w.disk) path) (map placed_parts old) place) → Now h (λ w. Finds path place found (seen w.disk)) → found ≡ Some item.head
    → new ≡ old ++ item ∷ [] → item.place ≡ place → next ≡ place + 45 + item.head.size → length old < long
    → Now h (λ w. IsScanned (text_at (seen w.disk) path) (map placed_parts new) next)
now_step path long [] old new item place next found stands is finds some more at behind_it room = tt
now_step path long (w ∷ past) old new item place next found stands is finds some more at behind_it room =
    scan_step (text_at (seen w.disk) path) old new item place next is more (subst (λ f. Finds path place f (seen w.disk)) some finds) at behind_it
    (subst (λ n. length old < n) (sym (text_is path long (seen w.disk) stands)) room)

pub now_whole : (path : List ℕ) (h : History) (items : List Placed) (place : ℕ) (found : Option Head)
    → Now h (λ w. IsScanned (text_at (seen w.disk) path) (map placed_parts items) place) → Now h (λ w. Finds path place found (seen w.disk)) → found ≡ None
    → Now h (λ w. record { records = map placed_parts items; end = place } ≡ scan_of (text_at (seen w.disk) path))
now_whole path [] items place found is finds none = tt
now_whole path (w ∷ past) items place found is finds none =
    scan_whole (text_at (seen w.disk) path) (map placed_parts items) place is (subst (λ f. Finds path place f (seen w.disk)) none finds)

-- bytes read: none, and 45 more for each record
pub now_any : (P : Type 0) (h : History) → P → Now h (λ w. P)
now_any P [] holds = tt
now_any P (w ∷ past) holds = holds

pub now_more : (h : History) (start before after few many : ℕ) → Now h (λ w. before ≤ start + 45 * few) → Now h (λ w. after ≤ before + 45) → many ≡ few + 1 → Now h (λ w. after ≤ start + 45 * many)
now_more [] start before after few many was reads one = tt
now_more (w ∷ past) start before after few many was reads one = omega (arith, was, reads, one)

-- where no file stands there is no text
no_text : (kind : Kind) (node : Node) → kind ≡ kind_of node → ((n : ℕ) → kind ≡ File n → ⊥) → unwrap_or (bytes_of node) [] ≡ []
no_text kind nothing is other = refl
no_text kind directory is other = refl
no_text kind (file bytes) is other = absurd (other (length bytes) is)

pub now_nothing : (path : List ℕ) (h : History) (kind : Kind) (items : List Placed) → items ≡ [] → Now h (λ w. kind ≡ kind_of (node_at (seen w.disk) path)) → ((n : ℕ) → kind ≡ File n → ⊥)
    → Now h (λ w. record { records = map placed_parts items; end = 0 } ≡ scan_of (text_at (seen w.disk) path))
now_nothing path [] kind items none is other = tt
now_nothing path (w ∷ past) kind items none is other =
    ap (λ items. record { records = map placed_parts items; end = 0 }) none ∙ scan_nothing ∙ ap scan_of (sym (no_text kind (node_at (seen w.disk) path) is other))

pub now_any_of : (P : World → Type 0) (h : History) → ((w : World) → P w) → Now h P
now_any_of P [] holds = tt
now_any_of P (w ∷ past) holds = holds w

-- ---- Places rise

pub none_rise : (items : List Placed) → items ≡ [] → PlacesRise items
none_rise items none k d inside = absurd (omega (arith, inside, ap length none))

at_old : (old : List Placed) (item : Placed) (k : ℕ) (d : Placed) → k < length old → slice_index_or (old ++ item ∷ []) k d ≡ slice_index_or old k d
at_old [] item k d inside = absurd (omega (arith, inside))
at_old (x ∷ old) item zero d inside = refl
at_old (x ∷ old) item (suc k) d inside = at_old old item k d (omega (arith, inside))

at_new : (old : List Placed) (item d : Placed) → slice_index_or (old ++ item ∷ []) (length old) d ≡ item
at_new [] item d = refl
at_new (x ∷ old) item d = at_new old item d

pub below_push : (old new : List Placed) (item : Placed) (place next : ℕ) → new ≡ old ++ item ∷ [] → ((k : ℕ) (d : Placed) → k < length old → (slice_index_or old k d).place < place) → place ≤ next → item.place < next
    → (k : ℕ) (d : Placed) → k < length new → (slice_index_or new k d).place < next
below_push old new item place next is below later here k d inside = ⊎_elim
    (λ early. subst (λ l. (slice_index_or l k d).place < next) (sym is) (subst (λ (p : Placed). p.place < next) (sym (at_old old item k d early)) (omega (arith, below k d early, later))))
    (λ late.
    let end : k ≡ length old = omega (arith, late, inside, ap length is, length-append old (item ∷ [])) in
    subst (λ l. (slice_index_or l k d).place < next) (sym is) (subst (λ n. (slice_index_or (old ++ item ∷ []) n d).place < next) (sym end) (subst (λ (p : Placed). p.place < next) (sym (at_new old item d)) here)))
    (side k (length old))
  where
    side : (k n : ℕ) → (k < n) ⊎ (n ≤ k)
    side k n = grind arith

pub rise_push : (old new : List Placed) (item : Placed) → new ≡ old ++ item ∷ [] → PlacesRise old → ((k : ℕ) (d : Placed) → k < length old → (slice_index_or old k d).place < item.place) → PlacesRise new
rise_push old new item is rise below k d inside =
    subst (λ l. (slice_index_or l k d).place < (slice_index_or l (k + 1) d).place) (sym is)
    (⊎_elim
    (λ early.
    subst (λ (p : Placed). p.place < (slice_index_or (old ++ item ∷ []) (k + 1) d).place) (sym (at_old old item k d (omega (arith, early))))
    (subst (λ (p : Placed). (slice_index_or old k d).place < p.place) (sym (at_old old item (k + 1) d early)) (rise k d early)))
    (λ late.
    let end : k + 1 ≡ length old = omega (arith, late, inside, ap length is, length-append old (item ∷ [])) in
    subst (λ (p : Placed). p.place < (slice_index_or (old ++ item ∷ []) (k + 1) d).place) (sym (at_old old item k d (omega (arith, end))))
    (subst (λ n. (slice_index_or old k d).place < (slice_index_or (old ++ item ∷ []) n d).place) (sym end) (subst (λ (p : Placed). (slice_index_or old k d).place < p.place) (sym (at_new old item d)) (below k d (omega (arith, end))))))
    (side (k + 1) (length old)))
  where
    side : (k n : ℕ) → (k < n) ⊎ (n ≤ k)
    side k n = grind arith
