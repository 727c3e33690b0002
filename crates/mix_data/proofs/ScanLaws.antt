-- What a scan finds is found again where more stands behind it.
use Rattle.std.proofs.Common.{◌≡◌, ℕ, zero, suc, ◌+◌, ◌<◌, ◌≤◌, List, [], ◌∷◌, ◌++◌, length, take, drop, Bool, true, false, cond, Option, Some, None, refl, sym, ap, ◌∙◌, subst, arith, append_assoc, append-nil, length-append, nat_le, get_or, length-take-le}
use Rattle.std.proofs.lemmas.List.{take_at, drop_at, length-take, length-drop, get_or-take, get_or-drop, ext_get_or}
use Rattle.std.proofs.lemmas.Bool.Decides.{nat_tests}
use Rattle.std.specs.List.{AllByRecursion, Contains}
use Rattle.std.proofs.lemmas.List.Elements.{Contains-append_left}
use Rattle.mail_fields.specs.Numbers.{◌>>=◌}
use Rattle.mix_data.specs.Scans.{HeadParts, PlacedParts, ScanParts, head_of, head_text, record_text, record_at_front, scan_with, scan_on, scan_of, Written, records_text, placed_from}
use Rattle.mix_data.proofs.Heads.{CanStand, head-reads}
use Rattle.mix_data.proofs.ScanSteps.{behind, scan_last}

-- a whole record that begins a text is as long as it says
front_inside : (text : List ℕ) (head : HeadParts) → record_at_front text ≡ Some head → 45 + head.size ≤ length text
front_inside text head is = found (head_of (take 45 text)) is
  where
    tested : (b : Bool) (n : ℕ) (h : HeadParts) → nat_le (45 + h.size) n ≡ b → cond b (Some h) None ≡ Some head → 45 + head.size ≤ n
    tested true n h e is = let same : h ≡ head = cc in let size : h.size ≡ head.size = ap (λ h. h.size) same in grind (arith, nat_tests, e, size)
    tested false n h e is = absurd (cc)

    found : (o : Option HeadParts) → (o >>= λ h. cond (nat_le (45 + h.size) (length text)) (Some h) None) ≡ Some head → 45 + head.size ≤ length text
    found None is = absurd (cc)
    found (Some h) is = tested (nat_le (45 + h.size) (length text)) (length text) h refl is

-- none begins behind the end
front_none : (text : List ℕ) (place : ℕ) → length text ≤ place → (o : Option HeadParts) → record_at_front (drop place text) ≡ o → o ≡ None
front_none text place past None is = refl
front_none text place past (Some head) is =
    let inside = front_inside (drop place text) head is in absurd (omega (arith, inside, past, length-drop place text))

-- so many are enough: the file has no more bytes behind the place
pub scan_fuel : (f g : ℕ) (text : List ℕ) (place : ℕ) → length text ≤ f + place → length text ≤ g + place → scan_on f text place ≡ scan_on g text place
scan_fuel zero g text place one other = sym (scan_last text place g (front_none text place (omega (arith, one)) (record_at_front (drop place text)) refl))
scan_fuel (suc f) zero text place one other = scan_last text place (suc f) (front_none text place (omega (arith, other)) (record_at_front (drop place text)) refl)
scan_fuel (suc f) (suc g) text place one other = at (λ head. scan_fuel f g text (place + 45 + head.size) (omega (arith, one)) (omega (arith, other))) (record_at_front (drop place text))
  where
    at : ((head : HeadParts) → scan_on f text (place + 45 + head.size) ≡ scan_on g text (place + 45 + head.size)) → (o : Option HeadParts) → scan_with place o (λ next. scan_on f text next) ≡ scan_with place o (λ next. scan_on g text next)
    at later None = refl
    at later (Some head) = ap (λ (s : ScanParts). record { records = record { head = head; place = place } ∷ s.records; end = s.end }) (later head)

-- a scan ends at its place or later
pub scan_after : (f : ℕ) (text : List ℕ) (place : ℕ) → place ≤ (scan_on f text place).end
scan_after zero text place = omega arith
scan_after (suc f) text place = at (λ head. scan_after f text (place + 45 + head.size)) (record_at_front (drop place text))
  where
    at : ((head : HeadParts) → place + 45 + head.size ≤ (scan_on f text (place + 45 + head.size)).end) → (o : Option HeadParts) → place ≤ (scan_with place o (λ next. scan_on f text next)).end
    at later None = omega arith
    at later (Some head) = omega (arith, later head)

-- and within its text
pub scan_within : (f : ℕ) (text : List ℕ) (place : ℕ) → place ≤ length text → (scan_on f text place).end ≤ length text
scan_within zero text place inside = inside
scan_within (suc f) text place inside = at (λ head fits. scan_within f text (place + 45 + head.size) fits) (record_at_front (drop place text)) refl
  where
    at : ((head : HeadParts) → place + 45 + head.size ≤ length text → (scan_on f text (place + 45 + head.size)).end ≤ length text)
        → (o : Option HeadParts) → record_at_front (drop place text) ≡ o → (scan_with place o (λ next. scan_on f text next)).end ≤ length text
    at later None is = inside
    at later (Some head) is = later head (omega (arith, front_inside (drop place text) head is, length-drop place text, inside))

-- where two texts begin alike, a record of one within that front is one of the other
same_bytes : (text : List ℕ) (place far : ℕ) → place + 45 ≤ far → take 45 (drop place (take far text)) ≡ take 45 (drop place text)
same_bytes text place far inside = ext_get_or 0 (take 45 (drop place (take far text))) (take 45 (drop place text)) lengths each
  where
    lengths : length (take 45 (drop place (take far text))) ≡ length (take 45 (drop place text))
    lengths = omega (arith, inside, length-take 45 (drop place (take far text)), length-take 45 (drop place text), length-drop place (take far text), length-drop place text, length-take far text)

    each : (i : ℕ) → i < length (take 45 (drop place (take far text))) → get_or (take 45 (drop place (take far text))) i 0 ≡ get_or (take 45 (drop place text)) i 0
    each i near =
        let few : i < 45 = omega (arith, near, length-take 45 (drop place (take far text))) in
        get_or-take 45 (drop place (take far text)) i 0 few ∙ get_or-drop place (take far text) i 0 ∙ get_or-take far text (place + i) 0 (omega (arith, few, inside))
        ∙ sym (get_or-drop place text i 0) ∙ sym (get_or-take 45 (drop place text) i 0 few)

head_found : (text : List ℕ) (head : HeadParts) → record_at_front text ≡ Some head → head_of (take 45 text) ≡ Some head
head_found text head is = found (head_of (take 45 text)) is
  where
    tested : (b : Bool) (h : HeadParts) → cond b (Some h) None ≡ Some head → Some h ≡ Some head
    tested true h is = is
    tested false h is = absurd (cc)

    found : (o : Option HeadParts) → (o >>= λ h. cond (nat_le (45 + h.size) (length text)) (Some h) None) ≡ Some head → o ≡ Some head
    found None is = absurd (cc)
    found (Some h) is = tested (nat_le (45 + h.size) (length text)) h is

-- a head with all its bytes behind it is a whole record
record_found : (text : List ℕ) (head : HeadParts) → head_of (take 45 text) ≡ Some head → 45 + head.size ≤ length text → record_at_front text ≡ Some head
record_found text head is inside =
    let fits : nat_le (45 + head.size) (length text) ≡ true = grind (arith, nat_tests, inside) in
    ap (λ o. o >>= λ h. cond (nat_le (45 + h.size) (length text)) (Some h) None) is ∙ ap (λ b. cond b (Some head) None) fits

pub same_front : (one other : List ℕ) (place far : ℕ) (head : HeadParts) → record_at_front (drop place one) ≡ Some head → place + 45 + head.size ≤ far → take far one ≡ take far other
    → record_at_front (drop place other) ≡ Some head
same_front one other place far head is inside same =
    let long = front_inside (drop place one) head is in
    let bytes : take 45 (drop place other) ≡ take 45 (drop place one) =
    sym (same_bytes other place far (omega (arith, inside))) ∙ ap (λ t. take 45 (drop place t)) (sym same) ∙ same_bytes one place far (omega (arith, inside)) in
    let enough : place + 45 + head.size ≤ length other =
    omega (arith, long, inside, length-drop place one, ap length same, length-take far one, length-take far other) in
    record_found (drop place other) head (ap head_of bytes ∙ head_found (drop place one) head is) (omega (arith, enough, length-drop place other))

-- So what one text begins with is found in the other, and the scan goes on from there.
pub scan_extends : (f g : ℕ) (one other : List ℕ) (place : ℕ) → length other ≤ g + place → take (scan_on f one place).end one ≡ take (scan_on f one place).end other
    → scan_on g other place ≡ behind (scan_on f one place).records (scan_on g other (scan_on f one place).end)
scan_extends zero g one other place enough same = refl
scan_extends (suc f) g one other place enough same =
    at g (record_at_front (drop place one)) refl enough same (λ g head enough same. scan_extends f g one other (place + 45 + head.size) enough same)
  where
    at : (g : ℕ) (o : Option HeadParts) → record_at_front (drop place one) ≡ o → length other ≤ g + place
        → take (scan_with place o (λ next. scan_on f one next)).end one ≡ take (scan_with place o (λ next. scan_on f one next)).end other
        → ((g : ℕ) (head : HeadParts) → length other ≤ g + (place + 45 + head.size) → take (scan_on f one (place + 45 + head.size)).end one ≡ take (scan_on f one (place + 45 + head.size)).end other
        → scan_on g other (place + 45 + head.size) ≡ behind (scan_on f one (place + 45 + head.size)).records (scan_on g other (scan_on f one (place + 45 + head.size)).end))
        → scan_on g other place ≡ behind (scan_with place o (λ next. scan_on f one next)).records (scan_on g other (scan_with place o (λ next. scan_on f one next)).end)
    at g None is enough same later = refl
    at zero (Some head) is enough same later =
        let found = same_front one other place _ head is (scan_after f one (place + 45 + head.size)) same in
        absurd (omega (arith, front_inside (drop place other) head found, length-drop place other, enough))
    at (suc g) (Some head) is enough same later =
        let next = place + 45 + head.size in
        let far = (scan_on f one next).end in
        let found = same_front one other place far head is (scan_after f one next) same in
        let rest = later g head (omega (arith, enough)) same in
        let more = scan_fuel g (suc g) other far (omega (arith, enough, scan_after f one next)) (omega (arith, enough, scan_after f one next)) in
        ap (λ o. scan_with place o (λ next. scan_on g other next)) found
        ∙ ap (λ (s : ScanParts). record { records = record { head = head; place = place } ∷ s.records; end = s.end }) (rest ∙ ap (behind (scan_on f one next).records) more)

-- ---- What was put is found

-- the head can be read again, and the text has its size
pub record CanPut (written : Written) : Type 0 where
  pub head : CanStand written.head
  pub size : length written.text ≡ written.head.size

head_long : (head : HeadParts) → CanStand head → length (head_text head) ≡ 45 → (rest : List ℕ) → head_of (take 45 (head_text head ++ rest)) ≡ Some head
head_long head can long rest = ap head_of (take_at (head_text head) rest 45 long ∙ sym (append-nil (head_text head))) ∙ head-reads head [] can

record_again : (written : Written) → CanPut written → length (head_text written.head) ≡ 45 → (rest : List ℕ) → record_at_front (record_text written.head written.text ++ rest) ≡ Some written.head
record_again written can long rest =
    record_found (record_text written.head written.text ++ rest) written.head
    (ap (λ t. head_of (take 45 t)) (append_assoc (head_text written.head) written.text rest) ∙ head_long written.head can.head long (written.text ++ rest))
    (omega (arith, long, can.size, length-append (head_text written.head) written.text, length-append (head_text written.head ++ written.text) rest))

-- records behind others are found from there on
pub put_scans : (g : ℕ) (front : List ℕ) (records : List Written) → AllByRecursion (λ r. CanPut r × (length (head_text r.head) ≡ 45)) records → length (front ++ records_text records) ≤ g + length front
    → scan_on g (front ++ records_text records) (length front) ≡ record { records = placed_from (length front) records; end = length (front ++ records_text records) }
put_scans g front [] all enough =
    let whole : length front ≡ length (front ++ []) = ap length (sym (append-nil front)) in
    scan_last (front ++ []) (length front) g (front_none (front ++ []) (length front) (omega (arith, whole)) (record_at_front (drop (length front) (front ++ []))) refl)
    ∙ ap (λ n. record { records = []; end = n }) whole
put_scans zero front (r ∷ rest) all enough =
    absurd (omega (arith, enough, length-append front (records_text (r ∷ rest)), length-append (record_text r.head r.text) (records_text rest), length-append (head_text r.head) r.text, all.0.1))
put_scans (suc g) front (r ∷ rest) all enough =
    let one = record_text r.head r.text in
    let text = front ++ records_text (r ∷ rest) in
    let long : length one ≡ 45 + r.head.size = omega (arith, length-append (head_text r.head) r.text, all.0.1, all.0.0.size) in
    let found : record_at_front (drop (length front) text) ≡ Some r.head =
    ap record_at_front (drop_at front (records_text (r ∷ rest)) (length front) refl) ∙ record_again r all.0.0 all.0.1 (records_text rest) in
    let whole : (front ++ one) ++ records_text rest ≡ text = append_assoc front one (records_text rest) in
    let next : length (front ++ one) ≡ length front + 45 + r.head.size = omega (arith, length-append front one, long) in
    let later = put_scans g (front ++ one) rest all.1 (omega (arith, enough, ap length whole, next)) in
    let moved : scan_on g text (length front + 45 + r.head.size) ≡ record { records = placed_from (length front + 45 + r.head.size) rest; end = length text } =
    (λ i. scan_on g (sym whole i) (sym next i)) ∙ later ∙ (λ i. record { records = placed_from (next i) rest; end = length (whole i) }) in
    ap (λ o. scan_with (length front) o (λ next. scan_on g text next)) found
    ∙ ap (λ (s : ScanParts). record { records = record { head = r.head; place = length front } ∷ s.records; end = s.end }) moved

-- Records that are put at the end of a scan follow those that it found, whatever stood there before.
pub scan_appended : (old : List ℕ) (records : List Written) → AllByRecursion (λ r. CanPut r × (length (head_text r.head) ≡ 45)) records
    → scan_of (take (scan_of old).end old ++ records_text records)
    ≡ record { records = (scan_of old).records ++ placed_from (scan_of old).end records; end = length (take (scan_of old).end old ++ records_text records) }
unfolding scan_of
scan_appended old records all =
    let end = (scan_on (length old) old 0).end in
    let front = take end old in
    let new = front ++ records_text records in
    let long : length front ≡ end = length-take-le end old (scan_within (length old) old 0 (omega arith)) in
    let same : take end old ≡ take end new = sym (take_at front (records_text records) end long) in
    let put : scan_on (length new) new end ≡ record { records = placed_from end records; end = length new } =
    ap (scan_on (length new) new) (sym long) ∙ put_scans (length new) front records all (omega arith) ∙ ap (λ n. record { records = placed_from n records; end = length new }) long in
    scan_extends (length old) (length new) old new 0 (omega arith) same ∙ ap (behind (scan_on (length old) old 0).records) put

-- What a scan finds in one text it finds in each that begins with the same bytes up to its end.
pub scan_kept : (one other : List ℕ) → take (scan_of one).end one ≡ take (scan_of one).end other → (placed : PlacedParts) → Contains (scan_of one).records placed → Contains (scan_of other).records placed
unfolding scan_of
scan_kept one other same placed has =
    subst (λ (s : ScanParts). Contains s.records placed) (sym (scan_extends (length one) (length other) one other 0 (omega arith) same))
    (Contains-append_left (scan_on (length one) one 0).records (scan_on (length other) other (scan_on (length one) one 0).end).records placed has)
