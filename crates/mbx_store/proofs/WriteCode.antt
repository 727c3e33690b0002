-- Files as the code writes them.
use Rattle.std.proofs.Common.{◌≡◌, ◌≤◌, ◌<◌, ◌+◌, ◌-◌, ℕ, zero, suc, List, [], ◌∷◌, ◌++◌, length, length-append, take, drop, get_or, refl, sym, ap, ◌∙◌, subst, arith, append_assoc, append-nil}
use Rattle.std.specs.Prelude.{Result, Ok, Err, OnOk, min, map}
use Rattle.std.proofs.lemmas.List.{drop_more, take_all, length-drop, length-take, length-map}
use Rattle.store_trait.specs.declared.faults.StoreFault.{StoreFault}
use Rattle.file_store.specs.Places.{read_byte}
use Rattle.file_model.specs.Histories.{History}
use Rattle.file_store.specs.Scans.{OfFile}
use Rattle.mbx_store.specs.declared.plan.Piece.{Piece}
use Rattle.mbx_store.specs.Bytes.{piece_bytes, pieces_bytes}
use Rattle.mbx_store.proofs.OnFile.{file_weaker, file_both}

pub pieces_more : (path : List ℕ) (start now made : List ℕ) (pieces : List Piece) (i : ℕ) (other q : Piece) (h mid_h : History) → mid_h ≡ h → i < length pieces → q ≡ get_or pieces i other
    → OfFile h path (λ bytes. now ++ pieces_bytes bytes (drop i pieces) ≡ start ++ pieces_bytes bytes pieces)
    → OfFile mid_h path (λ bytes. made ≡ now ++ piece_bytes bytes q) → OfFile h path (λ bytes. made ++ pieces_bytes bytes (drop (i + 1) pieces) ≡ start ++ pieces_bytes bytes pieces)
pieces_more path start now made pieces i other q h mid_h same below here before more =
    file_weaker _ _ path (λ bytes both.
    let rest = pieces_bytes bytes (drop (i + 1) pieces) in
    ap (λ l. l ++ rest) both.1 ∙ append_assoc now (piece_bytes bytes q) rest ∙ ap (λ p. now ++ (piece_bytes bytes p ++ rest)) here
    ∙ sym (ap (λ l. now ++ pieces_bytes bytes l) (drop_more pieces i other below)) ∙ both.0) h
    (file_both _ _ path h before (subst (λ g. OfFile g path (λ bytes. made ≡ now ++ piece_bytes bytes q)) same more))

none_left : (pieces : List Piece) (i : ℕ) → length pieces ≤ i → drop i pieces ≡ []
none_left [] zero past = refl
none_left [] (suc i) past = refl
none_left (q ∷ pieces) zero past = absurd (omega (arith, past))
none_left (q ∷ pieces) (suc i) past = none_left pieces i (omega (arith, past))

pub pieces_end : (path : List ℕ) (start now : List ℕ) (pieces : List Piece) (i : ℕ) (h : History) → length pieces ≤ i → OfFile h path (λ bytes. now ++ pieces_bytes bytes (drop i pieces) ≡ start ++ pieces_bytes bytes pieces)
    → OfFile h path (λ bytes. now ≡ start ++ pieces_bytes bytes pieces)
pieces_end path start now pieces i h past before =
    file_weaker _ _ path (λ bytes is. sym (ap (λ l. now ++ pieces_bytes bytes l) (none_left pieces i past) ∙ append-nil now) ∙ is) h before

-- ---- A part at the end is filled

none_past : (n : ℕ) (xs : List ℕ) → length xs ≤ n → drop n xs ≡ []
none_past zero [] past = refl
none_past zero (x ∷ xs) past = absurd (omega (arith, past))
none_past (suc n) [] past = refl
none_past (suc n) (x ∷ xs) past = none_past n xs (omega (arith, past))

pub tail_is : (old mid items part : List ℕ) (start count len : ℕ) → mid ≡ items → take (length old) items ≡ old → length items ≡ length old + count → start ≡ length old → len ≡ length items → length part ≡ count
    → take len ((take start mid ++ (part ++ drop (length mid - start) (drop start mid))) ++ drop (length (take start mid ++ (part ++ drop (length mid - start) (drop start mid)))) items) ≡ old ++ part
tail_is old mid items part start count len same front long begins ends fills =
    let no_more : drop (length mid - start) (drop start mid) ≡ [] = none_past (length mid - start) (drop start mid) (omega (arith, length-drop start mid)) in
    let first : take start mid ≡ old = ap (take start) same ∙ ap (λ n. take n items) begins ∙ front in
    let whole : take start mid ++ (part ++ drop (length mid - start) (drop start mid)) ≡ old ++ part = ap (λ l. l ++ (part ++ drop (length mid - start) (drop start mid))) first ∙ ap (λ l. old ++ (part ++ l)) no_more ∙ ap (λ l. old ++ l) (append-nil part) in
    let size : length (old ++ part) ≡ length items = omega (arith, length-append old part, long, fills) in
    ap (λ l. take len (l ++ drop (length l) items)) whole
    ∙ ap (λ l. take len ((old ++ part) ++ l)) (none_past (length (old ++ part)) items (omega (arith, size)))
    ∙ ap (take len) (append-nil (old ++ part))
    ∙ take_all len (old ++ part) (omega (arith, ends, size))

on_ok : {A E : Type 0} (P Q : Type 0) → (P → Q) → (result : Result A E) → OnOk result P → OnOk result Q
on_ok P Q on (Ok a) is = on is
on_ok P Q on (Err e) is = tt

pub bytes_put : {A : Type 0} (path : List ℕ) (old part whole : List ℕ) (from count room : ℕ) (result : Result A StoreFault) (h : History) → whole ≡ old ++ part → room ≡ count
    → OnOk result (OfFile h path (λ bytes. part ≡ take room (drop from bytes))) → OnOk result (OfFile h path (λ bytes. whole ≡ old ++ take count (drop from bytes)))
bytes_put path old part whole from count room result h made same read =
    on_ok _ _ (λ is. file_weaker _ _ path (λ bytes part_is. made ∙ ap (λ l. old ++ l) (part_is ∙ ap (λ n. take n (drop from bytes)) same)) h is) result read

pub text_put : (path : List ℕ) (old part whole : List ℕ) (from size n : ℕ) (h : History) → whole ≡ old ++ part → length part ≡ size → n ≡ min (length part) (size - 0)
    → OfFile h path (λ bytes. take n part ≡ take n (drop 0 (map read_byte (take size (drop from bytes))))) → OfFile h path (λ bytes. whole ≡ old ++ map read_byte (take size (drop from bytes)))
text_put path old part whole from size n h made long count read =
    file_weaker _ _ path (λ bytes is.
    let text = map read_byte (take size (drop from bytes)) in
    let width : length text ≤ size = omega (arith, length-map (take size (drop from bytes)) read_byte, length-take size (drop from bytes)) in
    let part_is : part ≡ text = sym (take_all n part (omega (arith, count, long))) ∙ is ∙ take_all n text (omega (arith, count, long, width)) in
    made ∙ ap (λ l. old ++ l) part_is) h read
