-- Scans as the code runs them.
use Rattle.std.proofs.lemmas.Bool.{false≢true}
use Rattle.mail_types.specs.Flags.{has_bit}
use Rattle.std.proofs.Common.{append-nil, Bool, true, false, cond, ◌≡◌, ◌≤◌, ◌<◌, ◌+◌, ◌*◌, ◌^◌, ℕ, zero, suc, List, [], ◌∷◌, ◌++◌, length, length-append, drop, get_or, Option, Some, None, refl, sym, ap, ◌∙◌, subst, arith, append_assoc}
use Rattle.std.specs.List.{AllByRecursion}
use Rattle.std.specs.Prelude.{IfSome}
use Rattle.std.proofs.lemmas.List.{drop_more}
use Rattle.file_model.specs.Disk.{seen}
use Rattle.file_model.specs.Histories.{History, Now}
use Rattle.file_model.proofs.Runs.{now_weaker, now_all}
use Rattle.mail_types.specs.Limits.{file_limit}
use Rattle.store_trait.specs.declared.store.Info.{Info}
use Rattle.file_store.specs.Scans.{OfFile, HasFile}
use Rattle.mbx_form.specs.declared.head.MbxHead.{MbxHead}
use Rattle.mbx_form.specs.Heads.{head_at}
use Rattle.mbx_store.specs.declared.place.MbxPlace.{MbxPlace}
use Rattle.mbx_store.specs.Places.{IsNear, start_of, starts_of}
use Rattle.mbx_store.specs.Scans.{infos_at, with_place, IsPlaceOf, AreFound, AreAll, IsStopped, FewRead}
use Rattle.mbx_store.proofs.Finding.{found_none, found_more, found_stop, found_all, found_read}
use Rattle.mbx_store.proofs.OnFile.{file_weaker, file_both, file_now, file_always, file_long}

-- ---- Texts

pub starts_more : (all now new : List ℕ) (places : List MbxPlace) (i : ℕ) (p other : MbxPlace) → i < length places → p ≡ get_or places i other → new ≡ now ++ start_of p
    → now ++ starts_of (drop i places) ≡ all → new ++ starts_of (drop (i + 1) places) ≡ all
starts_more all now new places i p other below here is before =
    ap (λ l. l ++ starts_of (drop (i + 1) places)) (is ∙ ap (λ q. now ++ start_of q) here)
    ∙ append_assoc now (start_of (get_or places i other)) (starts_of (drop (i + 1) places))
    ∙ sym (ap (λ l. now ++ starts_of l) (drop_more places i other below)) ∙ before

pub near_at : (P : MbxPlace → Type 0) (places : List MbxPlace) (i : ℕ) (other : MbxPlace) → i < length places → AllByRecursion P places → P (get_or places i other)
near_at P [] i other below all = absurd (omega (arith, below))
near_at P (p ∷ places) zero other below all = all.0
near_at P (p ∷ places) (suc i) other below all = near_at P places i other (omega (arith, below)) all.1

pub near_more : (places : List MbxPlace) (p : MbxPlace) → AllByRecursion IsNear places → IsNear p → AllByRecursion IsNear (places ++ p ∷ [])
near_more [] p all is = (is, tt)
near_more (q ∷ places) p all is = (all.0, near_more places p all.1 is)

-- ---- The loop

pub scan_start : (names : ℕ) (path : List ℕ) (at : ℕ) (places : List MbxPlace) (infos : List Info) (h : History) → at ≡ 2048 → places ≡ [] → infos ≡ [] → OfFile h path (λ bytes. AreFound names bytes at places infos)
scan_start names path at places infos h begins no_places no_infos =
    file_always _ path (λ bytes.
    subst (λ n. AreFound names bytes n places infos) (sym begins) (subst (λ p. AreFound names bytes 2048 p infos) (sym no_places) (subst (λ i. AreFound names bytes 2048 [] i) (sym no_infos) (found_none names bytes)))) h

-- for the records that were found so many bytes were read, and for one more a few
pub scan_read : (names : ℕ) (path : List ℕ) (at old mid new : ℕ) (places : List MbxPlace) (infos : List Info) (h mid_h : History) → mid_h ≡ h → OfFile h path (λ bytes. AreFound names bytes at places infos)
    → Now h (λ w. mid ≤ old + 61 * length places) → Now mid_h (λ w. new ≤ mid + 61) → OfFile h path (λ bytes. FewRead bytes old new)
scan_read names path at old mid new places infos h mid_h same found before next =
    file_now _ _ _ path (λ bytes both more. found_read names bytes at old new places infos both.0 (omega (arith, both.1, more))) h
    (file_both _ _ path h found (now_weaker _ _ (λ w few bytes has. few) h before)) (subst (λ g. Now g (λ w. new ≤ mid + 61)) same next)

pub read_so_far : (mid : ℕ) (h : History) → Now h (λ w. mid ≤ mid + 61)
read_so_far mid h = now_all _ (λ w. omega arith) h

pub scan_next : (names : ℕ) (path : List ℕ) (at long : ℕ) (places next_places : List MbxPlace) (infos next_infos : List Info) (next_at : ℕ) (found : Option (MbxHead × MbxPlace)) (head : MbxHead) (p : MbxPlace) (h mid_h : History) → mid_h ≡ h → at < long
    → Now h (λ w. HasFile path long (seen w.disk)) → OfFile h path (λ bytes. AreFound names bytes at places infos) → OfFile mid_h path (λ bytes. found ≡ with_place at long (head_at (drop at bytes))) → found ≡ Some (head, p)
    → next_at ≡ p.at + p.head + p.size → next_places ≡ places ++ p ∷ [] → next_infos ≡ infos ++ infos_at names head
    → OfFile h path (λ bytes. AreFound names bytes next_at next_places next_infos)
scan_next names path at long places next_places infos next_infos next_at found head p h mid_h same below file before read is ends more_places more_infos =
    file_weaker _ _ path (λ bytes all.
    let one = found_more names bytes at long places infos head p all.0.0 below all.0.1 (sym is ∙ all.1) in
    subst (λ n. AreFound names bytes n next_places next_infos) (sym ends) (subst (λ l. AreFound names bytes (p.at + p.head + p.size) l next_infos) (sym more_places)
    (subst (λ l. AreFound names bytes (p.at + p.head + p.size) (places ++ p ∷ []) l) (sym more_infos) one))) h
    (file_both _ _ path h (file_both _ _ path h (file_long path long h file) before) (subst (λ g. OfFile g path (λ bytes. found ≡ with_place at long (head_at (drop at bytes)))) same read))

pub scan_stop : (names : ℕ) (path : List ℕ) (at long count : ℕ) (places : List MbxPlace) (infos : List Info) (found : Option (MbxHead × MbxPlace)) (h mid_h : History) → mid_h ≡ h → at < long → count ≡ length places
    → Now h (λ w. HasFile path long (seen w.disk)) → OfFile h path (λ bytes. AreFound names bytes at places infos) → OfFile mid_h path (λ bytes. found ≡ with_place at long (head_at (drop at bytes))) → found ≡ None
    → OfFile h path (λ bytes. IsStopped bytes count)
scan_stop names path at long count places infos found h mid_h same below counts file before read is =
    file_weaker _ _ path (λ bytes all. subst (IsStopped bytes) (sym counts) (found_stop names bytes at long places infos all.0.0 below all.0.1 (sym is ∙ all.1))) h
    (file_both _ _ path h (file_both _ _ path h (file_long path long h file) before) (subst (λ g. OfFile g path (λ bytes. found ≡ with_place at long (head_at (drop at bytes)))) same read))

pub scan_end : (names : ℕ) (path : List ℕ) (at long : ℕ) (places : List MbxPlace) (infos : List Info) (h : History) → long ≤ at → Now h (λ w. HasFile path long (seen w.disk)) → OfFile h path (λ bytes. AreFound names bytes at places infos)
    → OfFile h path (λ bytes. AreAll names bytes places infos)
scan_end names path at long places infos h past file before = file_weaker _ _ path (λ bytes all. found_all names bytes at long places infos all.0 past all.1) h (file_both _ _ path h (file_long path long h file) before)

pub read_more : (old mid new : ℕ) (places next_places : List MbxPlace) (p : MbxPlace) (h mid_h : History) → mid_h ≡ h → Now h (λ w. mid ≤ old + 61 * length places) → Now mid_h (λ w. new ≤ mid + 61) → next_places ≡ places ++ p ∷ []
    → Now h (λ w. new ≤ old + 61 * length next_places)
read_more old mid new places next_places p [] mid_h same before next is = tt
read_more old mid new places next_places p (w ∷ past) mid_h same before next is =
    let more : new ≤ mid + 61 = subst (λ g. Now g (λ w. new ≤ mid + 61)) same next in
    omega (arith, before, more, ap length is, length-append places (p ∷ []))

-- a record that was found has its place
pub place_found : (at long : ℕ) (found : Option (MbxHead × MbxPlace)) (head : MbxHead) (p : MbxPlace) → IfSome found (λ f. IsPlaceOf at long f.0 f.1) → found ≡ Some (head, p) → IsPlaceOf at long head p
place_found at long found head p all is = subst (λ o. IfSome o (λ f. IsPlaceOf at long f.0 f.1)) is all

pub start_there : (now new : List ℕ) (p : MbxPlace) (test : Bool) → test ≡ has_bit 32768 p.bits → test ≡ false → new ≡ now ++ (p.at + p.head) ∷ [] → new ≡ now ++ start_of p
start_there now new p true is other made = absurd (false≢true (sym other))
start_there now new p false is other made = made ∙ ap (λ b. now ++ cond b [] ((p.at + p.head) ∷ [])) is

pub start_none : (now : List ℕ) (p : MbxPlace) (test : Bool) → test ≡ has_bit 32768 p.bits → test ≡ true → now ≡ now ++ start_of p
start_none now p false is other = absurd (false≢true other)
start_none now p true is other = sym (append-nil now) ∙ ap (λ b. now ++ cond b [] ((p.at + p.head) ∷ [])) is

pub read_none : (read : ℕ) (places : List MbxPlace) (h : History) → Now h (λ w. read ≤ read + 61 * length places)
read_none read places h = now_all _ (λ w. omega arith) h

pub place_near : (at long : ℕ) (head : MbxHead) (p : MbxPlace) → long ≤ file_limit → IsPlaceOf at long head p → IsNear p
place_near at long head p short is = omega (arith, short, is.ends)

-- each record takes a byte
pub few_none : (at : ℕ) (places : List MbxPlace) → at ≡ 2048 → places ≡ [] → 2048 + length places ≤ at
few_none at places begins none = omega (arith, begins, ap length none)

pub few_more : (places next_places : List MbxPlace) (at next_at long : ℕ) (head : MbxHead) (p : MbxPlace) → 2048 + length places ≤ at → IsPlaceOf at long head p → next_at ≡ p.at + p.head + p.size → next_places ≡ places ++ p ∷ []
    → 2048 + length next_places ≤ next_at
few_more places next_places at next_at long head p few is ends more = omega (arith, few, is.begins, is.some, ends, ap length more, length-append places (p ∷ []))

-- texts begin where records end
pub start_near : (places : List MbxPlace) (k : ℕ) → AllByRecursion IsNear places → get_or (starts_of places) k 0 ≤ 2 ^ 63
start_near places k near = step (starts_of places) k (starts_near places near)
  where
    starts_near : (places : List MbxPlace) → AllByRecursion IsNear places → AllByRecursion (λ s. s ≤ 2 ^ 63) (starts_of places)
    starts_near [] near = tt
    starts_near (p ∷ places) near = one (has_bit 32768 p.bits) (starts_near places near.1)
      where
        one : (b : Bool) → AllByRecursion (λ s. s ≤ 2 ^ 63) (starts_of places) → AllByRecursion (λ s. s ≤ 2 ^ 63) (cond b [] ((p.at + p.head) ∷ []) ++ starts_of places)
        one true later = later
        one false later = (omega (arith, near.0), later)

    step : (starts : List ℕ) (k : ℕ) → AllByRecursion (λ s. s ≤ 2 ^ 63) starts → get_or starts k 0 ≤ 2 ^ 63
    step [] k all = omega arith
    step (s ∷ starts) zero all = all.0
    step (s ∷ starts) (suc k) all = step starts k all.1

get_any : (starts : List ℕ) (k a b : ℕ) → k < length starts → get_or starts k a ≡ get_or starts k b
get_any [] k a b below = absurd (omega (arith, below))
get_any (s ∷ starts) zero a b below = refl
get_any (s ∷ starts) (suc k) a b below = get_any starts k a b (omega (arith, below))

pub found_near : (places : List MbxPlace) (starts : List ℕ) (k start other : ℕ) → starts ≡ starts_of places → AllByRecursion IsNear places → k < length starts → start ≡ get_or starts k other → start ≤ 2 ^ 63
found_near places starts k start other are near below is =
    subst (λ n. n ≤ 2 ^ 63) (sym (is ∙ get_any starts k other 0 below ∙ ap (λ s. get_or s k 0) are)) (start_near places k near)
