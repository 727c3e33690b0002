-- Facts of the bytes of a file.
use Rattle.std.proofs.Common.{◌≡◌, ◌≤◌, ℕ, zero, suc, min, List, [], ◌∷◌, length, take, drop, sym, ap, ◌∙◌, arith}
use Rattle.std.proofs.lemmas.List.{length-drop}
use Rattle.std.proofs.lemmas.Option.{same_Some}
use Rattle.file_model.specs.Disk.{seen}
use Rattle.file_model.specs.Histories.{History, Now}
use Rattle.file_model.specs.Images.{bytes_of}
use Rattle.file_model.specs.Kinds.{IsFile, Gives}
use Rattle.file_model.proofs.Runs.{now_weaker, now_both}
use Rattle.file_store.specs.Scans.{OfFile, HasFile}

pub file_weaker : (P Q : List ℕ → Type 0) (path : List ℕ) → ((bytes : List ℕ) → P bytes → Q bytes) → (h : History) → OfFile h path P → OfFile h path Q
file_weaker P Q path on h is = now_weaker _ _ (λ w here bytes has. on bytes (here bytes has)) h is

pub file_both : (P Q : List ℕ → Type 0) (path : List ℕ) (h : History) → OfFile h path P → OfFile h path Q → OfFile h path (λ bytes. P bytes × Q bytes)
file_both P Q path h p q = now_weaker _ _ (λ w both bytes has. (both.0 bytes has, both.1 bytes has)) h (now_both _ _ h p q)

pub file_now : (P Q : List ℕ → Type 0) (R : Type 0) (path : List ℕ) → ((bytes : List ℕ) → P bytes → R → Q bytes) → (h : History) → OfFile h path P → Now h (λ w. R) → OfFile h path Q
file_now P Q R path on h p r = now_weaker _ _ (λ w both bytes has. on bytes (both.0 bytes has) both.1) h (now_both _ _ h p r)

pub file_always : (P : List ℕ → Type 0) (path : List ℕ) → ((bytes : List ℕ) → P bytes) → (h : History) → OfFile h path P
file_always P path on [] = tt
file_always P path on (w ∷ past) = λ bytes has. on bytes

pub file_long : (path : List ℕ) (long : ℕ) (h : History) → Now h (λ w. HasFile path long (seen w.disk)) → OfFile h path (λ bytes. length bytes ≡ long)
file_long path long h is = now_weaker _ _ (λ w there bytes has.
    let same : bytes ≡ there.0 = same_Some _ _ (sym has ∙ ap bytes_of there.1) in
    ap (λ (b : List ℕ). length b) same ∙ sym there.2) h is

pub file_there : (path : List ℕ) (long at : ℕ) (h : History) → at ≤ long → Now h (λ w. HasFile path long (seen w.disk)) → Now h (λ w. IsFile (seen w.disk) path at)
file_there path long at h within is = now_weaker _ _ (λ w there. (there.0, there.1, omega (arith, there.2, within))) h is

take_rest_of : (room : ℕ) (xs : List ℕ) → take (min room (length xs)) xs ≡ take room xs
take_rest_of zero xs = let e : min zero (length xs) ≡ zero = omega arith in ap (λ n. take n xs) e
take_rest_of (suc room) [] = let e : min (suc room) zero ≡ zero = omega arith in ap (λ n. take {A = ℕ} n []) e
take_rest_of (suc room) (x ∷ xs) =
    let next : min (suc room) (suc (length xs)) ≡ suc (min room (length xs)) = omega arith in
    ap (λ n. take n (x ∷ xs)) next ∙ ap (λ l. x ∷ l) (take_rest_of room xs)

-- what a call gave is the part of the file, up to its end
pub read_there : (path : List ℕ) (at got room : ℕ) (buffer : List ℕ) (h : History) → length buffer ≡ room → Now h (λ w. Gives (seen w.disk) path at got buffer) → OfFile h path (λ bytes. take got buffer ≡ take room (drop at bytes))
read_there path at got room buffer h long gives = now_weaker _ _ (λ w given bytes has.
    let same : bytes ≡ given.0 = same_Some _ _ (sym has ∙ ap bytes_of given.1) in
    let count : got ≡ min room (length (drop at given.0)) = omega (arith, given.2, long, length-drop at given.0) in
    given.3 ∙ ap (λ n. take n (drop at given.0)) count ∙ take_rest_of room (drop at given.0) ∙ ap (λ (b : List ℕ). take room (drop at b)) (sym same)) h gives
