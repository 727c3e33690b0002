-- What is left of a disk by a pick is one of the images that a crash may leave.
use Rattle.std.proofs.Common.{◌≡◌, ◌⊎◌, inl, inr, ℕ, suc, zero, ◌+◌, ◌-◌, ◌<◌, ◌≤◌, ◌/◌, ◌%◌, ◌==◌, List, [], ◌∷◌, ◌++◌, length, take, drop, get_or, Bool, true, false, cond, refl, sym, ◌∙◌, ap, subst, arith, Vec, Global, replicate, length-append, length-take}
use Rattle.std.proofs.Math.Seq.{get_or-append_seam}
use Rattle.std.proofs.Math.ListN.{get_or-append}
use Rattle.std.proofs.lemmas.List.{get_or-replicate, length-replicate}
use Rattle.std.proofs.lemmas.Bool.{cases_eq}
use Rattle.std.specs.List.{AllByRecursion}
use Rattle.file_model.specs.Images.{Names}
use Rattle.file_model.specs.Disk.{Disk, Edit, wrote, shortened, AreBytes, Torn, Leads, IsPossible, DirectoryOperation, all_done, MayStand, MayLeave}
use Rattle.file_model.specs.Kept.{IsSound}
use Rattle.file_model.proofs.Bytes.{bytes_take, bytes_append, bytes_written}
use Rattle.file_model.proofs.Names.{all_may_stand}
use Rattle.file_model.proofs.Sound.{torn_written}
use Rattle.mem_host.specs.Mirrored.{Shows}
use Rattle.mem_host.specs.Crashes.{filled, laid, marred, part_of_write, left_of_edit, content_left, pick_before, bytes_left, names_left, image_left}
use Rattle.mem_host.specs.Drafts.{edits_of, parts_of, AreDrafts}
use Rattle.mem_host.specs.Remains.{IsByteEdit, IsTidy}
use Rattle.mem_host.specs.Finding.{AreContents, Holds, IsRooted}
use Rattle.mem_host.specs.declared.draft.Draft.{Draft}
use Rattle.mem_host.proofs.Mirrored.{Map}

-- ---- Names

stands_after : (k : ℕ) (pending : List DirectoryOperation) (durable : Names) → MayStand durable pending (all_done (drop k pending) durable)
stands_after zero pending durable = all_may_stand durable pending
stands_after (suc k) [] durable = refl
stands_after (suc k) (call ∷ earlier) durable = inr (stands_after k earlier durable)

pub names_may_stand : (disk : Disk) (n : ℕ) → MayStand disk.durable disk.pending (names_left disk n)
names_may_stand disk n = stands_after (length disk.pending - n) disk.pending disk.durable

-- ---- Bytes

zeros_are_bytes : (n : ℕ) → AreBytes (replicate n 0)
zeros_are_bytes n k below = subst (λ b. b < 256) (sym (get_or-replicate n k 0 0 (omega (arith, below, length-replicate {A = ℕ} n 0)))) small
  where
    small : 0 < 256
    small = omega arith

length_filled : (place : ℕ) (old : List ℕ) → length (filled place old) ≡ length old + (place - length old)
length_filled place old = length-append old (replicate (place - length old) 0) ∙ ap (λ n. length old + n) (length-replicate (place - length old) 0)

-- a part of a write is a torn one
torn_laid : (place n : ℕ) (bytes old : List ℕ) → length bytes ≤ n → AreBytes bytes → Torn place n old (laid place bytes old)
torn_laid place n bytes old few are =
    let all = filled place old in
    let torn = torn_written place bytes all are in
    let long = length_filled place old in record {
      same = λ k below apart. torn.same k (omega (arith, below, long)) (farther k apart) ∙ get_or-append old (replicate (place - length old) 0) 0 k below;
      any = λ was. bytes_written place bytes all are (bytes_append old (replicate (place - length old) 0) was (zeros_are_bytes (place - length old)));
      no_shorter = omega (arith, torn.no_shorter, long);
      no_longer = omega (arith, torn.no_longer, long, few);
    }
  where
    farther : (k : ℕ) → (k < place) ⊎ (place + n ≤ k) → (k < place) ⊎ (place + length bytes ≤ k)
    farther k (inl early) = inl early
    farther k (inr late) = inr (omega (arith, late, few))

torn_same : (place n : ℕ) (old : List ℕ) → Torn place n old old
torn_same place n old = record { same = λ k below apart. refl; any = λ are. are; no_shorter = omega arith; no_longer = omega arith }

length_marred : (bytes : List ℕ) → length (marred bytes) ≤ length bytes
length_marred [] = omega arith
length_marred (b ∷ bytes) = omega arith

bytes_marred : (bytes : List ℕ) → AreBytes bytes → AreBytes (marred bytes)
bytes_marred [] are = are
bytes_marred (b ∷ bytes) are = at
  where
    at : AreBytes ((255 - b) ∷ bytes)
    at zero below = omega arith
    at (suc k) below = are (suc k) below

-- what is written of a part
record IsPart (bytes part : List ℕ) : Type 0 where
  few : length part ≤ length bytes
  are : AreBytes part

part_is : (digit : ℕ) (bytes : List ℕ) → AreBytes bytes → IsPart bytes (part_of_write digit bytes)
part_is digit bytes are = either (digit == 1) bytes (cond (digit == 2) (take (length bytes / 2) bytes) (marred bytes)) (record { few = omega arith; are = are })
    (either (digit == 2) (take (length bytes / 2) bytes) (marred bytes)
    (record { few = omega (arith, length-take (length bytes / 2) bytes); are = bytes_take (length bytes / 2) bytes are })
    (record { few = length_marred bytes; are = bytes_marred bytes are }))
  where
    either : (b : Bool) (one other : List ℕ) → IsPart bytes one → IsPart bytes other → IsPart bytes (cond b one other)
    either true one other p q = p
    either false one other p q = q

leads_left : (digit : ℕ) (edit : Edit) (old : List ℕ) → IsByteEdit edit → Leads edit old (left_of_edit digit edit old)
leads_left digit (wrote place bytes) old are = at (digit == 0)
  where
    at : (b : Bool) → Torn place (length bytes) old (cond b old (laid place (part_of_write digit bytes) old))
    at true = torn_same place (length bytes) old
    at false = let part = part_is digit bytes are in torn_laid place (length bytes) (part_of_write digit bytes) old part.few part.are
leads_left digit (shortened l) old are = at (digit % 2 == 0)
  where
    at : (b : Bool) → (cond b old (take l old) ≡ old) ⊎ (cond b old (take l old) ≡ take l old)
    at true = inl refl
    at false = inr refl

content_possible : (edits : List Edit) (durable : List ℕ) (pick : ℕ) → AllByRecursion IsByteEdit edits → IsPossible durable edits (content_left edits durable pick).0
content_possible [] durable pick are = refl
content_possible (edit ∷ earlier) durable pick are =
    let before = content_left earlier durable pick in (before.0, content_possible earlier durable pick are.1, leads_left (before.1 % 4) edit before.0 are.0)

pub left_may_be : (disk : Disk) (pick : ℕ) → IsTidy disk → MayLeave disk (image_left disk pick)
left_may_be disk pick tidy =
    let choices = length disk.pending + 1 in record {
      names = names_may_stand disk (pick % choices);
      bytes = λ id. content_possible (disk.files id).edits (disk.files id).durable (pick_before disk.files (pick / choices) id) (tidy id).are_bytes;
    }

-- ---- Contents

short : (contents : List (Vec ℕ Global)) (v : Vec ℕ Global) (id : ℕ) → id < length (contents ++ v ∷ []) → (id ≡ length contents → ⊥) → id < length contents
short contents v id low apart = omega (arith, low, apart, length-append contents (v ∷ []))

one_more : (k : ℕ) → k + 1 ≡ suc k
one_more k = omega arith

pub next_content : (drafts : List Draft) (disk : Disk) (k pick : ℕ) (contents : List (Vec ℕ Global)) (v : Vec ℕ Global) (left rest : ℕ) (draft : Draft) → draft ≡ get_or drafts k draft → k < length drafts
    → (v.items, rest) ≡ content_left (edits_of draft.edits.items) draft.durable.items left → AreDrafts drafts disk → AreContents contents k (bytes_left disk.files pick) → left ≡ pick_before disk.files pick k
    → AreContents (contents ++ v ∷ []) (k + 1) (bytes_left disk.files pick) × (rest ≡ pick_before disk.files pick (k + 1))
next_content drafts disk k pick contents v left rest draft is below leaves drafted are picked =
    let parts : (draft.durable.items, edits_of draft.edits.items) ≡ ((disk.files k).durable, (disk.files k).edits) = ap parts_of is ∙ drafted.each k below draft in
    let file = content_left (disk.files k).edits (disk.files k).durable (pick_before disk.files pick k) in
    let whole : (v.items, rest) ≡ file = leaves ∙ (λ i. content_left (parts i).1 (parts i).0 (picked i)) in (
      record {
        count = length-append contents (v ∷ []) ∙ ap (λ n. n + 1) are.count;
        each = λ id low d. elim (cases_eq id (length contents)) [
          | inl last ↦ ap (λ n. (get_or (contents ++ v ∷ []) n d).items) last ∙ ap (λ (x : Vec ℕ Global). x.items) (get_or-append_seam contents v [] d)
              ∙ ap (λ p. p.0) whole ∙ ap (bytes_left disk.files pick) (sym (last ∙ are.count))
          | inr earlier ↦ ap (λ (x : Vec ℕ Global). x.items) (get_or-append contents (v ∷ []) d id (short contents v id low earlier)) ∙ are.each id (short contents v id low earlier) d
        ];
      },
      ap (λ p. p.1) whole ∙ ap (pick_before disk.files pick) (sym (one_more k)),
    )

pub holds_left : (disk : Disk) (pick : ℕ) (names : Map) (contents : List (Vec ℕ Global)) (many : ℕ) → IsSound disk → many ≡ disk.next
    → Shows names (names_left disk (pick % (length disk.pending + 1))) → AreContents contents many (bytes_left disk.files (pick / (length disk.pending + 1))) → Holds names contents (image_left disk pick)
holds_left disk pick names contents many sound number shows are =
    let choices = length disk.pending + 1 in record {
      shows = shows;
      below = λ path id stands. subst (λ n. id < n) (sym (are.count ∙ number)) (sound.fresh (names_left disk (pick % choices)) (names_may_stand disk (pick % choices)) path id stands);
      bytes = are.each;
    }

pub rooted_left : (disk : Disk) (pick : ℕ) → IsSound disk → IsRooted (image_left disk pick)
rooted_left disk pick sound = let n = pick % (length disk.pending + 1) in sound.rooted (names_left disk n) (names_may_stand disk n)
