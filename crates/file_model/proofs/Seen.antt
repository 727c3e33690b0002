-- What reads see is one of the images.
use Rattle.std.proofs.Common.{◌≡◌, ◌≢◌, ℕ, List, Some, None, Option, sym, ◌∙◌, ap, subst, refl, true, false}
use Rattle.std.specs.FinMap.{get}
use Rattle.file_model.specs.Images.{Image, Entry, a_file, a_directory, nothing, file, node_of, node_at, is_directory, directory_test, bytes_at, Agree}
use Rattle.file_model.specs.Disk.{Disk, MayLeave, MayStand, IsPossible, all_done, seen, seen_names}
use Rattle.file_model.specs.Kept.{Sees, IsSound, IsGone, IsHome, HasOnly, IsAtRest}
use Rattle.file_model.specs.Kinds.{IsTarget}
use Rattle.file_model.specs.Histories.{History, Now, Ended}
use Rattle.file_model.proofs.Runs.{ended_now}
use Rattle.file_model.proofs.Names.{all_may_stand}

pub seen_leaves : (disk : Disk) → IsSound disk → MayLeave disk (seen disk)
seen_leaves disk sound = record { names = all_may_stand disk.durable disk.pending; bytes = sound.possible }

pub gone_seen : (path : List ℕ) (disk : Disk) → IsSound disk → IsGone path disk → node_at (seen disk) path ≡ nothing
gone_seen path disk sound gone = gone.each (seen disk) (seen_leaves disk sound)

pub gone_free : (path : List ℕ) (disk : Disk) → IsSound disk → IsGone path disk → is_directory (seen disk) path ≡ false
gone_free path disk sound gone = ap directory_test (gone_seen path disk sound gone)

no_file : (bytes : ℕ → List ℕ) (e : Option Entry) (id : ℕ) → node_of bytes e ≡ nothing → e ≢ Some (a_file id)
no_file bytes e id none is = absurd (file_there (bytes id) (sym (ap (node_of bytes) is) ∙ none))
  where
    file_there : (b : List ℕ) → file b ≡ nothing → ⊥
    file_there b is = absurd (cc)

pub gone_home : (path : List ℕ) (disk : Disk) → IsSound disk → IsGone path disk → IsHome path disk
gone_home path disk sound gone = record { only = λ names may id stands other there. absurd (no_file (seen disk).bytes (get (seen_names disk) path) id (gone_seen path disk sound gone) stands) }

pub only_seen : (path bytes : List ℕ) (disk : Disk) → IsSound disk → HasOnly path bytes disk → bytes_at (seen disk) path ≡ Some bytes
only_seen path bytes disk sound only = only.each (seen disk) (seen_leaves disk sound)

same_node : (one other : ℕ → List ℕ) → ((id : ℕ) → one id ≡ other id) → (e : Option Entry) → node_of one e ≡ node_of other e
same_node one other same None = refl
same_node one other same (Some a_directory) = refl
same_node one other same (Some (a_file id)) = ap file (same id)

-- at rest a crash leaves what reads see
pub rest_seen : (disk : Disk) → IsAtRest disk → (image : Image) → MayLeave disk image → (path : List ℕ) → Agree path image (seen disk)
rest_seen disk rest image left path =
    let names : image.names ≡ disk.durable = subst (λ calls. MayStand disk.durable calls image.names) rest.none_pending left.names in
    let now : seen_names disk ≡ disk.durable = ap (λ calls. all_done calls disk.durable) rest.none_pending in
    let bytes : (id : ℕ) → image.bytes id ≡ (seen disk).bytes id = λ id. subst (λ edits. IsPossible (disk.files id).durable edits (image.bytes id)) (rest.no_edits id) (left.bytes id) ∙ rest.is_seen id in
    ap (λ n. node_of image.bytes (get n path)) (names ∙ sym now) ∙ same_node image.bytes (seen disk).bytes bytes (get (seen_names disk) path)

-- whether a directory stands at a path that calls leave alone
pub directory_on : (at : List ℕ → Type 0) (path : List ℕ) → at path → (old new : History) → Ended (Sees at) old new
    → Now old (λ w. is_directory (seen w.disk) path ≡ true) → Now new (λ w. is_directory (seen w.disk) path ≡ true)
directory_on at path here old new sees stands = ended_now (λ d. is_directory (seen d) path ≡ true) (Sees at) (λ a b p s. ap directory_test (s.each path here) ∙ p) old new stands sees

pub target_on : (at : List ℕ → Type 0) (path : List ℕ) → at path → (old new : History) → Ended (Sees at) old new
    → Now old (λ w. IsTarget (seen w.disk) path) → Now new (λ w. IsTarget (seen w.disk) path)
target_on at path here old new sees target = ended_now (λ d. IsTarget (seen d) path) (Sees at) (λ a b p s there. p (sym (ap directory_test (s.each path here)) ∙ there)) old new target sees
