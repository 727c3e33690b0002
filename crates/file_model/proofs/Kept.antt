-- What each call keeps.
use Rattle.std.proofs.Common.{◌≡◌, ◌≢◌, ◌⊎◌, inl, inr, ℕ, ◌<◌, List, [], ◌∷◌, Bool, true, false, cond, Option, Some, None, refl, sym, ◌∙◌, ap, subst, arith, ◌==◌, ◌||◌}
use Rattle.std.specs.Str.{bytes_eq}
use Rattle.std.proofs.lemmas.Slice.Eq.{bytes_eq-Decides}
use Rattle.std.specs.FinMap.{get, remove}
use Rattle.file_model.specs.Paths.{parent}
use Rattle.file_model.specs.Images.{Entry, a_file, a_directory, Names, Image, file, node_of, node_at, nothing, bytes_of, bytes_at, Agree}
use Rattle.file_model.specs.Disk.{seen, Edit, FileState, IsPossible, DirectoryOperation, made, moved_file, done, all_done, MayStand, Disk, seen_names, MayLeave, make, rename, sync_dir, with_file, renamed, synced_file, empty_file, names_something_in, durable_by, left_pending_by, after}
use Rattle.file_model.specs.Kept.{Keeps, Replaces, MayMake, IsHome, IsWritten, IsSound}
use Rattle.file_model.proofs.Names.{get-insert_same, get-insert_other, get-remove_same, get-remove_other, all_may_stand, stood_before}

pub keeps_refl : (at : List ℕ → Type 0) (disk : Disk) → Keeps at disk disk
keeps_refl at disk = record { each = λ image left. (image, left, λ path here. refl) }

pub keeps_trans : {at : List ℕ → Type 0} {a b c : Disk} → Keeps at a b → Keeps at b c → Keeps at a c
keeps_trans {at} {a} {b} {c} first second = record {
  each = λ image left.
      let mid = second.each image left in
      let start = first.each mid.0 mid.1 in
      (start.0, start.1, λ path here. mid.2 path here ∙ start.2 path here);
}

-- the file of a number reads as another, and each other file as before
abbrev pub put_bytes : ℕ → List ℕ → (ℕ → List ℕ) → ℕ → List ℕ
put_bytes id bytes all n = cond (n == id) bytes (all n)

pub same_number : (id : ℕ) → (id == id) ≡ true
same_number id = grind arith

other_number : (n id : ℕ) → n ≢ id → (n == id) ≡ false
other_number n id apart = grind arith

put_other : (id : ℕ) (bytes : List ℕ) (all : ℕ → List ℕ) (n : ℕ) → n ≢ id → put_bytes id bytes all n ≡ all n
put_other id bytes all n apart = ap (λ b. cond b bytes (all n)) (other_number n id apart)

-- a path where the file doesn't stand shows the same
node_apart : (id : ℕ) (bytes : List ℕ) (all : ℕ → List ℕ) (e : Option Entry) → (e ≡ Some (a_file id) → ⊥) → node_of all e ≡ node_of (put_bytes id bytes all) e
node_apart id bytes all None apart = refl
node_apart id bytes all (Some a_directory) apart = refl
node_apart id bytes all (Some (a_file n)) apart = ap file (sym (put_other id bytes all n (λ same. apart (ap (λ k. Some (a_file k)) same))))

-- ---- make

-- an image after `make` agrees elsewhere with one before it, and at the path too, or the names are the seen ones and the empty file stands there
make_leaves : (path : List ℕ) (disk : Disk) → IsSound disk → (image : Image) → MayLeave (after (make path) disk) image
    → (before : Image) × MayLeave disk before × ((q : List ℕ) → q ≢ path → Agree q image before)
    × (Agree path image before ⊎ ((before.names ≡ seen_names disk) × (node_at image path ≡ file [])))
make_leaves path disk sound image left =
    let bytes = put_bytes disk.next (disk.files disk.next).seen image.bytes in
    let possible : (id : ℕ) → IsPossible (disk.files id).durable (disk.files id).edits (bytes id) =
    λ id. possible_at id (id == disk.next) refl in
    split bytes possible (λ names stands q. node_apart disk.next _ image.bytes (get names q) (λ e. below_itself (sound.fresh names stands q disk.next e))) left.names
  where
    below_itself : disk.next < disk.next → ⊥
    below_itself h = omega arith

    possible_at : (id : ℕ) (b : Bool) → (id == disk.next) ≡ b → IsPossible (disk.files id).durable (disk.files id).edits (cond b (disk.files disk.next).seen (image.bytes id))
    possible_at id true e = let same : id ≡ disk.next = grind arith in subst (λ n. IsPossible (disk.files n).durable (disk.files n).edits (disk.files disk.next).seen) (sym same) (sound.possible disk.next)
    possible_at id false e = subst (λ b. IsPossible (cond b empty_file (disk.files id)).durable (cond b empty_file (disk.files id)).edits (image.bytes id)) e (left.bytes id)

    is_empty : image.bytes disk.next ≡ []
    is_empty = subst (λ b. IsPossible (cond b empty_file (disk.files disk.next)).durable (cond b empty_file (disk.files disk.next)).edits (image.bytes disk.next)) (same_number disk.next) (left.bytes disk.next)

    split : (bytes : ℕ → List ℕ) → ((id : ℕ) → IsPossible (disk.files id).durable (disk.files id).edits (bytes id))
        → ((names : Names) → MayStand disk.durable disk.pending names → (q : List ℕ) → node_of image.bytes (get names q) ≡ node_of bytes (get names q))
        → MayStand disk.durable (made path disk.next ∷ disk.pending) image.names
        → (before : Image) × MayLeave disk before × ((q : List ℕ) → q ≢ path → Agree q image before)
        × (Agree path image before ⊎ ((before.names ≡ seen_names disk) × (node_at image path ≡ file [])))
    split bytes possible alike (inr earlier) = (record { names = image.names; bytes = bytes }, record { names = earlier; bytes = possible }, (λ q apart. alike image.names earlier q), inl (alike image.names earlier path))
    split bytes possible alike (inl all) =
        let names = all_done disk.pending disk.durable in
        let stands = all_may_stand disk.durable disk.pending in (
          record { names = names; bytes = bytes },
          record { names = stands; bytes = possible },
          (λ q apart.
              ap (λ m. node_of image.bytes (get m q)) all ∙ ap (node_of image.bytes) (get-insert_other names path (a_file disk.next) q apart) ∙ alike names stands q),
          inr (refl, ap (λ m. node_of image.bytes (get m path)) all ∙ ap (node_of image.bytes) (get-insert_same names path (a_file disk.next)) ∙ ap file is_empty),
        )

pub keeps_make : (path : List ℕ) (disk : Disk) → IsSound disk → Keeps (λ q. q ≢ path) disk (after (make path) disk)
keeps_make path disk sound = record { each = λ image left. let was = make_leaves path disk sound image left in (was.0, was.1, was.2) }

-- where nothing is seen no name stands
nothing_named : (bytes : ℕ → List ℕ) (e : Option Entry) → node_of bytes e ≡ nothing → e ≡ None
nothing_named bytes None is = refl
nothing_named bytes (Some a_directory) is = absurd (cc)
nothing_named bytes (Some (a_file id)) is = absurd (cc)

pub may_make_file : (path : List ℕ) (disk : Disk) → IsSound disk → node_at (seen disk) path ≡ nothing → MayMake path disk (after (make path) disk)
may_make_file path disk sound none = record {
  each = λ image left.
      let was = make_leaves path disk sound image left in
      record { before = was.0; was_left = was.1; elsewhere = was.2; here = here image was.0 was.3 };
}
  where
    here : (image before : Image) → Agree path image before ⊎ ((before.names ≡ seen_names disk) × (node_at image path ≡ file []))
        → Agree path image before ⊎ ((node_at (seen disk) path ≡ nothing) × (node_at before path ≡ nothing) × (node_at image path ≡ file []))
    here image before (inl same) = inl same
    here image before (inr new) = inr (none, ap (λ m. node_of before.bytes (get m path)) new.0 ∙ ap (node_of before.bytes) (nothing_named (seen disk).bytes (get (seen_names disk) path) none), new.1)

pub may_make_none : (path : List ℕ) (disk : Disk) → MayMake path disk disk
may_make_none path disk = record { each = λ image left. record { before = image; was_left = left; elsewhere = λ q apart. refl; here = inl refl } }

-- ---- edits

-- a path shows the same if its file isn't the one whose bytes are put
module _ (path : List ℕ) (disk : Disk) (id : ℕ) (stands : get (seen_names disk) path ≡ Some (a_file id)) (home : IsHome path disk) where
  apart_from : (names : Names) → MayStand disk.durable disk.pending names → (q : List ℕ) → q ≢ path → get names q ≡ Some (a_file id) → ⊥
  apart_from names may q apart e = apart (home.only names may id stands q e)

  -- an edit adds to what a crash may leave of this file alone
  pub keeps_edit : (change : FileState → FileState) (edit : Edit) → ((f : FileState) → (change f).durable ≡ f.durable) → ((f : FileState) → (change f).edits ≡ edit ∷ f.edits)
      → Keeps (λ q. q ≢ path) disk (with_file change (Some (a_file id)) disk)
  keeps_edit change edit same_durable one_more = record {
    each = λ image left.
        let here : IsPossible (disk.files id).durable (edit ∷ (disk.files id).edits) (image.bytes id) =
        subst (λ s. IsPossible s (edit ∷ (disk.files id).edits) (image.bytes id)) (same_durable (disk.files id))
        (subst (λ es. IsPossible (change (disk.files id)).durable es (image.bytes id)) (one_more (disk.files id))
        (subst (λ b. IsPossible (cond b (change (disk.files id)) (disk.files id)).durable (cond b (change (disk.files id)) (disk.files id)).edits (image.bytes id)) (same_number id) (left.bytes id))) in
        let bytes = put_bytes id here.0 image.bytes in (
          record { names = image.names; bytes = bytes },
          record { names = left.names; bytes = λ n. possible_at image left here.0 here.1 n (n == id) refl },
          λ q apart. node_apart id here.0 image.bytes (get image.names q) (apart_from image.names left.names q apart),
        );
  }
    where
      possible_at : (image : Image) → MayLeave (with_file change (Some (a_file id)) disk) image → (old : List ℕ) → IsPossible (disk.files id).durable (disk.files id).edits old
          → (n : ℕ) (b : Bool) → (n == id) ≡ b → IsPossible (disk.files n).durable (disk.files n).edits (cond b old (image.bytes n))
      possible_at image left old was n true e = let same : n ≡ id = grind arith in subst (λ k. IsPossible (disk.files k).durable (disk.files k).edits old) (sym same) was
      possible_at image left old was n false e = subst (λ b. IsPossible (cond b (change (disk.files n)) (disk.files n)).durable (cond b (change (disk.files n)) (disk.files n)).edits (image.bytes n)) e (left.bytes n)

durable_possible : (f : FileState) (b : Bool) (bytes : List ℕ) → IsPossible f.durable f.edits f.seen
    → IsPossible (cond b (synced_file f) f).durable (cond b (synced_file f) f).edits bytes → IsPossible f.durable f.edits bytes
durable_possible f true bytes sees is = subst (IsPossible f.durable f.edits) (sym is) sees
durable_possible f false bytes sees is = is

-- after a sync a crash leaves nothing else than before
pub keeps_sync : (id : ℕ) (disk : Disk) → IsSound disk → (at : List ℕ → Type 0) → Keeps at disk (with_file synced_file (Some (a_file id)) disk)
keeps_sync id disk sound at = record {
  each = λ image left. (
    image,
    record { names = left.names; bytes = λ n. durable_possible (disk.files n) (n == id) (image.bytes n) (sound.possible n) (left.bytes n) },
    λ q here. refl,
  );
}

-- nor after the names in a directory are durable
pub keeps_sync_dir : (dir : List ℕ) (disk : Disk) (at : List ℕ → Type 0) → Keeps at disk (after (sync_dir dir) disk)
keeps_sync_dir dir disk at = record {
  each = λ image left. (image, record { names = stood_before dir disk.durable disk.pending image.names left.names; bytes = left.bytes }, λ q here. refl);
}

-- ---- rename of a file

-- a crash leaves the names of before, or those with the file moved, which has these bytes alone
pub replaces_rename : (from to bytes : List ℕ) (disk : Disk) → IsWritten from bytes disk
    → Replaces to bytes (λ q. (q ≢ from) × (q ≢ to)) disk (after (rename from to) disk)
replaces_rename from to bytes disk is = record { each = λ image left. split image left (subst (λ e. MayStand disk.durable (renamed from to e ∷ disk.pending) image.names) is.stands left.names) }
  where
    one_content : (image : Image) → ((n : ℕ) → IsPossible (disk.files n).durable (disk.files n).edits (image.bytes n)) → image.bytes is.id ≡ bytes
    one_content image possible = subst (λ es. IsPossible (disk.files is.id).durable es (image.bytes is.id)) is.no_edits (possible is.id) ∙ is.is_durable

    split : (image : Image) → MayLeave (after (rename from to) disk) image → MayStand disk.durable (moved_file from to is.id ∷ disk.pending) image.names
        → (before : Image) × MayLeave disk before × ((q : List ℕ) → (q ≢ from) × (q ≢ to) → Agree q image before) × (Agree to image before ⊎ (bytes_at image to ≡ Some bytes))
    split image left (inr earlier) = (image, record { names = earlier; bytes = left.bytes }, λ q apart. refl, inl refl)
    split image left (inl all) =
        let names = seen_names disk in
        let before : Image = record { names = names; bytes = image.bytes } in (
          before,
          record { names = all_may_stand disk.durable disk.pending; bytes = left.bytes },
          λ q apart. ap (λ m. node_of image.bytes (get m q)) all
              ∙ ap (node_of image.bytes) (get-insert_other (remove names from) to (a_file is.id) q apart.1 ∙ get-remove_other names from q apart.0),
          inr (ap (λ m. bytes_of (node_of image.bytes (get m to))) all
              ∙ ap (λ e. bytes_of (node_of image.bytes e)) (get-insert_same (remove names from) to (a_file is.id))
              ∙ ap Some (one_content image left.bytes)),
        )

or_true : (a b : Bool) → b ≡ true → (a || b) ≡ true
or_true true b e = refl
or_true false b e = e

-- where the last pending operation names something in the directory, all names are durable
pub one_left : (b : Bool) (call : DirectoryOperation) (earlier : List DirectoryOperation) (durable : Names) (dir : List ℕ) (names : Names) → b ≡ true
    → MayStand (all_done (cond b (call ∷ earlier) (durable_by dir earlier)) durable) (cond b [] (call ∷ left_pending_by dir earlier)) names
    → names ≡ all_done (call ∷ earlier) durable
one_left true call earlier durable dir names e may = may
one_left false call earlier durable dir names e may = cc

-- once the names in the directory of the moved file are durable, a crash leaves it alone
pub durable_rename : (from to bytes : List ℕ) (disk : Disk) → IsWritten from bytes disk
    → (image : Image) → MayLeave (after (sync_dir (parent to)) (after (rename from to) disk)) image → bytes_at image to ≡ Some bytes
durable_rename from to bytes disk is image left =
    ap (λ m. bytes_of (node_of image.bytes (get m to))) names
    ∙ ap (λ e. bytes_of (node_of image.bytes e)) (get-insert_same (remove (seen_names disk) from) to (a_file is.id))
    ∙ ap Some (subst (λ es. IsPossible (disk.files is.id).durable es (image.bytes is.id)) is.no_edits (left.bytes is.id) ∙ is.is_durable)
  where
    names : image.names ≡ done (moved_file from to is.id) (seen_names disk)
    names = one_left (names_something_in (parent to) (moved_file from to is.id)) (moved_file from to is.id) disk.pending disk.durable (parent to) image.names
        (or_true (bytes_eq (parent to) (parent from)) (bytes_eq (parent to) (parent to)) ((bytes_eq-Decides (parent to) (parent to)).1 refl))
        (subst (λ e. MayStand (all_done (durable_by (parent to) (renamed from to e ∷ disk.pending)) disk.durable) (left_pending_by (parent to) (renamed from to e ∷ disk.pending)) image.names) is.stands left.names)

names_here : (from to : List ℕ) (id : ℕ) → names_something_in (parent to) (moved_file from to id) ≡ true
names_here from to id = or_true (bytes_eq (parent to) (parent from)) (bytes_eq (parent to) (parent to)) ((bytes_eq-Decides (parent to) (parent to)).1 refl)

-- and the old name leads nowhere
pub durable_gone : (from to bytes : List ℕ) (disk : Disk) → from ≢ to → IsWritten from bytes disk
    → (image : Image) → MayLeave (after (sync_dir (parent to)) (after (rename from to) disk)) image → node_at image from ≡ nothing
durable_gone from to bytes disk apart is image left =
    ap (λ m. node_of image.bytes (get m from)) names
    ∙ ap (node_of image.bytes) (get-insert_other (remove (seen_names disk) from) to (a_file is.id) from apart ∙ get-remove_same (seen_names disk) from)
  where
    names : image.names ≡ done (moved_file from to is.id) (seen_names disk)
    names = one_left (names_something_in (parent to) (moved_file from to is.id)) (moved_file from to is.id) disk.pending disk.durable (parent to) image.names (names_here from to is.id)
        (subst (λ e. MayStand (all_done (durable_by (parent to) (renamed from to e ∷ disk.pending)) disk.durable) (left_pending_by (parent to) (renamed from to e ∷ disk.pending)) image.names) is.stands left.names)

-- no directory operation is left open
pub durable_all : (from to bytes : List ℕ) (disk : Disk) → IsWritten from bytes disk → (after (sync_dir (parent to)) (after (rename from to) disk)).pending ≡ []
durable_all from to bytes disk is =
    ap (λ e. left_pending_by (parent to) (renamed from to e ∷ disk.pending)) is.stands
    ∙ ap (λ b. cond b [] (moved_file from to is.id ∷ left_pending_by (parent to) disk.pending)) (names_here from to is.id)
