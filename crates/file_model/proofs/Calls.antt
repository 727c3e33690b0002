-- What each call does, for the crates above: on disks, and on histories.
use Rattle.std.proofs.Common.{◌≡◌, ◌≢◌, inl, inr, ⊎_elim, ℕ, ◌<◌, List, [], ◌∷◌, take, true, false, cond, Option, Some, None, refl, sym, ◌∙◌, ap, subst, arith, ◌==◌, Result, OnOk}
use Rattle.std.specs.FinMap.{get, remove}
use Rattle.file_model.specs.Paths.{parent}
use Rattle.file_model.specs.Images.{Entry, a_file, a_directory, Names, Node, nothing, file, node_of, node_at, is_directory, directory_test, bytes_of, Agree}
use Rattle.file_model.specs.declared.files.Failed.{Failed}
use Rattle.file_model.specs.Disk.{Edit, wrote, shortened, FileState, MayStand, Disk, seen_names, seen, Call, make, write_at, cut, sync, rename, sync_dir, with_file, written, written_file, cut_file, synced_file, empty_file, renamed, all_done, after, AfterFailed}
use Rattle.file_model.specs.Kept.{Keeps, Replaces, ChangesTo, MayMake, IsHome, IsOwn, IsWritten, HasOnly, IsGone, NonePending, IsSound, Sees}
use Rattle.file_model.specs.Histories.{History, Now, GoesOn, Ran, Ended}
use Rattle.file_model.proofs.Names.{get-insert_same, get-insert_other, get-remove_other, cases_path, all_may_stand, all_durable}
use Rattle.file_model.proofs.Kept.{keeps_refl, keeps_trans, keeps_make, may_make_file, may_make_none, keeps_edit, keeps_sync, keeps_sync_dir, replaces_rename, durable_rename, durable_gone, durable_all, same_number}
use Rattle.file_model.proofs.Runs.{ran_call, ran_then, ok_call, now_all, now_both, ended_call}

-- ---- On disks

-- an entry that shows a file
pub file_entry : (bytes : ℕ → List ℕ) (e : Option Entry) (b : List ℕ) → node_of bytes e ≡ file b → (id : ℕ) × (e ≡ Some (a_file id)) × (bytes id ≡ b)
file_entry bytes None b is = absurd (cc)
file_entry bytes (Some a_directory) b is = absurd (cc)
file_entry bytes (Some (a_file id)) b is = (id, refl, cc)

-- a file that a call makes
pub own_made : (path : List ℕ) (disk : Disk) → IsSound disk → IsOwn path [] (after (make path) disk)
own_made path disk sound = record {
  id = disk.next;
  stands = get-insert_same (seen_names disk) path (a_file disk.next);
  is_seen = ap (λ b. (cond b empty_file (disk.files disk.next)).seen) (same_number disk.next);
  home = record { only = λ names may id stands other there. only names may id (id_is id stands) other there };
}
  where
    id_of : Option Entry → ℕ
    id_of None = 0
    id_of (Some a_directory) = 0
    id_of (Some (a_file n)) = n

    id_is : (id : ℕ) → get (seen_names (after (make path) disk)) path ≡ Some (a_file id) → id ≡ disk.next
    id_is id e = ap id_of (sym e ∙ get-insert_same (seen_names disk) path (a_file disk.next))

    old_names : (names : Names) → MayStand disk.durable disk.pending names → (id : ℕ) → id ≡ disk.next → (other : List ℕ) → get names other ≡ Some (a_file id) → ⊥
    old_names names may id is other there = let below = sound.fresh names may other id there in omega arith

    only : (names : Names) → MayStand (after (make path) disk).durable (after (make path) disk).pending names → (id : ℕ) → id ≡ disk.next → (other : List ℕ) → get names other ≡ Some (a_file id) → other ≡ path
    only names (inr earlier) id is other there = absurd (old_names names earlier id is other there)
    only names (inl all) id is other there = elim (cases_path other path) [
      | inl same ↦ same
      | inr apart ↦ absurd (old_names (seen_names disk) (all_may_stand disk.durable disk.pending) id is other
          (sym (get-insert_other (seen_names disk) path (a_file disk.next) other apart) ∙ ap (λ m. get m other) (sym all) ∙ there))
    ]

-- a change of the file's bytes leaves the names
module _ (path : List ℕ) (disk : Disk) where
  changed_is : (id : ℕ) (change : FileState → FileState) → get (seen_names disk) path ≡ Some (a_file id)
      → with_file change (get (seen_names disk) path) disk ≡ with_file change (Some (a_file id)) disk
  changed_is id change stands = ap (λ e. with_file change e disk) stands

  changed_own : (change : FileState → FileState) (b c : List ℕ) → ((f : FileState) → f.seen ≡ b → (change f).seen ≡ c) → (id : ℕ) → get (seen_names disk) path ≡ Some (a_file id)
      → (disk.files id).seen ≡ b → IsHome path disk → IsOwn path c (with_file change (get (seen_names disk) path) disk)
  changed_own change b c gives id stands is home = subst (IsOwn path c) (sym (changed_is id change stands)) (record {
    id = id;
    stands = stands;
    is_seen = ap (λ t. (cond t (change (disk.files id)) (disk.files id)).seen) (same_number id) ∙ gives (disk.files id) is;
    home = record { only = home.only };
  })

  changed_keeps : (id : ℕ) (change : FileState → FileState) (edit : Edit) → get (seen_names disk) path ≡ Some (a_file id) → IsHome path disk
      → ((f : FileState) → (change f).durable ≡ f.durable) → ((f : FileState) → (change f).edits ≡ edit ∷ f.edits)
      → Keeps (λ q. q ≢ path) disk (with_file change (get (seen_names disk) path) disk)
  changed_keeps id change edit stands home same more =
      subst (Keeps (λ q. q ≢ path) disk) (sym (changed_is id change stands)) (keeps_edit path disk id stands home change edit same more)

  pub own_written : (b : List ℕ) (place : ℕ) (bytes : List ℕ) → IsOwn path b disk → IsOwn path (written place bytes b) (after (write_at path place bytes) disk)
  own_written b place bytes own = changed_own (written_file place bytes) b (written place bytes b) (λ f e. ap (written place bytes) e) own.id own.stands own.is_seen own.home

  pub own_cut : (b : List ℕ) (l : ℕ) → IsOwn path b disk → IsOwn path (take l b) (after (cut path l) disk)
  own_cut b l own = changed_own (cut_file l) b (take l b) (λ f e. ap (take l) e) own.id own.stands own.is_seen own.home

  pub own_synced : (b : List ℕ) → IsOwn path b disk → IsWritten path b (after (sync path) disk)
  own_synced b own = subst (IsWritten path b) (sym (changed_is own.id synced_file own.stands)) (record {
    id = own.id;
    stands = own.stands;
    is_seen = ap (λ t. (cond t (synced_file (disk.files own.id)) (disk.files own.id)).seen) (same_number own.id) ∙ own.is_seen;
    is_durable = ap (λ t. (cond t (synced_file (disk.files own.id)) (disk.files own.id)).durable) (same_number own.id) ∙ own.is_seen;
    no_edits = ap (λ t. (cond t (synced_file (disk.files own.id)) (disk.files own.id)).edits) (same_number own.id);
  })

  pub keeps_write : (b : List ℕ) (place : ℕ) (bytes : List ℕ) → IsOwn path b disk → Keeps (λ q. q ≢ path) disk (after (write_at path place bytes) disk)
  keeps_write b place bytes own = changed_keeps own.id (written_file place bytes) (wrote place bytes) own.stands own.home (λ f. refl) (λ f. refl)

  pub keeps_cut : (b : List ℕ) (l : ℕ) → IsOwn path b disk → Keeps (λ q. q ≢ path) disk (after (cut path l) disk)
  keeps_cut b l own = changed_keeps own.id (cut_file l) (shortened l) own.stands own.home (λ f. refl) (λ f. refl)

  pub keeps_synced : (b : List ℕ) → IsSound disk → IsOwn path b disk → (at : List ℕ → Type 0) → Keeps at disk (after (sync path) disk)
  keeps_synced b sound own at = subst (Keeps at disk) (sym (changed_is own.id synced_file own.stands)) (keeps_sync own.id disk sound at)

-- a call that failed keeps what it would keep
pub failed_keeps : (at : List ℕ → Type 0) (call : Call) (d e : Disk) → Keeps at d (after call d) → AfterFailed call d e → Keeps at d e
failed_keeps at call d e keeps failed = record { each = λ image left. ⊎_elim (λ was. (image, was, λ q here. refl)) (λ is. keeps.each image is) (failed.each image left) }

failed_may_make : (path : List ℕ) (call : Call) (d e : Disk) → MayMake path d (after call d) → AfterFailed call d e → MayMake path d e
failed_may_make path call d e makes failed = record { each = λ image left. ⊎_elim (λ was. (may_make_none path d).each image was) (λ is. makes.each image is) (failed.each image left) }

pub failed_changes : (path : List ℕ) (node : Node) (call : Call) (d e : Disk) → ChangesTo path node d (after call d) → AfterFailed call d e → ChangesTo path node d e
failed_changes path node call d e does failed = record { each = λ image left. ⊎_elim (λ was. (image, was, (λ q apart. refl), inl refl)) (λ is. does.each image is) (failed.each image left) }

failed_replaces : (to bytes : List ℕ) (at : List ℕ → Type 0) (call : Call) (d e : Disk) → Replaces to bytes at d (after call d) → AfterFailed call d e → Replaces to bytes at d e
failed_replaces to bytes at call d e does failed = record { each = λ image left. ⊎_elim (λ was. (image, was, (λ q here. refl), inl refl)) (λ is. does.each image is) (failed.each image left) }

-- what stands elsewhere is seen as before
pub moved_agrees : (from to : List ℕ) (disk : Disk) (id : ℕ) → get (seen_names disk) from ≡ Some (a_file id) → (q : List ℕ) → q ≢ from → q ≢ to
    → Agree q (seen (after (rename from to) disk)) (seen disk)
moved_agrees from to disk id stands q first second =
    ap (λ e. node_of (seen disk).bytes (get (all_done (renamed from to e ∷ disk.pending) disk.durable) q)) stands
    ∙ ap (node_of (seen disk).bytes) (get-insert_other (remove (seen_names disk) from) to (a_file id) q second ∙ get-remove_other (seen_names disk) from q first)

pub sees_trans : (at : List ℕ → Type 0) (a b c : Disk) → Sees at a b → Sees at b c → Sees at a c
sees_trans at a b c first second = record { each = λ path here. second.each path here ∙ first.each path here }

pub sees_make : (path : List ℕ) (disk : Disk) → IsSound disk → Sees (λ q. q ≢ path) disk (after (make path) disk)
sees_make path disk sound = record {
  each = λ q apart.
      ap (node_of (seen (after (make path) disk)).bytes) (get-insert_other (seen_names disk) path (a_file disk.next) q apart)
      ∙ at (get (seen_names disk) q) (λ id there. sound.fresh (seen_names disk) (all_may_stand disk.durable disk.pending) q id there);
}
  where
    other : (id : ℕ) → id < disk.next → (id == disk.next) ≡ false
    other id below = grind arith

    at : (e : Option Entry) → ((id : ℕ) → e ≡ Some (a_file id) → id < disk.next) → node_of (seen (after (make path) disk)).bytes e ≡ node_of (seen disk).bytes e
    at None old = refl
    at (Some a_directory) old = refl
    at (Some (a_file id)) old = ap (λ b. file (cond b empty_file (disk.files id)).seen) (other id (old id refl))

pub sees_change : (path : List ℕ) (disk : Disk) (id : ℕ) (change : FileState → FileState) → get (seen_names disk) path ≡ Some (a_file id) → IsHome path disk
    → Sees (λ q. q ≢ path) disk (with_file change (get (seen_names disk) path) disk)
sees_change path disk id change stands home = subst (Sees (λ q. q ≢ path) disk) (sym (changed_is path disk id change stands)) (record {
  each = λ q apart.
      at (get (seen_names disk) q) (λ there. apart (home.only (seen_names disk) (all_may_stand disk.durable disk.pending) id stands q there));
})
  where
    other : (n : ℕ) → (n ≡ id → ⊥) → (n == id) ≡ false
    other n apart = grind arith

    at : (e : Option Entry) → (e ≡ Some (a_file id) → ⊥) → node_of (seen (with_file change (Some (a_file id)) disk)).bytes e ≡ node_of (seen disk).bytes e
    at None far = refl
    at (Some a_directory) far = refl
    at (Some (a_file n)) far = ap (λ b. file (cond b (change (disk.files n)) (disk.files n)).seen) (other n (λ same. far (ap (λ k. Some (a_file k)) same)))

-- a file was moved
abbrev pub WasMoved : List ℕ → List ℕ → List ℕ → Disk → Type 0
WasMoved from to bytes disk = (before : Disk) × IsWritten from bytes before × (disk ≡ after (rename from to) before)

pub replaces_refl : (to bytes : List ℕ) (at : List ℕ → Type 0) (d : Disk) → Replaces to bytes at d d
replaces_refl to bytes at d = record { each = λ image left. (image, left, λ q h. refl, inl refl) }

-- ---- On histories

module _ (result : Result (Unit {0}) Failed) (old new : History) where
  pub ran_make : (path : List ℕ) → Now old (λ w. IsSound w.disk) → GoesOn (make path) result old new → Ran (Keeps (λ q. q ≢ path)) old new
  ran_make path now on = ran_call IsSound (Keeps (λ q. q ≢ path)) (make path) (λ d p. keeps_make path d p) (λ d e p. failed_keeps _ _ d e (keeps_make path d p)) result old new now on

  -- a file is made where nothing is seen
  pub ran_make_file : (path : List ℕ) → Now old (λ w. IsSound w.disk × (node_at (seen w.disk) path ≡ nothing)) → GoesOn (make path) result old new → Ran (MayMake path) old new
  ran_make_file path now on = ran_call (λ d. IsSound d × (node_at (seen d) path ≡ nothing)) (MayMake path) (make path) (λ d p. may_make_file path d p.0 p.1) (λ d e p. failed_may_make path (make path) d e (may_make_file path d p.0 p.1)) result old new now on

  pub ran_cut : (path : List ℕ) (l : ℕ) → Now old (λ w. (b : List ℕ) × IsOwn path b w.disk) → GoesOn (cut path l) result old new → Ran (Keeps (λ q. q ≢ path)) old new
  ran_cut path l now on = ran_call (λ d. (b : List ℕ) × IsOwn path b d) (Keeps (λ q. q ≢ path)) (cut path l) (λ d p. keeps_cut path d p.0 l p.1) (λ d e p. failed_keeps _ _ d e (keeps_cut path d p.0 l p.1)) result old new now on

  pub ran_write : (path b : List ℕ) (place : ℕ) (bytes : List ℕ) → Now old (λ w. IsOwn path b w.disk) → GoesOn (write_at path place bytes) result old new → Ran (Keeps (λ q. q ≢ path)) old new
  ran_write path b place bytes now on = ran_call (IsOwn path b) (Keeps (λ q. q ≢ path)) (write_at path place bytes) (λ d p. keeps_write path d b place bytes p) (λ d e p. failed_keeps _ _ d e (keeps_write path d b place bytes p)) result old new now on

  pub ran_sync : (path b : List ℕ) (at : List ℕ → Type 0) → Now old (λ w. IsSound w.disk × IsOwn path b w.disk) → GoesOn (sync path) result old new → Ran (Keeps at) old new
  ran_sync path b at now on = ran_call (λ d. IsSound d × IsOwn path b d) (Keeps at) (sync path) (λ d p. keeps_synced path d b p.0 p.1 at) (λ d e p. failed_keeps _ _ d e (keeps_synced path d b p.0 p.1 at)) result old new now on

  pub ran_sync_dir : (dir : List ℕ) (at : List ℕ → Type 0) → GoesOn (sync_dir dir) result old new → Ran (Keeps at) old new
  ran_sync_dir dir at on = ran_call (λ d. Unit {0}) (Keeps at) (sync_dir dir) (λ d p. keeps_sync_dir dir d at) (λ d e p. failed_keeps _ _ d e (keeps_sync_dir dir d at)) result old new (now_all (λ w. Unit {0}) (λ w. tt) old) on

  pub ok_make : (path : List ℕ) → Now old (λ w. IsSound w.disk) → GoesOn (make path) result old new → OnOk result (Now new (λ w. IsOwn path [] w.disk))
  ok_make path now on = ok_call IsSound (IsOwn path []) (make path) (own_made path) result old new now on

  pub ok_cut_all : (path : List ℕ) → Now old (λ w. (b : List ℕ) × IsOwn path b w.disk) → GoesOn (cut path 0) result old new → OnOk result (Now new (λ w. IsOwn path [] w.disk))
  ok_cut_all path now on = ok_call (λ d. (b : List ℕ) × IsOwn path b d) (IsOwn path []) (cut path 0) (λ d p. own_cut path d p.0 0 p.1) result old new now on

  pub ok_write : (path b : List ℕ) (place : ℕ) (bytes : List ℕ) → Now old (λ w. IsOwn path b w.disk) → GoesOn (write_at path place bytes) result old new → OnOk result (Now new (λ w. IsOwn path (written place bytes b) w.disk))
  ok_write path b place bytes now on = ok_call (IsOwn path b) (IsOwn path (written place bytes b)) (write_at path place bytes) (λ d p. own_written path d b place bytes p) result old new now on

  pub ok_sync : (path b : List ℕ) → Now old (λ w. IsOwn path b w.disk) → GoesOn (sync path) result old new → OnOk result (Now new (λ w. IsWritten path b w.disk))
  ok_sync path b now on = ok_call (IsOwn path b) (IsWritten path b) (sync path) (λ d p. own_synced path d b p) result old new now on

  pub sees_ok_make : (path : List ℕ) → Now old (λ w. IsSound w.disk) → GoesOn (make path) result old new → OnOk result (Ended (Sees (λ q. q ≢ path)) old new)
  sees_ok_make path now on = ended_call IsSound (Sees (λ q. q ≢ path)) (make path) (λ d p. sees_make path d p) result old new now on

  pub sees_ok_cut : (path : List ℕ) (l : ℕ) → Now old (λ w. (b : List ℕ) × IsOwn path b w.disk) → GoesOn (cut path l) result old new → OnOk result (Ended (Sees (λ q. q ≢ path)) old new)
  sees_ok_cut path l now on = ended_call (λ d. (b : List ℕ) × IsOwn path b d) (Sees (λ q. q ≢ path)) (cut path l) (λ d p. sees_change path d p.1.id (cut_file l) p.1.stands p.1.home) result old new now on

  pub sees_ok_write : (path b : List ℕ) (place : ℕ) (bytes : List ℕ) → Now old (λ w. IsOwn path b w.disk) → GoesOn (write_at path place bytes) result old new → OnOk result (Ended (Sees (λ q. q ≢ path)) old new)
  sees_ok_write path b place bytes now on = ended_call (IsOwn path b) (Sees (λ q. q ≢ path)) (write_at path place bytes) (λ d p. sees_change path d p.id (written_file place bytes) p.stands p.home) result old new now on

  pub sees_ok_sync : (path b : List ℕ) → Now old (λ w. IsOwn path b w.disk) → GoesOn (sync path) result old new → OnOk result (Ended (Sees (λ q. q ≢ path)) old new)
  sees_ok_sync path b now on = ended_call (IsOwn path b) (Sees (λ q. q ≢ path)) (sync path) (λ d p. sees_change path d p.id synced_file p.stands p.home) result old new now on

  -- a file is moved over another
  pub ran_move : (from to bytes : List ℕ) → Now old (λ w. IsWritten from bytes w.disk) → GoesOn (rename from to) result old new → Ran (Replaces to bytes (λ q. (q ≢ from) × (q ≢ to))) old new
  ran_move from to bytes now on = ran_call (IsWritten from bytes) (Replaces to bytes (λ q. (q ≢ from) × (q ≢ to))) (rename from to) (λ d p. replaces_rename from to bytes d p)
      (λ d e p. failed_replaces to bytes _ _ d e (replaces_rename from to bytes d p)) result old new now on

  pub ok_move : (from to bytes : List ℕ) → Now old (λ w. IsWritten from bytes w.disk) → GoesOn (rename from to) result old new → OnOk result (Now new (λ w. WasMoved from to bytes w.disk))
  ok_move from to bytes now on = ok_call (IsWritten from bytes) (WasMoved from to bytes) (rename from to) (λ d p. (d, p, refl)) result old new now on

  -- a directory elsewhere stands on
  pub ok_move_beside : (from to dir : List ℕ) → dir ≢ from → dir ≢ to → Now old (λ w. (bytes : List ℕ) × IsWritten from bytes w.disk) → Now old (λ w. is_directory (seen w.disk) dir ≡ true)
      → GoesOn (rename from to) result old new → OnOk result (Now new (λ w. is_directory (seen w.disk) dir ≡ true))
  ok_move_beside from to dir first second now stands on = ok_call (λ d. ((bytes : List ℕ) × IsWritten from bytes d) × (is_directory (seen d) dir ≡ true)) (λ d. is_directory (seen d) dir ≡ true) (rename from to)
      (λ d p. ap directory_test (moved_agrees from to d p.0.1.id p.0.1.stands dir first second) ∙ p.1) result old new (now_both _ _ old now stands) on

  pub ok_settle_move : (from to bytes : List ℕ) → Now old (λ w. WasMoved from to bytes w.disk) → GoesOn (sync_dir (parent to)) result old new → OnOk result (Now new (λ w. HasOnly to bytes w.disk))
  ok_settle_move from to bytes now on = ok_call (WasMoved from to bytes) (HasOnly to bytes) (sync_dir (parent to))
      (λ d p. subst (λ d. HasOnly to bytes (after (sync_dir (parent to)) d)) (sym p.2) (record { each = durable_rename from to bytes p.0 p.1 })) result old new now on

-- a run that keeps all else after one that replaces a content
pub ran_durable : (to bytes : List ℕ) (at all : List ℕ → Type 0) → ((q : List ℕ) → at q → all q) → all to → (old mid new : History)
    → Ran (Replaces to bytes at) old mid → Ran (Keeps all) mid new → Ran (Replaces to bytes at) old new
ran_durable to bytes at all more here old mid new one two = ran_then (replaces_refl to bytes at) (λ a b r. r) (λ a b c first second. record {
  each = λ image left.
      let m = second.each image left in
      let s = first.each m.0 m.1 in
      (s.0, s.1, (λ q h. m.2 q (more q h) ∙ s.2 q h), ⊎_elim (λ same. inl (m.2 to here ∙ same)) (λ is. inr (ap bytes_of (m.2 to here) ∙ is)) s.3);
}) old mid new one two

-- one run that keeps what stands at these paths, and then another
pub ran_keeps : (at : List ℕ → Type 0) (old mid new : History) → Ran (Keeps at) old mid → Ran (Keeps at) mid new → Ran (Keeps at) old new
ran_keeps at old mid new one two = ran_then (λ a. keeps_refl at a) (λ a b k. k) (λ a b c first second. keeps_trans first second) old mid new one two

-- a call by other words for its paths
pub rename_at : (result : Result (Unit {0}) Failed) (old new : History) (from to one other : List ℕ) → from ≡ one → to ≡ other → GoesOn (rename from to) result old new → GoesOn (rename one other) result old new
rename_at result old new from to one other same alike on = subst (λ q. GoesOn (rename q other) result old new) same (subst (λ q. GoesOn (rename from q) result old new) alike on)

pub sync_dir_at : (result : Result (Unit {0}) Failed) (old new : History) (dir one : List ℕ) → dir ≡ one → GoesOn (sync_dir dir) result old new → GoesOn (sync_dir one) result old new
sync_dir_at result old new dir one is on = subst (λ q. GoesOn (sync_dir q) result old new) is on

module _ (result : Result (Unit {0}) Failed) (old new : History) where
  pub ok_move_any : (from to : List ℕ) → Now old (λ w. (bytes : List ℕ) × IsWritten from bytes w.disk) → GoesOn (rename from to) result old new → OnOk result (Now new (λ w. (bytes : List ℕ) × WasMoved from to bytes w.disk))
  ok_move_any from to now on = ok_call (λ d. (bytes : List ℕ) × IsWritten from bytes d) (λ d. (bytes : List ℕ) × WasMoved from to bytes d) (rename from to) (λ d p. (p.0, (d, p.1, refl))) result old new now on

  pub ok_gone_move : (from to : List ℕ) → from ≢ to → Now old (λ w. (bytes : List ℕ) × WasMoved from to bytes w.disk) → GoesOn (sync_dir (parent to)) result old new → OnOk result (Now new (λ w. IsGone from w.disk))
  ok_gone_move from to apart now on = ok_call (λ d. (bytes : List ℕ) × WasMoved from to bytes d) (IsGone from) (sync_dir (parent to))
      (λ d p. subst (λ d. IsGone from (after (sync_dir (parent to)) d)) (sym p.1.2) (record { each = durable_gone from to p.0 p.1.0 apart p.1.1 })) result old new now on

  pub ok_all_durable : (from to : List ℕ) → Now old (λ w. (bytes : List ℕ) × WasMoved from to bytes w.disk) → GoesOn (sync_dir (parent to)) result old new → OnOk result (Now new (λ w. NonePending w.disk))
  ok_all_durable from to now on = ok_call (λ d. (bytes : List ℕ) × WasMoved from to bytes d) NonePending (sync_dir (parent to))
      (λ d p. subst (λ d. NonePending (after (sync_dir (parent to)) d)) (sym p.1.2) (record { none_pending = durable_all from to p.0 p.1.0 p.1.1 })) result old new now on

  pub sees_ok_move : (from to : List ℕ) → Now old (λ w. (bytes : List ℕ) × IsWritten from bytes w.disk) → GoesOn (rename from to) result old new → OnOk result (Ended (Sees (λ q. (q ≢ from) × (q ≢ to))) old new)
  sees_ok_move from to now on = ended_call (λ d. (bytes : List ℕ) × IsWritten from bytes d) (Sees (λ q. (q ≢ from) × (q ≢ to))) (rename from to)
      (λ d p. record { each = λ q apart. moved_agrees from to d p.1.id p.1.stands q apart.0 apart.1 }) result old new now on

  pub sees_ok_sync_dir : (dir : List ℕ) (at : List ℕ → Type 0) → Now old (λ w. IsSound w.disk) → GoesOn (sync_dir dir) result old new → OnOk result (Ended (Sees at) old new)
  sees_ok_sync_dir dir at now on = ended_call IsSound (Sees at) (sync_dir dir)
      (λ d p. record { each = λ q here. ap (λ m. node_of (seen d).bytes (get m q)) (all_durable dir d.pending d.durable) }) result old new now on
