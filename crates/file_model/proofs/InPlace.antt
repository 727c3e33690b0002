-- A file that is rewritten where it stands.
use Rattle.std.proofs.Common.{◌≡◌, ◌≢◌, ℕ, ◌==◌, true, false, List, [], ◌∷◌, cond, Option, Some, None, refl, sym, ◌∙◌, ap, subst, arith, Result, OnOk}
use Rattle.std.specs.FinMap.{get}
use Rattle.file_model.specs.Images.{Entry, a_file, a_directory, Names, Node, nothing, file, directory, node_of, node_at, is_directory, directory_test}
use Rattle.file_model.specs.declared.files.Failed.{Failed}
use Rattle.file_model.specs.declared.files.Kind.{Kind}
use Rattle.file_model.specs.declared.files.Kind.TheVariants.{File}
use Rattle.file_model.specs.Kinds.{IsFile, kind_of}
use Rattle.file_model.specs.Disk.{FileState, MayStand, Disk, seen_names, seen, make, write_at, cut, sync, with_file, written, written_file, cut_file, synced_file, after}
use Rattle.file_model.specs.Kept.{IsHome, IsOwn, IsWritten, NonePending, IsSound, Sees}
use Rattle.file_model.specs.Histories.{History, Now, GoesOn, Ended}
use Rattle.file_model.proofs.Names.{all_may_stand}
use Rattle.file_model.proofs.Runs.{ok_call, ended_call}
use Rattle.file_model.proofs.Calls.{file_entry, own_made, own_cut}

-- with no directory operation pending a file stands at one path
pub home_durable : (path : List ℕ) (disk : Disk) → IsSound disk → NonePending disk → IsHome path disk
home_durable path disk sound durable = record {
  only = λ names may id stands other there. sound.alone names may path other id (subst (λ m. get m path ≡ Some (a_file id)) (same names may) stands) there;
}
  where
    none : (calls : List _) → calls ≡ [] → (names : Names) → MayStand disk.durable calls names → names ≡ disk.durable
    none calls is names may = subst (λ l. MayStand disk.durable l names → names ≡ disk.durable) (sym is) (λ e. e) may

    same : (names : Names) → MayStand disk.durable disk.pending names → seen_names disk ≡ names
    same names may = none disk.pending durable.none_pending (seen_names disk) (all_may_stand disk.durable disk.pending) ∙ sym (none disk.pending durable.none_pending names may)

pub home_now : (path : List ℕ) (h : History) → Now h (λ w. IsSound w.disk) → Now h (λ w. NonePending w.disk) → Now h (λ w. IsHome path w.disk)
home_now path [] sound durable = tt
home_now path (w ∷ past) sound durable = home_durable path w.disk sound durable

pub own_durable : (path b : List ℕ) (disk : Disk) → IsSound disk → NonePending disk → node_at (seen disk) path ≡ file b → IsOwn path b disk
own_durable path b disk sound durable stands =
    let e = file_entry (seen disk).bytes (get (seen_names disk) path) b stands in
    record { id = e.0; stands = e.1; is_seen = e.2; home = home_durable path disk sound durable }

module _ (path b : List ℕ) (disk : Disk) (stands : node_at (seen disk) path ≡ file b) where
  entry : (id : ℕ) × (get (seen_names disk) path ≡ Some (a_file id)) × ((disk.files id).seen ≡ b)
  entry = file_entry (seen disk).bytes (get (seen_names disk) path) b stands

  changed : (FileState → FileState) → Disk
  changed change = with_file change (get (seen_names disk) path) disk

  changed_is : (change : FileState → FileState) → with_file change (get (seen_names disk) path) disk ≡ with_file change (Some (a_file entry.0)) disk
  changed_is change = ap (λ e. with_file change e disk) entry.1

  same_number : (id : ℕ) → (id == id) ≡ true
  same_number id = grind arith

  -- what stands there afterwards
  pub change_shows : (change : FileState → FileState) (c : List ℕ) → ((f : FileState) → f.seen ≡ b → (change f).seen ≡ c) → node_at (seen (with_file change (get (seen_names disk) path) disk)) path ≡ file c
  change_shows change c gives = subst (λ d. node_at (seen d) path ≡ file c) (sym (changed_is change))
      (ap (node_of (λ n. (cond (n == entry.0) (change (disk.files n)) (disk.files n)).seen)) entry.1
      ∙ ap (λ t. file (cond t (change (disk.files entry.0)) (disk.files entry.0)).seen) (same_number entry.0)
      ∙ ap file (gives (disk.files entry.0) entry.2))

  -- reads see the same elsewhere
  pub change_sees : IsSound disk → (change : FileState → FileState) → Sees (λ q. q ≢ path) disk (with_file change (get (seen_names disk) path) disk)
  change_sees sound change = subst (Sees (λ q. q ≢ path) disk) (sym (changed_is change)) (record {
    each = λ q apart. at (get (seen_names disk) q) (λ there. apart (sound.alone (seen_names disk) (all_may_stand disk.durable disk.pending) path q entry.0 entry.1 there));
  })
    where
      other : (n : ℕ) → (n ≡ entry.0 → ⊥) → (n == entry.0) ≡ false
      other n apart = grind arith

      at : (e : Option Entry) → (e ≡ Some (a_file entry.0) → ⊥) → node_of (seen (with_file change (Some (a_file entry.0)) disk)).bytes e ≡ node_of (seen disk).bytes e
      at None far = refl
      at (Some a_directory) far = refl
      at (Some (a_file n)) far = ap (λ b. file (cond b (change (disk.files n)) (disk.files n)).seen) (other n (λ same. far (ap (λ k. Some (a_file k)) same)))

  -- after a sync the file has one possible content
  pub change_written : IsWritten path b (with_file synced_file (get (seen_names disk) path) disk)
  change_written = subst (IsWritten path b) (sym (changed_is synced_file)) (record {
    id = entry.0;
    stands = entry.1;
    is_seen = ap (λ t. (cond t (synced_file (disk.files entry.0)) (disk.files entry.0)).seen) (same_number entry.0) ∙ entry.2;
    is_durable = ap (λ t. (cond t (synced_file (disk.files entry.0)) (disk.files entry.0)).durable) (same_number entry.0) ∙ entry.2;
    no_edits = ap (λ t. (cond t (synced_file (disk.files entry.0)) (disk.files entry.0)).edits) (same_number entry.0);
  })

  -- a file that stands nowhere else
  pub shown_own : IsHome path disk → IsOwn path b disk
  shown_own home = record { id = entry.0; stands = entry.1; is_seen = entry.2; home = home }

  pub change_durable : (change : FileState → FileState) → NonePending disk → NonePending (with_file change (get (seen_names disk) path) disk)
  change_durable change durable = subst NonePending (sym (changed_is change)) (record { none_pending = durable.none_pending })

-- a file with some bytes
abbrev pub Shows : List ℕ → List ℕ → Disk → Type 0
Shows path b disk = node_at (seen disk) path ≡ file b

pub own_shows : (path b : List ℕ) (disk : Disk) → IsOwn path b disk → Shows path b disk
own_shows path b disk own = ap (node_of (seen disk).bytes) own.stands ∙ ap file own.is_seen

pub shows_file : (path b : List ℕ) (disk : Disk) → Shows path b disk → IsFile (seen disk) path 0
shows_file path b disk shows = (b, shows, omega arith)

-- what `stat` answers of a file
pub stat_shows : (path : List ℕ) (kind : Kind) (n : ℕ) (h : History) → kind ≡ File n → Now h (λ w. kind ≡ kind_of (node_at (seen w.disk) path)) → Now h (λ w. (b : List ℕ) × Shows path b w.disk)
stat_shows path kind n [] is now = tt
stat_shows path kind n (w ∷ past) is now = file_of (node_at (seen w.disk) path) (sym now ∙ is)
  where
    file_of : (node : Node) → kind_of node ≡ File n → (b : List ℕ) × (node ≡ file b)
    file_of nothing e = absurd (cc)
    file_of directory e = absurd (cc)
    file_of (file b) e = (b, refl)

-- no directory stands where a file does
pub stat_apart : (P : Type 0) (path : List ℕ) (kind : Kind) (n : ℕ) (h : History) → kind ≡ File n → Now h (λ w. kind ≡ kind_of (node_at (seen w.disk) path)) → Now h (λ w. is_directory (seen w.disk) path ≡ true → P)
stat_apart P path kind n [] is now = tt
stat_apart P path kind n (w ∷ past) is now = λ there. at (node_at (seen w.disk) path) (sym now ∙ is) there
  where
    at : (node : Node) → kind_of node ≡ File n → directory_test node ≡ true → P
    at nothing e there = absurd (cc)
    at directory e there = absurd (cc)
    at (file b) e there = absurd (cc)

module _ (result : Result (Unit {0}) Failed) (old new : History) (path : List ℕ) where
  pub ok_make_shows : Now old (λ w. IsSound w.disk) → GoesOn (make path) result old new → OnOk result (Now new (λ w. Shows path [] w.disk))
  ok_make_shows now on = ok_call IsSound (Shows path []) (make path) (λ d p. own_shows path [] (after (make path) d) (own_made path d p)) result old new now on

  pub ok_sync_written : (b : List ℕ) → Now old (λ w. Shows path b w.disk) → GoesOn (sync path) result old new → OnOk result (Now new (λ w. IsWritten path b w.disk))
  ok_sync_written b now on = ok_call (Shows path b) (IsWritten path b) (sync path) (λ d p. change_written path b d p) result old new now on

  -- the file stands nowhere else
  pub ok_make_home : Now old (λ w. IsSound w.disk) → GoesOn (make path) result old new → OnOk result (Now new (λ w. IsHome path w.disk))
  ok_make_home now on = ok_call IsSound (IsHome path) (make path) (λ d p. (own_made path d p).home) result old new now on

  pub ok_cut_home : Now old (λ w. (b : List ℕ) × IsOwn path b w.disk) → GoesOn (cut path 0) result old new → OnOk result (Now new (λ w. IsHome path w.disk))
  ok_cut_home now on = ok_call (λ d. (b : List ℕ) × IsOwn path b d) (IsHome path) (cut path 0) (λ d p. (own_cut path d p.0 0 p.1).home) result old new now on

pub owns : (path b : List ℕ) (h : History) → Now h (λ w. Shows path b w.disk) → Now h (λ w. IsHome path w.disk) → Now h (λ w. IsOwn path b w.disk)
owns path b [] shows home = tt
owns path b (w ∷ past) shows home = shown_own path b w.disk shows home

pub owns_any : (path : List ℕ) (h : History) → Now h (λ w. (b : List ℕ) × Shows path b w.disk) → Now h (λ w. IsHome path w.disk) → Now h (λ w. (b : List ℕ) × IsOwn path b w.disk)
owns_any path [] shows home = tt
owns_any path (w ∷ past) shows home = (shows.0, shown_own path shows.0 w.disk shows.1 home)

module _ (result : Result (Unit {0}) Failed) (old new : History) (path : List ℕ) where
  -- each call on the file's bytes
  pub ok_cut_shows : Now old (λ w. (b : List ℕ) × Shows path b w.disk) → GoesOn (cut path 0) result old new → OnOk result (Now new (λ w. Shows path [] w.disk))
  ok_cut_shows now on = ok_call (λ d. (b : List ℕ) × Shows path b d) (Shows path []) (cut path 0) (λ d p. change_shows path p.0 d p.1 (cut_file 0) [] (λ f is. refl)) result old new now on

  pub ok_write_shows : (b : List ℕ) (place : ℕ) (bytes : List ℕ) → Now old (λ w. Shows path b w.disk) → GoesOn (write_at path place bytes) result old new → OnOk result (Now new (λ w. Shows path (written place bytes b) w.disk))
  ok_write_shows b place bytes now on =
      ok_call (Shows path b) (Shows path (written place bytes b)) (write_at path place bytes) (λ d p. change_shows path b d p (written_file place bytes) (written place bytes b) (λ f is. ap (written place bytes) is)) result old new now on

  pub ok_sync_shows : (b : List ℕ) → Now old (λ w. Shows path b w.disk) → GoesOn (sync path) result old new → OnOk result (Now new (λ w. Shows path b w.disk))
  ok_sync_shows b now on = ok_call (Shows path b) (Shows path b) (sync path) (λ d p. change_shows path b d p synced_file b (λ f is. is)) result old new now on

  pub sees_cut : Now old (λ w. IsSound w.disk × ((b : List ℕ) × Shows path b w.disk)) → GoesOn (cut path 0) result old new → OnOk result (Ended (Sees (λ q. q ≢ path)) old new)
  sees_cut now on = ended_call (λ d. IsSound d × ((b : List ℕ) × Shows path b d)) (Sees (λ q. q ≢ path)) (cut path 0) (λ d p. change_sees path p.1.0 d p.1.1 p.0 (cut_file 0)) result old new now on

  pub sees_write : (b : List ℕ) (place : ℕ) (bytes : List ℕ) → Now old (λ w. IsSound w.disk × Shows path b w.disk) → GoesOn (write_at path place bytes) result old new → OnOk result (Ended (Sees (λ q. q ≢ path)) old new)
  sees_write b place bytes now on = ended_call (λ d. IsSound d × Shows path b d) (Sees (λ q. q ≢ path)) (write_at path place bytes) (λ d p. change_sees path b d p.1 p.0 (written_file place bytes)) result old new now on

  pub sees_sync : (b : List ℕ) → Now old (λ w. IsSound w.disk × Shows path b w.disk) → GoesOn (sync path) result old new → OnOk result (Ended (Sees (λ q. q ≢ path)) old new)
  sees_sync b now on = ended_call (λ d. IsSound d × Shows path b d) (Sees (λ q. q ≢ path)) (sync path) (λ d p. change_sees path b d p.1 p.0 synced_file) result old new now on

  pub durable_cut : Now old (λ w. NonePending w.disk × ((b : List ℕ) × Shows path b w.disk)) → GoesOn (cut path 0) result old new → OnOk result (Now new (λ w. NonePending w.disk))
  durable_cut now on = ok_call (λ d. NonePending d × ((b : List ℕ) × Shows path b d)) NonePending (cut path 0) (λ d p. change_durable path p.1.0 d p.1.1 (cut_file 0) p.0) result old new now on

  pub durable_write : (b : List ℕ) (place : ℕ) (bytes : List ℕ) → Now old (λ w. NonePending w.disk × Shows path b w.disk) → GoesOn (write_at path place bytes) result old new → OnOk result (Now new (λ w. NonePending w.disk))
  durable_write b place bytes now on = ok_call (λ d. NonePending d × Shows path b d) NonePending (write_at path place bytes) (λ d p. change_durable path b d p.1 (written_file place bytes) p.0) result old new now on

  pub durable_sync : (b : List ℕ) → Now old (λ w. NonePending w.disk × Shows path b w.disk) → GoesOn (sync path) result old new → OnOk result (Now new (λ w. NonePending w.disk))
  durable_sync b now on = ok_call (λ d. NonePending d × Shows path b d) NonePending (sync path) (λ d p. change_durable path b d p.1 synced_file p.0) result old new now on
