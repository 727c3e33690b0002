-- A file that is moved to where nothing stands.
use Rattle.std.proofs.Common.{◌≡◌, ◌≢◌, ◌⊎◌, inl, inr, ℕ, List, [], ◌∷◌, ◌++◌, drop, length, Bool, true, false, cond, Option, Some, None, refl, sym, ◌∙◌, ap, append-nil, arith, subst, Result, OnOk}
use Rattle.std.specs.FinMap.{get, insert, remove}
use Rattle.file_model.specs.declared.files.Failed.{Failed}
use Rattle.file_model.specs.Disk.{Disk, MayStand, MayLeave, seen, seen_names, after, rename, renamed, moved_file, done}
use Rattle.file_model.specs.Histories.{History, Now, GoesOn, Ran, Ended}
use Rattle.file_model.specs.Images.{Image, Entry, a_file, a_directory, Names, node_of, node_at, nothing, Agree, HasNothing}
use Rattle.file_model.specs.Kept.{IsSound, MovesWhole, SeesMoved, moved_node}
use Rattle.file_model.specs.Kinds.{CanMoveFile}
use Rattle.file_model.specs.Paths.{child, split_path, is_top, is_at_or_inside}
use Rattle.file_model.proofs.Calls.{file_entry}
use Rattle.file_model.proofs.Inside.{Slash, Under, under_is, under_test, drop_dir, not_both}
use Rattle.file_model.proofs.Names.{all_may_stand, get-insert_same, get-insert_other, get-remove_same, get-remove_other}
use Rattle.file_model.proofs.Orderly.{Rooted, above_stands}
use Rattle.file_model.proofs.Paths.{child_apart}
use Rattle.file_model.proofs.Renamed.{failed_moves}
use Rattle.file_model.proofs.Runs.{ran_call, ended_call}
use Rattle.file_model.proofs.Sound.{no_entry}

none_some : (e : Entry) → None ≡ Some e → ⊥
none_some e h = cc

file_directory : (id : ℕ) → Some (a_file id) ≡ Some a_directory → ⊥
file_directory id h = cc

none_of : (names : Names) (path : List ℕ) → ((e : Entry) → get names path ≡ Some e → ⊥) → get names path ≡ None
none_of names path never = at (get names path) refl
  where
    at : (o : Option Entry) → get names path ≡ o → o ≡ None
    at None e = refl
    at (Some x) e = absurd (never x e)

-- ---- On names

module _ (from to : List ℕ) (some_from : from ≢ []) (some_to : to ≢ []) (names : Names) (rooted : Rooted names) (id : ℕ) (is : get names from ≡ Some (a_file id)) (none : get names to ≡ None) where
  -- nothing is in a file, or in nothing
  in_from : (more : List ℕ) → get names (child from more) ≡ None
  in_from more = none_of names (child from more) (λ e there. file_directory id (sym is ∙ above_stands more names from more e (omega arith) some_from rooted there))

  in_to : (more : List ℕ) → get names (child to more) ≡ None
  in_to more = none_of names (child to more) (λ e there. none_some a_directory (sym none ∙ above_stands more names to more e (omega arith) some_to rooted there))

  from_apart : (more : List ℕ) → child to more ≡ from → ⊥
  from_apart more same = none_some (a_file id) (sym (in_to more) ∙ ap (get names) same ∙ is)

  abbrev moved_names : Names
  moved_names = insert (remove names from) to (a_file id)

  node_moved_file : (bytes : ℕ → List ℕ) (path : List ℕ) → node_of bytes (get moved_names path) ≡ moved_node from to (record { names = names; bytes = bytes }) path
  node_moved_file bytes path = at (is_at_or_inside to path) (is_at_or_inside from path) refl refl
    where
      under_new : (u : Under to path) → Slash u.rest → get moved_names path ≡ get names (from ++ drop (length to) path)
      under_new u (inl rest) = ap (get moved_names) (u.whole ∙ ap (λ r. to ++ r) rest ∙ append-nil to) ∙ get-insert_same (remove names from) to (a_file id) ∙ sym is
          ∙ ap (get names) (sym (ap (λ p. from ++ drop (length to) p) u.whole ∙ ap (λ r. from ++ r) (drop_dir to u.rest ∙ rest) ∙ append-nil from))
      under_new u (inr more) = ap (get moved_names) (u.whole ∙ ap (λ r. to ++ r) more.1)
          ∙ get-insert_other (remove names from) to (a_file id) (child to more.0) (λ same. child_apart to more.0 (sym same))
          ∙ get-remove_other names from (child to more.0) (from_apart more.0) ∙ in_to more.0 ∙ sym (in_from more.0)
          ∙ ap (get names) (sym (ap (λ p. from ++ drop (length to) p) u.whole ∙ ap (λ r. from ++ r) (drop_dir to u.rest ∙ more.1)))

      not_new : is_at_or_inside to path ≡ false → path ≢ to
      not_new fails same = not_both (is_at_or_inside to path) (under_test to path (record { rest = []; whole = same ∙ sym (append-nil to); slash = inl refl })) fails

      under_old : (u : Under from path) → Slash u.rest → is_at_or_inside to path ≡ false → get moved_names path ≡ None
      under_old u (inl rest) fails = get-insert_other (remove names from) to (a_file id) path (not_new fails)
          ∙ ap (get (remove names from)) (u.whole ∙ ap (λ r. from ++ r) rest ∙ append-nil from) ∙ get-remove_same names from
      under_old u (inr more) fails = get-insert_other (remove names from) to (a_file id) path (not_new fails)
          ∙ ap (get (remove names from)) (u.whole ∙ ap (λ r. from ++ r) more.1) ∙ get-remove_other names from (child from more.0) (λ same. child_apart from more.0 (sym same)) ∙ in_from more.0

      at : (b c : Bool) → is_at_or_inside to path ≡ b → is_at_or_inside from path ≡ c
          → node_of bytes (get moved_names path) ≡ cond b (node_of bytes (get names (from ++ drop (length to) path))) (cond c nothing (node_of bytes (get names path)))
      at true c one two = let u = under_is to path one in ap (node_of bytes) (under_new u u.slash)
      at false true one two = let u = under_is from path two in ap (node_of bytes) (under_old u u.slash one)
      at false false one two = ap (node_of bytes) (get-insert_other (remove names from) to (a_file id) path (not_new one)
          ∙ get-remove_other names from path (λ same. not_both (is_at_or_inside from path) (under_test from path (record { rest = []; whole = same ∙ sym (append-nil from); slash = inl refl })) two))

-- ---- On disks

top_is : is_top [] ≡ true
unfolding split_path
top_is = refl

-- a file can be moved on this disk, and nothing stands where it is to come
abbrev IsMovableFile : List ℕ → List ℕ → Disk → Type 0
IsMovableFile from to disk = IsSound disk × CanMoveFile (seen disk) from to × HasNothing to (seen disk)

module _ (from to : List ℕ) (some_from : from ≢ []) (disk : Disk) (sound : IsSound disk) (can : CanMoveFile (seen disk) from to) (free : HasNothing to (seen disk)) where
  entry : (id : ℕ) × (get (seen_names disk) from ≡ Some (a_file id)) × ((seen disk).bytes id ≡ can.is_file.0)
  entry = file_entry (seen disk).bytes (get (seen_names disk) from) can.is_file.0 can.is_file.1

  some_to : to ≢ []
  some_to none = not_both (is_top to) (ap is_top none ∙ top_is) can.below

  moves : (bytes : ℕ → List ℕ) (path : List ℕ) → node_of bytes (get (done (moved_file from to entry.0) (seen_names disk)) path) ≡ moved_node from to (record { names = seen_names disk; bytes = bytes }) path
  moves bytes path = node_moved_file from to some_from some_to (seen_names disk)
      (λ path e there below. sound.rooted (seen_names disk) (all_may_stand disk.durable disk.pending) path e there below)
      entry.0 entry.1 (no_entry (seen disk).bytes (get (seen_names disk) to) free) bytes path

  pub moves_whole_file : MovesWhole from to disk (after (rename from to) disk)
  moves_whole_file = record { each = λ image left. split image left (subst (λ e. MayStand disk.durable (renamed from to e ∷ disk.pending) image.names) entry.1 left.names) }
    where
      split : (image : Image) → MayLeave (after (rename from to) disk) image → MayStand disk.durable (moved_file from to entry.0 ∷ disk.pending) image.names
          → (before : Image) × MayLeave disk before × (((path : List ℕ) → Agree path image before) ⊎ ((path : List ℕ) → node_at image path ≡ moved_node from to before path))
      split image left (inr earlier) = (image, record { names = earlier; bytes = left.bytes }, inl (λ path. refl))
      split image left (inl all) = (
        record { names = seen_names disk; bytes = image.bytes },
        record { names = all_may_stand disk.durable disk.pending; bytes = left.bytes },
        inr (λ path. ap (λ m. node_of image.bytes (get m path)) all ∙ moves image.bytes path),
      )

  pub sees_moved_file : SeesMoved from to disk (after (rename from to) disk)
  sees_moved_file = record { each = λ path. ap (λ e. node_of (seen disk).bytes (get (done (renamed from to e) (seen_names disk)) path)) entry.1 ∙ moves (seen disk).bytes path }

-- ---- On histories

module _ (result : Result (Unit {0}) Failed) (old new : History) (from to : List ℕ) (some_from : from ≢ [])
    (now : Now old (λ w. IsSound w.disk × CanMoveFile (seen w.disk) from to × HasNothing to (seen w.disk))) where
  pub ran_move_file : GoesOn (rename from to) result old new → Ran (MovesWhole from to) old new
  ran_move_file on = ran_call (IsMovableFile from to) (MovesWhole from to) (rename from to) (λ d p. moves_whole_file from to some_from d p.0 p.1 p.2)
      (λ d e p. failed_moves from to (rename from to) d e (moves_whole_file from to some_from d p.0 p.1 p.2)) result old new now on

  pub sees_ok_move_file : GoesOn (rename from to) result old new → OnOk result (Ended (SeesMoved from to) old new)
  sees_ok_move_file on = ended_call (IsMovableFile from to) (SeesMoved from to) (rename from to) (λ d p. sees_moved_file from to some_from d p.0 p.1 p.2) result old new now on
