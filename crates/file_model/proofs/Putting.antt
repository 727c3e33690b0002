-- Bytes are put at the end of a file: what stands below their place does so in every image.
use Rattle.std.proofs.Common.{◌≡◌, ◌≢◌, ◌⊎◌, inl, inr, ⊎_elim, ℕ, ◌<◌, ◌≤◌, ◌+◌, ◌==◌, List, [], ◌∷◌, length, take, get_or, Bool, true, false, cond, Option, Some, None, refl, sym, ◌∙◌, ap, subst, arith, Result}
use Rattle.std.proofs.lemmas.List.{length-take, length-take-le, get_or-take, ext_get_or}
use Rattle.std.specs.FinMap.{get}
use Rattle.std.specs.Prelude.{unwrap_or}
use Rattle.std.specs.Str.{bytes_eq}
use Rattle.std.proofs.lemmas.Slice.Eq.{bytes_eq-Decides}
use Rattle.file_model.specs.Paths.{parent}
use Rattle.file_model.specs.Images.{Entry, a_file, a_directory, Names, Image, file, node_of, node_at, bytes_of, text_at, Agree}
use Rattle.file_model.specs.Disk.{Edit, wrote, shortened, Torn, Leads, IsPossible, FileState, MayStand, Disk, seen_names, MayLeave, made, left_pending_by, Call, make, write_at, cut, sync, sync_dir, with_file, written, written_file, cut_file, synced_file, empty_file, after, AfterFailed, all_done, durable_by}
use Rattle.file_model.specs.declared.files.Failed.{Failed}
use Rattle.file_model.specs.Kept.{Keeps, Replaces, IsOwn, NonePending, IsSound, Leaves, HasOnly, BeginsWith, KeepsFront, IsPutting, IsSynced}
use Rattle.file_model.specs.Histories.{History, Now, GoesOn, Ran}
use Rattle.file_model.proofs.Names.{all_may_stand, get-insert_same, get-insert_other, all_durable}
use Rattle.file_model.proofs.Kept.{keeps_refl, keeps_trans, put_bytes, same_number, keeps_make, keeps_sync_dir}
use Rattle.file_model.proofs.Runs.{ran_call, ran_then}
use Rattle.file_model.proofs.Calls.{own_made, own_cut, own_written, own_synced, keeps_cut, keeps_write, keeps_synced}
use Rattle.file_model.proofs.Leaving.{leaves_keeps, leaves_replaces}

-- ---- Contents

abbrev pub Fits : List ℕ → ℕ → List ℕ → Type 0
Fits front most bytes = (take (length front) bytes ≡ front) × (length bytes ≤ most)

long_enough : (front bytes : List ℕ) → take (length front) bytes ≡ front → length front ≤ length bytes
long_enough front bytes is = omega (arith, ap length is, length-take (length front) bytes)

fits_torn : (front : List ℕ) (place n most : ℕ) (old new : List ℕ) → length front ≤ place → place + n ≤ most → Torn place n old new → Fits front most old → Fits front most new
fits_torn front place n most old new below bound torn fits = (ext_get_or 0 (take (length front) new) (take (length front) old) lengths each ∙ fits.0, short)
  where
    enough : length front ≤ length old
    enough = long_enough front old fits.0

    lengths : length (take (length front) new) ≡ length (take (length front) old)
    lengths = let more = torn.no_shorter in length-take-le (length front) new (omega (arith, enough, more)) ∙ sym (length-take-le (length front) old enough)

    each : (i : ℕ) → i < length (take (length front) new) → get_or (take (length front) new) i 0 ≡ get_or (take (length front) old) i 0
    each i inside =
        let here : i < length front = omega (arith, inside, length-take (length front) new) in
        get_or-take (length front) new i 0 here ∙ torn.same i (omega (arith, here, enough)) (inl (omega (arith, here, below))) ∙ sym (get_or-take (length front) old i 0 here)

    short : length new ≤ most
    short = let up = torn.no_longer in let was = fits.1 in omega (arith, up, was, bound)

fits_cut : (front : List ℕ) (l most : ℕ) (old new : List ℕ) → length front ≤ l → Leads (shortened l) old new → Fits front most old → Fits front most new
fits_cut front l most old new below (inl same) fits = subst (Fits front most) (sym same) fits
fits_cut front l most old new below (inr shorter) fits = subst (Fits front most) (sym shorter) (ext_get_or 0 (take (length front) (take l old)) (take (length front) old) lengths each ∙ fits.0, short)
  where
    enough : length front ≤ length old
    enough = long_enough front old fits.0

    lengths : length (take (length front) (take l old)) ≡ length (take (length front) old)
    lengths = length-take-le (length front) (take l old) (omega (arith, length-take l old, below, enough)) ∙ sym (length-take-le (length front) old enough)

    each : (i : ℕ) → i < length (take (length front) (take l old)) → get_or (take (length front) (take l old)) i 0 ≡ get_or (take (length front) old) i 0
    each i inside =
        let here : i < length front = omega (arith, inside, length-take (length front) (take l old)) in
        get_or-take (length front) (take l old) i 0 here ∙ get_or-take l old i 0 (omega (arith, here, below)) ∙ sym (get_or-take (length front) old i 0 here)

    short : length (take l old) ≤ most
    short = let was = fits.1 in omega (arith, length-take l old, was)

-- ---- Edits

abbrev pub text_of_entry : (ℕ → List ℕ) → Option Entry → List ℕ
text_of_entry bytes e = unwrap_or (bytes_of (node_of bytes e)) []

-- an edit of one file leads each image to one whose file fits too
front_edit : (path front : List ℕ) (most : ℕ) (disk : Disk) (id : ℕ) (change : FileState → FileState) (edit : Edit)
    → ((f : FileState) → (change f).durable ≡ f.durable) → ((f : FileState) → (change f).edits ≡ edit ∷ f.edits)
    → ((old new : List ℕ) → Leads edit old new → Fits front most old → Fits front most new)
    → Leaves (BeginsWith path front most) disk → Leaves (BeginsWith path front most) (with_file change (Some (a_file id)) disk)
front_edit path front most disk id change edit same more leads was = record {
  each = λ image left.
      let here = possible image left in
      let before : Image = record { names = image.names; bytes = put_bytes id here.0 image.bytes } in
      let w = was.each before (record { names = left.names; bytes = λ n. possible_at image left here.0 here.1 n (n == id) refl }) in
      let f = go image here.0 here.2 (get image.names path) (w.begins, w.short) in
      record { begins = f.0; short = f.1 };
}
  where
    possible : (image : Image) → MayLeave (with_file change (Some (a_file id)) disk) image → IsPossible (disk.files id).durable (edit ∷ (disk.files id).edits) (image.bytes id)
    possible image left =
        subst (λ s. IsPossible s (edit ∷ (disk.files id).edits) (image.bytes id)) (same (disk.files id))
        (subst (λ es. IsPossible (change (disk.files id)).durable es (image.bytes id)) (more (disk.files id))
        (subst (λ b. IsPossible (cond b (change (disk.files id)) (disk.files id)).durable (cond b (change (disk.files id)) (disk.files id)).edits (image.bytes id)) (same_number id) (left.bytes id)))

    possible_at : (image : Image) → MayLeave (with_file change (Some (a_file id)) disk) image → (old : List ℕ) → IsPossible (disk.files id).durable (disk.files id).edits old
        → (n : ℕ) (b : Bool) → (n == id) ≡ b → IsPossible (disk.files n).durable (disk.files n).edits (cond b old (image.bytes n))
    possible_at image left old was n true e = let is : n ≡ id = grind arith in subst (λ k. IsPossible (disk.files k).durable (disk.files k).edits old) (sym is) was
    possible_at image left old was n false e = subst (λ b. IsPossible (cond b (change (disk.files n)) (disk.files n)).durable (cond b (change (disk.files n)) (disk.files n)).edits (image.bytes n)) e (left.bytes n)

    by_number : (image : Image) (old : List ℕ) → Leads edit old (image.bytes id) → (n : ℕ) (b : Bool) → (n == id) ≡ b → Fits front most (cond b old (image.bytes n)) → Fits front most (image.bytes n)
    by_number image old led n true e fits = let is : n ≡ id = grind arith in subst (λ k. Fits front most (image.bytes k)) (sym is) (leads old (image.bytes id) led fits)
    by_number image old led n false e fits = fits

    go : (image : Image) (old : List ℕ) → Leads edit old (image.bytes id) → (e : Option Entry) → Fits front most (text_of_entry (put_bytes id old image.bytes) e) → Fits front most (text_of_entry image.bytes e)
    go image old led None fits = fits
    go image old led (Some a_directory) fits = fits
    go image old led (Some (a_file n)) fits = by_number image old led n (n == id) refl fits

-- a file that is made is one without bytes in the place of nothing
pub replaces_make : (path : List ℕ) (disk : Disk) → IsSound disk → Replaces path [] (λ q. q ≢ path) disk (after (make path) disk)
replaces_make path disk sound = record {
  each = λ image left.
      let bytes = put_bytes disk.next (disk.files disk.next).seen image.bytes in
      let possible : (id : ℕ) → IsPossible (disk.files id).durable (disk.files id).edits (bytes id) = λ id. possible_at image left id (id == disk.next) refl in
      split image left bytes possible (λ names stands q. node_apart image.bytes (get names q) (λ e. below_itself (sound.fresh names stands q disk.next e))) left.names;
}
  where
    below_itself : disk.next < disk.next → ⊥
    below_itself h = omega arith

    other_number : (n : ℕ) → n ≢ disk.next → (n == disk.next) ≡ false
    other_number n apart = grind arith

    node_apart : (all : ℕ → List ℕ) (e : Option Entry) → (e ≡ Some (a_file disk.next) → ⊥) → node_of all e ≡ node_of (put_bytes disk.next (disk.files disk.next).seen all) e
    node_apart all None apart = refl
    node_apart all (Some a_directory) apart = refl
    node_apart all (Some (a_file n)) apart = ap file (sym (ap (λ b. cond b (disk.files disk.next).seen (all n)) (other_number n (λ same. apart (ap (λ k. Some (a_file k)) same)))))

    possible_at : (image : Image) → MayLeave (after (make path) disk) image → (id : ℕ) (b : Bool) → (id == disk.next) ≡ b → IsPossible (disk.files id).durable (disk.files id).edits (cond b (disk.files disk.next).seen (image.bytes id))
    possible_at image left id true e = let same : id ≡ disk.next = grind arith in subst (λ n. IsPossible (disk.files n).durable (disk.files n).edits (disk.files disk.next).seen) (sym same) (sound.possible disk.next)
    possible_at image left id false e = subst (λ b. IsPossible (cond b empty_file (disk.files id)).durable (cond b empty_file (disk.files id)).edits (image.bytes id)) e (left.bytes id)

    empty : (image : Image) → MayLeave (after (make path) disk) image → image.bytes disk.next ≡ []
    empty image left = subst (λ b. IsPossible (cond b empty_file (disk.files disk.next)).durable (cond b empty_file (disk.files disk.next)).edits (image.bytes disk.next)) (same_number disk.next) (left.bytes disk.next)

    split : (image : Image) → MayLeave (after (make path) disk) image → (bytes : ℕ → List ℕ) → ((id : ℕ) → IsPossible (disk.files id).durable (disk.files id).edits (bytes id))
        → ((names : Names) → MayStand disk.durable disk.pending names → (q : List ℕ) → node_of image.bytes (get names q) ≡ node_of bytes (get names q))
        → MayStand disk.durable (made path disk.next ∷ disk.pending) image.names
        → (before : Image) × MayLeave disk before × ((q : List ℕ) → q ≢ path → Agree q image before) × (Agree path image before ⊎ (bytes_of (node_at image path) ≡ Some []))
    split image left bytes possible alike (inr earlier) =
        (record { names = image.names; bytes = bytes }, record { names = earlier; bytes = possible }, (λ q apart. alike image.names earlier q), inl (alike image.names earlier path))
    split image left bytes possible alike (inl all) =
        let names = all_done disk.pending disk.durable in
        let stands = all_may_stand disk.durable disk.pending in (
          record { names = names; bytes = bytes },
          record { names = stands; bytes = possible },
          (λ q apart.
              ap (λ m. node_of image.bytes (get m q)) all ∙ ap (node_of image.bytes) (get-insert_other names path (a_file disk.next) q apart) ∙ alike names stands q),
          inr (ap (λ m. bytes_of (node_of image.bytes (get m path))) all ∙ ap (λ e. bytes_of (node_of image.bytes e)) (get-insert_same names path (a_file disk.next)) ∙ ap Some (empty image left)),
        )

-- ---- Calls on disks

begins_agrees : (path front : List ℕ) (most : ℕ) (one other : Image) → Agree path one other → BeginsWith path front most other → BeginsWith path front most one
begins_agrees path front most one other same has =
    let f = subst (λ n. Fits front most (unwrap_or (bytes_of n) [])) (sym same) (has.begins, has.short) in
    record { begins = f.0; short = f.1 }

module _ (path : List ℕ) (place bound : ℕ) where
  pub front_refl : (d : Disk) → KeepsFront path place bound d d
  front_refl d = record { rest = keeps_refl (λ q. q ≢ path) d; front = λ front most below enough was. was }

  pub front_trans : (a b c : Disk) → KeepsFront path place bound a b → KeepsFront path place bound b c → KeepsFront path place bound a c
  front_trans a b c first second = record {
    rest = keeps_trans first.rest second.rest;
    front = λ front most below enough was. second.front front most below enough (first.front front most below enough was);
  }

  front_failed : (call : Call) (d e : Disk) → KeepsFront path place bound d (after call d) → AfterFailed call d e → KeepsFront path place bound d e
  front_failed call d e does failed = record {
    rest = record { each = λ image left. ⊎_elim (λ was. (image, was, λ q here. refl)) (λ is. does.rest.each image is) (failed.each image left) };
    front = λ front most below enough was. record { each = λ image left. ⊎_elim (λ old. was.each image old) (λ is. (does.front front most below enough was).each image is) (failed.each image left) };
  }

  -- what keeps all images keeps these
  front_all : (d e : Disk) → Keeps (λ q. Unit {0}) d e → KeepsFront path place bound d e
  front_all d e keeps = record {
    rest = record { each = λ image left. let k = keeps.each image left in (k.0, k.1, λ q here. k.2 q tt) };
    front = λ front most below enough was. leaves_keeps (BeginsWith path front most) (BeginsWith path front most) (λ q. Unit {0}) (λ one other same has. begins_agrees path front most one other (same path tt) has) d e was keeps;
  }

  pub ran_front : (P : Disk → Type 0) (call : Call) → ((d : Disk) → P d → KeepsFront path place bound d (after call d))
      → (result : Result (Unit {0}) Failed) (old new : History) → Now old (λ w. P w.disk) → GoesOn call result old new → Ran (KeepsFront path place bound) old new
  ran_front P call does result old new now on = ran_call P (KeepsFront path place bound) call does (λ d e p failed. front_failed call d e (does d p) failed) result old new now on

  pub ran_front_then : (old mid new : History) → Ran (KeepsFront path place bound) old mid → Ran (KeepsFront path place bound) mid new → Ran (KeepsFront path place bound) old new
  ran_front_then old mid new one two = ran_then front_refl (λ a b k. k) front_trans old mid new one two

  pub front_cut : (b : List ℕ) (d : Disk) → IsOwn path b d → KeepsFront path place bound d (after (cut path place) d)
  front_cut b d own = record {
    rest = keeps_cut path d b place own;
    front = λ front most below enough was. subst (λ e. Leaves (BeginsWith path front most) (with_file (cut_file place) e d)) (sym own.stands)
        (front_edit path front most d own.id (cut_file place) (shortened place) (λ f. refl) (λ f. refl) (λ old new led fits. fits_cut front place most old new below led fits) was);
  }

  pub front_write : (b bytes : List ℕ) (d : Disk) → place + length bytes ≤ bound → IsOwn path b d → KeepsFront path place bound d (after (write_at path place bytes) d)
  front_write b bytes d fitting own = record {
    rest = keeps_write path d b place bytes own;
    front = λ front most below enough was. subst (λ e. Leaves (BeginsWith path front most) (with_file (written_file place bytes) e d)) (sym own.stands)
        (front_edit path front most d own.id (written_file place bytes) (wrote place bytes) (λ f. refl) (λ f. refl)
        (λ old new led fits. fits_torn front place (length bytes) most old new below (omega (arith, fitting, enough)) led fits) was);
  }

  pub front_sync : (b : List ℕ) (d : Disk) → IsSound d → IsOwn path b d → KeepsFront path place bound d (after (sync path) d)
  front_sync b d sound own = front_all d (after (sync path) d) (keeps_synced path d b sound own (λ q. Unit {0}))

  pub front_sync_dir : (dir : List ℕ) (d : Disk) → KeepsFront path place bound d (after (sync_dir dir) d)
  front_sync_dir dir d = front_all d (after (sync_dir dir) d) (keeps_sync_dir dir d (λ q. Unit {0}))

pub front_make : (path : List ℕ) (bound : ℕ) (d : Disk) → IsSound d → KeepsFront path 0 bound d (after (make path) d)
front_make path bound d sound = record {
  rest = keeps_make path d sound;
  front = λ front most below enough was. leaves_replaces (BeginsWith path front most) (BeginsWith path front most) (λ q. q ≢ path) path []
      (λ one other rest here has. ⊎_elim (λ same. begins_agrees path front most one other same has) (λ is. empty one front most below is) here) d (after (make path) d) was (replaces_make path d sound);
}
  where
    none : (front : List ℕ) → length front ≤ 0 → [] ≡ front
    none [] below = refl
    none (b ∷ front) below = absurd (omega (arith, below))

    empty : (one : Image) (front : List ℕ) (most : ℕ) → length front ≤ 0 → bytes_of (node_at one path) ≡ Some [] → BeginsWith path front most one
    empty one front most below is =
        let text : text_at one path ≡ [] = ap (λ o. unwrap_or o []) is in
        let f = subst (Fits front most) (sym text) (subst (λ f. take (length f) [] ≡ f) (none front below) refl, omega arith) in
        record { begins = f.0; short = f.1 }

same_dir : (dir : List ℕ) → bytes_eq dir dir ≡ true
same_dir dir = (bytes_eq-Decides dir dir).1 refl

module _ (path : List ℕ) (d : Disk) where
  pub putting_made : IsSound d → IsPutting path [] (after (make path) d)
  putting_made sound = record { own = own_made path d sound; all_durable_by_sync = ap (λ b. cond b [] (made path d.next ∷ left_pending_by (parent path) d.pending)) (same_dir (parent path)) }

  pub putting_cut : (b : List ℕ) (l : ℕ) → IsPutting path b d → IsPutting path (take l b) (after (cut path l) d)
  putting_cut b l is = record { own = own_cut path d b l is.own; all_durable_by_sync = subst (λ e. left_pending_by (parent path) (with_file (cut_file l) e d).pending ≡ []) (sym is.own.stands) is.all_durable_by_sync }

  pub putting_written : (b : List ℕ) (place : ℕ) (bytes : List ℕ) → IsPutting path b d → IsPutting path (written place bytes b) (after (write_at path place bytes) d)
  putting_written b place bytes is = record { own = own_written path d b place bytes is.own; all_durable_by_sync = subst (λ e. left_pending_by (parent path) (with_file (written_file place bytes) e d).pending ≡ []) (sym is.own.stands) is.all_durable_by_sync }

  pub putting_synced : (b : List ℕ) → IsPutting path b d → IsSynced path b (after (sync path) d)
  putting_synced b is = record { written = own_synced path d b is.own; all_durable_by_sync = subst (λ e. left_pending_by (parent path) (with_file synced_file e d).pending ≡ []) (sym is.own.stands) is.all_durable_by_sync }

  -- the sync of the directory leaves one image of the file
  pub synced_only : (b : List ℕ) → IsSynced path b d → HasOnly path b (after (sync_dir (parent path)) d) × NonePending (after (sync_dir (parent path)) d)
  synced_only b is = (record { each = each }, record { none_pending = is.all_durable_by_sync })
    where
      names : (image : Image) → MayLeave (after (sync_dir (parent path)) d) image → image.names ≡ seen_names d
      names image left =
          subst (λ calls. MayStand (all_done (durable_by (parent path) d.pending) d.durable) calls image.names → image.names ≡ all_done calls (all_done (durable_by (parent path) d.pending) d.durable)) (sym is.all_durable_by_sync) (λ e. e) left.names
          ∙ all_durable (parent path) d.pending d.durable

      each : (image : Image) → MayLeave (after (sync_dir (parent path)) d) image → bytes_of (node_at image path) ≡ Some b
      each image left =
          ap (λ m. bytes_of (node_of image.bytes (get m path))) (names image left) ∙ ap (λ e. bytes_of (node_of image.bytes e)) is.written.stands
          ∙ ap Some (subst (λ es. IsPossible (d.files is.written.id).durable es (image.bytes is.written.id)) is.written.no_edits (left.bytes is.written.id) ∙ is.written.is_durable)
