-- Each event keeps the mirror.
use Rattle.std.proofs.Common.{◌≡◌, ◌≢◌, inl, inr, ℕ, ◌+◌, ◌<◌, ◌≤◌, List, [], ◌∷◌, ◌++◌, length, take, get_or, Bool, true, false, cond, Option, Some, None, Result, Ok, Err, OnOk, OnErr, refl, sym, ◌∙◌, ap, subst, arith, ◌==◌, Vec, String, Global, length-append, get_or-set_same, get_or-set_other}
use Rattle.std.proofs.Math.Seq.{get_or-append_seam}
use Rattle.std.proofs.Math.ListN.{get_or-append, set, length-set}
use Rattle.std.proofs.lemmas.Bool.{cases_eq}
use Rattle.std.specs.Str.{bytes_eq}
use Rattle.std.specs.declared.alloc.AllocError.{AllocError}
use Rattle.std.specs.Result.{is_err}
use Rattle.std.specs.Map.{update, lookup}
use Rattle.std.specs.BTreeMap.{BTreeMap, get_by_text, is_at}
use Rattle.std.specs.FinMap.{get, insert, remove, get-empty}
use Rattle.std.specs.Cmp.Lexicographic.{slice_cmp}
use Rattle.std.specs.Ordering.{nat_cmp}
use Rattle.std.specs.Prelude.{string_bytes}
use Rattle.std.proofs.lemmas.Slice.Eq.{bytes_eq-Decides}
use Rattle.file_model.specs.Images.{Entry, a_file, a_directory, Names, path_cmp}
use Rattle.file_model.specs.Disk.{Disk, FileState, seen, seen_names, moved_directory, done, renamed, after, make, make_dir, write_at, cut, sync, rename, remove_at, sync_dir, with_file, written, written_file, cut_file, synced_file, empty_file}
use Rattle.file_model.specs.Kinds.{IsFile}
use Rattle.file_model.specs.Kept.{IsSound}
use Rattle.file_model.proofs.Calls.{file_entry}
use Rattle.file_model.proofs.Names.{cases_path, get-insert_same, get-insert_other, get-remove_same, get-remove_other, all_may_stand, all_durable}
use Rattle.mem_host.specs.Replay.{empty_disk, resting_file, with_directory, with_resting_file}
use Rattle.mem_host.specs.Mirrored.{entry_of, Shows, Mirrors, IsStored, LeadsTo, IsChanged, IsSame}
use Rattle.mem_host.specs.declared.names.Place.{Place}
use Rattle.mem_host.specs.declared.names.Place.TheVariants.{File, Dir}

abbrev pub Map : Type 0
Map = BTreeMap (String Global) Place

same_update : (f : List ℕ → Option Place) (p : List ℕ) (w : Option Place) → update bytes_eq f p w p ≡ w
same_update f p w = ap (λ b. cond b w (f p)) ((bytes_eq-Decides p p).1 refl)

other_update : (f : List ℕ → Option Place) (p : List ℕ) (w : Option Place) (q : List ℕ) → q ≢ p → update bytes_eq f p w q ≡ f q
other_update f p w q apart = ap (λ b. cond b w (f q)) (not_true (bytes_eq p q) (λ is. apart (sym ((bytes_eq-Decides p q).0 is))))
  where
    not_true : (b : Bool) → (b ≡ true → ⊥) → b ≡ false
    not_true true h = absurd (h refl)
    not_true false h = refl

-- a name is put
pub put_shows : (old new : Map) (names : Names) (p : List ℕ) (place : Place) (e : Entry) → entry_of (Some place) ≡ Some e
    → ((q : List ℕ) → entry_of (get_by_text old q) ≡ get names q) → ((q : List ℕ) → get_by_text new q ≡ update bytes_eq (get_by_text old) p (Some place) q)
    → (q : List ℕ) → entry_of (get_by_text new q) ≡ get (insert names p e) q
put_shows old new names p place e is shows puts q = elim (cases_path q p) [
  | inl same ↦ ap (λ z. entry_of (get_by_text new z)) same ∙ ap entry_of (puts p ∙ same_update (get_by_text old) p (Some place)) ∙ is ∙ sym (get-insert_same names p e) ∙ ap (get (insert names p e)) (sym same)
  | inr apart ↦ ap entry_of (puts q ∙ other_update (get_by_text old) p (Some place) q apart) ∙ shows q ∙ sym (get-insert_other names p e q apart)
]

number_is : (n id : ℕ) → n ≡ id → (n == id) ≡ true
number_is n id e = grind arith

number_not : (n id : ℕ) → (n ≡ id → ⊥) → (n == id) ≡ false
number_not n id apart = grind arith

-- a content of a new number stands behind the others
put_bytes : (contents : List (Vec ℕ Global)) (v : Vec ℕ Global) (files : ℕ → FileState) (f : FileState) (next : ℕ) → v.items ≡ f.seen → length contents ≡ next
    → ((id : ℕ) → id < length contents → (d : Vec ℕ Global) → (get_or contents id d).items ≡ (files id).seen)
    → (id : ℕ) → id < length (contents ++ v ∷ []) → (d : Vec ℕ Global) → (get_or (contents ++ v ∷ []) id d).items ≡ (cond (id == next) f (files id)).seen
put_bytes contents v files f next is count old id below d = elim (cases_eq id (length contents)) [
  | inl last ↦ ap (λ k. (get_or (contents ++ v ∷ []) k d).items) last ∙ ap (λ (x : Vec ℕ Global). x.items) (get_or-append_seam contents v [] d) ∙ is
      ∙ ap (λ b. (cond b f (files id)).seen) (sym (number_is id next (last ∙ count)))
  | inr earlier ↦ ap (λ (x : Vec ℕ Global). x.items) (get_or-append contents (v ∷ []) d id (short earlier)) ∙ old id (short earlier) d
      ∙ ap (λ b. (cond b f (files id)).seen) (sym (number_not id next (λ same. earlier (same ∙ sym count))))
]
  where
    short : (id ≡ length contents → ⊥) → id < length contents
    short apart = omega (arith, below, length-append contents (v ∷ []))

-- a file of a new number is made or put
abbrev pub IsNamed : Map → Map → List ℕ → Place → Type 0
IsNamed old new path place = (q : List ℕ) → get_by_text new q ≡ update bytes_eq (get_by_text old) path (Some place) q

count_more : (contents : List (Vec ℕ Global)) (v : Vec ℕ Global) (next : ℕ) → length contents ≡ next → length (contents ++ v ∷ []) ≡ next + 1
count_more contents v next count = length-append contents (v ∷ []) ∙ ap (λ n. n + 1) count

pub mirrors_make : (old new : Map) (contents : List (Vec ℕ Global)) (v : Vec ℕ Global) (path : List ℕ) (disk : Disk) → v.items ≡ []
    → IsNamed old new path (File (length contents)) → Mirrors old contents disk → Mirrors new (contents ++ v ∷ []) (after (make path) disk)
mirrors_make old new contents v path disk none puts m = record {
  shows = put_shows old new (seen_names disk) path (File (length contents)) (a_file disk.next) (ap (λ n. Some (a_file n)) m.count) m.shows puts;
  count = count_more contents v disk.next m.count;
  bytes = put_bytes contents v disk.files empty_file disk.next none m.count m.bytes;
}

pub mirrors_put_file : (old new : Map) (contents : List (Vec ℕ Global)) (v : Vec ℕ Global) (path bytes : List ℕ) (disk : Disk) → v.items ≡ bytes
    → IsNamed old new path (File (length contents)) → Mirrors old contents disk → Mirrors new (contents ++ v ∷ []) (with_resting_file path bytes disk)
mirrors_put_file old new contents v path bytes disk is puts m = record {
  shows = put_shows old new (seen_names disk) path (File (length contents)) (a_file disk.next) (ap (λ n. Some (a_file n)) m.count) m.shows puts;
  count = count_more contents v disk.next m.count;
  bytes = put_bytes contents v disk.files (resting_file bytes) disk.next is m.count m.bytes;
}

pub mirrors_put_directory : (old new : Map) (contents : List (Vec ℕ Global)) (path : List ℕ) (disk : Disk) → IsNamed old new path Dir
    → Mirrors old contents disk → Mirrors new contents (with_directory path disk)
mirrors_put_directory old new contents path disk puts m = record {
  shows = put_shows old new (seen_names disk) path Dir a_directory refl m.shows puts;
  count = m.count;
  bytes = m.bytes;
}

-- a map that answers alike
pub mirrors_alike : (old new : Map) (contents other : List (Vec ℕ Global)) (disk : Disk) → ((q : List ℕ) → get_by_text new q ≡ get_by_text old q) → other ≡ contents
    → Mirrors old contents disk → Mirrors new other disk
mirrors_alike old new contents other disk alike same m =
    subst (λ l. Mirrors new l disk) (sym same) (record { shows = λ q. ap entry_of (alike q) ∙ m.shows q; count = m.count; bytes = m.bytes })

-- nothing stands anywhere
pub mirrors_empty : (names : Map) (contents : List (Vec ℕ Global)) → names.entries ≡ [] → contents ≡ [] → Mirrors names contents empty_disk
mirrors_empty names contents no_names no_contents = subst (λ l. Mirrors names l empty_disk) (sym no_contents) (record {
  shows = λ q. ap (λ es. entry_of (lookup (is_at (λ k. slice_cmp nat_cmp q (string_bytes k))) es)) no_names ∙ sym (get-empty path_cmp q);
  count = refl;
  bytes = λ id below d. absurd (omega arith);
})

-- the file that a name leads to has its content
pub is_stored : (names : Map) (contents : List (Vec ℕ Global)) (disk : Disk) (path : List ℕ) → IsSound disk → Mirrors names contents disk → IsStored path names contents
is_stored names contents disk path sound m id leads =
    subst (λ n. id < n) (sym m.count) (sound.fresh (seen_names disk) (all_may_stand disk.durable disk.pending) path id (sym (m.shows path) ∙ ap entry_of leads))

-- ---- Calls on the names and contents

pub take_shows : (old new : Map) (names : Names) (p : List ℕ)
    → ((q : List ℕ) → entry_of (get_by_text old q) ≡ get names q) → ((q : List ℕ) → get_by_text new q ≡ update bytes_eq (get_by_text old) p None q)
    → (q : List ℕ) → entry_of (get_by_text new q) ≡ get (remove names p) q
take_shows old new names p shows takes q = elim (cases_path q p) [
  | inl same ↦ ap (λ z. entry_of (get_by_text new z)) same ∙ ap entry_of (takes p ∙ same_update (get_by_text old) p None) ∙ sym (get-remove_same names p) ∙ ap (get (remove names p)) (sym same)
  | inr apart ↦ ap entry_of (takes q ∙ other_update (get_by_text old) p None q apart) ∙ shows q ∙ sym (get-remove_other names p q apart)
]

-- the file at a path gets other bytes
mirrors_change : (change : FileState → FileState) (names : Map) (contents : List (Vec ℕ Global)) (disk : Disk) (path : List ℕ) (id : ℕ) (v : Vec ℕ Global)
    → get_by_text names path ≡ Some (File id) → id < length contents → v.items ≡ (change (disk.files id)).seen
    → Mirrors names contents disk → Mirrors names (set contents id v) (with_file change (get (seen_names disk) path) disk)
mirrors_change change names contents disk path id v leads below is m = subst (λ e. Mirrors names (set contents id v) (with_file change e disk)) (sym (ap entry_of leads) ∙ m.shows path) (record {
  shows = m.shows;
  count = length-set contents id v ∙ m.count;
  bytes = λ k low d. elim (cases_eq k id) [
    | inl same ↦ ap (λ n. (get_or (set contents id v) n d).items) same ∙ ap (λ (x : Vec ℕ Global). x.items) (get_or-set_same contents id v d below) ∙ is
        ∙ ap (λ b. (cond b (change (disk.files id)) (disk.files id)).seen) (sym (number_is id id refl)) ∙ ap (λ n. (cond (n == id) (change (disk.files n)) (disk.files n)).seen) (sym same)
    | inr apart ↦ ap (λ (x : Vec ℕ Global). x.items) (get_or-set_other contents id k v d apart) ∙ m.bytes k (omega (arith, low, length-set contents id v)) d
        ∙ ap (λ b. (cond b (change (disk.files k)) (disk.files k)).seen) (sym (number_not k id apart))
  ];
})

pub mirrors_write : (names : Map) (contents : List (Vec ℕ Global)) (disk : Disk) (path : List ℕ) (id place : ℕ) (new : List ℕ) (v d : Vec ℕ Global)
    → get_by_text names path ≡ Some (File id) → id < length contents → v.items ≡ written place new (get_or contents id d).items
    → Mirrors names contents disk → Mirrors names (set contents id v) (after (write_at path place new) disk)
mirrors_write names contents disk path id place new v d leads below is m = mirrors_change (written_file place new) names contents disk path id v leads below (is ∙ ap (written place new) (m.bytes id below d)) m

pub mirrors_cut : (names : Map) (contents : List (Vec ℕ Global)) (disk : Disk) (path : List ℕ) (id l : ℕ) (v d : Vec ℕ Global)
    → get_by_text names path ≡ Some (File id) → id < length contents → v.items ≡ take l (get_or contents id d).items
    → Mirrors names contents disk → Mirrors names (set contents id v) (after (cut path l) disk)
mirrors_cut names contents disk path id l v d leads below is m = mirrors_change (cut_file l) names contents disk path id v leads below (is ∙ ap (take l) (m.bytes id below d)) m

synced_seen : (f : FileState) (b : Bool) → f.seen ≡ (cond b (synced_file f) f).seen
synced_seen f true = refl
synced_seen f false = refl

mirrors_synced : (names : Map) (contents : List (Vec ℕ Global)) (disk : Disk) (e : Option Entry) → Mirrors names contents disk → Mirrors names contents (with_file synced_file e disk)
mirrors_synced names contents disk None m = m
mirrors_synced names contents disk (Some a_directory) m = m
mirrors_synced names contents disk (Some (a_file id)) m = record {
  shows = m.shows;
  count = m.count;
  bytes = λ k low d. m.bytes k low d ∙ synced_seen (disk.files k) (k == id);
}

pub mirrors_sync : (names : Map) (contents : List (Vec ℕ Global)) (disk : Disk) (path : List ℕ) → Mirrors names contents disk → Mirrors names contents (after (sync path) disk)
mirrors_sync names contents disk path m = mirrors_synced names contents disk (get (seen_names disk) path) m

pub mirrors_same : (names : Map) (contents : List (Vec ℕ Global)) (disk : Disk) (dir : List ℕ) → Mirrors names contents disk → Mirrors names contents (after (sync_dir dir) disk)
mirrors_same names contents disk dir m = record {
  shows = λ q. m.shows q ∙ ap (λ n. get n q) (sym (all_durable dir disk.pending disk.durable));
  count = m.count;
  bytes = m.bytes;
}

pub mirrors_remove : (old new : Map) (contents : List (Vec ℕ Global)) (disk : Disk) (path : List ℕ) → ((q : List ℕ) → get_by_text new q ≡ update bytes_eq (get_by_text old) path None q)
    → Mirrors old contents disk → Mirrors new contents (after (remove_at path) disk)
mirrors_remove old new contents disk path takes m = record { shows = take_shows old new (seen_names disk) path m.shows takes; count = m.count; bytes = m.bytes }

-- ---- Names that move

-- a name is put, and then another taken
pub put_then_taken : (old mid new : Map) (from to : List ℕ) (w : Option Place) → (from ≡ to → ⊥)
    → ((q : List ℕ) → get_by_text mid q ≡ update bytes_eq (get_by_text old) to w q)
    → ((q : List ℕ) → get_by_text new q ≡ update bytes_eq (get_by_text mid) from None q)
    → (q : List ℕ) → get_by_text new q ≡ update bytes_eq (update bytes_eq (get_by_text old) from None) to w q
put_then_taken old mid new from to w apart puts takes q = elim (cases_path q to) [
  | inl same ↦ let far : q ≢ from = (λ is. apart (sym is ∙ same)) in
      takes q ∙ other_update (get_by_text mid) from None q far ∙ puts q ∙ ap (λ z. update bytes_eq (get_by_text old) to w z) same ∙ same_update (get_by_text old) to w
      ∙ sym (same_update (update bytes_eq (get_by_text old) from None) to w) ∙ ap (λ z. update bytes_eq (update bytes_eq (get_by_text old) from None) to w z) (sym same)
  | inr far ↦ takes q ∙ ap (λ v. cond (bytes_eq from q) None v) (puts q ∙ other_update (get_by_text old) to w q far)
      ∙ sym (other_update (update bytes_eq (get_by_text old) from None) to w q far)
]

-- a name is put over itself
pub put_over : (old new : Map) (from to : List ℕ) (w : Option Place) → from ≡ to
    → ((q : List ℕ) → get_by_text new q ≡ update bytes_eq (get_by_text old) to w q)
    → (q : List ℕ) → get_by_text new q ≡ update bytes_eq (update bytes_eq (get_by_text old) from None) to w q
put_over old new from to w same puts q = elim (cases_path q to) [
  | inl is ↦ puts q ∙ ap (λ z. update bytes_eq (get_by_text old) to w z) is ∙ same_update (get_by_text old) to w
      ∙ sym (same_update (update bytes_eq (get_by_text old) from None) to w) ∙ ap (λ z. update bytes_eq (update bytes_eq (get_by_text old) from None) to w z) (sym is)
  | inr far ↦ puts q ∙ other_update (get_by_text old) to w q far ∙ sym (other_update (get_by_text old) from None q (λ is. far (is ∙ same)))
      ∙ sym (other_update (update bytes_eq (get_by_text old) from None) to w q far)
]

-- ---- Contents

-- the file that a name leads to is one
pub leads_below : (path : List ℕ) (place : ℕ) (names : Map) (contents : List (Vec ℕ Global)) (id : ℕ) → get_by_text names path ≡ Some (File id) → LeadsTo path place names contents → id < length contents
leads_below path place names contents id is leads = subst (λ n. n < length contents) (one_file (sym leads.1 ∙ is)) leads.2
  where
    one_file : {n m : ℕ} → ◌≡◌ {A = Option Place} (Some (File n)) (Some (File m)) → n ≡ m
    one_file e = cc

pub on_ok : {A B : Type 0} (result : Result (Unit {0}) AllocError) → (A → B) → OnOk result A → OnOk result B
on_ok (Ok u) f h = f h
on_ok (Err e) f h = tt

-- a call that needs a file finds it
pub file_leads : (path : List ℕ) (place : ℕ) (names : Map) (contents : List (Vec ℕ Global)) (disk : Disk) → IsSound disk → Mirrors names contents disk → IsFile (seen disk) path place → LeadsTo path place names contents
file_leads path place names contents disk sound m is =
    let stands = file_entry (seen disk).bytes (get (seen_names disk) path) is.0 is.1 in
    let leads = found (get_by_text names path) (m.shows path ∙ stands.1) in
    let below = is_stored names contents disk path sound m leads.0 leads.1 in
    (leads.0, leads.1, below, λ d. subst (λ l. place ≤ length l) (sym (m.bytes leads.0 below d ∙ ap (λ n. (disk.files n).seen) leads.2 ∙ stands.2)) is.2)
  where
    found : (o : Option Place) → entry_of o ≡ Some (a_file (file_entry (seen disk).bytes (get (seen_names disk) path) is.0 is.1).0) → (id : ℕ) × (o ≡ Some (File id)) × (id ≡ (file_entry (seen disk).bytes (get (seen_names disk) path) is.0 is.1).0)
    found None e = absurd (cc)
    found (Some Dir) e = absurd (cc)
    found (Some (File n)) e = (n, refl, cc)

pub on_err : {A B : Type 0} (result : Result (Unit {0}) AllocError) → (A → B) → OnErr result A → OnErr result B
on_err (Ok u) f h = tt
on_err (Err e) f h = f h

-- a content with the same bytes in the place of another
pub same_content : (contents : List (Vec ℕ Global)) (id : ℕ) (v : Vec ℕ Global) → id < length contents → ((d : Vec ℕ Global) → v.items ≡ (get_or contents id d).items) → IsSame contents (set contents id v)
same_content contents id v below is = record {
  count = length-set contents id v;
  bytes = λ k low d. elim (cases_eq k id) [
    | inl same ↦ ap (λ n. (get_or (set contents id v) n d).items) same ∙ ap (λ (x : Vec ℕ Global). x.items) (get_or-set_same contents id v d below) ∙ is d ∙ ap (λ n. (get_or contents n d).items) (sym same)
    | inr apart ↦ ap (λ (x : Vec ℕ Global). x.items) (get_or-set_other contents id k v d apart)
  ];
}

pub mirrors_same_contents : (old new : Map) (contents other : List (Vec ℕ Global)) (disk : Disk) → ((q : List ℕ) → get_by_text new q ≡ get_by_text old q) → IsSame contents other → Mirrors old contents disk → Mirrors new other disk
mirrors_same_contents old new contents other disk alike same m = record {
  shows = λ q. ap entry_of (alike q) ∙ m.shows q;
  count = same.count ∙ m.count;
  bytes = λ id below d. same.bytes id (subst (λ n. id < n) same.count below) d ∙ m.bytes id (subst (λ n. id < n) same.count below) d;
}

pub is_same : (contents other : List (Vec ℕ Global)) → other ≡ contents → IsSame contents other
is_same contents other same = subst (IsSame contents) (sym same) (record { count = refl; bytes = λ k low d. refl })

-- the name of a file that moved
pub moved_shows : (old new : Map) (names : Names) (from to : List ℕ) (id : ℕ)
    → ((q : List ℕ) → get_by_text new q ≡ update bytes_eq (update bytes_eq (get_by_text old) from None) to (Some (File id)) q)
    → Shows old names → Shows new (insert (remove names from) to (a_file id))
moved_shows old new names from to id moves shows q = elim (cases_path q to) [
  | inl same ↦ ap (λ z. entry_of (get_by_text new z)) same ∙ ap entry_of (moves to ∙ same_update (update bytes_eq (get_by_text old) from None) to (Some (File id)))
      ∙ sym (get-insert_same (remove names from) to (a_file id)) ∙ ap (get (insert (remove names from) to (a_file id))) (sym same)
  | inr apart ↦ ap entry_of (moves q ∙ other_update (update bytes_eq (get_by_text old) from None) to (Some (File id)) q apart) ∙ taken q ∙ sym (get-insert_other (remove names from) to (a_file id) q apart)
]
  where
    taken : (q : List ℕ) → entry_of (update bytes_eq (get_by_text old) from None q) ≡ get (remove names from) q
    taken q = elim (cases_path q from) [
      | inl same ↦ ap (λ z. entry_of (update bytes_eq (get_by_text old) from None z)) same ∙ ap entry_of (same_update (get_by_text old) from None) ∙ sym (get-remove_same names from) ∙ ap (get (remove names from)) (sym same)
      | inr apart ↦ ap entry_of (other_update (get_by_text old) from None q apart) ∙ shows q ∙ sym (get-remove_other names from q apart)
    ]

pub rename_shows : (old new : Map) (disk : Disk) (from to : List ℕ) (id : ℕ) → get_by_text old from ≡ Some (File id)
    → ((q : List ℕ) → get_by_text new q ≡ update bytes_eq (update bytes_eq (get_by_text old) from None) to (Some (File id)) q)
    → Shows old (seen_names disk) → Shows new (seen_names (after (rename from to) disk))
rename_shows old new disk from to id leads moves shows =
    subst (λ e. Shows new (done (renamed from to e) (seen_names disk))) (sym (ap entry_of leads) ∙ shows from) (moved_shows old new (seen_names disk) from to id moves shows)

pub rename_directory_shows : (old new : Map) (disk : Disk) (from to : List ℕ) → get_by_text old from ≡ Some Dir
    → ((all : Names) → Shows old all → Shows new (done (moved_directory from to) all)) → Shows old (seen_names disk) → Shows new (seen_names (after (rename from to) disk))
rename_directory_shows old new disk from to leads moves shows = subst (λ e. Shows new (done (renamed from to e) (seen_names disk))) (sym (ap entry_of leads) ∙ shows from) (moves (seen_names disk) shows)

-- where the names alone change
pub mirrors_renamed : (old new : Map) (contents : List (Vec ℕ Global)) (disk : Disk) (from to : List ℕ) → Shows new (seen_names (after (rename from to) disk)) → Mirrors old contents disk → Mirrors new contents (after (rename from to) disk)
mirrors_renamed old new contents disk from to shows m = record { shows = shows; count = m.count; bytes = m.bytes }

pub mirrors_make_dir : (old new : Map) (contents : List (Vec ℕ Global)) (path : List ℕ) (disk : Disk) → IsNamed old new path Dir → Mirrors old contents disk → Mirrors new contents (after (make_dir path) disk)
mirrors_make_dir old new contents path disk puts m = record { shows = put_shows old new (seen_names disk) path Dir a_directory refl m.shows puts; count = m.count; bytes = m.bytes }

pub mirrors_written : (names : Map) (contents other : List (Vec ℕ Global)) (disk : Disk) (path : List ℕ) (place : ℕ) (new : List ℕ) → IsChanged path (written place new) names contents other
    → Mirrors names contents disk → Mirrors names other (after (write_at path place new) disk)
mirrors_written names contents other disk path place new c m =
    subst (λ l. Mirrors names l (after (write_at path place new) disk)) (sym c.whole) (mirrors_write names contents disk path c.id place new c.content c.content c.leads c.below (c.is c.content) m)

pub mirrors_shortened : (names : Map) (contents other : List (Vec ℕ Global)) (disk : Disk) (path : List ℕ) (l : ℕ) → IsChanged path (take l) names contents other
    → Mirrors names contents disk → Mirrors names other (after (cut path l) disk)
mirrors_shortened names contents other disk path l c m =
    subst (λ x. Mirrors names x (after (cut path l) disk)) (sym c.whole) (mirrors_cut names contents disk path c.id l c.content c.content c.leads c.below (c.is c.content) m)

pub on_both : (A B : Type 0) (result : Result (Unit {0}) AllocError) → OnOk result A → OnOk result B → OnOk result (A × B)
on_both A B (Ok u) a b = (a, b)
on_both A B (Err e) a b = tt

pub ok_here : (result : Result (Unit {0}) AllocError) (P : Type 0) → is_err result ≡ false → OnOk result P → P
ok_here (Ok u) P is here = here
ok_here (Err e) P is here = absurd (cc)
