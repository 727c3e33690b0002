-- Each call keeps what remains of a disk.
use Rattle.std.proofs.Common.{◌≡◌, inl, inr, ℕ, ◌+◌, ◌-◌, ◌<◌, ◌≤◌, List, [], ◌∷◌, ◌++◌, length, map, reverse, take, drop, get_or, Bool, true, false, cond, Option, Some, None, refl, sym, ◌∙◌, ap, subst, arith, ◌==◌, Vec, Global, length-append, get_or-set_same, get_or-set_other}
use Rattle.std.proofs.Math.Seq.{get_or-append_seam, take-append_seam, drop-append_seam}
use Rattle.std.proofs.Math.ListN.{get_or-append, set, length-set}
use Rattle.std.proofs.lemmas.List.{map-append, reverse-append, reverse-reverse, length-reverse, length-map, length-drop, take-append-drop, take_more, take_all, take-map, drop-map, get_or_default}
use Rattle.std.proofs.lemmas.Bool.{cases_eq}
use Rattle.std.specs.Map.{update}
use Rattle.std.specs.Str.{bytes_eq}
use Rattle.std.specs.BTreeMap.{get_by_text}
use Rattle.std.specs.FinMap.{get, insert}
use Rattle.file_model.specs.Images.{Entry, a_file, a_directory, Names}
use Rattle.file_model.specs.Disk.{Disk, FileState, Edit, wrote, shortened, DirectoryOperation, made, made_directory, removed, names_something_in, durable_by, left_pending_by, all_done, seen, seen_names, renamed, after, make, make_dir, write_at, cut, sync, sync_dir, rename, remove_at, with_file, written_file, cut_file, synced_file, empty_file}
use Rattle.file_model.specs.Kinds.{IsFile}
use Rattle.file_model.specs.Kept.{IsSound}
use Rattle.file_model.proofs.Calls.{file_entry}
use Rattle.file_model.proofs.Names.{all_durable, all_may_stand}
use Rattle.mem_host.specs.Crashes.{edited, names_left}
use Rattle.mem_host.specs.Replay.{empty_disk, resting_file, with_directory, with_resting_file}
use Rattle.mem_host.specs.Mirrored.{entry_of, Shows}
use Rattle.mem_host.specs.declared.draft.Edit.{Edit as EditData}
use Rattle.mem_host.specs.Drafts.{edit_of, edits_of, parts_of, file_parts, AreDrafts, IsRedrafted, LeadsToDraft, add_edit, settle_edits}
use Rattle.mem_host.specs.Remains.{operation_of, operations_of, IsRemains, IsTidy}
use Rattle.mem_host.specs.declared.names.Place.{Place}
use Rattle.mem_host.specs.declared.names.Place.TheVariants.{File, Dir}
use Rattle.mem_host.specs.declared.draft.Draft.{Draft}
use Rattle.mem_host.specs.declared.remains.Operation.{Operation}
use Rattle.mem_host.specs.declared.remains.Remains.{Remains}
use Rattle.mem_host.proofs.Mirrored.{Map, IsNamed, put_shows, take_shows}
use Rattle.mem_host.proofs.Listed.{empty_shows}

number_is : (n id : ℕ) → n ≡ id → (n == id) ≡ true
number_is n id e = grind arith

number_not : (n id : ℕ) → (n ≡ id → ⊥) → (n == id) ≡ false
number_not n id apart = grind arith

-- ---- Operations

-- the newest operation stands first
pub operation_more : (old : List Operation) (operation : Operation) → operations_of (old ++ operation ∷ []) ≡ operation_of operation ∷ operations_of old
operation_more old operation = ap reverse (map-append operation_of old (operation ∷ [])) ∙ reverse-append (map operation_of old) (operation_of operation ∷ [])

pub next_operation : (pending : List Operation) (k : ℕ) (d : Operation) → k < length pending → operations_of (take (k + 1) pending) ≡ operation_of (get_or pending k d) ∷ operations_of (take k pending)
next_operation pending k d below = ap operations_of (take_more pending k d below) ∙ operation_more (take k pending) (get_or pending k d)

pub rest_of : (pending : List Operation) (n : ℕ) → n ≤ length pending → take (length pending - n) (drop n pending) ≡ drop n pending
rest_of pending n below = take_all (length pending - n) (drop n pending) (omega (arith, length-drop n pending))

-- those that are durable by a sync stand behind the others
split_by : (dir : List ℕ) (l : List DirectoryOperation) → l ≡ left_pending_by dir l ++ durable_by dir l
split_by dir [] = refl
split_by dir (call ∷ earlier) = at (names_something_in dir call) (split_by dir earlier)
  where
    at : (b : Bool) → earlier ≡ left_pending_by dir earlier ++ durable_by dir earlier → call ∷ earlier ≡ cond b [] (call ∷ left_pending_by dir earlier) ++ cond b (call ∷ earlier) (durable_by dir earlier)
    at true rest = refl
    at false rest = ap (λ l. call ∷ l) rest

abbrev Operations : Type 0
Operations = List DirectoryOperation

two_parts : (ops late early : Operations) → reverse ops ≡ late ++ early → ops ≡ reverse early ++ reverse late
two_parts ops late early e = sym (reverse-reverse ops) ∙ ap reverse e ∙ reverse-append late early

front_part : (ops late early : Operations) → reverse ops ≡ late ++ early → reverse (take (length early) ops) ≡ early
front_part ops late early e =
    let whole = two_parts ops late early e in
    ap (λ l. reverse (take (length early) l)) whole ∙ ap (λ n. reverse (take n (reverse early ++ reverse late))) (sym (length-reverse early)) ∙ ap reverse (take-append_seam (reverse early) (reverse late)) ∙ reverse-reverse early

back_part : (ops late early : Operations) → reverse ops ≡ late ++ early → reverse (drop (length early) ops) ≡ late
back_part ops late early e =
    let whole = two_parts ops late early e in
    ap (λ l. reverse (drop (length early) l)) whole ∙ ap (λ n. reverse (drop n (reverse early ++ reverse late))) (sym (length-reverse early)) ∙ ap reverse (drop-append_seam (reverse early) (reverse late)) ∙ reverse-reverse late

-- a list of operations as they came
abbrev Pending : Type 0
Pending = List Operation

pub durable_front : (dir : List ℕ) (pending : Pending) → operations_of (take (length (durable_by dir (operations_of pending))) pending) ≡ durable_by dir (operations_of pending)
durable_front dir pending =
    let l = operations_of pending in
    ap reverse (sym (take-map operation_of (length (durable_by dir l)) pending)) ∙ front_part (map operation_of pending) (left_pending_by dir l) (durable_by dir l) (split_by dir l)

pub pending_back : (dir : List ℕ) (pending : Pending) → operations_of (drop (length (durable_by dir (operations_of pending))) pending) ≡ left_pending_by dir (operations_of pending)
pending_back dir pending =
    let l = operations_of pending in
    ap reverse (sym (drop-map operation_of (length (durable_by dir l)) pending)) ∙ back_part (map operation_of pending) (left_pending_by dir l) (durable_by dir l) (split_by dir l)

pub length_operations : (pending : Pending) → length (operations_of pending) ≡ length pending
length_operations pending = length-reverse (map operation_of pending) ∙ length-map pending operation_of

pub durable_within : (dir : List ℕ) (pending : Pending) → length (durable_by dir (operations_of pending)) ≤ length pending
durable_within dir pending =
    let l = operations_of pending in
    omega (arith, length_operations pending, ap length (split_by dir l), length-append (left_pending_by dir l) (durable_by dir l))

-- the first operations, of all
pub first_operations : (n : ℕ) (pending : Pending) → n ≤ length pending → drop (length (operations_of pending) - n) (operations_of pending) ≡ operations_of (take n pending)
first_operations n pending below =
    let front = operations_of (take n pending) in let back = operations_of (drop n pending) in
    let whole : operations_of pending ≡ back ++ front =
    ap operations_of (sym (take-append-drop n pending)) ∙ ap reverse (map-append operation_of (take n pending) (drop n pending)) ∙ reverse-append (map operation_of (take n pending)) (map operation_of (drop n pending)) in
    let long : length (operations_of pending) - n ≡ length back = omega (arith, length_operations pending, length_operations (drop n pending), length-drop n pending) in
    ap (λ k. drop k (operations_of pending)) long ∙ ap (drop (length back)) whole ∙ drop-append_seam back front

-- ---- Drafts

-- a draft of a new number stands behind the others
put_draft : (drafts : List Draft) (draft : Draft) (files : ℕ → FileState) (f : FileState) (next : ℕ) → parts_of draft ≡ file_parts f → length drafts ≡ next
    → ((id : ℕ) → id < length drafts → (d : Draft) → parts_of (get_or drafts id d) ≡ file_parts (files id))
    → (id : ℕ) → id < length (drafts ++ draft ∷ []) → (d : Draft) → parts_of (get_or (drafts ++ draft ∷ []) id d) ≡ file_parts (cond (id == next) f (files id))
put_draft drafts draft files f next is count old id below d = elim (cases_eq id (length drafts)) [
  | inl last ↦ ap (λ k. parts_of (get_or (drafts ++ draft ∷ []) k d)) last ∙ ap parts_of (get_or-append_seam drafts draft [] d) ∙ is
      ∙ ap (λ b. file_parts (cond b f (files id))) (sym (number_is id next (last ∙ count)))
  | inr earlier ↦ ap parts_of (get_or-append drafts (draft ∷ []) d id (short earlier)) ∙ old id (short earlier) d
      ∙ ap (λ b. file_parts (cond b f (files id))) (sym (number_not id next (λ same. earlier (same ∙ sym count))))
]
  where
    short : (id ≡ length drafts → ⊥) → id < length drafts
    short apart = omega (arith, below, length-append drafts (draft ∷ []))

-- a file was added, as a change of disks has it
pub drafts_more : (drafts : List Draft) (draft : Draft) (f : FileState) (disk new : Disk) → parts_of draft ≡ file_parts f → new.next ≡ disk.next + 1
    → ((id : ℕ) → new.files id ≡ cond (id == disk.next) f (disk.files id)) → AreDrafts drafts disk → AreDrafts (drafts ++ draft ∷ []) new
drafts_more drafts draft f disk new is next files are = record {
  count = length-append drafts (draft ∷ []) ∙ ap (λ n. n + 1) are.count ∙ sym next;
  each = λ id below d. put_draft drafts draft disk.files f disk.next is are.count are.each id below d ∙ ap file_parts (sym (files id));
}

-- a change of a file, as its draft has it
abbrev pub Changes : (FileState → FileState) → (List ℕ × List Edit → List ℕ × List Edit) → Disk → Type 0
Changes change parts disk = (id : ℕ) → file_parts (change (disk.files id)) ≡ parts (file_parts (disk.files id))

pub drafts_changed : (change : FileState → FileState) (parts : List ℕ × List Edit → List ℕ × List Edit) (names : Map) (old new : List Draft) (disk : Disk) (path : List ℕ)
    → IsRedrafted path parts names old new → Changes change parts disk → Shows names (seen_names disk) → AreDrafts old disk → AreDrafts new (with_file change (get (seen_names disk) path) disk)
drafts_changed change parts names old new disk path r changes shows are =
    subst (λ e. AreDrafts new (with_file change e disk)) (sym (ap entry_of r.leads) ∙ shows path)
    (subst (λ l. AreDrafts l (with_file change (Some (a_file r.id)) disk)) (sym r.whole) (record {
      count = length-set old r.id r.draft ∙ are.count;
      each = λ k low d. elim (cases_eq k r.id) [
        | inl same ↦ ap (λ n. parts_of (get_or (set old r.id r.draft) n d)) same ∙ ap parts_of (get_or-set_same old r.id r.draft d r.below) ∙ r.is d
            ∙ ap parts (are.each r.id r.below d) ∙ sym (changes r.id)
            ∙ ap (λ b. file_parts (cond b (change (disk.files r.id)) (disk.files r.id))) (sym (number_is r.id r.id refl))
            ∙ ap (λ n. file_parts (cond (n == r.id) (change (disk.files n)) (disk.files n))) (sym same)
        | inr apart ↦ ap parts_of (get_or-set_other old r.id k r.draft d apart) ∙ are.each k (omega (arith, low, length-set old r.id r.draft)) d
            ∙ ap (λ b. file_parts (cond b (change (disk.files k)) (disk.files k))) (sym (number_not k r.id apart))
      ];
    }))

-- ---- What remains

pub remains_empty : (r : Remains) → r.names.entries ≡ [] → r.durable.entries ≡ [] → r.pending.items ≡ [] → r.files.items ≡ [] → IsRemains r empty_disk
remains_empty r no_names no_durable no_pending no_files = record {
  names = empty_shows r.names no_names;
  durable = empty_shows r.durable no_durable;
  pending = ap operations_of no_pending;
  drafts = subst (λ l. AreDrafts l empty_disk) (sym no_files) (record { count = refl; each = λ id below d. absurd (omega arith) });
}

-- a name was put among those that are durable
resting_shows : (old new : Map) (disk : Disk) (path : List ℕ) (place : Place) (e : Entry) → disk.pending ≡ [] → entry_of (Some place) ≡ Some e → IsNamed old new path place → Shows old disk.durable → Shows new (insert (seen_names disk) path e)
resting_shows old new disk path place e none is puts shows =
    subst (λ l. Shows new (insert (all_done l disk.durable) path e)) (sym none) (put_shows old new disk.durable path place e is shows puts)

pub put_directory_remains : (old new : Remains) (path : List ℕ) (disk : Disk) → IsNamed old.names new.names path Dir → IsNamed old.durable new.durable path Dir → new.pending ≡ old.pending → new.files ≡ old.files
    → disk.pending ≡ [] → IsRemains old disk → IsRemains new (with_directory path disk)
put_directory_remains old new path disk seen durable pending files none is = record {
  names = put_shows old.names new.names (seen_names disk) path Dir a_directory refl is.names seen;
  durable = resting_shows old.durable new.durable disk path Dir a_directory none refl durable is.durable;
  pending = ap (λ (v : Vec Operation Global). operations_of v.items) pending ∙ is.pending ∙ none;
  drafts = subst (λ (v : Vec Draft Global). AreDrafts v.items (with_directory path disk)) (sym files) (record { count = is.drafts.count; each = is.drafts.each });
}

pub put_file_remains : (old new : Remains) (draft : Draft) (path bytes : List ℕ) (disk : Disk) (id : ℕ) → id ≡ length old.files.items → IsNamed old.names new.names path (File id) → IsNamed old.durable new.durable path (File id)
    → new.pending ≡ old.pending → new.files.items ≡ old.files.items ++ draft ∷ [] → parts_of draft ≡ (bytes, []) → disk.pending ≡ [] → IsRemains old disk → IsRemains new (with_resting_file path bytes disk)
put_file_remains old new draft path bytes disk id number seen durable pending files parts none is =
    let entry = ap (λ n. Some (a_file n)) (number ∙ is.drafts.count) in record {
      names = put_shows old.names new.names (seen_names disk) path (File id) (a_file disk.next) entry is.names seen;
      durable = resting_shows old.durable new.durable disk path (File id) (a_file disk.next) none entry durable is.durable;
      pending = ap (λ (v : Vec Operation Global). operations_of v.items) pending ∙ is.pending ∙ none;
      drafts = subst (λ l. AreDrafts l (with_resting_file path bytes disk)) (sym files) (drafts_more old.files.items draft (resting_file bytes) disk (with_resting_file path bytes disk) parts refl (λ id. refl) is.drafts);
    }

pub make_remains : (old new : Remains) (draft : Draft) (operation : Operation) (path : List ℕ) (disk : Disk) (id : ℕ) → id ≡ length old.files.items → IsNamed old.names new.names path (File id) → new.durable ≡ old.durable
    → new.pending.items ≡ old.pending.items ++ operation ∷ [] → operation_of operation ≡ made path id → new.files.items ≡ old.files.items ++ draft ∷ [] → parts_of draft ≡ ([], [])
    → IsRemains old disk → IsRemains new (after (make path) disk)
make_remains old new draft operation path disk id number seen durable pending op files parts is = record {
  names = put_shows old.names new.names (seen_names disk) path (File id) (a_file disk.next) (ap (λ n. Some (a_file n)) (number ∙ is.drafts.count)) is.names seen;
  durable = subst (λ m. Shows m disk.durable) (sym durable) is.durable;
  pending = ap operations_of pending ∙ operation_more old.pending.items operation ∙ (λ i. (op ∙ ap (made path) (number ∙ is.drafts.count)) i ∷ is.pending i);
  drafts = subst (λ l. AreDrafts l (after (make path) disk)) (sym files) (drafts_more old.files.items draft empty_file disk (after (make path) disk) parts refl (λ id. refl) is.drafts);
}

-- an operation was added, and the seen names are those after it
pub operation_remains : (old new : Remains) (operation : Operation) (call : DirectoryOperation) (disk after_it : Disk) → after_it ≡ record disk { pending = call ∷ disk.pending } → Shows new.names (seen_names after_it) → new.durable ≡ old.durable
    → new.pending.items ≡ old.pending.items ++ operation ∷ [] → operation_of operation ≡ call → new.files ≡ old.files → IsRemains old disk → IsRemains new after_it
operation_remains old new operation call disk after_it whole seen durable pending op files is = record {
  names = seen;
  durable = subst (λ d. Shows new.durable d.durable) (sym whole) (subst (λ m. Shows m disk.durable) (sym durable) is.durable);
  pending = ap operations_of pending ∙ operation_more old.pending.items operation ∙ (λ i. op i ∷ is.pending i) ∙ sym (ap (λ d. d.pending) whole);
  drafts = subst (AreDrafts new.files.items) (sym whole) (subst (λ (v : Vec Draft Global). AreDrafts v.items (record disk { pending = call ∷ disk.pending })) (sym files) (record { count = is.drafts.count; each = is.drafts.each }));
}

pub make_dir_remains : (old new : Remains) (operation : Operation) (path : List ℕ) (disk : Disk) → IsNamed old.names new.names path Dir → new.durable ≡ old.durable
    → new.pending.items ≡ old.pending.items ++ operation ∷ [] → operation_of operation ≡ made_directory path → new.files ≡ old.files → IsRemains old disk → IsRemains new (after (make_dir path) disk)
make_dir_remains old new operation path disk seen durable pending op files is = operation_remains old new operation (made_directory path) disk (after (make_dir path) disk) refl
    (put_shows old.names new.names (seen_names disk) path Dir a_directory refl is.names seen) durable pending op files is

pub remove_remains : (old new : Remains) (operation : Operation) (path : List ℕ) (disk : Disk) → ((q : List ℕ) → get_by_text new.names q ≡ update bytes_eq (get_by_text old.names) path None q) → new.durable ≡ old.durable
    → new.pending.items ≡ old.pending.items ++ operation ∷ [] → operation_of operation ≡ removed path → new.files ≡ old.files → IsRemains old disk → IsRemains new (after (remove_at path) disk)
remove_remains old new operation path disk takes durable pending op files is = operation_remains old new operation (removed path) disk (after (remove_at path) disk) refl
    (take_shows old.names new.names (seen_names disk) path is.names takes) durable pending op files is

pub rename_remains : (old new : Remains) (operation : Operation) (from to : List ℕ) (disk : Disk) → (Shows old.names (seen_names disk) → Shows new.names (seen_names (after (rename from to) disk))) → new.durable ≡ old.durable
    → new.pending.items ≡ old.pending.items ++ operation ∷ [] → operation_of operation ≡ renamed from to (entry_of (get_by_text old.names from)) → new.files ≡ old.files → IsRemains old disk → IsRemains new (after (rename from to) disk)
rename_remains old new operation from to disk moves durable pending op files is = operation_remains old new operation (renamed from to (get (seen_names disk) from)) disk (after (rename from to) disk) refl
    (moves is.names) durable pending (op ∙ ap (renamed from to) (is.names from)) files is

pub sync_dir_remains : (old new : Remains) (dir : List ℕ) (disk : Disk) → new.names ≡ old.names
    → ((names : Names) → Shows old.durable names → Shows new.durable (all_done (durable_by dir (operations_of old.pending.items)) names))
    → operations_of new.pending.items ≡ left_pending_by dir (operations_of old.pending.items) → new.files ≡ old.files → IsRemains old disk → IsRemains new (after (sync_dir dir) disk)
sync_dir_remains old new dir disk names durable pending files is = record {
  names = subst (λ m. Shows m (seen_names (after (sync_dir dir) disk))) (sym names) (λ q. is.names q ∙ ap (λ n. get n q) (sym (all_durable dir disk.pending disk.durable)));
  durable = subst (λ l. Shows new.durable (all_done (durable_by dir l) disk.durable)) is.pending (durable disk.durable is.durable);
  pending = pending ∙ ap (left_pending_by dir) is.pending;
  drafts = subst (λ (v : Vec Draft Global). AreDrafts v.items (after (sync_dir dir) disk)) (sym files) (record { count = is.drafts.count; each = is.drafts.each });
}

-- a file was changed
file_remains : (change : FileState → FileState) (parts : List ℕ × List Edit → List ℕ × List Edit) (old new : Remains) (path : List ℕ) (disk : Disk) → (e : Option Entry) → e ≡ get (seen_names disk) path
    → new.names ≡ old.names → new.durable ≡ old.durable → new.pending ≡ old.pending → IsRedrafted path parts old.names old.files.items new.files.items → Changes change parts disk
    → IsRemains old disk → IsRemains new (with_file change e disk)
file_remains change parts old new path disk e stands names durable pending r changes is = record {
  names = subst (λ m. Shows m (seen_names (with_file change e disk))) (sym names) (λ q. is.names q ∙ same_names e q);
  durable = subst (λ m. Shows m (with_file change e disk).durable) (sym durable) (λ q. is.durable q ∙ same_durable e q);
  pending = ap (λ (v : Vec Operation Global). operations_of v.items) pending ∙ is.pending ∙ same_pending e;
  drafts = subst (λ o. AreDrafts new.files.items (with_file change o disk)) (sym stands) (drafts_changed change parts old.names old.files.items new.files.items disk path r changes is.names is.drafts);
}
  where
    same_names : (o : Option Entry) (q : List ℕ) → get (seen_names disk) q ≡ get (seen_names (with_file change o disk)) q
    same_names None q = refl
    same_names (Some a_directory) q = refl
    same_names (Some (a_file id)) q = refl

    same_durable : (o : Option Entry) (q : List ℕ) → get disk.durable q ≡ get (with_file change o disk).durable q
    same_durable None q = refl
    same_durable (Some a_directory) q = refl
    same_durable (Some (a_file id)) q = refl

    same_pending : (o : Option Entry) → disk.pending ≡ (with_file change o disk).pending
    same_pending None = refl
    same_pending (Some a_directory) = refl
    same_pending (Some (a_file id)) = refl

pub write_remains : (old new : Remains) (path : List ℕ) (place : ℕ) (bytes : List ℕ) (disk : Disk) → new.names ≡ old.names → new.durable ≡ old.durable → new.pending ≡ old.pending
    → IsRedrafted path (add_edit (wrote place bytes)) old.names old.files.items new.files.items → IsRemains old disk → IsRemains new (after (write_at path place bytes) disk)
write_remains old new path place bytes disk names durable pending r is =
    file_remains (written_file place bytes) (add_edit (wrote place bytes)) old new path disk (get (seen_names disk) path) refl names durable pending r (λ id. refl) is

pub cut_remains : (old new : Remains) (path : List ℕ) (l : ℕ) (disk : Disk) → new.names ≡ old.names → new.durable ≡ old.durable → new.pending ≡ old.pending
    → IsRedrafted path (add_edit (shortened l)) old.names old.files.items new.files.items → IsRemains old disk → IsRemains new (after (cut path l) disk)
cut_remains old new path l disk names durable pending r is = file_remains (cut_file l) (add_edit (shortened l)) old new path disk (get (seen_names disk) path) refl names durable pending r (λ id. refl) is

pub sync_remains : (old new : Remains) (path : List ℕ) (disk : Disk) → new.names ≡ old.names → new.durable ≡ old.durable → new.pending ≡ old.pending
    → IsRedrafted path settle_edits old.names old.files.items new.files.items → IsTidy disk → IsRemains old disk → IsRemains new (after (sync path) disk)
sync_remains old new path disk names durable pending r tidy is =
    file_remains synced_file settle_edits old new path disk (get (seen_names disk) path) refl names durable pending r (λ id. ap (λ b. (b, [])) (tidy id).is_seen) is

-- ---- What a call needs

-- a name leads to the file that stands there
pub draft_leads : (r : Remains) (disk : Disk) (path : List ℕ) (place : ℕ) → IsSound disk → IsRemains r disk → IsFile (seen disk) path place → LeadsToDraft path r.names r.files.items
draft_leads r disk path place sound is there =
    let stands = file_entry (seen disk).bytes (get (seen_names disk) path) there.0 there.1 in
    let leads = found (get_by_text r.names path) (is.names path ∙ stands.1) in
    (leads.0, leads.1, subst (λ n. leads.0 < n) (sym is.drafts.count) (sound.fresh (seen_names disk) (all_may_stand disk.durable disk.pending) path leads.0 (sym (is.names path) ∙ ap entry_of leads.1)))
  where
    found : (o : Option Place) → entry_of o ≡ Some (a_file (file_entry (seen disk).bytes (get (seen_names disk) path) there.0 there.1).0) → (id : ℕ) × (o ≡ Some (File id))
    found None e = absurd (cc)
    found (Some Dir) e = absurd (cc)
    found (Some (File n)) e = (n, refl)

-- ---- What a crash leaves of the names

pub leaves_names : (old : Remains) (new : Map) (n : ℕ) (disk : Disk) (pending : Pending) → pending ≡ old.pending.items → n ≤ length old.pending.items
    → ((names : Names) → Shows old.durable names → Shows new (all_done (operations_of (take n pending)) names)) → IsRemains old disk → Shows new (names_left disk n)
leaves_names old new n disk pending same below done is =
    let first : operations_of (take n pending) ≡ drop (length disk.pending - n) disk.pending =
    ap (λ l. operations_of (take n l)) same ∙ sym (first_operations n old.pending.items below) ∙ ap (λ l. drop (length l - n) l) is.pending in
    subst (λ l. Shows new (all_done l disk.durable)) first (done disk.durable is.durable)

-- ---- Drafts that are changed

pub no_parts : (draft : Draft) → draft.durable.items ≡ [] → draft.edits.items ≡ [] → parts_of draft ≡ ([], [])
no_parts draft durable edits = λ i. (durable i, edits_of (edits i))

pub resting_parts : (draft : Draft) (bytes : List ℕ) → draft.durable.items ≡ bytes → draft.edits.items ≡ [] → parts_of draft ≡ (bytes, [])
resting_parts draft bytes durable edits = λ i. (durable i, edits_of (edits i))

-- what stands at a place that is there
any_default : (drafts : List Draft) (id : ℕ) → id < length drafts → (d e : Draft) → get_or drafts id d ≡ get_or drafts id e
any_default drafts id below d e = get_or_default drafts id d e below

edit_more : (old : List EditData) (edit : EditData) → edits_of (old ++ edit ∷ []) ≡ edit_of edit ∷ edits_of old
edit_more old edit = ap reverse (map-append edit_of old (edit ∷ [])) ∙ reverse-append (map edit_of old) (edit_of edit ∷ [])

-- the file that a name leads to is one
leads_below : (path : List ℕ) (names : Map) (drafts : List Draft) (id : ℕ) → get_by_text names path ≡ Some (File id) → LeadsToDraft path names drafts → id < length drafts
leads_below path names drafts id is leads = subst (λ n. n < length drafts) (one_file (sym leads.1 ∙ is)) leads.2
  where
    one_file : {n m : ℕ} → ◌≡◌ {A = Option Place} (Some (File n)) (Some (File m)) → n ≡ m
    one_file e = cc

pub edited_draft : (path : List ℕ) (edit : EditData) (names : Map) (drafts : List Draft) (id : ℕ) (old : Draft) (edits : Vec EditData Global) → get_by_text names path ≡ Some (File id) → LeadsToDraft path names drafts
    → old ≡ get_or drafts id old → edits.items ≡ old.edits.items ++ edit ∷ [] → IsRedrafted path (add_edit (edit_of edit)) names drafts (set drafts id (record { durable = old.durable; edits = edits }))
edited_draft path edit names drafts id old edits leads to was more =
    let below = leads_below path names drafts id leads to in record {
      id = id;
      draft = record { durable = old.durable; edits = edits };
      leads = leads;
      below = below;
      is = λ d. (λ i. (old.durable.items, (ap edits_of more ∙ edit_more old.edits.items edit) i)) ∙ ap (λ o. add_edit (edit_of edit) (parts_of o)) (was ∙ any_default drafts id below old d);
      whole = refl;
    }

pub settled_draft : (path : List ℕ) (names : Map) (drafts : List Draft) (id : ℕ) (old new : Draft) → get_by_text names path ≡ Some (File id) → LeadsToDraft path names drafts
    → old ≡ get_or drafts id old → new.durable.items ≡ edited (edits_of old.edits.items) old.durable.items → new.edits.items ≡ [] → IsRedrafted path settle_edits names drafts (set drafts id new)
settled_draft path names drafts id old new leads to was durable none =
    let below = leads_below path names drafts id leads to in record {
      id = id;
      draft = new;
      leads = leads;
      below = below;
      is = λ d. (λ i. (durable i, edits_of (none i))) ∙ ap (λ o. settle_edits (parts_of o)) (was ∙ any_default drafts id below old d);
      whole = refl;
    }
