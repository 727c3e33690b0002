use Rattle.std.proofs.Common.{rules, ◌≡◌, ◌≢◌, inl, sym, ◌∙◌, ap, subst, refl, map, false, Some, None, Option}
use Rattle.std.specs.Prelude.{string_bytes, is_some, IfSome}
use Rattle.file_model.specs.Disk.{seen}
use Rattle.file_model.specs.Histories.{Now, Ran, Ended}
use Rattle.file_model.specs.Kept.{Keeps, KeepsDirectories}
use Rattle.file_model.specs.Kinds.{IsEmptyDirectory}
use Rattle.file_model.specs.Paths.{child, is_top}
use Rattle.file_model.proofs.Runs.{now_weaker, ran_none, ran_weaker}
use Rattle.any_store.specs.Choice.{formats_of, chosen}
use Rattle.mail_tree.specs.Changes.{delete_refusal, deleted_tree}
use Rattle.mail_tree.specs.Deleting.{holds_left_files, ArePathsIn, is_one_of, Cleared, RemovedDirectory}
use Rattle.mail_tree.specs.Trees.{seen_node}
use Rattle.mail_tree.proofs.Above.{below_no_top}
use Rattle.mail_tree.proofs.Emptied.{left_directories, children_due, nothing_due, emptied_mid, emptied, emptied_done, leaves_emptied, commits_emptied, failed_breaks, failed_changes}
use Rattle.mail_tree.proofs.Joined.{acts_undue, files_then, none_is_due, no_refusal, ok_map}
use Rattle.mail_tree.proofs.Nodes.{AreFormats}
use Rattle.mail_tree.proofs.emptying.remove_directory.Goals as goal

-- of no paths
none_found : {A : Type 0} (found : Option A) → ((x : A) → found ≡ Some x → ⊥) → is_some found ≡ false
none_found None not = refl
none_found (Some x) not = absurd (not x refl)

pub returns-in_default-clause-answer : goal.returns-in_default-clause-answer
returns-in_default-clause-answer g c =
    let forms = g.S.Store.forms in
    let fs = formats_of forms chosen in
    let laws : AreFormats fs = record { choice = g.met.S.AnyMailbox.is_choice; reads = λ d. g.met.S.AnyMailbox.all_read d } in
    let root = c.args.root.now in
    let name = c.args.name.now in
    let old = g.F.Files.history c.args.files.now in
    let is = c.in_ok-path.ensures.name in
    let at = c.as_str.ensures.value ∙ c.in_ok-path.ensures.path in
    now_weaker _ _ (λ w due. λ tree has. inl (due tree has)) old (children_due forms laws root name is old (g.met.F.Files.sound c.args.files.now) c.requires.found
    (subst (λ b. Now old (λ w. b ≡ holds_left_files (seen w.disk) (child root name))) (none_found c.in_ok-paths.field-0 c.in_default.not-Some)
    (subst (λ p. Now old (λ w. is_some c.in_ok-paths.field-0 ≡ holds_left_files (seen w.disk) p)) at c.in_ok-paths.ensures.free)))

pub returns-in_err-remove_files-clause-changes : goal.returns-in_err-remove_files-clause-changes
returns-in_err-remove_files-clause-changes g c =
    let old = g.F.Files.history c.args.files.now in
    let mid = g.F.Files.history c.remove_files.new.files in
    failed_changes g.S.Store.forms c.args.root.now (λ tree. deleted_tree tree c.args.name.now) c.from_residual-in_err-remove_files.result old mid (search rules)
    (ran_weaker (λ a b r. tt) old mid (subst (λ h. Ran KeepsDirectories h mid) c.in_ok-paths.ensures.history c.remove_files.ensures.directories))

pub returns-in_err-remove_files-clause-leaves : goal.returns-in_err-remove_files-clause-leaves
returns-in_err-remove_files-clause-leaves g c =
    let forms = g.S.Store.forms in
    let fs = formats_of forms chosen in
    let laws : AreFormats fs = record { choice = g.met.S.AnyMailbox.is_choice; reads = λ d. g.met.S.AnyMailbox.all_read d } in
    let root = c.args.root.now in
    let name = c.args.name.now in
    let old = g.F.Files.history c.args.files.now in
    let is = c.in_ok-path.ensures.name in
    let at = c.as_str.ensures.value ∙ c.in_ok-path.ensures.path in
    let paths = map string_bytes c.in-Some.paths.items in
    let known = left_directories root name paths old (g.met.F.Files.sound c.args.files.now) c.requires.found
    (subst (λ f. Now old (λ w. is_some f ≡ holds_left_files (seen w.disk) (child root name))) c.in-Some.is (subst (λ p. Now old (λ w. is_some c.in_ok-paths.field-0 ≡ holds_left_files (seen w.disk) p)) at c.in_ok-paths.ensures.free))
    (subst (λ p. Now old (λ w. ArePathsIn p paths (seen w.disk))) at
    (subst (λ f. IfSome f (λ found. Now old (λ w. ArePathsIn c.as_str.result.now (map string_bytes found.items) (seen w.disk)))) c.in-Some.is c.in_ok-paths.ensures.paths)) in
    let same = c.in_ok-paths.ensures.history in
    let mid = g.F.Files.history c.remove_files.new.files in
    let directories = subst (λ h. Ran KeepsDirectories h mid) same c.remove_files.ensures.directories in
    let kept : Ran (Keeps (λ q. is_one_of paths q ≡ false)) old mid =
    subst (λ xs. Ran (Keeps (λ q. is_one_of (map string_bytes xs) q ≡ false)) old mid) c.as_slice.ensures.value
    (subst (λ h. Ran (Keeps (λ q. is_one_of (map string_bytes c.as_slice.result.now) q ≡ false)) h mid) same c.remove_files.ensures.kept) in
    leaves_emptied forms laws root name is paths c.from_residual-in_err-remove_files.result old mid mid known (λ is_err. search rules) directories kept (ran_none (Keeps (λ q. q ≢ child root name)) mid) (search rules)

pub returns-in_err-remove_files-clause-commits : goal.returns-in_err-remove_files-clause-commits
returns-in_err-remove_files-clause-commits g c =
    let forms = g.S.Store.forms in
    let fs = formats_of forms chosen in
    let laws : AreFormats fs = record { choice = g.met.S.AnyMailbox.is_choice; reads = λ d. g.met.S.AnyMailbox.all_read d } in
    let root = c.args.root.now in
    let name = c.args.name.now in
    let old = g.F.Files.history c.args.files.now in
    let is = c.in_ok-path.ensures.name in
    let at = c.as_str.ensures.value ∙ c.in_ok-path.ensures.path in
    let paths = map string_bytes c.in-Some.paths.items in
    let known = left_directories root name paths old (g.met.F.Files.sound c.args.files.now) c.requires.found
    (subst (λ f. Now old (λ w. is_some f ≡ holds_left_files (seen w.disk) (child root name))) c.in-Some.is (subst (λ p. Now old (λ w. is_some c.in_ok-paths.field-0 ≡ holds_left_files (seen w.disk) p)) at c.in_ok-paths.ensures.free))
    (subst (λ p. Now old (λ w. ArePathsIn p paths (seen w.disk))) at
    (subst (λ f. IfSome f (λ found. Now old (λ w. ArePathsIn c.as_str.result.now (map string_bytes found.items) (seen w.disk)))) c.in-Some.is c.in_ok-paths.ensures.paths)) in
    let same = c.in_ok-paths.ensures.history in
    let mid = g.F.Files.history c.remove_files.new.files in
    let directories = subst (λ h. Ran KeepsDirectories h mid) same c.remove_files.ensures.directories in
    let kept : Ran (Keeps (λ q. is_one_of paths q ≡ false)) old mid =
    subst (λ xs. Ran (Keeps (λ q. is_one_of (map string_bytes xs) q ≡ false)) old mid) c.as_slice.ensures.value
    (subst (λ h. Ran (Keeps (λ q. is_one_of (map string_bytes c.as_slice.result.now) q ≡ false)) h mid) same c.remove_files.ensures.kept) in
    commits_emptied forms laws root name is paths c.from_residual-in_err-remove_files.result old mid mid known (λ is_err. search rules) directories kept (ran_none (Keeps (λ q. q ≢ child root name)) mid) (search rules) (g.met.F.Files.sound c.remove_files.new.files) (search rules)

pub remove_empty-requires-clause-below : goal.remove_empty-requires-clause-below
remove_empty-requires-clause-below g c = ap is_top (c.as_str-2.ensures.value ∙ c.in_ok-path.ensures.path) ∙ below_no_top c.args.root.now c.args.name.now c.requires.some

pub remove_empty-requires-clause-empty : goal.remove_empty-requires-clause-empty
remove_empty-requires-clause-empty g c =
    let forms = g.S.Store.forms in
    let fs = formats_of forms chosen in
    let laws : AreFormats fs = record { choice = g.met.S.AnyMailbox.is_choice; reads = λ d. g.met.S.AnyMailbox.all_read d } in
    let root = c.args.root.now in
    let name = c.args.name.now in
    let old = g.F.Files.history c.args.files.now in
    let is = c.in_ok-path.ensures.name in
    let at = c.as_str.ensures.value ∙ c.in_ok-path.ensures.path in
    let paths = map string_bytes c.in-Some.paths.items in
    let known = left_directories root name paths old (g.met.F.Files.sound c.args.files.now) c.requires.found
    (subst (λ f. Now old (λ w. is_some f ≡ holds_left_files (seen w.disk) (child root name))) c.in-Some.is (subst (λ p. Now old (λ w. is_some c.in_ok-paths.field-0 ≡ holds_left_files (seen w.disk) p)) at c.in_ok-paths.ensures.free))
    (subst (λ p. Now old (λ w. ArePathsIn p paths (seen w.disk))) at
    (subst (λ f. IfSome f (λ found. Now old (λ w. ArePathsIn c.as_str.result.now (map string_bytes found.items) (seen w.disk)))) c.in-Some.is c.in_ok-paths.ensures.paths)) in
    let same = c.in_ok-paths.ensures.history in
    let mid = g.F.Files.history c.remove_files.new.files in
    let cleared : Ended (Cleared paths) old mid =
    subst (λ xs. Ended (Cleared (map string_bytes xs)) old mid) c.as_slice.ensures.value
    (subst (λ h. Ended (Cleared (map string_bytes c.as_slice.result.now)) h mid) same c.in_ok-remove_files.ensures.cleared) in
    subst (λ p. Now mid (λ w. IsEmptyDirectory (seen w.disk) p)) (sym (c.as_str-2.ensures.value ∙ c.in_ok-path.ensures.path)) (emptied_mid forms laws root name is paths old mid known cleared)

pub returns-clause-answer : goal.returns-clause-answer
returns-clause-answer g c =
    let forms = g.S.Store.forms in
    let fs = formats_of forms chosen in
    let laws : AreFormats fs = record { choice = g.met.S.AnyMailbox.is_choice; reads = λ d. g.met.S.AnyMailbox.all_read d } in
    let root = c.args.root.now in
    let name = c.args.name.now in
    let old = g.F.Files.history c.args.files.now in
    let is = c.in_ok-path.ensures.name in
    let at = c.as_str.ensures.value ∙ c.in_ok-path.ensures.path in
    let paths = map string_bytes c.in-Some.paths.items in
    let known = left_directories root name paths old (g.met.F.Files.sound c.args.files.now) c.requires.found
    (subst (λ f. Now old (λ w. is_some f ≡ holds_left_files (seen w.disk) (child root name))) c.in-Some.is (subst (λ p. Now old (λ w. is_some c.in_ok-paths.field-0 ≡ holds_left_files (seen w.disk) p)) at c.in_ok-paths.ensures.free))
    (subst (λ p. Now old (λ w. ArePathsIn p paths (seen w.disk))) at
    (subst (λ f. IfSome f (λ found. Now old (λ w. ArePathsIn c.as_str.result.now (map string_bytes found.items) (seen w.disk)))) c.in-Some.is c.in_ok-paths.ensures.paths)) in
    let same = c.in_ok-paths.ensures.history in
    let mid = g.F.Files.history c.remove_files.new.files in
    now_weaker _ _ (λ w due. λ tree has. none_is_due (delete_refusal tree.nodes name (seen_node tree.nodes name)) c.remove_empty.result (due tree has) (failed_breaks c.remove_empty.result c.remove_empty.ensures.failed)) old
    (nothing_due forms laws root name is paths old known)

pub returns-clause-changes : goal.returns-clause-changes
returns-clause-changes g c =
    let forms = g.S.Store.forms in
    let fs = formats_of forms chosen in
    let laws : AreFormats fs = record { choice = g.met.S.AnyMailbox.is_choice; reads = λ d. g.met.S.AnyMailbox.all_read d } in
    let root = c.args.root.now in
    let name = c.args.name.now in
    let old = g.F.Files.history c.args.files.now in
    let is = c.in_ok-path.ensures.name in
    let at = c.as_str.ensures.value ∙ c.in_ok-path.ensures.path in
    let paths = map string_bytes c.in-Some.paths.items in
    let known = left_directories root name paths old (g.met.F.Files.sound c.args.files.now) c.requires.found
    (subst (λ f. Now old (λ w. is_some f ≡ holds_left_files (seen w.disk) (child root name))) c.in-Some.is (subst (λ p. Now old (λ w. is_some c.in_ok-paths.field-0 ≡ holds_left_files (seen w.disk) p)) at c.in_ok-paths.ensures.free))
    (subst (λ p. Now old (λ w. ArePathsIn p paths (seen w.disk))) at
    (subst (λ f. IfSome f (λ found. Now old (λ w. ArePathsIn c.as_str.result.now (map string_bytes found.items) (seen w.disk)))) c.in-Some.is c.in_ok-paths.ensures.paths)) in
    let same = c.in_ok-paths.ensures.history in
    let mid = g.F.Files.history c.remove_files.new.files in
    let directories = subst (λ h. Ran KeepsDirectories h mid) same c.in_ok-remove_files.ensures.directories in
    let kept : Ran (Keeps (λ q. is_one_of paths q ≡ false)) old mid =
    subst (λ xs. Ran (Keeps (λ q. is_one_of (map string_bytes xs) q ≡ false)) old mid) c.as_slice.ensures.value
    (subst (λ h. Ran (Keeps (λ q. is_one_of (map string_bytes c.as_slice.result.now) q ≡ false)) h mid) same c.in_ok-remove_files.ensures.kept) in
    let cleared : Ended (Cleared paths) old mid =
    subst (λ xs. Ended (Cleared (map string_bytes xs)) old mid) c.as_slice.ensures.value
    (subst (λ h. Ended (Cleared (map string_bytes c.as_slice.result.now)) h mid) same c.in_ok-remove_files.ensures.cleared) in
    let new = g.F.Files.history c.remove_empty.new.files in
    let here = c.as_str-2.ensures.value ∙ c.in_ok-path.ensures.path in
    let settled = subst (λ p. Ran (Keeps (λ q. q ≢ p)) mid new) here c.remove_empty.ensures.kept in
    let did = ok_map c.remove_empty.result (λ removed. emptied forms laws root name is paths old mid new known cleared (subst (λ p. Ended (λ a b. RemovedDirectory p (seen a) (seen b)) mid new) here removed)) c.remove_empty.ensures.removed in
    record {
      done = ok_map c.remove_empty.result (λ e. emptied_done forms laws root name is paths old new known e) did;
      refused = λ refuses. absurd (no_refusal c.remove_empty.result (failed_breaks c.remove_empty.result c.remove_empty.ensures.failed) refuses);
      none_pending = λ none. c.remove_empty.ensures.none_pending;
      files = files_then old mid new (ran_weaker (λ a b r. tt) old mid directories) c.remove_empty.ensures.files;
    }

pub returns-clause-leaves : goal.returns-clause-leaves
returns-clause-leaves g c =
    let forms = g.S.Store.forms in
    let fs = formats_of forms chosen in
    let laws : AreFormats fs = record { choice = g.met.S.AnyMailbox.is_choice; reads = λ d. g.met.S.AnyMailbox.all_read d } in
    let root = c.args.root.now in
    let name = c.args.name.now in
    let old = g.F.Files.history c.args.files.now in
    let is = c.in_ok-path.ensures.name in
    let at = c.as_str.ensures.value ∙ c.in_ok-path.ensures.path in
    let paths = map string_bytes c.in-Some.paths.items in
    let known = left_directories root name paths old (g.met.F.Files.sound c.args.files.now) c.requires.found
    (subst (λ f. Now old (λ w. is_some f ≡ holds_left_files (seen w.disk) (child root name))) c.in-Some.is (subst (λ p. Now old (λ w. is_some c.in_ok-paths.field-0 ≡ holds_left_files (seen w.disk) p)) at c.in_ok-paths.ensures.free))
    (subst (λ p. Now old (λ w. ArePathsIn p paths (seen w.disk))) at
    (subst (λ f. IfSome f (λ found. Now old (λ w. ArePathsIn c.as_str.result.now (map string_bytes found.items) (seen w.disk)))) c.in-Some.is c.in_ok-paths.ensures.paths)) in
    let same = c.in_ok-paths.ensures.history in
    let mid = g.F.Files.history c.remove_files.new.files in
    let directories = subst (λ h. Ran KeepsDirectories h mid) same c.in_ok-remove_files.ensures.directories in
    let kept : Ran (Keeps (λ q. is_one_of paths q ≡ false)) old mid =
    subst (λ xs. Ran (Keeps (λ q. is_one_of (map string_bytes xs) q ≡ false)) old mid) c.as_slice.ensures.value
    (subst (λ h. Ran (Keeps (λ q. is_one_of (map string_bytes c.as_slice.result.now) q ≡ false)) h mid) same c.in_ok-remove_files.ensures.kept) in
    let cleared : Ended (Cleared paths) old mid =
    subst (λ xs. Ended (Cleared (map string_bytes xs)) old mid) c.as_slice.ensures.value
    (subst (λ h. Ended (Cleared (map string_bytes c.as_slice.result.now)) h mid) same c.in_ok-remove_files.ensures.cleared) in
    let new = g.F.Files.history c.remove_empty.new.files in
    let here = c.as_str-2.ensures.value ∙ c.in_ok-path.ensures.path in
    let settled = subst (λ p. Ran (Keeps (λ q. q ≢ p)) mid new) here c.remove_empty.ensures.kept in
    let did = ok_map c.remove_empty.result (λ removed. emptied forms laws root name is paths old mid new known cleared (subst (λ p. Ended (λ a b. RemovedDirectory p (seen a) (seen b)) mid new) here removed)) c.remove_empty.ensures.removed in
    leaves_emptied forms laws root name is paths c.remove_empty.result old mid new known c.remove_empty.ensures.failed directories kept settled did

pub returns-clause-commits : goal.returns-clause-commits
returns-clause-commits g c =
    let forms = g.S.Store.forms in
    let fs = formats_of forms chosen in
    let laws : AreFormats fs = record { choice = g.met.S.AnyMailbox.is_choice; reads = λ d. g.met.S.AnyMailbox.all_read d } in
    let root = c.args.root.now in
    let name = c.args.name.now in
    let old = g.F.Files.history c.args.files.now in
    let is = c.in_ok-path.ensures.name in
    let at = c.as_str.ensures.value ∙ c.in_ok-path.ensures.path in
    let paths = map string_bytes c.in-Some.paths.items in
    let known = left_directories root name paths old (g.met.F.Files.sound c.args.files.now) c.requires.found
    (subst (λ f. Now old (λ w. is_some f ≡ holds_left_files (seen w.disk) (child root name))) c.in-Some.is (subst (λ p. Now old (λ w. is_some c.in_ok-paths.field-0 ≡ holds_left_files (seen w.disk) p)) at c.in_ok-paths.ensures.free))
    (subst (λ p. Now old (λ w. ArePathsIn p paths (seen w.disk))) at
    (subst (λ f. IfSome f (λ found. Now old (λ w. ArePathsIn c.as_str.result.now (map string_bytes found.items) (seen w.disk)))) c.in-Some.is c.in_ok-paths.ensures.paths)) in
    let same = c.in_ok-paths.ensures.history in
    let mid = g.F.Files.history c.remove_files.new.files in
    let directories = subst (λ h. Ran KeepsDirectories h mid) same c.in_ok-remove_files.ensures.directories in
    let kept : Ran (Keeps (λ q. is_one_of paths q ≡ false)) old mid =
    subst (λ xs. Ran (Keeps (λ q. is_one_of (map string_bytes xs) q ≡ false)) old mid) c.as_slice.ensures.value
    (subst (λ h. Ran (Keeps (λ q. is_one_of (map string_bytes c.as_slice.result.now) q ≡ false)) h mid) same c.in_ok-remove_files.ensures.kept) in
    let cleared : Ended (Cleared paths) old mid =
    subst (λ xs. Ended (Cleared (map string_bytes xs)) old mid) c.as_slice.ensures.value
    (subst (λ h. Ended (Cleared (map string_bytes c.as_slice.result.now)) h mid) same c.in_ok-remove_files.ensures.cleared) in
    let new = g.F.Files.history c.remove_empty.new.files in
    let here = c.as_str-2.ensures.value ∙ c.in_ok-path.ensures.path in
    let settled = subst (λ p. Ran (Keeps (λ q. q ≢ p)) mid new) here c.remove_empty.ensures.kept in
    let did = ok_map c.remove_empty.result (λ removed. emptied forms laws root name is paths old mid new known cleared (subst (λ p. Ended (λ a b. RemovedDirectory p (seen a) (seen b)) mid new) here removed)) c.remove_empty.ensures.removed in
    commits_emptied forms laws root name is paths c.remove_empty.result old mid new known c.remove_empty.ensures.failed directories kept settled did (g.met.F.Files.sound c.remove_empty.new.files) (λ none. c.remove_empty.ensures.none_pending)

pub returns-in_err-remove_files-clause-acts : goal.returns-in_err-remove_files-clause-acts
returns-in_err-remove_files-clause-acts g c =
    let forms = g.S.Store.forms in
    let fs = formats_of forms chosen in
    let laws : AreFormats fs = record { choice = g.met.S.AnyMailbox.is_choice; reads = λ d. g.met.S.AnyMailbox.all_read d } in
    let root = c.args.root.now in
    let name = c.args.name.now in
    let old = g.F.Files.history c.args.files.now in
    let at = c.as_str.ensures.value ∙ c.in_ok-path.ensures.path in
    let paths = map string_bytes c.in-Some.paths.items in
    let known = left_directories root name paths old (g.met.F.Files.sound c.args.files.now) c.requires.found
    (subst (λ f. Now old (λ w. is_some f ≡ holds_left_files (seen w.disk) (child root name))) c.in-Some.is (subst (λ p. Now old (λ w. is_some c.in_ok-paths.field-0 ≡ holds_left_files (seen w.disk) p)) at c.in_ok-paths.ensures.free))
    (subst (λ p. Now old (λ w. ArePathsIn p paths (seen w.disk))) at
    (subst (λ f. IfSome f (λ found. Now old (λ w. ArePathsIn c.as_str.result.now (map string_bytes found.items) (seen w.disk)))) c.in-Some.is c.in_ok-paths.ensures.paths)) in
    acts_undue fs root (λ tree. delete_refusal tree.nodes name (seen_node tree.nodes name)) old (g.F.Files.history c.remove_files.new.files) (nothing_due forms laws root name c.in_ok-path.ensures.name paths old known)

pub returns-clause-acts : goal.returns-clause-acts
returns-clause-acts g c =
    let forms = g.S.Store.forms in
    let fs = formats_of forms chosen in
    let laws : AreFormats fs = record { choice = g.met.S.AnyMailbox.is_choice; reads = λ d. g.met.S.AnyMailbox.all_read d } in
    let root = c.args.root.now in
    let name = c.args.name.now in
    let old = g.F.Files.history c.args.files.now in
    let at = c.as_str.ensures.value ∙ c.in_ok-path.ensures.path in
    let paths = map string_bytes c.in-Some.paths.items in
    let known = left_directories root name paths old (g.met.F.Files.sound c.args.files.now) c.requires.found
    (subst (λ f. Now old (λ w. is_some f ≡ holds_left_files (seen w.disk) (child root name))) c.in-Some.is (subst (λ p. Now old (λ w. is_some c.in_ok-paths.field-0 ≡ holds_left_files (seen w.disk) p)) at c.in_ok-paths.ensures.free))
    (subst (λ p. Now old (λ w. ArePathsIn p paths (seen w.disk))) at
    (subst (λ f. IfSome f (λ found. Now old (λ w. ArePathsIn c.as_str.result.now (map string_bytes found.items) (seen w.disk)))) c.in-Some.is c.in_ok-paths.ensures.paths)) in
    acts_undue fs root (λ tree. delete_refusal tree.nodes name (seen_node tree.nodes name)) old (g.F.Files.history c.remove_empty.new.files) (nothing_due forms laws root name c.in_ok-path.ensures.name paths old known)
