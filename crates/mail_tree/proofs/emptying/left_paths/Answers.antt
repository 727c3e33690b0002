use Rattle.std.proofs.Common.{◌≡◌, subst, map, false, true}
use Rattle.std.specs.Prelude.{string_bytes}
use Rattle.std.specs.List.{list_all}
use Rattle.file_model.specs.Disk.{seen}
use Rattle.file_model.specs.Histories.{Now}
use Rattle.mail_tree.specs.Deleting.{is_left_file}
use Rattle.mail_tree.proofs.LeftFiles.{left_known}
use Rattle.mail_tree.proofs.emptying.left_paths.Goals as goal

pub returns-then-not-branch-clause-free : goal.returns-then-not-branch-clause-free
returns-then-not-branch-clause-free g c =
    let old = g.F.Files.history c.args.files.now in
    let dir = c.args.dir.now in
    left_known dir (map string_bytes c.in_ok-names.names.items) c.in_ok-are_left_files.field-0 false c.if-not-branch.true old c.in_ok-names.ensures.names
    (subst (λ l. Now old (λ w. c.in_ok-are_left_files.field-0 ≡ list_all (is_left_file (seen w.disk) dir) (map string_bytes l))) c.as_slice.ensures.value
    (subst (λ h. Now h (λ w. c.in_ok-are_left_files.field-0 ≡ list_all (is_left_file (seen w.disk) dir) (map string_bytes c.as_slice.result.now))) c.in_ok-names.ensures.history c.in_ok-are_left_files.ensures.value))

pub returns-clause-free : goal.returns-clause-free
returns-clause-free g c =
    let old = g.F.Files.history c.args.files.now in
    let dir = c.args.dir.now in
    left_known dir (map string_bytes c.in_ok-names.names.items) c.in_ok-are_left_files.field-0 true c.if-not-branch.false old c.in_ok-names.ensures.names
    (subst (λ l. Now old (λ w. c.in_ok-are_left_files.field-0 ≡ list_all (is_left_file (seen w.disk) dir) (map string_bytes l))) c.as_slice.ensures.value
    (subst (λ h. Now h (λ w. c.in_ok-are_left_files.field-0 ≡ list_all (is_left_file (seen w.disk) dir) (map string_bytes c.as_slice.result.now))) c.in_ok-names.ensures.history c.in_ok-are_left_files.ensures.value))
