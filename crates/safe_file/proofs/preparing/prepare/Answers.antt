use Rattle.std.proofs.Common.{◌≡◌, ◌≢◌, true, sym, ◌∙◌, ap, subst}
use Rattle.file_model.specs.Disk.{seen}
use Rattle.file_model.specs.Images.{is_directory}
use Rattle.file_model.specs.Paths.{parent, last_part, is_top, temporary_of}
use Rattle.file_model.specs.Reserved.{is_reserved_name}
use Rattle.file_model.specs.Kept.{Keeps, IsHome}
use Rattle.file_model.specs.Histories.{Now, Ran}
use Rattle.file_model.proofs.Inside.{in_directory}
use Rattle.file_model.proofs.Calls.{ran_keeps}
use Rattle.file_model.proofs.Reserved.{reserved_temporary}
use Rattle.file_model.proofs.Runs.{files_then}
use Rattle.safe_file.proofs.Beside.{parent_temporary, temporary_below, ok_here}
use Rattle.file_model.proofs.FileCalls.{then_keeps}
use Rattle.safe_file.proofs.preparing.prepare.Goals as goal

pub clear-requires-clause-room : goal.clear-requires-clause-room
clear-requires-clause-room g c =
    let is = c.as_str.ensures.value ∙ c.in-Ok.pending.beside ∙ ap temporary_of c.in-Ok.ensures in
    subst (λ q. Now (g.F.Files.history c.args.files.now) (λ w. is_directory (seen w.disk) q ≡ true)) (sym (ap parent is ∙ parent_temporary c.args.path.now (in_directory c.args.path.now c.requires.inside))) c.requires.room

pub clear-requires-clause-reserved : goal.clear-requires-clause-reserved
clear-requires-clause-reserved g c =
    let is = c.as_str.ensures.value ∙ c.in-Ok.pending.beside ∙ ap temporary_of c.in-Ok.ensures in
    ap (λ q. is_reserved_name (last_part q)) is ∙ reserved_temporary c.args.path.now (in_directory c.args.path.now c.requires.inside)

pub returns-then-is_err-clause-instants : goal.returns-then-is_err-clause-instants
returns-then-is_err-clause-instants g c home =
    let is = c.as_str.ensures.value ∙ c.in-Ok.pending.beside ∙ ap temporary_of c.in-Ok.ensures in
    let here = subst (λ q. Now (g.F.Files.history c.args.files.now) (λ w. IsHome q w.disk)) (sym is) home in
    subst (λ q. Ran (Keeps (λ p. p ≢ q)) (g.F.Files.history c.args.files.now) (g.F.Files.history c.clear.new.files)) is (c.clear.ensures.instants here)

pub returns-then-is_err-2-clause-instants : goal.returns-then-is_err-2-clause-instants
returns-then-is_err-2-clause-instants g c home =
    let is = c.as_str.ensures.value ∙ c.in-Ok.pending.beside ∙ ap temporary_of c.in-Ok.ensures in
    let same = c.as_str-2.ensures.value ∙ c.in-Ok.pending.beside ∙ ap temporary_of c.in-Ok.ensures in
    let here = subst (λ q. Now (g.F.Files.history c.args.files.now) (λ w. IsHome q w.disk)) (sym is) home in
    let later = subst (λ q. Now (g.F.Files.history c.clear.new.files) (λ w. IsHome q w.disk)) (is ∙ sym same)
    (ok_here c.clear.result _ (sym c.is_err.ensures.value ∙ c.if-is_err.false) (c.clear.ensures.home here)) in
    ran_keeps _ _ _ _
    (subst (λ q. Ran (Keeps (λ p. p ≢ q)) (g.F.Files.history c.args.files.now) (g.F.Files.history c.clear.new.files)) is (c.clear.ensures.instants here))
    (subst (λ q. Ran (Keeps (λ p. p ≢ q)) (g.F.Files.history c.clear.new.files) (g.F.Files.history c.fill.new.files)) same (c.fill.ensures.instants later))

pub returns-clause-instants : goal.returns-clause-instants
returns-clause-instants g c home =
    let is = c.as_str.ensures.value ∙ c.in-Ok.pending.beside ∙ ap temporary_of c.in-Ok.ensures in
    let same = c.as_str-2.ensures.value ∙ c.in-Ok.pending.beside ∙ ap temporary_of c.in-Ok.ensures in
    let here = subst (λ q. Now (g.F.Files.history c.args.files.now) (λ w. IsHome q w.disk)) (sym is) home in
    let later = subst (λ q. Now (g.F.Files.history c.clear.new.files) (λ w. IsHome q w.disk)) (is ∙ sym same)
    (ok_here c.clear.result _ (sym c.is_err.ensures.value ∙ c.if-is_err.false) (c.clear.ensures.home here)) in
    ran_keeps _ _ _ _
    (subst (λ q. Ran (Keeps (λ p. p ≢ q)) (g.F.Files.history c.args.files.now) (g.F.Files.history c.clear.new.files)) is (c.clear.ensures.instants here))
    (subst (λ q. Ran (Keeps (λ p. p ≢ q)) (g.F.Files.history c.clear.new.files) (g.F.Files.history c.fill.new.files)) same (c.fill.ensures.instants later))

pub clear-requires-clause-below : goal.clear-requires-clause-below
clear-requires-clause-below g c =
    let is = c.as_str.ensures.value ∙ c.in-Ok.pending.beside ∙ ap temporary_of c.in-Ok.ensures in
    ap is_top is ∙ temporary_below c.args.path.now (in_directory c.args.path.now c.requires.inside) c.requires.inside

pub returns-then-is_err-2-clause-files : goal.returns-then-is_err-2-clause-files
returns-then-is_err-2-clause-files g c = files_then _ _ _ c.clear.ensures.files c.fill.ensures.files

pub returns-clause-files : goal.returns-clause-files
returns-clause-files g c = files_then _ _ _ c.clear.ensures.files c.fill.ensures.files

pub returns-then-is_err-2-clause-directories : goal.returns-then-is_err-2-clause-directories
returns-then-is_err-2-clause-directories g c = then_keeps _ _ _ c.clear.ensures.directories c.fill.ensures.directories

pub returns-clause-directories : goal.returns-clause-directories
returns-clause-directories g c = then_keeps _ _ _ c.clear.ensures.directories c.fill.ensures.directories
