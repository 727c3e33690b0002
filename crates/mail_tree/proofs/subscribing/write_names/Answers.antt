use Rattle.std.proofs.Common.{rules, sym, ◌∙◌, ap, subst, ◌≡◌, true}
use Rattle.file_model.specs.Disk.{seen}
use Rattle.file_model.specs.Histories.{Now, Ran, Ended}
use Rattle.file_model.specs.Images.{is_directory}
use Rattle.file_model.specs.Kept.{Replaces, Sees, HasOnly, IsBeside}
use Rattle.file_model.specs.Kinds.{IsTarget}
use Rattle.file_model.specs.Paths.{is_top, parent}
use Rattle.mail_tree.specs.Trees.{list_of}
use Rattle.mail_tree.specs.Subscriptions.{subscription_text}
use Rattle.mail_tree.proofs.NamesWritten.{list_no_top, list_room, list_target, list_written, replaces_keeps}
use Rattle.mail_tree.proofs.subscribing.write_names.Goals as goal

pub replace-requires-clause-inside : goal.replace-requires-clause-inside
replace-requires-clause-inside g c = ap is_top (c.as_str.ensures.value ∙ c.in_ok-path.ensures) ∙ list_no_top c.args.root.now c.requires.some

pub replace-requires-clause-room : goal.replace-requires-clause-room
replace-requires-clause-room g c =
    subst (λ p. Now (g.F.Files.history c.args.files.now) (λ w. is_directory (seen w.disk) (parent p) ≡ true)) (sym (c.as_str.ensures.value ∙ c.in_ok-path.ensures))
    (list_room c.args.root.now (g.F.Files.history c.args.files.now) c.requires.root)

pub replace-requires-clause-target : goal.replace-requires-clause-target
replace-requires-clause-target g c =
    subst (λ p. Now (g.F.Files.history c.args.files.now) (λ w. IsTarget (seen w.disk) p)) (sym (c.as_str.ensures.value ∙ c.in_ok-path.ensures))
    (list_target c.args.root.now (g.F.Files.history c.args.files.now))

pub returns-in-Ok-clause-written : goal.returns-in-Ok-clause-written
returns-in-Ok-clause-written g c =
    let old = g.F.Files.history c.args.files.now in
    let new = g.F.Files.history c.replace.new.files in
    let at = c.as_str.ensures.value ∙ c.in_ok-path.ensures in
    let is = c.as_slice.ensures.value ∙ c.in_ok-text.ensures in
    list_written c.args.root.now (subscription_text c.args.names.now) old new
    (subst (λ p. Ended (Sees (IsBeside p)) old new) at c.in-Ok.ensures.sees)
    (subst (λ p. Now new (λ w. HasOnly p (subscription_text c.args.names.now) w.disk)) at (subst (λ t. Now new (λ w. HasOnly c.as_str.result.now t w.disk)) is c.in-Ok.ensures.published))
    (g.met.F.Files.sound c.replace.new.files)

pub returns-in-Ok-clause-leaves : goal.returns-in-Ok-clause-leaves
returns-in-Ok-clause-leaves g c =
    let old = g.F.Files.history c.args.files.now in
    let new = g.F.Files.history c.replace.new.files in
    let at = c.as_str.ensures.value ∙ c.in_ok-path.ensures in
    record {
      instants = λ none. replaces_keeps (list_of c.args.root.now) c.as_slice.result.now (IsBeside (list_of c.args.root.now)) old new
          (subst (λ p. Ran (Replaces p c.as_slice.result.now (IsBeside p)) old new) at (c.replace.ensures.instants none));
      sees = λ not_failed. subst (λ p. Ended (Sees (IsBeside p)) old new) at c.in-Ok.ensures.sees;
    }

pub returns-in-Err-Failed-clause-leaves : goal.returns-in-Err-Failed-clause-leaves
returns-in-Err-Failed-clause-leaves g c =
    let old = g.F.Files.history c.args.files.now in
    let new = g.F.Files.history c.replace.new.files in
    let at = c.as_str.ensures.value ∙ c.in_ok-path.ensures in
    record {
      instants = λ none. replaces_keeps (list_of c.args.root.now) c.as_slice.result.now (IsBeside (list_of c.args.root.now)) old new
          (subst (λ p. Ran (Replaces p c.as_slice.result.now (IsBeside p)) old new) at (c.replace.ensures.instants none));
      sees = λ not_failed. absurd (not_failed (search rules));
    }
