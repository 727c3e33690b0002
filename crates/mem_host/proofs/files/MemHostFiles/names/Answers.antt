use Rattle.std.proofs.Common.{map, string_bytes, sym, ◌∙◌, ap, subst, IfOk, IsPermutation}
use Rattle.std.proofs.lemmas.List.Sorted.{IsPermutation-refl}
use Rattle.file_model.specs.Disk.{seen}
use Rattle.file_model.specs.Images.{names_in}
use Rattle.file_model.specs.Histories.{World, Now}
use Rattle.mem_host.specs.Replay.{seen_after}
use Rattle.mem_host.specs.State.{history_of}
use Rattle.mem_host.proofs.Replayed.{now_after}
use Rattle.mem_host.proofs.files.MemHostFiles.names.Goals as goal
use Rattle.mem_host.proofs.files.MemHostFiles.names.Goals.{in-Ok, in-Err}

pub returns-clause-names : goal.returns-clause-names
returns-clause-names c = elim c.match-names_in.branch [
  | in-Ok w ↦ subst (λ r. IfOk r (λ names. Now (history_of c.args.self.now) (λ v. IsPermutation (map string_bytes names.items) (names_in (seen v.disk) c.args.dir.now)))) (sym w.result-is)
      (let P : World → Type 0 = λ v. IsPermutation (map string_bytes w.in-Ok.names.items) (names_in (seen v.disk) c.args.dir.now) in
      subst (λ state. Now (history_of state) P) c.self.view_is (now_after c.self.inside.mirror P
      (subst (IsPermutation (map string_bytes w.in-Ok.names.items)) (w.in-Ok.ensures ∙ ap (λ events. names_in (seen_after events) c.args.dir.now) c.look.ensures) (IsPermutation-refl (map string_bytes w.in-Ok.names.items)))))
  | in-Err w ↦ subst (λ r. IfOk r (λ names. Now (history_of c.args.self.now) (λ v. IsPermutation (map string_bytes names.items) (names_in (seen v.disk) c.args.dir.now)))) (sym w.result-is) tt
]
