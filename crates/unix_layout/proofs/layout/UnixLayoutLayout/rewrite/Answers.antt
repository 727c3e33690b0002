use Rattle.std.proofs.Common.{◌∙◌, sym}
use Rattle.store_index.specs.Steps.{change_of}
use Rattle.unix_layout.proofs.Scanning.{rewritten_now}
use Rattle.unix_layout.proofs.layout.UnixLayoutLayout.rewrite.Goals as goal

pub returns-in-Ok-clause-rewritten : goal.returns-in-Ok-clause-rewritten
returns-in-Ok-clause-rewritten g c =
    let file = c.in-Ok.file in
    rewritten_now (g.F.Files.history c.args._files.now) c.args._path.now c.args.told.now c.args.self.now.texts.items file.texts.items (change_of c.args.step) file.bytes.items c.requires.stands
    (λ bytes holds told. c.in-Ok.ensures.bytes bytes (holds ∙ sym c.as_slice.ensures.value) told)
    (λ bytes holds told. c.in-Ok.ensures.places bytes (holds ∙ sym c.as_slice.ensures.value) told c.requires.can c.requires.none)
