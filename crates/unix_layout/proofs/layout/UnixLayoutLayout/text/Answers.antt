use Rattle.std.proofs.Common.{[], length, map, take, drop, get_or, ap, sym, ◌∙◌}
use Rattle.text_forms.specs.Lines.{clean_byte}
use Rattle.unix_layout.proofs.ShownTexts.{shown_now}
use Rattle.unix_layout.proofs.layout.UnixLayoutLayout.text.Goals as goal

pub returns-clause-bytes : goal.returns-clause-bytes
returns-clause-bytes g c =
    let n = c.copy_text.result in
    let size = c.told_size-size.result in
    let place = c.args.place in
    let from = c.args.from in
    let texts = c.args.self.now.texts.items in
    let value = c.as_slice.ensures.value in
    shown_now c.args._path.now c.args.told.now texts place c.requires.place from size n (take n c.copy_text.new.buf) (g.F.Files.history c.args._files.now) c.requires.stands c.told_size-size.ensures
    (λ same. c.copy_text.ensures.bytes (same ∙ ap (λ t. length (get_or t place [])) (sym value)) ∙ ap (λ t. map clean_byte (take n (drop from (get_or t place [])))) value)
