use Rattle.std.proofs.Common.{◌∙◌, sym, length}
use Rattle.std.proofs.lemmas.Bool.{false≢true, eq-eqb}
use Rattle.mime_parts.proofs.Skips.{not-skipped}
use Rattle.mime_parts.proofs.value.is_skipped.Goals as goal

pub returns-clause-no : goal.returns-clause-no
returns-clause-no c other skipped =
    let text = c.args.text.now in
    let n = c.skip_length.result in
    let same = not-skipped text n c.skip_length.ensures.within c.skip_length.ensures.skipped c.skip_length.ensures.ends skipped in
    false≢true (sym other ∙ eq-eqb n (length text) same)
