use Rattle.std.proofs.Common.{arith}
use Rattle.mix_files.proofs.MetaTexts.{meta-built, meta-again}
use Rattle.mix_files.proofs.meta.put_meta.Goals as goal

pub returns-clause-read : goal.returns-clause-read
returns-clause-read c =
    meta-again c.args.meta.now c.put_names_line.new.out.items
    (meta-built c.args.meta.now _ _ _ _ _ _ c.new-text.ensures.items c.in_ok-put_number.ensures c.in_ok-put_number-2.ensures c.in_ok-put_number-3.ensures c.in_ok-put_number-4.ensures
    c.in_ok-put_names_line.ensures.text)
    (omega arith) (omega arith) (omega arith) (omega arith) c.requires.validity c.in_ok-put_names_line.ensures.keywords c.requires.few c.requires.differ
