use Rattle.std.proofs.Common.{◌∙◌, [], ap, sym, arith}
use Rattle.std.proofs.lemmas.List.{append-nil}
use Rattle.mix_records.proofs.FieldTexts.{date-reads}
use Rattle.mix_data.specs.Scans.{head_of, head_text, head_parts}
use Rattle.mix_data.proofs.Heads.{head_is, date_there, head-reads}
use Rattle.mix_data.proofs.head.head_bytes.Goals as goal

pub returns-clause-text : goal.returns-clause-text
returns-clause-text c =
    head_is _ _ _ (head_parts c.args.head) _ _ c.put_hex.ensures.text c.put_mix_date.ensures.text c.put_hex-2.ensures.text c.from.ensures c.from-2.ensures c.put_mix_date.ensures.width

pub returns-clause-read : goal.returns-clause-read
returns-clause-read c =
    let head = head_parts c.args.head in
    let text = head_is _ _ _ head _ _ c.put_hex.ensures.text c.put_mix_date.ensures.text c.put_hex-2.ensures.text c.from.ensures c.from-2.ensures c.put_mix_date.ensures.width in
    let reads = date_there _ _ head.stamp (omega arith) c.put_mix_date.ensures.text c.put_mix_date.ensures.width c.put_mix_date.ensures.read in
    ap head_of (text ∙ sym (append-nil (head_text head)))
    ∙ head-reads head [] (record { some = c.requires; uid = omega arith; size = omega arith; date = λ rest. date-reads head.stamp rest c.put_mix_date.ensures.width reads })
