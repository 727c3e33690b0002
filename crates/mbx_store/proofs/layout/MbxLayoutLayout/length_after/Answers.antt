use Rattle.std.proofs.Common.{◌∙◌, ◌+◌, ap, subst}
use Rattle.std.specs.List.{AllByRecursion}
use Rattle.mail_fields.specs.Keyword.{IsKeyword}
use Rattle.store_index.specs.Steps.{change_of}
use Rattle.mbx_store.specs.Plans.{infos_size}
use Rattle.mbx_store.proofs.Written.{length_is}
use Rattle.mbx_store.proofs.layout.MbxLayoutLayout.length_after.Goals as goal

pub returns : goal.returns
returns c = λ bytes holds told.
    length_is c.args._told.now c.args.next.now (change_of c.args._step) c.written_length.result c.requires.next (subst (AllByRecursion IsKeyword) c.words.ensures c.see_names.ensures)
    (c.written_length.ensures ∙ ap (λ i. 2048 + infos_size i) c.infos.ensures) bytes told
